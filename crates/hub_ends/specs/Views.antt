-- What the passes of a channel know.
use Rattle.std.specs.Prelude.{ℕ, true, false, List, [], ◌∷◌, ◌++◌}
use Rattle.hub_ends.specs.declared.view.View.{View}

module _ {M : Type 0} where
  -- the reader: the number of senders, and what was received
  abbrev pub reader : ℕ → List M → View M
  reader senders received = record {
    sends = false;
    from = 0;
    sent = [];
    reads = true;
    senders = senders;
    received = received;
  }

  -- a sender: its number, and what it sent
  abbrev pub sender : ℕ → List M → View M
  sender from sent = record {
    sends = true;
    from = from;
    sent = sent;
    reads = false;
    senders = 0;
    received = [];
  }

  -- the reader v and the sender w in one pass
  abbrev pub both : View M → View M → View M
  both v w = record {
    sends = true;
    from = w.from;
    sent = w.sent;
    reads = true;
    senders = v.senders;
    received = v.received;
  }

  abbrev pub reader_in : View M → View M
  reader_in v = reader v.senders v.received

  abbrev pub sender_in : View M → View M
  sender_in v = sender v.from v.sent

  -- a pass that was given up
  abbrev pub spent : View M
  spent = record { sends = false; from = 0; sent = []; reads = false; senders = 0; received = [] }

  -- one more message was sent
  abbrev pub with_sent : View M → M → View M
  with_sent v m = record {
    sends = v.sends;
    from = v.from;
    sent = v.sent ++ m ∷ [];
    reads = v.reads;
    senders = v.senders;
    received = v.received;
  }

  -- one more message was received
  abbrev pub with_received : View M → M → View M
  with_received v m = record {
    sends = v.sends;
    from = v.from;
    sent = v.sent;
    reads = v.reads;
    senders = v.senders;
    received = v.received ++ m ∷ [];
  }
