-- What is told to commands one after another.
use Rattle.std.proofs.Common.{inl, inr, ◌≡◌, ℕ, true, false, Bool, List, [], ◌∷◌, ◌++◌, Option, refl, ap, sym, subst, ◌∙◌, append_assoc, MatchBool}
use Rattle.std.specs.Io.KnownBytes.{Appends}
use Rattle.line_text.specs.Output.{HasBegun}
use Rattle.line_text.proofs.Writing.{appends_more, appends_nothing, begun_piece}
use Rattle.std.proofs.lemmas.List.{append-nil}
use Rattle.sources.specs.declared.fault.CommandFault.{CommandFault}
use Rattle.sources.specs.Disk.{Disk, Stays}
use Rattle.sources.specs.Source.{RefusesLoad}
use Rattle.sources.specs.Jobs.{IsGraphIn}
use Rattle.sources.specs.Modules.{Loads}
use Rattle.wat_asm.specs.Paths.{is_text_path}
use Rattle.sources.specs.Reading.{IsRefusedAt}
use Rattle.sources.proofs.Disks.{holds_before, no_graph_before, unread_before}
use Rattle.session.specs.Commands.{Asked, add_module, add_graph, add_job, run, status, values, drop, quit, unknown, is_quit}
use Rattle.session.specs.Maps.{Maps}
use Rattle.session.specs.Runs.{Runs}
use Rattle.session.specs.Transcript.{IsReplyTo, Begins, Reaches, Tells}
use Rattle.session.specs.inside.Underway.{HasBroken, HasTold, IsUnderway}

-- ---- what is answered after reads could be answered before

refused_before : (before after : Disk) (path : List ℕ) → Stays before after → (fault : CommandFault)
    → IsRefusedAt after path RefusesLoad fault → IsRefusedAt before path RefusesLoad fault
refused_before before after path stays fault (inl unread) = inl (unread_before (is_text_path path) before after path stays fault unread)
refused_before before after path stays fault (inr held) =
    inr (holds_before before after path (λ content. RefusesLoad (is_text_path path) content fault) stays held)

pub answers_before : (before after : Disk) (runs : Runs) (maps : Maps) (reply : List ℕ) (now : Maps) → Stays before after
    → (asked : Asked) → IsReplyTo after runs maps asked reply now → IsReplyTo before runs maps asked reply now
answers_before before after runs maps reply now stays (add_module name path) (inl adds) = inl (record {
  free = adds.free;
  m = adds.m;
  loaded = holds_before before after path (λ content. Loads (is_text_path path) content adds.m) stays adds.loaded;
  size = adds.size;
  has_size = adds.has_size;
  told = adds.told;
  added = adds.added;
})
answers_before before after runs maps reply now stays (add_module name path) (inr (same, inl (inl taken))) = inr (same, inl (inl taken))
answers_before before after runs maps reply now stays (add_module name path) (inr (same, inl (inr (free, tells)))) =
    inr (same, inl (inr (free, record { fault = tells.fault; because = refused_before before after path stays tells.fault tells.because; told = tells.told })))
answers_before before after runs maps reply now stays (add_module name path) (inr (same, inr memory)) = inr (same, inr memory)
answers_before before after runs maps reply now stays (add_graph name path) (inl adds) = inl (record {
  free = adds.free;
  graph = adds.graph;
  read = holds_before before after path (λ text. IsGraphIn text adds.graph) stays adds.read;
  told = adds.told;
  added = adds.added;
})
answers_before before after runs maps reply now stays (add_graph name path) (inr (same, inl (inl taken))) = inr (same, inl (inl taken))
answers_before before after runs maps reply now stays (add_graph name path) (inr (same, inl (inr (free, tells)))) =
    inr (same, inl (inr (free, record { fault = tells.fault; because = no_graph_before before after path stays tells.fault tells.because; told = tells.told })))
answers_before before after runs maps reply now stays (add_graph name path) (inr (same, inr memory)) = inr (same, inr memory)
answers_before before after runs maps reply now stays (add_job name module_name graph_name settings) answers = answers
answers_before before after runs maps reply now stays (run name) answers = answers
answers_before before after runs maps reply now stays (status name) answers = answers
answers_before before after runs maps reply now stays (values name) answers = answers
answers_before before after runs maps reply now stays (drop kind name) answers = answers
answers_before before after runs maps reply now stays quit answers = answers
answers_before before after runs maps reply now stays unknown answers = answers

-- ---- one command more

module _ (disk : Disk) (runs : Runs) where
  -- a command that is answered, and what is told behind it
  begins_with : (maps : Maps) (asked : Asked) (reply rest : List ℕ) (after : Maps) (Goes : Maps → List ℕ → Type 0) → IsReplyTo disk runs maps asked reply after
      → Goes after rest → Begins disk runs maps asked (reply ++ rest) Goes
  begins_with maps asked reply rest after Goes answers goes =
      record { reply = reply; after = after; answers = answers; rest = rest; begins = refl; goes = goes }

  reaches_next : (done : List Asked) (maps : Maps) (told : List ℕ) (now : Maps) (asked : Asked) (reply : List ℕ) (after : Maps) → Reaches disk runs maps done told now
      → IsReplyTo disk runs now asked reply after → is_quit asked ≡ false → Reaches disk runs maps (done ++ asked ∷ []) (told ++ reply) after
  reaches_next [] maps told now asked reply after (none, same) answers goes =
      subst (λ start. Begins disk runs start asked (told ++ reply) (λ later rest. (is_quit asked ≡ false) × Reaches disk runs later [] rest after)) same
      (record {
        reply = reply;
        after = after;
        answers = answers;
        rest = [];
        begins = ap (λ xs. xs ++ reply) none ∙ sym (append-nil reply);
        goes = (goes, (refl, refl));
      })
  reaches_next (first ∷ done) maps told now asked reply after begins answers goes = record {
    reply = begins.reply;
    after = begins.after;
    answers = begins.answers;
    rest = begins.rest ++ reply;
    begins = ap (λ xs. xs ++ reply) begins.begins ∙ append_assoc begins.reply begins.rest reply;
    goes = (begins.goes.0, reaches_next done begins.after begins.rest now asked reply after begins.goes.1 answers goes);
  }

  -- and then what is told from there on
  tells_then : (done : List Asked) (maps : Maps) (told : List ℕ) (now : Maps) (more : List Asked) (rest : List ℕ) → Reaches disk runs maps done told now
      → Tells disk runs now more rest → Tells disk runs maps (done ++ more) (told ++ rest)
  tells_then [] maps told now more rest (none, same) tells =
      subst (λ start. Tells disk runs start more (told ++ rest)) same
      (subst (λ xs. Tells disk runs now more (xs ++ rest)) (sym none) tells)
  tells_then (first ∷ done) maps told now more rest begins tells = record {
    reply = begins.reply;
    after = begins.after;
    answers = begins.answers;
    rest = begins.rest ++ rest;
    begins = ap (λ xs. xs ++ rest) begins.begins ∙ append_assoc begins.reply begins.rest rest;
    goes = subst (λ b. MatchBool b (begins.rest ++ rest ≡ []) (Tells disk runs begins.after (done ++ more) (begins.rest ++ rest))) (sym begins.goes.0)
        (tells_then done begins.after begins.rest now more rest begins.goes.1 tells);
  }

  tells_all : (done : List Asked) (maps : Maps) (told : List ℕ) (now : Maps) → Reaches disk runs maps done told now → Tells disk runs maps done told
  tells_all done maps told now reaches =
      subst (λ xs. Tells disk runs maps xs told) (append-nil done)
      (subst (λ xs. Tells disk runs maps (done ++ []) xs) (append-nil told) (tells_then done maps told now [] [] reaches refl))

  -- behind `quit` nothing is told
  tells_quit : (now : Maps) (asked : Asked) (reply : List ℕ) (after : Maps) (more : List Asked) → IsReplyTo disk runs now asked reply after → is_quit asked ≡ true
      → Tells disk runs now (asked ∷ more) reply
  tells_quit now asked reply after more answers quits = record {
    reply = reply;
    after = after;
    answers = answers;
    rest = [];
    begins = sym (append-nil reply);
    goes = subst (λ b. MatchBool b (◌≡◌ {A = List ℕ} [] []) (Tells disk runs after more [])) (sym quits) refl;
  }

  -- a command alone, whether it is `quit` or not
  tells_one : (now : Maps) (asked : Asked) (reply : List ℕ) (after : Maps) → IsReplyTo disk runs now asked reply after → Tells disk runs now (asked ∷ []) reply
  tells_one now asked reply after answers = record {
    reply = reply;
    after = after;
    answers = answers;
    rest = [];
    begins = sym (append-nil reply);
    goes = elim (is_quit asked) as (λ b. MatchBool b (◌≡◌ {A = List ℕ} [] []) (Tells disk runs after [] [])) [ true ↦ refl | false ↦ refl ];
  }

-- ---- with what is written

pub underway_none : (disk : Disk) (runs : Runs) (maps : Maps) (known : Option (List ℕ)) → IsUnderway disk runs maps [] known known maps
underway_none disk runs maps known = record { told = []; reaches = (refl, refl); appends = appends_nothing known }

pub underway_next : (disk : Disk) (runs : Runs) (maps : Maps) (done : List Asked) (old middle new : Option (List ℕ)) (now : Maps) (asked : Asked) (reply : List ℕ) (after : Maps)
    → IsUnderway disk runs maps done old middle now → IsReplyTo disk runs now asked reply after → is_quit asked ≡ false → Appends middle new reply
    → IsUnderway disk runs maps (done ++ asked ∷ []) old new after
underway_next disk runs maps done old middle new now asked reply after underway answers goes appends = record {
  told = underway.told ++ reply;
  reaches = reaches_next disk runs done maps underway.told now asked reply after underway.reaches answers goes;
  appends = appends_more old middle new underway.told reply underway.appends appends;
}

-- all of them so far
pub told_all : (disk : Disk) (runs : Runs) (maps : Maps) (done : List Asked) (old new : Option (List ℕ)) (now : Maps)
    → IsUnderway disk runs maps done old new now → HasTold disk runs maps done old new
told_all disk runs maps done old new now underway =
    record { told = underway.told; tells = tells_all disk runs done maps underway.told now underway.reaches; appends = underway.appends }

-- up to `quit`
pub told_quit : (disk : Disk) (runs : Runs) (maps : Maps) (done : List Asked) (old middle new : Option (List ℕ)) (now : Maps) (asked : Asked) (reply : List ℕ) (after : Maps)
    (more : List Asked) → IsUnderway disk runs maps done old middle now → IsReplyTo disk runs now asked reply after → is_quit asked ≡ true → Appends middle new reply
    → HasTold disk runs maps (done ++ asked ∷ more) old new
told_quit disk runs maps done old middle new now asked reply after more underway answers quits appends = record {
  told = underway.told ++ reply;
  tells = tells_then disk runs done maps underway.told now (asked ∷ more) reply underway.reaches (tells_quit disk runs now asked reply after more answers quits);
  appends = appends_more old middle new underway.told reply underway.appends appends;
}

-- of the last of which a beginning was written
pub broken_next : (disk : Disk) (runs : Runs) (maps : Maps) (done : List Asked) (old middle new : Option (List ℕ)) (now : Maps) (asked : Asked) (reply : List ℕ) (after : Maps)
    → IsUnderway disk runs maps done old middle now → IsReplyTo disk runs now asked reply after → HasBegun middle new reply
    → HasBroken disk runs maps (done ++ asked ∷ []) old new
broken_next disk runs maps done old middle new now asked reply after underway answers begun = record {
  told = underway.told ++ reply;
  tells = tells_then disk runs done maps underway.told now (asked ∷ []) reply underway.reaches (tells_one disk runs now asked reply after answers);
  begun = begun_piece old middle new underway.told reply [] (underway.told ++ reply) underway.appends begun (sym (append-nil (underway.told ++ reply)));
}

-- ---- two stretches

-- each command of the later one could be answered before
reaches_before : (before after : Disk) (runs : Runs) → Stays before after → (asked : List Asked) (maps : Maps) (told : List ℕ) (now : Maps)
    → Reaches after runs maps asked told now → Reaches before runs maps asked told now
reaches_before before after runs stays [] maps told now reaches = reaches
reaches_before before after runs stays (first ∷ asked) maps told now begins = record {
  reply = begins.reply;
  after = begins.after;
  answers = answers_before before after runs maps begins.reply begins.after stays first begins.answers;
  rest = begins.rest;
  begins = begins.begins;
  goes = (begins.goes.0, reaches_before before after runs stays asked begins.after begins.rest now begins.goes.1);
}

goes_before : (b : Bool) (P Q Q' : Type 0) → (Q → Q') → MatchBool b P Q → MatchBool b P Q'
goes_before true P Q Q' along holds = holds
goes_before false P Q Q' along holds = along holds

tells_before : (before after : Disk) (runs : Runs) → Stays before after → (asked : List Asked) (maps : Maps) (told : List ℕ)
    → Tells after runs maps asked told → Tells before runs maps asked told
tells_before before after runs stays [] maps told tells = tells
tells_before before after runs stays (first ∷ asked) maps told begins = record {
  reply = begins.reply;
  after = begins.after;
  answers = answers_before before after runs maps begins.reply begins.after stays first begins.answers;
  rest = begins.rest;
  begins = begins.begins;
  goes = goes_before (is_quit first) (begins.rest ≡ []) _ _ (tells_before before after runs stays asked begins.after begins.rest) begins.goes;
}

reaches_again : (disk : Disk) (runs : Runs) (done : List Asked) (maps : Maps) (told : List ℕ) (now : Maps) (more : List Asked) (rest : List ℕ) (after : Maps)
    → Reaches disk runs maps done told now → Reaches disk runs now more rest after → Reaches disk runs maps (done ++ more) (told ++ rest) after
reaches_again disk runs [] maps told now more rest after (none, same) reaches =
    subst (λ start. Reaches disk runs start more (told ++ rest) after) same
    (subst (λ xs. Reaches disk runs now more (xs ++ rest) after) (sym none) reaches)
reaches_again disk runs (first ∷ done) maps told now more rest after begins reaches = record {
  reply = begins.reply;
  after = begins.after;
  answers = begins.answers;
  rest = begins.rest ++ rest;
  begins = ap (λ xs. xs ++ rest) begins.begins ∙ append_assoc begins.reply begins.rest rest;
  goes = (begins.goes.0, reaches_again disk runs done begins.after begins.rest now more rest after begins.goes.1 reaches);
}

module _ (before after : Disk) (runs : Runs) (stays : Stays before after) (maps : Maps) (done : List Asked)
    (old middle new : Option (List ℕ)) (now : Maps) (more : List Asked) (underway : IsUnderway before runs maps done old middle now) where
  pub underway_again : (last : Maps) → IsUnderway after runs now more middle new last → IsUnderway before runs maps (done ++ more) old new last
  underway_again last next = record {
    told = underway.told ++ next.told;
    reaches = reaches_again before runs done maps underway.told now more next.told last underway.reaches
        (reaches_before before after runs stays more now next.told last next.reaches);
    appends = appends_more old middle new underway.told next.told underway.appends next.appends;
  }

  pub told_again : HasTold after runs now more middle new → HasTold before runs maps (done ++ more) old new
  told_again next = record {
    told = underway.told ++ next.told;
    tells = tells_then before runs done maps underway.told now more next.told underway.reaches
        (tells_before before after runs stays more now next.told next.tells);
    appends = appends_more old middle new underway.told next.told underway.appends next.appends;
  }

  pub broken_again : HasBroken after runs now more middle new → HasBroken before runs maps (done ++ more) old new
  broken_again next = record {
    told = underway.told ++ next.told;
    tells = tells_then before runs done maps underway.told now more next.told underway.reaches
        (tells_before before after runs stays more now next.told next.tells);
    begun = begun_piece old middle new underway.told next.told [] (underway.told ++ next.told) underway.appends next.begun
        (sym (append-nil (underway.told ++ next.told)));
  }
