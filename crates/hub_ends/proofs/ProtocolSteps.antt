-- Each step keeps the protocol of a channel.
use Rattle.std.proofs.Common.{◌≡◌, ◌≢◌, ℕ, zero, suc, ◌+◌, ◌<◌, ◌≤◌, Bool, true, false, ◌||◌, true≢false, List, [], ◌∷◌, ◌++◌, length, set, eqb, cond, eq-eqb, ne_eqb, sym, refl, ap, ◌∙◌, subst, ⊎_elim, append_assoc, arith}
use mathlib.Core.Option.{some, some-ne-none}
use mathlib.Core.List.{append-nil}
use lib.ListN.{get_elem?}
use Rattle.std.proofs.lemmas.List.Elements.{filter-append}
use Rattle.atomic_table.proofs.Lists.{at_set, at_snoc}
use Rattle.crossbeam_channel.specs.Fifo.{Pushes, Pops, Forks, Merges, Learns}
use Rattle.hub_ends.specs.declared.view.View.{View}
use Rattle.hub_ends.specs.Views.{both, reader, reader_in, sender, sender_in, spent, with_received, with_sent}
use Rattle.hub_ends.specs.Protocol.{Delivers, FitsPass, FitsReader, FitsSender, Holds, IsOnceInOrder, ChannelState, Takes, has_bye, is_bye_last, is_nil, of}

-- ---- each of a list

module _ {A : Type 0} where
  at_end : (l : List A) (a b : A) (j : ℕ) → get_elem? l j ≢ some b → get_elem? (l ++ a ∷ []) j ≡ some b → j ≡ length l
  at_end [] a b zero n e = refl
  at_end [] a b (suc j) n e = absurd (some-ne-none b (sym e))
  at_end (x ∷ xs) a b zero n e = absurd (n e)
  at_end (x ∷ xs) a b (suc j) n e = ap suc (at_end xs a b j n e)

  abbrev Each : (ℕ → A → Type 0) → List A → Type 0
  Each F l = (j : ℕ) (a : A) → get_elem? l j ≡ some a → F j a

  each_set : (F : ℕ → A → Type 0) (l : List A) (k : ℕ) (a : A) → F k a → ((j : ℕ) (b : A) → j ≢ k → get_elem? l j ≡ some b → F j b) → Each F (set l k a)
  each_set F l k a mine others j b e = ⊎_elim
      (λ (x : (j ≡ k) × (a ≡ b)). subst (λ (y : ℕ × A). F y.0 y.1) (λ i. (sym x.0 i, x.1 i)) mine)
      (λ (x : (j ≢ k) × (get_elem? l j ≡ some b)). others j b x.0 x.1)
      (at_set l k j a b e)

  -- G of each, where F is and is not of the new one
  each_snoc : (F G : ℕ → A → Type 0) (l : List A) (a : A) → Each F l → ((j : ℕ) (b : A) → F j b → G j b) → ((j : ℕ) → F j a → ⊥) → G (length l) a → Each G (l ++ a ∷ [])
  each_snoc F G l a old keeps away new j b e = ⊎_elim
      (λ x. keeps j b (old j b x))
      (λ (is : a ≡ b).
      let gone : get_elem? l j ≢ some b = λ x. away j (subst (λ (y : A). F j y) (sym is) (old j b x)) in
      subst (λ (y : ℕ × A). G y.0 y.1) (λ i. (sym (at_end l a b j gone e) i, is i)) new)
      (at_snoc l a b j e)

-- ---- the last message of a sender

or_false : (a b : Bool) → (a || b) ≡ false → (a ≡ false) × (b ≡ false)
or_false true b e = absurd (true≢false e)
or_false false b e = (refl, e)

cond_same : (b : Bool) → cond b true true ≡ true
cond_same true = refl
cond_same false = refl

module _ {M : Type 0} where
  nil_append : (xs b : List M) → is_nil (xs ++ b) ≡ true → b ≡ []
  nil_append [] [] e = refl
  nil_append [] (y ∷ ys) e = absurd (true≢false (sym e))
  nil_append (x ∷ xs) b e = absurd (true≢false (sym e))

  not_nil : (a b : List M) (m : M) → a ++ m ∷ b ≡ [] → ⊥
  not_nil [] b m e = cc
  not_nil (x ∷ xs) b m e = cc

module _ {M : Type 0} (closes : M → Bool) where
  pub bye_last_more : (l : List M) (m : M) → has_bye closes l ≡ false → is_bye_last closes (l ++ m ∷ []) ≡ true
  bye_last_more [] m e = cond_same (closes m)
  bye_last_more (x ∷ xs) m e =
      let h = or_false (closes x) (has_bye closes xs) e in
      ap (λ b. cond b (is_nil (xs ++ m ∷ [])) (is_bye_last closes (xs ++ m ∷ []))) h.0 ∙ bye_last_more xs m h.1

  ends_step : (c : Bool) (xs b : List M) → (c || has_bye closes xs) ≡ true → cond c (is_nil (xs ++ b)) (is_bye_last closes (xs ++ b)) ≡ true → (has_bye closes xs ≡ true → is_bye_last closes (xs ++ b) ≡ true → b ≡ []) → b ≡ []
  ends_step true xs b h l f = nil_append xs b l
  ends_step false xs b h l f = f h l

  bye_ends : (a b : List M) → has_bye closes a ≡ true → is_bye_last closes (a ++ b) ≡ true → b ≡ []
  bye_ends [] b h l = absurd (true≢false (sym h))
  bye_ends (x ∷ xs) b h l = ends_step (closes x) xs b h l (bye_ends xs b)

-- ---- the messages of one sender

module _ {M : Type 0} (from : M → ℕ) where
  of_here : (p : ℕ) (m : M) → from m ≡ p → of from p (m ∷ []) ≡ m ∷ []
  of_here p m e = ap (λ b. cond b (m ∷ []) []) (eq-eqb (from m) p e)

  of_else : (p : ℕ) (m : M) → from m ≢ p → of from p (m ∷ []) ≡ []
  of_else p m n = ap (λ b. cond b (m ∷ []) []) (ne_eqb (from m) p n)

  pub of-append : (p : ℕ) (xs ys : List M) → of from p (xs ++ ys) ≡ of from p xs ++ of from p ys
  of-append p xs ys = filter-append (λ m. eqb (from m) p) xs ys

  pub of_more_here : (p : ℕ) (all : List M) (m : M) → from m ≡ p → of from p (all ++ m ∷ []) ≡ of from p all ++ m ∷ []
  of_more_here p all m e = of-append p all (m ∷ []) ∙ ap (λ l. of from p all ++ l) (of_here p m e)

  pub of_more_else : (p : ℕ) (all : List M) (m : M) → from m ≢ p → of from p (all ++ m ∷ []) ≡ of from p all
  of_more_else p all m n = of-append p all (m ∷ []) ∙ ap (λ l. of from p all ++ l) (of_else p m n) ∙ append-nil (of from p all)

  some_of : (p : ℕ) (a b : List M) (m : M) → from m ≡ p → of from p (a ++ m ∷ b) ≡ [] → ⊥
  some_of p a b m e h =
      let here : of from p (m ∷ b) ≡ m ∷ of from p b = ap (λ c. cond c (m ∷ of from p b) (of from p b)) (eq-eqb (from m) p e) in
      not_nil (of from p a) (of from p b) m (ap (λ l. of from p a ++ l) (sym here) ∙ sym (of-append p a (m ∷ b)) ∙ h)

-- ---- which pass a sender has

-- seat, but the pass q at p
abbrev moved_seat : (ℕ → ℕ) → ℕ → ℕ → ℕ → ℕ
moved_seat seat p q x = cond (eqb x p) q (seat x)

seat_here : (seat : ℕ → ℕ) (p q x : ℕ) → x ≡ p → moved_seat seat p q x ≡ q
seat_here seat p q x e = ap (λ b. cond b q (seat x)) (eq-eqb x p e)

seat_else : (seat : ℕ → ℕ) (p q x : ℕ) → x ≢ p → moved_seat seat p q x ≡ seat x
seat_else seat p q x n = ap (λ b. cond b q (seat x)) (ne_eqb x p n)

-- ---- how things stand after a step

module _ {M : Type 0} where
  abbrev sent_more : ChannelState M → M → ChannelState M
  sent_more s m = record { seat = s.seat; reader = s.reader; senders = s.senders; received = s.received; all = s.all ++ m ∷ [] }

  abbrev received_more : ChannelState M → M → ChannelState M
  received_more s m = record { seat = s.seat; reader = s.reader; senders = s.senders; received = s.received ++ m ∷ []; all = s.all }

  abbrev one_sender_more : ChannelState M → ℕ → ChannelState M
  one_sender_more s pass = record {
    seat = moved_seat s.seat s.senders pass;
    reader = s.reader;
    senders = s.senders + 1;
    received = s.received;
    all = s.all;
  }

  -- the sender p has this pass now
  abbrev seated : ChannelState M → ℕ → ℕ → ChannelState M
  seated s p pass = record { seat = moved_seat s.seat p pass; reader = s.reader; senders = s.senders; received = s.received; all = s.all }

  -- the reader has this pass now
  abbrev read_by : ChannelState M → ℕ → ChannelState M
  read_by s pass = record { seat = s.seat; reader = pass; senders = s.senders; received = s.received; all = s.all }

module _ {M : Type 0} (from : M → ℕ) (closes : M → Bool) where
  holds_sent : (s : ChannelState M) (views : List (View M)) (pass : ℕ) (v : View M) (m : M)
      → Holds from closes s views → get_elem? views pass ≡ some v → v.sends ≡ true → from m ≡ v.from → has_bye closes v.sent ≡ false
      → Holds from closes (sent_more s m) (set views pass (with_sent v m))
  holds_sent s views pass v m h here may is fresh =
      let mine = h.each pass v here in
      let t = mine.sends may in
      let below : v.from < s.senders = t.known in
      record {
        later = λ p k. of_more_else from p s.all m (λ e. absurd (omega arith)) ∙ h.later p k;
        each = each_set (FitsPass from closes (sent_more s m)) views pass (with_sent v m)
            (record {
              sends = λ _. record {
                seat = t.seat;
                known = t.known;
                sent = of_more_here from v.from s.all m is ∙ ap (λ l. l ++ m ∷ []) t.sent;
                last = bye_last_more closes v.sent m fresh;
              };
              reads = λ r. let f = mine.reads r in record { seat = f.seat; received = f.received; senders = f.senders };
            })
            (λ j u other e. let f = h.each j u e in record {
              sends = λ p. let o = f.sends p in record {
                seat = o.seat;
                known = o.known;
                sent = of_more_else from u.from s.all m (λ q. other (sym o.seat ∙ ap s.seat (sym q ∙ is) ∙ t.seat)) ∙ o.sent;
                last = o.last;
              };
              reads = λ r. let o = f.reads r in record { seat = o.seat; received = o.received; senders = o.senders };
            });
      }

  holds_received : (s : ChannelState M) (views : List (View M)) (pass : ℕ) (v : View M) (m : M)
      → Holds from closes s views → get_elem? views pass ≡ some v → v.reads ≡ true
      → Holds from closes (received_more s m) (set views pass (with_received v m))
  holds_received s views pass v m h here may =
      let mine = h.each pass v here in
      let r = mine.reads may in
      record {
        later = h.later;
        each = each_set (FitsPass from closes (received_more s m)) views pass (with_received v m)
            (record {
              sends = λ p. let o = mine.sends p in record { seat = o.seat; known = o.known; sent = o.sent; last = o.last };
              reads = λ _. record { seat = r.seat; received = ap (λ l. l ++ m ∷ []) r.received; senders = r.senders };
            })
            (λ j u other e. let f = h.each j u e in record {
              sends = λ p. let o = f.sends p in record { seat = o.seat; known = o.known; sent = o.sent; last = o.last };
              reads = λ p. absurd (other ((f.reads p).seat ∙ sym r.seat));
            });
      }

  holds_forked : (s : ChannelState M) (views : List (View M)) (pass : ℕ) (v : View M)
      → Holds from closes s views → get_elem? views pass ≡ some v → v.reads ≡ true
      → Holds from closes (one_sender_more s (length (set views pass (reader (v.senders + 1) v.received)))) (set views pass (reader (v.senders + 1) v.received) ++ sender v.senders [] ∷ [])
  holds_forked s views pass v h here may =
      let mine = h.each pass v here in
      let r = mine.reads may in
      let left : View M = reader (v.senders + 1) v.received in
      let vs : List (View M) = set views pass left in
      let now : ChannelState M = one_sender_more s (length vs) in
      let same : v.senders ≡ s.senders = r.senders in
      -- as before, but that the reader counts one sender more
      let Now : ℕ → View M → Type 0 = λ j u. (u.sends ≡ true → FitsSender from closes s j u) × (u.reads ≡ true → FitsReader now j u) in
      let old : Each Now vs = each_set Now views pass left
      ((λ p. absurd (true≢false (sym p))), λ _. record { seat = r.seat; received = r.received; senders = ap (λ n. n + 1) r.senders })
      (λ j u other e. let f = h.each j u e in (f.sends, λ p. absurd (other ((f.reads p).seat ∙ sym r.seat)))) in
      record {
        later = λ p k. h.later p (omega arith);
        each = each_snoc Now (FitsPass from closes now) vs (sender v.senders []) old
            (λ j u f. record {
              sends = λ p. let o = f.0 p in let below : u.from < s.senders = o.known in record {
                seat = seat_else s.seat s.senders (length vs) u.from (λ e. absurd (omega arith)) ∙ o.seat;
                known = omega arith;
                sent = o.sent;
                last = o.last;
              };
              reads = f.1;
            })
            (λ j f. let below : v.senders < s.senders = (f.0 refl).known in absurd (omega arith))
            (record {
              sends = λ _. record {
                seat = seat_here s.seat s.senders (length vs) v.senders same;
                known = omega arith;
                sent = h.later v.senders (omega arith);
                last = refl;
              };
              reads = λ p. absurd (true≢false (sym p));
            });
      }

  holds_together : (s : ChannelState M) (views : List (View M)) (pass : ℕ) (v : View M) (other : ℕ) (u : View M)
      → Holds from closes s views → get_elem? views pass ≡ some v → v.reads ≡ true → u.sends ≡ true → other ≢ pass → get_elem? views other ≡ some u
      → Holds from closes (seated s u.from pass) (set (set views pass (both v u)) other spent)
  holds_together s views pass v other u h here may sends away there =
      let r = (h.each pass v here).reads may in
      let t = (h.each other u there).sends sends in
      let now : ChannelState M = seated s u.from pass in
      let vs : List (View M) = set views pass (both v u) in
      -- each but the pass that is given up
      let Now : ℕ → View M → Type 0 = λ j y. j ≢ other → FitsPass from closes now j y in
      let old : Each Now vs = each_set Now views pass (both v u)
      (λ _. record {
        sends = λ _. record { seat = seat_here s.seat u.from pass u.from refl; known = t.known; sent = t.sent; last = t.last };
        reads = λ _. record { seat = r.seat; received = r.received; senders = r.senders };
      })
      (λ j y apart e not_other. let f = h.each j y e in record {
        sends = λ p. let o = f.sends p in record {
          seat = seat_else s.seat u.from pass y.from (λ q. not_other (sym o.seat ∙ ap s.seat q ∙ t.seat)) ∙ o.seat;
          known = o.known;
          sent = o.sent;
          last = o.last;
        };
        reads = λ p. absurd (apart ((f.reads p).seat ∙ sym r.seat));
      }) in
      record {
        later = h.later;
        each = each_set (FitsPass from closes now) vs other spent
            (record { sends = λ p. absurd (true≢false (sym p)); reads = λ p. absurd (true≢false (sym p)) })
            (λ j y apart e. old j y e apart);
      }

  holds_apart : (s : ChannelState M) (views : List (View M)) (pass : ℕ) (v : View M)
      → Holds from closes s views → get_elem? views pass ≡ some v → v.reads ≡ true → v.sends ≡ true
      → Holds from closes (seated s v.from (length (set views pass (reader v.senders v.received)))) (set views pass (reader v.senders v.received) ++ sender v.from v.sent ∷ [])
  holds_apart s views pass v h here may sends =
      let mine = h.each pass v here in
      let r = mine.reads may in
      let t = mine.sends sends in
      let left : View M = reader v.senders v.received in
      let vs : List (View M) = set views pass left in
      let now : ChannelState M = seated s v.from (length vs) in
      -- as before, but that this pass sends nothing
      let Now : ℕ → View M → Type 0 = λ j u. (u.sends ≡ true → (j ≢ pass) × FitsSender from closes s j u) × (u.reads ≡ true → FitsReader now j u) in
      let old : Each Now vs = each_set Now views pass left
      ((λ p. absurd (true≢false (sym p))), λ _. record { seat = r.seat; received = r.received; senders = r.senders })
      (λ j u other e. let f = h.each j u e in ((λ p. (other, f.sends p)), λ p. absurd (other ((f.reads p).seat ∙ sym r.seat)))) in
      record {
        later = h.later;
        each = each_snoc Now (FitsPass from closes now) vs (sender v.from v.sent) old
            (λ j u f. record {
              sends = λ p. let o = f.0 p in record {
                seat = seat_else s.seat v.from (length vs) u.from (λ e. o.0 (sym o.1.seat ∙ ap s.seat e ∙ t.seat)) ∙ o.1.seat;
                known = o.1.known;
                sent = o.1.sent;
                last = o.1.last;
              };
              reads = f.1;
            })
            (λ j f. let o = f.0 refl in o.0 (sym o.1.seat ∙ t.seat))
            (record {
              sends = λ _. record { seat = seat_here s.seat v.from (length vs) v.from refl; known = t.known; sent = t.sent; last = t.last };
              reads = λ p. absurd (true≢false (sym p));
            });
      }

  -- the same where the sender takes in the reader

  holds_taken : (s : ChannelState M) (views : List (View M)) (pass : ℕ) (v : View M) (other : ℕ) (u : View M)
      → Holds from closes s views → get_elem? views pass ≡ some v → v.sends ≡ true → u.reads ≡ true → other ≢ pass → get_elem? views other ≡ some u
      → Holds from closes (read_by s pass) (set (set views pass (both u v)) other spent)
  holds_taken s views pass v other u h here sends may away there =
      let t = (h.each pass v here).sends sends in
      let r = (h.each other u there).reads may in
      let now : ChannelState M = read_by s pass in
      let vs : List (View M) = set views pass (both u v) in
      -- each but the pass that is given up
      let Now : ℕ → View M → Type 0 = λ j y. j ≢ other → FitsPass from closes now j y in
      let old : Each Now vs = each_set Now views pass (both u v)
      (λ _. record {
        sends = λ _. record { seat = t.seat; known = t.known; sent = t.sent; last = t.last };
        reads = λ _. record { seat = refl; received = r.received; senders = r.senders };
      })
      (λ j y apart e not_other. let f = h.each j y e in record {
        sends = λ p. let o = f.sends p in record { seat = o.seat; known = o.known; sent = o.sent; last = o.last };
        reads = λ p. absurd (not_other ((f.reads p).seat ∙ sym r.seat));
      }) in
      record {
        later = h.later;
        each = each_set (FitsPass from closes now) vs other spent
            (record { sends = λ p. absurd (true≢false (sym p)); reads = λ p. absurd (true≢false (sym p)) })
            (λ j y apart e. old j y e apart);
      }

  holds_given : (s : ChannelState M) (views : List (View M)) (pass : ℕ) (v : View M)
      → Holds from closes s views → get_elem? views pass ≡ some v → v.reads ≡ true → v.sends ≡ true
      → Holds from closes (read_by s (length (set views pass (sender_in v)))) (set views pass (sender_in v) ++ reader_in v ∷ [])
  holds_given s views pass v h here may sends =
      let mine = h.each pass v here in
      let r = mine.reads may in
      let t = mine.sends sends in
      let vs : List (View M) = set views pass (sender_in v) in
      let now : ChannelState M = read_by s (length vs) in
      -- as before, but that this pass reads nothing
      let Now : ℕ → View M → Type 0 = λ j u. (u.sends ≡ true → FitsSender from closes s j u) × (u.reads ≡ true → ⊥) in
      let old : Each Now vs = each_set Now views pass (sender_in v)
      ((λ _. record { seat = t.seat; known = t.known; sent = t.sent; last = t.last }), λ p. true≢false (sym p))
      (λ j u other e. let f = h.each j u e in (f.sends, λ p. other ((f.reads p).seat ∙ sym r.seat))) in
      record {
        later = h.later;
        each = each_snoc Now (FitsPass from closes now) vs (reader_in v) old
            (λ j u f. record {
              sends = λ p. let o = f.0 p in record { seat = o.seat; known = o.known; sent = o.sent; last = o.last };
              reads = λ p. absurd (f.1 p);
            })
            (λ j f. f.1 refl)
            (record {
              sends = λ p. absurd (true≢false (sym p));
              reads = λ _. record { seat = refl; received = r.received; senders = r.senders };
            });
      }

  -- ---- what each call owes

  abbrev empty : ChannelState M
  empty = record { seat = λ p. 0; reader = 0; senders = 0; received = []; all = [] }

  pub begins : Delivers from closes [] (reader 0 [] ∷ [])
  begins = record {
    standing = empty;
    all = refl;
    holds = record {
      later = λ p h. refl;
      each = each_set (FitsPass from closes empty) (reader 0 [] ∷ []) 0 (reader 0 [])
          (record {
            sends = λ p. absurd (true≢false (sym p));
            reads = λ _. record { seat = refl; received = refl; senders = refl };
          })
          (λ j u other e. absurd (other (at_end [] (reader 0 []) u j (λ x. some-ne-none u (sym x)) e)));
    };
  }

  pub sends : (n pass : ℕ) (v : View M) (m : M) → v.sends ≡ true → from m ≡ v.from → has_bye closes v.sent ≡ false → Pushes (Delivers from closes) n pass v m (λ w. w ≡ with_sent v m)
  sends n pass v m may is fresh items views room d here = (
    with_sent v m,
    record {
      standing = sent_more d.standing m;
      all = ap (λ l. l ++ m ∷ []) d.all ∙ append_assoc d.standing.received items (m ∷ []);
      holds = holds_sent d.standing views pass v m d.holds here may is fresh;
    },
    refl,
  )

  pub receives : (pass : ℕ) (v : View M) → v.reads ≡ true → Pops (Delivers from closes) pass v (λ m w. Takes from v m w)
  receives pass v may m items views d here =
      let s = d.standing in
      let same : v.senders ≡ s.senders = ((d.holds.each pass v here).reads may).senders in
      let no : s.senders ≤ from m → ⊥ = λ b. some_of from (from m) s.received items m refl (ap (of from (from m)) (sym d.all) ∙ d.holds.later (from m) b) in (
        with_received v m,
        record {
          standing = received_more s m;
          all = d.all ∙ sym (append_assoc s.received (m ∷ []) items);
          holds = holds_received s views pass v m d.holds here may;
        },
        record { received = refl; known = omega arith },
      )

  pub forks : (pass : ℕ) (v : View M) → v.reads ≡ true → Forks (Delivers from closes) pass v (reader (v.senders + 1) v.received) (sender v.senders [])
  forks pass v may items views d here = record {
    standing = one_sender_more d.standing (length (set views pass (reader (v.senders + 1) v.received)));
    all = d.all;
    holds = holds_forked d.standing views pass v d.holds here may;
  }

  pub joins : (pass : ℕ) (v : View M) (other : ℕ) (u : View M) → v.reads ≡ true → u.sends ≡ true → Merges (Delivers from closes) pass v other u (both v u) spent
  joins pass v other u may sends_too items views d here apart there =
      let was : get_elem? views other ≡ some u = ⊎_elim (λ x. absurd (apart x.0)) (λ x. x.1) (at_set views pass other (both v u) u there) in
      record {
        standing = seated d.standing u.from pass;
        all = d.all;
        holds = holds_together d.standing views pass v other u d.holds here may sends_too apart was;
      }

  pub takes : (pass : ℕ) (v : View M) (other : ℕ) (u : View M) → v.sends ≡ true → u.reads ≡ true → Merges (Delivers from closes) pass v other u (both u v) spent
  takes pass v other u sends_too may items views d here apart there =
      let was : get_elem? views other ≡ some u = ⊎_elim (λ x. absurd (apart x.0)) (λ x. x.1) (at_set views pass other (both u v) u there) in
      record {
        standing = read_by d.standing pass;
        all = d.all;
        holds = holds_taken d.standing views pass v other u d.holds here sends_too may apart was;
      }

  pub gives : (pass : ℕ) (v : View M) → v.reads ≡ true → v.sends ≡ true → Forks (Delivers from closes) pass v (sender_in v) (reader_in v)
  gives pass v may sends_too items views d here = record {
    standing = read_by d.standing (length (set views pass (sender_in v)));
    all = d.all;
    holds = holds_given d.standing views pass v d.holds here may sends_too;
  }

  pub parts : (pass : ℕ) (v : View M) → v.reads ≡ true → v.sends ≡ true → Forks (Delivers from closes) pass v (reader v.senders v.received) (sender v.from v.sent)
  parts pass v may sends_too items views d here = record {
    standing = seated d.standing v.from (length (set views pass (reader v.senders v.received)));
    all = d.all;
    holds = holds_apart d.standing views pass v d.holds here may sends_too;
  }

  pub learns : (pass : ℕ) (v : View M) → v.reads ≡ true → v.sends ≡ true → Learns (Delivers from closes) pass v (λ items. IsOnceInOrder from closes v.from v.sent v.received)
  learns pass v may sends_too items views d here =
      let mine = d.holds.each pass v here in
      let t = mine.sends sends_too in
      let got : v.received ≡ d.standing.received = (mine.reads may).received in
      let rest = of from v.from items in
      let front : of from v.from v.received ++ rest ≡ v.sent =
      ap (λ l. of from v.from l ++ rest) got ∙ sym (of-append from v.from d.standing.received items) ∙ ap (of from v.from) (sym d.all) ∙ t.sent in
      record {
        begins = (rest, front);
        whole = λ bye.
            let none : rest ≡ [] = bye_ends closes (of from v.from v.received) rest bye (ap (is_bye_last closes) front ∙ t.last) in
            sym (append-nil (of from v.from v.received)) ∙ ap (λ l. of from v.from v.received ++ l) (sym none) ∙ front;
      }
