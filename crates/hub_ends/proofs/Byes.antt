-- Which senders said bye.
use Rattle.std.proofs.lemmas.Bool.Decides.{eqb_tells}
use Rattle.std.proofs.Common.{◌≡◌, ◌≢◌, ℕ, zero, suc, ◌<◌, Bool, true, false, ◌||◌, List, [], ◌∷◌, ◌++◌, length, replicate, set, slice_index_or, Result, Ok, Err, OnOk, OnErr, sym, refl, ap, ◌∙◌, arith, ◌⊎◌, ⊎_elim, inl, inr}
use Rattle.hub_ends.specs.Protocol.{has_bye, of}
use Rattle.hub_ends.proofs.ProtocolSteps.{of_more_else, of_more_here}

or_assoc : (a b c : Bool) → (a || (b || c)) ≡ ((a || b) || c)
or_assoc true b c = refl
or_assoc false b c = refl

or_false : (a : Bool) → (a || false) ≡ a
or_false true = refl
or_false false = refl

or_true : (a : Bool) → (a || true) ≡ true
or_true true = refl
or_true false = refl

-- ---- flags

flag_here : (flags : List Bool) (w : ℕ) → w < length flags → slice_index_or (set flags w true) w false ≡ true
flag_here [] w h = absurd (omega arith)
flag_here (x ∷ xs) zero h = refl
flag_here (x ∷ xs) (suc w) h = flag_here xs w (omega arith)

flag_else : (flags : List Bool) (w p : ℕ) → p ≢ w → slice_index_or (set flags w true) p false ≡ slice_index_or flags p false
flag_else [] w p n = refl
flag_else (x ∷ xs) zero zero n = absurd (n refl)
flag_else (x ∷ xs) zero (suc p) n = refl
flag_else (x ∷ xs) (suc w) zero n = refl
flag_else (x ∷ xs) (suc w) (suc p) n = flag_else xs w p (λ e. n (ap suc e))

pub none_set : (n p : ℕ) → slice_index_or (replicate n false) p false ≡ false
none_set zero p = refl
none_set (suc n) zero = refl
none_set (suc n) (suc p) = none_set n p

either_way : (v w : ℕ) → (v ≡ w) ⊎ (v ≢ w)
either_way v w = ⊎_elim (λ x. inl x.1) (λ x. inr x.1) (eqb_tells v w)

-- ---- one message more

module _ {M : Type 0} (closes : M → Bool) where
  pub has_bye_more : (l : List M) (m : M) → has_bye closes (l ++ m ∷ []) ≡ (has_bye closes l || closes m)
  has_bye_more [] m = or_false (closes m)
  has_bye_more (x ∷ xs) m = ap (λ b. closes x || b) (has_bye_more xs m) ∙ or_assoc (closes x) (has_bye closes xs) (closes m)

  -- the first that closes
  pub bye_first : (l : List M) (m : M) (b : Bool) → has_bye closes l ≡ false → closes m ≡ b → has_bye closes (l ++ m ∷ []) ≡ b
  bye_first l m b e f = has_bye_more l m ∙ ap (λ x. x || closes m) e ∙ f

  -- after a send of what does not close
  pub open_after : {A E : Type 0} (r : Result A E) (l l' : List M) (m : M) → OnOk r (l' ≡ l ++ m ∷ []) → OnErr r (l' ≡ l)
      → has_bye closes l ≡ false → closes m ≡ false → has_bye closes l' ≡ false
  open_after (Ok a) l l' m p q e f = ap (has_bye closes) p ∙ bye_first l m false e f
  open_after (Err x) l l' m p q e f = ap (has_bye closes) q ∙ e

module _ {M : Type 0} (from : M → ℕ) (closes : M → Bool) where
  -- each flag says whether that sender said bye
  abbrev pub AreFlags : List Bool → ℕ → List M → Type 0
  AreFlags flags n received = (p : ℕ) → p < n → slice_index_or flags p false ≡ has_bye closes (of from p received)

  bye_cases : (flags : List Bool) (n w : ℕ) (got : List M) (m : M) → AreFlags flags n got → length flags ≡ n → w < n → from m ≡ w → closes m ≡ true
      → (p : ℕ) → p < n → (w ≡ p) ⊎ (w ≢ p) → slice_index_or (set flags w true) p false ≡ has_bye closes (of from p (got ++ m ∷ []))
  bye_cases flags n w got m old long below is last p h (inl e) =
      let here : w < length flags = omega arith in
      ap (λ x. slice_index_or (set flags w true) x false) (sym e) ∙ flag_here flags w here ∙ sym (or_true (has_bye closes (of from p got)))
      ∙ ap (λ b. has_bye closes (of from p got) || b) (sym last) ∙ sym (has_bye_more closes (of from p got) m)
      ∙ ap (has_bye closes) (sym (of_more_here from p got m (is ∙ e)))
  bye_cases flags n w got m old long below is last p h (inr e) =
      flag_else flags w p (λ q. e (sym q)) ∙ old p h ∙ ap (has_bye closes) (sym (of_more_else from p got m (λ q. e (sym is ∙ q))))

  pub flags_bye : (flags : List Bool) (n w : ℕ) (got got' : List M) (m : M) → AreFlags flags n got → length flags ≡ n → w < n → from m ≡ w → closes m ≡ true
      → got' ≡ got ++ m ∷ [] → AreFlags (set flags w true) n got'
  flags_bye flags n w got got' m old long below is last more p h =
      bye_cases flags n w got m old long below is last p h (either_way w p) ∙ ap (λ l. has_bye closes (of from p l)) (sym more)

  open_cases : (got : List M) (m : M) (p : ℕ) → closes m ≡ false → (from m ≡ p) ⊎ (from m ≢ p) → has_bye closes (of from p (got ++ m ∷ [])) ≡ has_bye closes (of from p got)
  open_cases got m p shut (inl e) =
      ap (has_bye closes) (of_more_here from p got m e) ∙ has_bye_more closes (of from p got) m
      ∙ ap (λ b. has_bye closes (of from p got) || b) shut ∙ or_false (has_bye closes (of from p got))
  open_cases got m p shut (inr e) = ap (has_bye closes) (of_more_else from p got m e)

  pub flags_more : (flags : List Bool) (n : ℕ) (got got' : List M) (m : M) → AreFlags flags n got → closes m ≡ false → got' ≡ got ++ m ∷ [] → AreFlags flags n got'
  flags_more flags n got got' m old shut more p h =
      old p h ∙ sym (open_cases got m p shut (either_way (from m) p)) ∙ ap (λ l. has_bye closes (of from p l)) (sym more)
