-- The types of the code as a stack.
use Rattle.std.proofs.Common.{◌≡◌, ℕ, suc, Bool, true, false, cond, List, [], ◌∷◌, ◌++◌, length, refl, sym, ap, ◌∙◌, arith}
use Rattle.std.specs.Prelude.{◌==◌, Some, None}
use Rattle.std.proofs.lemmas.Bool.Decides.{nat_tests}
use Rattle.wasm_ast.specs.declared.types.ValType.{ValType}
use Rattle.validate.specs.declared.operands.OperandType.{OperandType}
use Rattle.validate.specs.inside.Stack.{Stack, on, agrees, take_one, is_empty, push_all}
use Rattle.validate.specs.inside.Answers.{base_of}

pub pile_last : (base : Stack) (ks : List OperandType) (k : OperandType) → push_all base (ks ++ k ∷ []) ≡ on k (push_all base ks)
pile_last base [] k = refl
pile_last base (j ∷ ks) k = pile_last (on j base) ks k

pub popped : (base : Stack) (old new : List OperandType) (k : OperandType) → old ≡ new ++ k ∷ [] → push_all base old ≡ on k (push_all base new)
popped base old new k e = ap (push_all base) e ∙ pile_last base new k

pub take_popped : (t : ValType) (base : Stack) (old new : List OperandType) (k : OperandType) (b : Bool) → old ≡ new ++ k ∷ [] → b ≡ agrees k t → take_one t (push_all base old) ≡ cond b (Some (push_all base new)) None
take_popped t base old new k b e f =
    ap (take_one t) (popped base old new k e) ∙ ap (λ x. cond x (Some (push_all base new)) None) (sym f)

some_left : (base : Stack) (ks : List OperandType) (k : OperandType) → is_empty (push_all (on k base) ks) ≡ false
some_left base [] k = refl
some_left base (j ∷ ks) k = some_left (on k base) ks j

none_left : (d : Bool) → is_empty (base_of d) ≡ true
none_left true = refl
none_left false = refl

not_zero : (n m : ℕ) → n ≡ suc m → (n == 0) ≡ false
not_zero n m e = grind (arith, nat_tests)

pub emptiness : (d : Bool) (ks : List OperandType) (n : ℕ) → n ≡ length ks → (n == 0) ≡ is_empty (push_all (base_of d) ks)
emptiness d [] n e = ap (λ m. m == 0) e ∙ sym (none_left d)
emptiness d (k ∷ ks) n e = not_zero n (length ks) e ∙ sym (some_left (base_of d) ks k)
