-- All of a text's tokens, from what is read of its fields.
use Rattle.std.proofs.Common.{◌≡◌, ℕ, List, [], Some, refl, sym, subst}
use Rattle.wasm_ast.specs.declared.module.Module.{Module}
use Rattle.wasm_ast.specs.Modules.{empty_module}
use Rattle.wat_syntax.specs.declared.fault.Failure.{Failure}
use Rattle.wat_syntax.specs.inside.Tokens.{Tok}
use Rattle.wat_syntax.specs.inside.Reading.{State}
use Rattle.wat_syntax.specs.inside.ReadingModule.{Making, only_at, module_at, with_types}
use Rattle.wat_syntax.proofs.Repeats.{Said, Failed, then_said, first_failed}

-- a module in the making that has nothing, and all tokens
begun : (m : Module) (s : State) (ts : List Tok) → m ≡ empty_module → s ≡ (ts, []) → (P : Making → Type 0) → P (m, s) → P (empty_module, (ts, []))
begun m s ts e f P h = subst (λ t. P (empty_module, t)) f (subst (λ n. P (n, s)) e h)

pub module_failed : (n : ℕ) (m : Module) (s : State) (ts : List Tok) (f : Failure) → m ≡ empty_module → s ≡ (ts, []) → Failed f (only_at n (m, s)) → Failed f (module_at n ts)
unfolding module_at
module_failed n m s ts f e g h =
    first_failed (only_at n (empty_module, (ts, []))) (λ x. Some (with_types x.0 x.1.1)) f
    (begun m s ts e g (λ x. Failed f (only_at n x)) h)

-- where the parser is left as it is then
pub module_said : (n : ℕ) (m : Module) (s : State) (ts : List Tok) (made : Module) (after left : State) → m ≡ empty_module → s ≡ (ts, []) → left ≡ after → Said (made, after) (only_at n (m, s))
    → Said (with_types made left.1) (module_at n ts)
unfolding module_at
module_said n m s ts made after left e g stays h =
    subst (λ (l : State). Said (with_types made l.1) (module_at n ts)) (sym stays)
    (then_said (made, after) (only_at n (empty_module, (ts, []))) (λ x. Some (with_types x.0 x.1.1)) (with_types made after.1)
    (begun m s ts e g (λ x. Said (made, after) (only_at n x)) h) refl)
