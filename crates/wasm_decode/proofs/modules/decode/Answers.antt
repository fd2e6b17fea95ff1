use Rattle.std.proofs.Common.{◌≡◌, ℕ, List, Option, Result, Ok, Err, IfOk, refl, arith, subst}
use Rattle.std.specs.Prelude.{MatchResult}
use Rattle.leb.specs.inside.Bytes.{IsBytes}
use Rattle.wasm_ast.specs.declared.module.Module.{Module}
use Rattle.wasm_items.specs.declared.fault.DecodeFault.{DecodeFault}
use Rattle.wasm_items.specs.declared.fault.DecodeFault.TheVariants as fault
use Rattle.wasm_items.specs.inside.Reading.{Gives, found}
use Rattle.wasm_decode.specs.Grammar.{Spells}
use Rattle.wasm_decode.specs.inside.ReadingModule.{module_at}
use Rattle.wasm_decode.proofs.Takes.{module_takes}
use Rattle.wasm_decode.proofs.Again.{module_again}
use Rattle.wasm_decode.proofs.modules.decode.Goals as goal

is_spelled : (bytes : List ℕ) (result : Result Module DecodeFault) → IsBytes bytes → Gives (λ m. m) result (module_at bytes) → IfOk result (Spells bytes)
is_spelled bytes (Ok m) fits e = module_takes bytes m fits e
is_spelled bytes (Err fault) fits e = tt

is_read : (m : Module) (result : Result Module DecodeFault) → Gives (λ x. x) result (found m)
    → MatchResult result (λ x. x ≡ m) (λ f. f ≡ fault.OutOfMemory)
is_read m (Ok x) e = cc
is_read m (Err fault.OutOfMemory) e = refl
is_read m (Err (fault.Refused rule place)) e = absurd cc

pub returns-clause-found : goal.returns-clause-found
returns-clause-found c = is_spelled c.args.bytes.now c.module.result (λ i. omega (arith, c.type_inv.bytes i)) c.module.ensures.exact

pub returns-clause-only : goal.returns-clause-only
returns-clause-only c = λ m spelled.
    let P : Option Module → Type 0 = λ read. Gives (λ x. x) c.module.result read in
    is_read m c.module.result (subst P (module_again c.args.bytes.now m spelled) c.module.ensures.exact)
