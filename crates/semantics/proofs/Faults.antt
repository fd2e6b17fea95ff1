-- A call that ends has no other end.
use Rattle.std.proofs.Common.{◌≡◌, ◌≢◌, ℕ, ◌≤◌, ap, ◌∙◌, arith}
use Rattle.wasm_ast.specs.declared.module.Module.{Module}
use Rattle.verified.specs.declared.call.CallInput.{CallInput}
use Rattle.verified.specs.declared.call.CallOutcome.{CallOutcome}
use Rattle.semantics.specs.Configuration.{State}
use Rattle.semantics.specs.Machine.{Machine, Done, Trapped, Stuck, run}
use Rattle.semantics.specs.Start.{Starts}
use Rattle.semantics.specs.Call.{IsOutcome, Outcome}
use Rattle.semantics.proofs.RunLaws.{one_end}
use Rattle.semantics.proofs.OneEnd.{one_start}
use Rattle.semantics.specs.Bounded.{Ends, MeetsNoFault, NeverFails}

module _ (m : Module) (input : CallInput) (units most_operands most_frames : ℕ) (e : Ends m input units most_operands most_frames) where
  never_trapped : (first : Machine) → Starts m input first → (n count : ℕ) → run m n first ≢ Trapped count
  never_trapped first s n count t = e.untrapped n count (ap (λ (x : Machine). run m n x) (one_start m input e.first first e.starts s) ∙ t)

  never_stuck : (first : Machine) → Starts m input first → (n count : ℕ) → run m n first ≢ Stuck count
  never_stuck first s n count t = e.unstuck n count (ap (λ (x : Machine). run m n x) (one_start m input e.first first e.starts s) ∙ t)

  pub never_fails : NeverFails m input
  never_fails = record { trap = never_trapped; stick = never_stuck }

  outcome_within : (outcome : CallOutcome) → IsOutcome m input outcome → outcome.units ≤ units
  outcome_within outcome p =
      let same = one_start m input e.first p.first e.starts p.starts in
      let there : run m p.steps e.first ≡ Done p.final = ap (λ (x : Machine). run m p.steps x) same ∙ p.done in
      let ends : Done p.final ≡ Done e.final = one_end m p.steps e.steps e.first (Done p.final) (Done e.final) there e.done tt tt in
      let final : p.final ≡ e.final = cc in
      let counts = ap (λ (s : State). s.count) final in
      let units = ap (λ (o : Outcome). o.units) p.leaves in
      omega (arith, counts, units, e.within)

  pub no_fault : MeetsNoFault m input units
  no_fault = record {
    outcome = outcome_within;
    trap = λ count p. never_trapped p.first p.starts p.steps count p.trapped;
    stick = λ count p. never_stuck p.first p.starts p.steps count p.stuck;
  }
