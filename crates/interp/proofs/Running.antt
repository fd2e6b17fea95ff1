-- The beginning and the outcome of a call of a module in the bounded profile.
use Rattle.std.proofs.Common.{◌≡◌, ℕ, ◌+◌, ◌*◌, ◌≤◌, Bool, List, length, arith, Result, Ok, Err, sym, ap, ◌∙◌, subst}
use Rattle.std.specs.Prelude.{IfOk, Some, slice_get}
use Rattle.wasm_ast.specs.declared.module.Function.{Function}
use Rattle.wasm_ast.specs.declared.module.Module.{Module}
use Rattle.wasm_ast.specs.Code.{Code}
use Rattle.wasm_ast.specs.Limits.{IsFunctionWithin, IsWithinLimits, max_locals, parameters_of}
use Rattle.verified.specs.declared.call.CallInput.{CallInput}
use Rattle.verified.specs.declared.call.CallOutcome.{CallOutcome}
use Rattle.verified.specs.Host.{Leaves}
use Rattle.verified.specs.Modules.{IsTyped}
use Rattle.verified.specs.Compute.{IsComputeNumber}
use Rattle.verified.specs.Facts.{IsSizeOfCompute}
use Rattle.verified.specs.Profile.{IsBounded}
use Rattle.interp.specs.inside.Cells.{cells_state}
use Rattle.interp.specs.inside.Begun.{BeginsAt, BeginsWith, EndsFrom, EndsInRoom, EndsWith, IsBeginning, IsDefinedAt}
use Rattle.semantics.specs.Bounded.{Ends, IsWithinBound, NeverFails, items_of}
use Rattle.semantics.specs.Call.{IsOutcome, outcome_of, shown}
use Rattle.semantics.specs.Configuration.{State}
use Rattle.semantics.specs.Machine.{Machine, defined, functions_of, run}
use Rattle.semantics.specs.Start.{Starts}
use Rattle.semantics.specs.inside.Touched.{AreMarked, Touches, marks}
use Rattle.interp.specs.inside.Place.{Place, Room, Standing, at}
use Rattle.interp.specs.inside.Walk.{Concludes, EndsWithin, IsWithinRoom, LeadsWithin}
use Rattle.semantics.proofs.Faults.{no_fault, never_fails}
use Rattle.semantics.proofs.Fixed.{depths_there, heights_there, sizes_there}
use Rattle.interp.proofs.Functions.{of_defined}
use Rattle.semantics.proofs.OneEnd.{one_start}
use Rattle.semantics.proofs.Starting.{exported_number}
use Rattle.semantics.proofs.Told.{always_ends}
use Rattle.semantics.proofs.Values.{some_is}
use Rattle.semantics.proofs.Whole.{all_reached, calls_end}

module _ (m : Module) (typed : IsTyped m) (bounded : IsBounded m) where
  pub begins_at : (n : ℕ) → IsComputeNumber m n → CallInput → BeginsAt m n
  begins_at n number input =
      let s = (always_ends m typed bounded input).3.starts in
      record {
        function = s.function;
        globals = s.globals;
        bytes = s.bytes;
        begins = s.begins;
        here = some_is s.begins.number number.compute.number (sym s.begins.exported ∙ exported_number m typed number.compute) ∙ number.here;
      }

  module _ (input : CallInput) where
    pub fails_never : NeverFails m input
    fails_never = let e = always_ends m typed bounded input in never_fails m input e.0 e.1 e.2 e.3

    touches : (x : Machine) → Starts m input x → (n : ℕ) → Touches (AreMarked (marks m)) (run m n x)
    touches x s n =
        let z = sizes_there m bounded.acyclic in
        let h = heights_there m bounded.acyclic in
        let d = depths_there m bounded.acyclic in
        let e = all_reached m typed bounded z.0 h.0 d.0 z.1 h.1 d.1 input in
        subst (λ (y : Machine). Touches (AreMarked (marks m)) (run m n y)) (sym (one_start m input x e.0 s e.1)) (e.2 n)

    module _ (size : ℕ) (told : IsSizeOfCompute m size) where
      sized : (operands : ℕ) × (frames : ℕ) × Ends m input (size * (1 + items_of input)) operands frames
      sized =
          let f = bounded.compute.number in
          let s = told bounded.compute in
          let h = heights_there m bounded.acyclic in
          let d = depths_there m bounded.acyclic in
          (h.0 f, d.0 f, subst (λ (n : ℕ). Ends m input (n * (1 + items_of input)) (h.0 f) (d.0 f)) s.2 (calls_end m typed bounded s.0 h.0 d.0 s.1 h.1 d.1 input))

      pub ends_within : (x : Machine) → Starts m input x → EndsWithin m x (size * (1 + items_of input))
      ends_within x s =
          let e = sized.2 in
          record {
            steps = e.steps;
            final = e.final;
            done = ap (λ (y : Machine). run m e.steps y) (one_start m input x e.first s e.starts) ∙ e.done;
            within = e.within;
            touches = touches x s;
          }

      within : (outcome : CallOutcome) → IsOutcome m input outcome → outcome.units ≤ size * (1 + items_of input)
      within outcome is = let e = sized in (no_fault m input (size * (1 + items_of input)) e.0 e.1 e.2).outcome outcome is

    pub within_bound : (outcome : CallOutcome) → IsOutcome m input outcome → IsWithinBound m input outcome
    within_bound outcome is size told = within size told outcome is

-- each start of an equal module ends within its bound on units
pub ends_at : (n m : Module) → n ≡ m → IsTyped m → IsBounded m → (input : CallInput) (size : ℕ) → IsSizeOfCompute m size → (most : ℕ) → most ≡ size * (1 + items_of input) → (x : Machine) → Starts n input x → EndsWithin n x most
ends_at n m same typed bounded input size told most e x s =
    let t = subst (λ (k : Module). Starts k input x) same s in
    let ends = ends_within m typed bounded input size told x t in
    subst (λ (k : Module). EndsWithin k x most) (sym same) (subst (λ (b : ℕ). EndsWithin m x b) (sym e) ends)

-- a run that ends within some units ends within more
pub ends_sooner : (m : Module) (x : Machine) (few many : ℕ) → few ≤ many → EndsWithin m x few → EndsWithin m x many
ends_sooner m x few many h e = record { steps = e.steps; final = e.final; done = e.done; within = omega (arith, e.within, h); touches = e.touches }

-- ---- the function with the number

begun_at : (m : Module) (n : ℕ) (b : BeginsAt m n) → slice_get (functions_of m) n ≡ Some (defined b.function)
begun_at m n b = ap (λ (k : ℕ). slice_get (functions_of m) k) (sym b.here) ∙ b.begins.is_defined

pub defined_at : (m : Module) (n : ℕ) → BeginsAt m n → IsDefinedAt m n
defined_at m n b = (b.function, begun_at m n b)

pub begins_with : (m : Module) (n : ℕ) (f : Function) → BeginsAt m n → slice_get (functions_of m) n ≡ Some (defined f) → BeginsWith m f
begins_with m n f b e =
    let there : Some (defined b.function) ≡ Some (defined f) = sym (begun_at m n b) ∙ e in
    let same : b.function ≡ f = cc in
    subst (λ (g : Function). BeginsWith m g) same (record { globals = b.globals; bytes = b.bytes; begins = b.begins })

-- the same code at the start
pub beginning_at : (m : Module) (input : CallInput) (s : Standing) (k body : Code) → k ≡ body → IsBeginning m body input s → IsBeginning m k input s
beginning_at m input s k body e h = subst (λ (j : Code). IsBeginning m j input s) (sym e) h

pub leads_in_room : (m : Module) (input : CallInput) (s : Standing) (k : Code) (most : ℕ) (room : Room) → s.room ≡ room → EndsInRoom m input most room → IsBeginning m k input s → LeadsWithin m s.room (at s k 0) most
leads_in_room m input s k most room same ends b =
    let e = ends b.from b.starts in
    let low : (n : ℕ) → IsWithinRoom s.room (run m n b.from) = λ n. subst (λ (r : Room). IsWithinRoom r (run m n b.from)) (sym same) (e.1 n) in
    record { leads = record { from = b.from; follows = b.follows; ends = e.0 }; low = low }

-- a function that the module defines has few locals
pub few_locals : (m : Module) → IsWithinLimits m → (n : ℕ) (f : Function) → slice_get (functions_of m) n ≡ Some (defined f) → parameters_of m.types f.type_number + length f.locals ≤ max_locals
few_locals m limits n f e = (of_defined m (IsFunctionWithin m.types) limits.functions n f e).0

pub few_of_its_own : (m : Module) → IsWithinLimits m → (n : ℕ) (f : Function) → slice_get (functions_of m) n ≡ Some (defined f) → length f.locals ≤ max_locals
few_of_its_own m limits n f e = let h = few_locals m limits n f e in omega (arith, h)

left : (outcome : CallOutcome) (st : State) → Leaves outcome st.host st.count → shown outcome ≡ outcome_of st
left outcome st l =
    let e1 = l.value in
    let e2 = l.sends in
    let e3 = l.contributions in
    let e4 = l.halted in
    let e5 = l.units_taken in
    cc

pub comes_to : (m : Module) (input : CallInput) (x : Machine) (outcome : CallOutcome) → Starts m input x → EndsWith m x outcome → IsOutcome m input outcome
comes_to m input x outcome s c =
    record { first = x; starts = s; steps = c.1.steps; final = c.0; done = c.1.done; least = c.1.least; leaves = left outcome c.0 c.2 }

-- ---- the answer

along : {A E : Type 0} {P Q : A → Type 0} (r : Result A E) → ((x : A) → P x → Q x) → IfOk r P → IfOk r Q
along (Ok x) go h = go x h
along (Err e) go h = h

left_as_cells : (ms : List Bool) (st final : State) (outcome : CallOutcome) → cells_state ms st ≡ final → Leaves outcome final.host final.count → Leaves outcome st.host st.count
left_as_cells ms st final outcome e l = subst (λ (s : State). Leaves outcome s.host s.count) (sym e) l

-- the run was concluded, and the outcome is what it left
pub concluded : (m : Module) (here : Place) (most : ℕ) (outcome : CallOutcome) (final : State) → Concludes m here most final → Leaves outcome final.host final.count → EndsFrom m here most outcome
concluded m here most outcome final c l =
    λ from follows ends.
    let d = c from follows ends in
    (d.0, d.1, left_as_cells (marks m) d.0 final outcome d.2 l)

pub bound_told : {E : Type 0} (r : Result CallOutcome E) (m : Module) → IsTyped m → IsBounded m → (input : CallInput) → IfOk r (IsOutcome m input) → IfOk r (IsWithinBound m input)
bound_told r m typed bounded input = along r (λ outcome is. within_bound m typed bounded input outcome is)
