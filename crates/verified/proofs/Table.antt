-- The table of the host's functions, and what `==` on types says.
use Rattle.std.proofs.Common.{◌≡◌, ℕ, Bool, true, false, List, [], ◌∷◌, Option, Some, None, find, cond, bytes_eq, if◌then◌else◌, refl, ap, sym, ◌∙◌, Decides}
use Rattle.std.proofs.lemmas.Slice.Eq.{bytes_eq-Decides, slice_eq-Decides}
use lib.Pointwise.{pointwise}
use Rattle.wasm_ast.specs.declared.types.ValType.{ValType}
use Rattle.wasm_ast.specs.declared.types.ValType.TheVariants.{I32, I64}
use Rattle.wasm_ast.specs.declared.types.FuncType.{FuncType}
use Rattle.wasm_ast.specs.contracts.types.ValTypePartialEq.TheImpl.{eq-value}
use Rattle.verified.specs.declared.imports.HostCall.{HostCall}
use Rattle.verified.specs.Imports.{module_name, name_of, all_calls, call_named}

same_type-Decides : (s t : ValType) → Decides (eq-value.it s t) (s ≡ t)
same_type-Decides I32 I32 = (λ e. refl, λ e. refl)
same_type-Decides I32 I64 = (λ e. absurd cc, λ e. absurd cc)
same_type-Decides I64 I32 = (λ e. absurd cc, λ e. absurd cc)
same_type-Decides I64 I64 = (λ e. refl, λ e. refl)

pub same_types-Decides : (ss ts : List ValType) (b : Bool) → b ≡ pointwise eq-value.it ss ts → Decides b (ss ≡ ts)
same_types-Decides = slice_eq-Decides same_type-Decides

function_type : List ValType → List ValType → FuncType
function_type parameters results = record { parameters = parameters; results = results }

pub same_type_of : (t u : FuncType) (b : Bool) → t.parameters ≡ u.parameters → Decides b (t.results ≡ u.results) → Decides b (t ≡ u)
unfolding function_type
same_type_of t u b same d = (
  λ holds. ap (λ parameters. function_type parameters t.results) same ∙ ap (function_type u.parameters) (d.0 holds),
  λ e. d.1 (ap (λ (other : FuncType). other.results) e),
)

-- what is found passes the test
found_first : {X : Type 0} (test : X → Bool) (y : X) (rest : Option X) (x : X) (b : Bool) → (rest ≡ Some x → test x ≡ true) → test y ≡ b → cond b (Some y) rest ≡ Some x → test x ≡ true
found_first test y rest x true later passes e = let same : y ≡ x = cc in rw (← same) passes
found_first test y rest x false later fails e = later e

found_passes : {X : Type 0} (test : X → Bool) (xs : List X) (x : X) → find test xs ≡ Some x → test x ≡ true
found_passes test [] x e = absurd cc
found_passes test (y ∷ ys) x e = found_first test y (find test ys) x (test y) (found_passes test ys x) refl e

in_table : (b : Bool) («module» name : List ℕ) (call : HostCall) → Decides b («module» ≡ module_name) → (if b then find (λ call. bytes_eq (name_of call) name) all_calls else None) ≡ Some call → («module» ≡ module_name) × (name ≡ name_of call)
in_table true «module» name call d e =
    (d.0 refl, sym ((bytes_eq-Decides (name_of call) name).0 (found_passes (λ call. bytes_eq (name_of call) name) all_calls call e)))
in_table false «module» name call d e = absurd cc

pub only_named : («module» name : List ℕ) (call : HostCall) → call_named «module» name ≡ Some call → («module» ≡ module_name) × (name ≡ name_of call)
only_named «module» name call e = in_table (bytes_eq «module» module_name) «module» name call (bytes_eq-Decides «module» module_name) e

-- a function of module `pregel` is looked for by its name
pub named_in_table : («module» name : List ℕ) (found : Option HostCall) → true ≡ bytes_eq «module» module_name → found ≡ find (λ call. bytes_eq (name_of call) name) all_calls → found ≡ call_named «module» name
named_in_table «module» name found ours is = is ∙ ap (λ (b : Bool). if b then find (λ call. bytes_eq (name_of call) name) all_calls else None) ours
