-- The bounded profile: modules whose every call ends within a bound that is known before the call.
use Rattle.std.specs.Prelude.{◌≡◌, ℕ, ◌-◌, ◌≤◌, Bool, true, false, [], slice_get, Contains, Some, None, codes}
use Rattle.std.specs.List.{AllByRecursion}
use Rattle.wasm_ast.specs.declared.types.FuncType.{FuncType}
use Rattle.wasm_ast.specs.declared.module.ExportDescription.TheVariants as export
use Rattle.wasm_ast.specs.declared.module.Export.{Export}
use Rattle.wasm_ast.specs.declared.module.Function.{Function}
use Rattle.wasm_ast.specs.declared.module.Module.{Module}
use Rattle.wasm_ast.specs.Code.{Code}
use Rattle.wasm_ast.specs.Limits.{imported_functions}
use Rattle.verified.specs.Calls.{callees}
use Rattle.verified.specs.Cycles.{Acyclic}
use Rattle.verified.specs.Sizes.{AreSizes, max_size}
use Rattle.verified.specs.declared.requirements.Premise.{Premise}
use Rattle.verified.specs.declared.requirements.Premise.TheVariants.{Reaches, Divides, DividesSigned, IsSlot}
use Rattle.verified.specs.Hosts.{IsHostImport, host_call_at}
use Rattle.verified.specs.Known.{ConstantsKnown}
use Rattle.verified.specs.Memory.{MinimumsWithin, SegmentsWithin}
use Rattle.verified.specs.Shapes.{Everywhere, NotIndirect, NotUnreachable, NotGrow, LastIfBranch, LoopTakes}

-- P1: each import is a function of the host, with its type
abbrev pub ImportsHostCalls : Module → Type 0
ImportsHostCalls m = AllByRecursion (IsHostImport m) m.imports

abbrev pub compute_export : ℕ → Export
compute_export f = record { name = codes "compute"; description = export.Function f }

-- no parameters and no results
abbrev pub plain_type : FuncType
plain_type = record { parameters = []; results = [] }

-- the function has no parameters and no results
abbrev pub HasPlainType : Module → Function → Type 0
HasPlainType m function = slice_get m.types function.type_number ≡ Some plain_type

-- P2: `compute` is a function that the module defines, without parameters and results
pub record HasCompute (m : Module) : Type 0 where
  pub number : ℕ
  pub function : Function
  pub exported : Contains m.exports (compute_export number)
  pub past_imports : imported_functions m.imports ≤ number
  pub defined : slice_get m.functions (number - imported_functions m.imports) ≡ Some function
  pub typed : HasPlainType m function

-- P3: there is no start function
abbrev pub NoStart : Module → Type 0
NoStart m = m.start ≡ None

-- P4: there are no elements
abbrev pub NoElements : Module → Type 0
NoElements m = m.elements ≡ []

abbrev pub EachBody : (Code → Type 0) → Module → Type 0
EachBody P m = AllByRecursion (λ (f : Function). Everywhere P f.body) m.functions

-- P5: there is no `call_indirect`
abbrev pub NoIndirectCalls : Module → Type 0
NoIndirectCalls m = EachBody NotIndirect m

-- P6: there is no `unreachable`
abbrev pub NoUnreachable : Module → Type 0
NoUnreachable m = EachBody NotUnreachable m

-- P7: there is no `memory.grow`
abbrev pub NoGrowth : Module → Type 0
NoGrowth m = EachBody NotGrow m

-- P8: nothing comes after `br`, `br_table` or `return` in a sequence
abbrev pub NothingAfterBranches : Module → Type 0
NothingAfterBranches m = EachBody LastIfBranch m

-- P9: each loop takes an item each time round, at its beginning or at its end
abbrev pub LoopsTakeItems : Module → Type 0
LoopsTakeItems m = EachBody (LoopTakes (host_call_at m)) m

-- P10, except for loads and stores: the memory is small, and the data segments are in it
pub record AddressesWithin (m : Module) : Type 0 where
  pub minimums : MinimumsWithin m
  pub segments : SegmentsWithin m

-- the premises of each rule
abbrev pub asks_addresses : Premise → Bool
asks_addresses (Reaches offset width) = true
asks_addresses _ = false

abbrev pub asks_divisors : Premise → Bool
asks_divisors Divides = true
asks_divisors DividesSigned = true
asks_divisors _ = false

abbrev pub asks_slots : Premise → Bool
asks_slots IsSlot = true
asks_slots _ = false

abbrev pub asks_all : Premise → Bool
asks_all p = true

-- P11, P13 and the loads and stores of P10 in one typing: addresses, divisors and numbers of aggregators are known
-- constants
abbrev pub AllKnown : Module → Type 0
AllKnown m = ConstantsKnown asks_all m

-- P12: no function calls itself, directly or through others
abbrev pub NoCycles : Module → Type 0
NoCycles m = Acyclic (callees m)

-- P14: the size with calls inlined is at most `max_size`. Where no function calls itself, each function has one size.
abbrev pub SizeWithin : Module → ℕ → Type 0
SizeWithin m f = (sizes : ℕ → ℕ) → AreSizes m sizes → sizes f ≤ max_size

-- all rules
pub record IsBounded (m : Module) : Type 0 where
  pub imports : ImportsHostCalls m
  pub compute : HasCompute m
  pub start : NoStart m
  pub elements : NoElements m
  pub direct : NoIndirectCalls m
  pub reached : NoUnreachable m
  pub steady : NoGrowth m
  pub ordered : NothingAfterBranches m
  pub loops : LoopsTakeItems m
  pub addresses : AddressesWithin m
  pub constants : AllKnown m
  pub acyclic : NoCycles m
  pub size : SizeWithin m compute.number
