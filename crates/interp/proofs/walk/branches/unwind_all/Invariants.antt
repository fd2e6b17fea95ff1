use Rattle.std.proofs.Common.{◌≡◌, length, reverse, vec_capacity, Option}
use Rattle.wasm_ast.specs.declared.types.Value.{Value}
use Rattle.semantics.specs.Machine.{back}
use Rattle.semantics.specs.Configuration.{State}
use Rattle.interp.specs.inside.Meaning.{entries_of, Ordered}
use Rattle.interp.specs.inside.Split.{HasSpare}
use Rattle.interp.proofs.walk.branches.unwind_all.Given as goal

abbrev pub invariant-loop-floor : goal.invariant-loop-floor
invariant-loop-floor l = record {
  ordered : Ordered (reverse l.entries.items) (length l.operands.below.values) (length l.locals.below.values);
  back : (top : Option Value) (st : State) → back top (entries_of (reverse l.initial.entries.items) l.initial.operands.below.values l.locals.below.values) st ≡ back top (entries_of (reverse l.entries.items) l.operands.below.values l.locals.below.values) st;
  spare : HasSpare l.initial.operands → HasSpare l.operands;
  same : l.operands.below.room ≡ l.initial.operands.below.room;
  room : vec_capacity l.entries ≡ vec_capacity l.initial.entries;
}

abbrev pub decreases-loop-floor : goal.decreases-loop-floor
decreases-loop-floor l = length (reverse l.entries.items)
