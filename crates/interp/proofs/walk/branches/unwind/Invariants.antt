use Rattle.std.proofs.Common.{◌≡◌, ◌-◌, length, reverse, true, vec_capacity, Option}
use Rattle.wasm_ast.specs.declared.types.Value.{Value}
use Rattle.semantics.specs.Machine.{jump}
use Rattle.semantics.specs.Configuration.{State}
use Rattle.interp.specs.inside.Going.{has_labels}
use Rattle.interp.specs.inside.Meaning.{entries_of, Ordered}
use Rattle.interp.specs.inside.Split.{HasSpare}
use Rattle.interp.proofs.walk.branches.unwind.Given as goal

abbrev pub invariant-loop : goal.invariant-loop
invariant-loop l = record {
  ordered : Ordered (reverse l.entries.items) (length l.operands.below.values) (length l.locals.below.values);
  there : has_labels (l.labels - l.counter) (entries_of (reverse l.entries.items) l.operands.below.values l.locals.below.values) ≡ true;
  jump : (top : Option Value) (st : State) → jump l.labels top (entries_of (reverse l.initial.entries.items) l.initial.operands.below.values l.locals.below.values) st ≡ jump (l.labels - l.counter) top (entries_of (reverse l.entries.items) l.operands.below.values l.locals.below.values) st;
  spare : HasSpare l.initial.operands → HasSpare l.operands;
  same : l.operands.below.room ≡ l.initial.operands.below.room;
  room : vec_capacity l.entries ≡ vec_capacity l.initial.entries;
}
