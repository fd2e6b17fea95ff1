-- States that fit the function that runs, and effects that keep them so.
use Rattle.std.proofs.Common.{◌≡◌, ℕ, ◌+◌, List, refl, arith}
use Rattle.wasm_ast.specs.declared.types.ValType.{ValType}
use Rattle.wasm_ast.specs.declared.types.Value.{Value}
use Rattle.wasm_ast.specs.declared.module.Module.{Module}
use Rattle.verified.specs.Kinds.{Kind, AllForget}
use Rattle.semantics.specs.Configuration.{State, tick, Effect, Gives}
pub use Rattle.semantics.specs.Typed.{Sound, global_types, items_left}
use Rattle.semantics.proofs.Values.{HasKinds, forget_all}

-- the effect gives operands of these kinds, keeps the state sound, may take items, and counts nothing more
pub record Given (m : Module) (locals : List ValType) (effect : Effect) (st : State) (to : List Kind) : Type 0 where
  pub values : List Value
  pub state : State
  pub gives : effect ≡ Gives values state
  pub kinds : HasKinds values to
  pub sound : Sound m locals state
  pub taken : ℕ
  pub items : items_left st.host ≡ taken + items_left state.host
  pub counts : state.count ≡ st.count

module _ (m : Module) (ls : List ValType) where
  -- only the operands change
  pub same_state : (effect : Effect) (st : State) (to : List Kind) (vs : List Value) → effect ≡ Gives vs st → HasKinds vs to → Sound m ls st → Given m ls effect st to
  same_state effect st to vs e h s = record { values = vs; state = st; gives = e; kinds = h; sound = s; taken = 0; items = omega arith; counts = refl }

  pub given_forget : (effect : Effect) (st : State) (to mid : List Kind) → Given m ls effect st to → AllForget to mid → Given m ls effect st mid
  given_forget effect st to mid g a =
      record { values = g.values; state = g.state; gives = g.gives; kinds = forget_all g.values to mid a g.kinds; sound = g.sound; taken = g.taken; items = g.items; counts = g.counts }

  pub ticked : (u : ℕ) (st : State) → Sound m ls st → Sound m ls (tick u st)
  ticked u st s = record { locals_typed = s.locals_typed; globals_typed = s.globals_typed; bytes_there = s.bytes_there }
