-- A walk over cells follows a run over values.
use Rattle.std.proofs.Common.{◌≡◌, ℕ, suc, ◌+◌, ◌-◌, ◌*◌, ◌<◌, ◌≤◌, Bool, List, [], ◌∷◌, length, map, true, false, refl, sym, ap, ◌∙◌, subst, arith}
use Rattle.std.proofs.lemmas.List.{length-map}
use Rattle.wasm_ast.specs.declared.module.Module.{Module}
use Rattle.wasm_ast.specs.declared.types.Value.{Value}
use Rattle.wasm_ast.specs.Code.{Code}
use Rattle.wasm_ast.specs.Code as code
use Rattle.semantics.specs.Configuration.{State}
use Rattle.semantics.specs.Heights.{beneath, held, entries, locals, operands}
use Rattle.semantics.specs.Machine.{Machine, Running, Done, Trapped, Stuck, ControlEntry, Label, Frame, advance, next_units, run}
use Rattle.interp.specs.inside.Cells.{cell_advance, cell_of, cells, cells_entry, cells_place, cells_state, in_width, of_any_width}
use Rattle.interp.specs.inside.Fits.{MachineFits}
use Rattle.interp.specs.inside.Given.{HasGiven}
use Rattle.interp.specs.inside.Going.{is_going}
use Rattle.semantics.specs.inside.Touched.{AreMarked, Touches, marks}
use Rattle.interp.specs.inside.Place.{HasFrameRoom, Place, Room, Standing, at, running, state_of}
use Rattle.interp.specs.inside.Walk.{BeginsAgain, EndsWithin, Finishes, Follows, IsWithinRoom, left_of}
use Rattle.interp.proofs.Cells.{step_follows, step_kept}
use Rattle.interp.proofs.Falling.{falls}
use Rattle.interp.proofs.Ending.{comes_on, finishes, goes, room}
use Rattle.semantics.proofs.RunLaws.{run_on}

going_as_cells : (ms : List Bool) (x : Machine) → is_going (cells ms x) ≡ is_going x
going_as_cells ms (Running vs is ls st) = refl
going_as_cells ms (Done st) = refl
going_as_cells ms (Trapped count) = refl
going_as_cells ms (Stuck count) = refl

-- the place of a machine that runs
abbrev place_of : Place → Machine → Place
place_of p (Running vs is ls st) = record { values = vs; code = is; entries = ls; state = st }
place_of p (Done st) = p
place_of p (Trapped count) = p
place_of p (Stuck count) = p

abbrev final_of : State → Machine → State
final_of st (Running vs is ls s) = st
final_of st (Done final) = final
final_of st (Trapped count) = st
final_of st (Stuck count) = st

left_as_cells : (ms : List Bool) (most : ℕ) (p : Place) → left_of most (cells_place ms p) ≡ left_of most p
left_as_cells ms most p = ap (λ (n : ℕ). 2 * (most - p.state.count) + n) (length-map p.entries cells_entry)

-- the result of a step over values that goes on
record Stepped (m : Module) (from next : Place) : Type 0 where
  place : Place
  there : advance m (running from) ≡ running place
  fits : MachineFits (running place)
  is : cells_place (marks m) place ≡ next

stepped : (m : Module) (from next : Place) (x : Machine) → advance m (running from) ≡ x → MachineFits x → running next ≡ cells (marks m) x → Stepped m from next
stepped m from next (Running vs is ls st) s f e = record {
  place = record { values = vs; code = is; entries = ls; state = st };
  there = s;
  fits = f;
  is = sym (ap (place_of next) e);
}
stepped m from next (Done st) s f e = absurd cc
stepped m from next (Trapped count) s f e = absurd cc
stepped m from next (Stuck count) s f e = absurd cc

done_as_cells : (m : Module) (from : Place) (final : State) (x : Machine) → advance m (running from) ≡ x → Done final ≡ cells (marks m) x → (st : State) × (advance m (running from) ≡ Done st) × (cells_state (marks m) st ≡ final)
done_as_cells m from final (Running vs is ls st) s e = absurd cc
done_as_cells m from final (Done st) s e = (st, s, sym (ap (final_of final) e))
done_as_cells m from final (Trapped count) s e = absurd cc
done_as_cells m from final (Stuck count) s e = absurd cc

module _ (m : Module) (from : Machine) (here : Place) (follows : Follows m from here) (most : ℕ) (ends : EndsWithin m from most) where
  goes_there : is_going (advance m (running follows.place)) ≡ true
  goes_there = goes m from follows.place follows.comes most ends

  -- what is loaded or stored there is reached
  touches_there : Touches (AreMarked (marks m)) (running follows.place)
  touches_there = subst (Touches (AreMarked (marks m))) follows.comes.there (ends.touches follows.comes.steps)

  -- there is a next step
  pub cell_goes : is_going (cell_advance of_any_width m (running here)) ≡ true
  cell_goes =
      ap (λ (p : Place). is_going (cell_advance of_any_width m (running p))) (sym follows.is)
      ∙ ap is_going (step_follows (marks m) m follows.place follows.fits touches_there goes_there) ∙ going_as_cells (marks m) (advance m (running follows.place)) ∙ goes_there

  -- what the next instruction counts is within what all of them count
  pub cell_room : here.state.count + next_units m here.code ≤ most
  cell_room = subst (λ (p : Place). p.state.count + next_units m p.code ≤ most) follows.is (room m from follows.place follows.comes most ends)

  kept : (y : Machine) → cell_advance in_width m (running here) ≡ y → is_going y ≡ true → (y ≡ cells (marks m) (advance m (running follows.place))) × MachineFits (advance m (running follows.place))
  kept y e g =
      let s : cell_advance in_width m (running (cells_place (marks m) follows.place)) ≡ y = ap (λ (p : Place). cell_advance in_width m (running p)) follows.is ∙ e in
      let k = step_kept (marks m) m follows.place follows.fits touches_there goes_there (ap is_going s ∙ g) in
      (sym s ∙ k.0, k.1)

  module _ (next : Place) (step : cell_advance in_width m (running here) ≡ running next) where
    turned : Stepped m follows.place next
    turned = let k = kept (running next) step refl in stepped m follows.place next (advance m (running follows.place)) refl k.1 k.0

    pub follows_on : Follows m from next
    follows_on =
        record { place = turned.place; comes = comes_on m from (running follows.place) (running turned.place) follows.comes turned.there; fits = turned.fits; is = turned.is }

    pub falls_on : left_of most next < left_of most here
    falls_on =
        let less = falls m most follows.place turned.place turned.there (room m from follows.place follows.comes most ends) in
        let before : left_of most here ≡ left_of most follows.place = ap (left_of most) (sym follows.is) ∙ left_as_cells (marks m) most follows.place in
        let after : left_of most next ≡ left_of most turned.place = ap (left_of most) (sym turned.is) ∙ left_as_cells (marks m) most turned.place in
        omega (arith, less, before, after)

  pub finishes_on : (final : State) → cell_advance in_width m (running here) ≡ Done final → (st : State) × Finishes m from st × (cells_state (marks m) st ≡ final)
  finishes_on final step =
      let k = kept (Done final) step refl in
      let d = done_as_cells m follows.place final (advance m (running follows.place)) refl k.0 in
      (d.0, finishes m from follows.place follows.comes d.0 d.1, d.2)

-- where a loop begins again, the machine takes two steps
module _ (m : Module) (from : Machine) (here : Place) (follows : Follows m from here) (most : ℕ) (ends : EndsWithin m from most) (body : Code) (s : Standing) (count : ℕ) (again : BeginsAgain (cell_advance in_width m (running here)) body s count) where
  abbrev loop_place : Place
  loop_place =
      record { values = again.values; code = code.loop again.block_type body again.after; entries = again.entries; state = state_of s count }

  loop_follows : Follows m from loop_place
  loop_follows = follows_on m from here follows most ends loop_place again.at_loop

  enters : cell_advance in_width m (running loop_place) ≡ running (at s body (count + 1))
  enters =
      ap (λ (vs : List Value). Running vs body (Label false again.values (code.loop again.block_type body again.after) again.after ∷ again.entries) (state_of s (count + 1))) (sym again.inside)
      ∙ ap (λ (ls : List ControlEntry). Running s.values body ls (state_of s (count + 1))) (sym again.label)

  pub again_room : count + 1 ≤ most
  again_room = cell_room m from loop_place loop_follows most ends

  pub again_follows : Follows m from (at s body (count + 1))
  again_follows = follows_on m from loop_place loop_follows most ends (at s body (count + 1)) enters

  pub again_falls : left_of most (at s body (count + 1)) < left_of most here
  again_falls =
      let first = falls_on m from here follows most ends loop_place again.at_loop in
      let second = falls_on m from loop_place loop_follows most ends (at s body (count + 1)) enters in
      omega (arith, first, second)

-- ---- what is sent

given_going : (x : Machine) → HasGiven x → is_going x ≡ true
given_going (Running vs is ls st) g = refl
given_going (Done st) g = refl
given_going (Trapped count) g = absurd g
given_going (Stuck count) g = absurd g

given_values : (ms : List Bool) (x : Machine) → HasGiven (cells ms x) → HasGiven x
given_values ms (Running vs is ls st) g = g
given_values ms (Done st) g = g
given_values ms (Trapped count) g = absurd g
given_values ms (Stuck count) g = absurd g

-- a step over cells that sends is one over values
pub gives_on : (m : Module) (from : Machine) (here : Place) → Follows m from here → (most : ℕ) → EndsWithin m from most → HasGiven (cell_advance in_width m (running here)) → (n : ℕ) × HasGiven (run m n from)
gives_on m from here follows most ends g =
    let k = kept m from here follows most ends (cell_advance in_width m (running here)) refl (given_going _ g) in
    let v = given_values (marks m) (advance m (running follows.place)) (subst HasGiven k.0 g) in
    let there = run_on m follows.comes.steps from (running follows.place) (advance m (running follows.place)) follows.comes.there refl in
    (suc follows.comes.steps, subst HasGiven (sym there) v)

-- ---- room

held_as_cells : (ls : List ControlEntry) → held (map cells_entry ls) ≡ held ls
held_as_cells [] = refl
held_as_cells (Label keeps vs t a ∷ ls) = held_as_cells ls
held_as_cells (Frame keeps xs vs a ∷ ls) = let l = length-map xs cell_of in let h = held_as_cells ls in omega (arith, l, h)

beneath_as_cells : (ls : List ControlEntry) → beneath (map cells_entry ls) ≡ beneath ls
beneath_as_cells [] = refl
beneath_as_cells (Label keeps vs t a ∷ ls) = let l = length-map vs cell_of in let h = beneath_as_cells ls in omega (arith, l, h)
beneath_as_cells (Frame keeps xs vs a ∷ ls) = let l = length-map vs cell_of in let h = beneath_as_cells ls in omega (arith, l, h)

-- where there are always fewer operands, there are here
pub fewer_here : (m : Module) (from : Machine) (here : Place) (bound : ℕ) → Follows m from here → ((n : ℕ) → operands (run m n from) < bound) → length here.values + beneath here.entries < bound
fewer_here m from here bound follows low =
    let p = follows.place in
    let w = low follows.comes.steps in
    let tall = ap (λ (x : Machine). operands x) follows.comes.there in
    let v = length-map p.values cell_of in
    let u = beneath_as_cells p.entries in
    let v' = ap (λ (q : Place). length q.values) follows.is in
    let u' = ap (λ (q : Place). beneath q.entries) follows.is in
    omega (arith, w, tall, v, u, v', u')

-- where there is always room for another operand and another frame, there is here
pub frame_room : (m : Module) (from : Machine) (s : Standing) (k : Code) (count : ℕ) (room : Room) → s.room ≡ room → Follows m from (at s k count) → ((n : ℕ) → IsWithinRoom room (run m n from)) → HasFrameRoom s
frame_room m from s k count room same follows low =
    let p = follows.place in
    let w = low follows.comes.steps in
    let few = ap (λ (x : Machine). entries x) follows.comes.there in
    let all = ap (λ (x : Machine). locals x) follows.comes.there in
    let tall = ap (λ (x : Machine). operands x) follows.comes.there in
    let v = length-map p.values cell_of in
    let u = beneath_as_cells p.entries in
    let v' = ap (λ (q : Place). length q.values) follows.is in
    let u' = ap (λ (q : Place). beneath q.entries) follows.is in
    let d = ap (λ (r : Room). r.operands) same in
    let l = length-map p.entries cells_entry in
    let n = length-map p.state.locals cell_of in
    let h = held_as_cells p.entries in
    let l' = ap (λ (q : Place). length q.entries) follows.is in
    let n' = ap (λ (q : Place). length q.state.locals) follows.is in
    let h' = ap (λ (q : Place). held q.entries) follows.is in
    let a = ap (λ (r : Room). r.entries) same in
    let b = ap (λ (r : Room). r.locals) same in
    record {
      entries = omega (arith, w.few_entries, few, l, l', a);
      operands = omega (arith, w.few_operands, tall, v, v', u, u', d);
      locals = omega (arith, w.few_locals, all, n, n', h, h', b);
    }
