-- Single sequences: where they are left, and what they count.
use Rattle.std.proofs.Common.{ℕ, zero, suc, ◌+◌, ◌≤◌, Bool, true, false, List, [], ◌∷◌, length, map, Option, Some, None, arith}
use Rattle.wasm_ast.specs.declared.types.ValType.{ValType}
use Rattle.wasm_ast.specs.declared.types.Value.{Value}
use Rattle.wasm_ast.specs.declared.module.Module.{Module}
use Rattle.wasm_ast.specs.Code.{Code}
use Rattle.wasm_ast.specs.Code as code
use Rattle.verified.specs.Calls.{calls_of}
use Rattle.verified.specs.CallHeights.{most}
use Rattle.verified.specs.Sizes.{code_size}
use Rattle.verified.specs.Arities.{arity_table}
use Rattle.verified.specs.Heights.{peak}
use Rattle.verified.specs.Kinds.{Kind}
use Rattle.verified.specs.Reached.{accesses, accesses_along}
use Rattle.semantics.specs.Configuration.{State}
use Rattle.semantics.specs.Heights.{beneath, operands, callers, frames}
use Rattle.semantics.specs.Machine.{ControlEntry, Label, Frame, Running, landed, carry, arrive, jump, back}
use Rattle.interp.specs.Sequences.{SequencesCount}
use Rattle.semantics.proofs.Values.{kinds_length}
use Rattle.interp.proofs.Guarded.{Told, counts}
use Rattle.semantics.proofs.Reach.{Exit, Falls, Branches, Returns, Fits, IsLow, Named, Reaches, arrives}
use Rattle.semantics.proofs.Plains.{context}
use Rattle.semantics.proofs.Covering.{Anywhere, anywhere, anywhere_met, covered, operand_of, own_known}
use Rattle.semantics.proofs.Induction.{code_good}
use Rattle.semantics.proofs.Fairness.{fair, below_most}
use Rattle.semantics.proofs.Fixed.{depths_there, heights_there}
use Rattle.semantics.proofs.Whole.{function_good}

-- ---- a branch brings no more operands and frames than lie round the sequence, but for the one that it carries

landed_low : (keeps : Bool) (top : Option Value) (below : List Value) (is : Code) (ls : List ControlEntry) (st : State) → (operands (landed (carry keeps top below) is ls st) ≤ 1 + (length below + beneath ls)) × (frames (landed (carry keeps top below) is ls st) ≤ 1 + callers ls)
landed_low false top below is ls st = (omega arith, omega arith)
landed_low true None below is ls st = (omega arith, omega arith)
landed_low true (Some v) below is ls st = (omega arith, omega arith)

arrive_low : (top : Option Value) (ls : List ControlEntry) (st : State) → (operands (arrive top ls st) ≤ 1 + beneath ls) × (frames (arrive top ls st) ≤ 1 + callers ls)
arrive_low top [] st = (omega arith, omega arith)
arrive_low top (Label keeps below target after ∷ ls) st = landed_low keeps top below target ls st
arrive_low top (Frame keeps xs below after ∷ ls) st =
    let p = landed_low keeps top below after ls (record st { locals = xs }) in (p.0, omega (arith, p.1))

jump_low : (l : ℕ) (top : Option Value) (ls : List ControlEntry) (st : State) → (operands (jump l top ls st) ≤ 1 + beneath ls) × (frames (jump l top ls st) ≤ 1 + callers ls)
jump_low zero top ls st = arrive_low top ls st
jump_low (suc l) top [] st = (omega arith, omega arith)
jump_low (suc l) top (Label keeps below target after ∷ ls) st =
    let p = jump_low l top ls st in (omega (arith, p.0), p.1)
jump_low (suc l) top (Frame keeps xs below after ∷ ls) st = (omega arith, omega arith)

back_low : (top : Option Value) (ls : List ControlEntry) (st : State) → (operands (back top ls st) ≤ 1 + beneath ls) × (frames (back top ls st) ≤ 1 + callers ls)
back_low top [] st = (omega arith, omega arith)
back_low top (Label keeps below target after ∷ ls) st = let p = back_low top ls st in (omega (arith, p.0), p.1)
back_low top (Frame keeps xs below after ∷ ls) st = arrive_low top (Frame keeps xs below after ∷ ls) st

-- ---- where a sequence is left

module _ (m : Module) (H F : ℕ) (locals : List ValType) (outcome : Option ValType) (labels : List (Option ValType)) (N : ℕ → Type 0) (size : ℕ) (is : Code) (vs : List Value) (ls : List ControlEntry) (st : State) (to : List Kind) (room : 1 + (length to + beneath ls) ≤ H) (deep : 1 + callers ls ≤ F) where
  low_at : (e : Exit) (final : State) → Fits (context m locals outcome labels) to e → IsLow H F Anywhere (arrives e code.end ls final)
  low_at (Falls us) final fits = let n = kinds_length us to fits in (omega (arith, n, room), omega (arith, deep), tt)
  low_at (Branches l top) final fits =
      let n = jump_low l top ls final in (omega (arith, n.0, room), omega (arith, n.1, deep), anywhere (jump l top ls final))
  low_at (Returns top) final fits =
      let n = back_low top ls final in (omega (arith, n.0, room), omega (arith, n.1, deep), anywhere (back top ls final))

  told_at : Reaches m H F Anywhere (context m locals outcome labels) N size (Running vs is ls st) code.end ls st to → Told m locals outcome labels to size is vs st ls
  told_at r =
      let q = r.1 in
      let a = q.by 0 (low_at r.0 q.final q.fits) in
      record { exit = r.0; steps = a.0; final = q.final; there = a.2; fits = q.fits; sound = q.sound; items = q.taken; taken = q.items; within = q.cost }

pub sequences_count : (m : Module) → SequencesCount m
sequences_count m typed bounded sizes are_sizes locals outcome labels is from to b vs ls st h s =
    counts m locals outcome labels to (code_size m sizes is) is vs st told ls
  where
    told : (ls : List ControlEntry) → Told m locals outcome labels to (code_size m sizes is) is vs st ls
    told ls =
        let hs = heights_there m bounded.acyclic in
        let ds = depths_there m bounded.acyclic in
        let r = 1 + most ds.0 (calls_of is) in
        let H = beneath ls + (peak m hs.0 is (length from) + (length to + 1)) in
        let F = callers ls + (r + 1) in
        let fair_is = fair m ds.0 r is b.direct b.reached b.steady b.loops (below_most ds.0 (calls_of is) r (omega arith)) in
        let good = code_good m bounded.imports typed.types H F Anywhere sizes hs.0 ds.0 locals outcome r (omega arith) (λ f t less g. function_good m typed bounded sizes hs.0 ds.0 are_sizes hs.1 ds.1 H F Anywhere (anywhere_met m (accesses m)) (suc (ds.0 f)) f t g (omega arith)) is labels from to b.known fair_is (covered m Anywhere typed.types locals outcome is labels from to (map operand_of from) b.known (own_known from) (anywhere_met m (accesses_along (arity_table m) is (map operand_of from)))) in
        told_at m H F locals outcome labels (Named is) (code_size m sizes is) is vs ls st to (omega arith) (omega arith) (good vs ls st h s (omega arith) (omega arith))
