use Rattle.std.proofs.Common.{◌≡◌, ◌↔◌, ℕ, ◌≤◌, List, length, drop, IsTrue, nat_le, sym, ◌∙◌, arith}
use Rattle.std.proofs.lemmas.Bool.Decides.{nat_tests}
use Rattle.wasm_ast.specs.declared.body.Instr.{Instr}
use Rattle.wasm_ast.specs.Falls.{item_falls}
use Rattle.wasm_ast.specs.View.{code_of}
use Rattle.wasm_ast.proofs.Codes.{code_done, code_over}
use Rattle.wasm_ast.proofs.same.+same.Goals as goal

pub are_same_bodies-are_same_instrs-requires : goal.are_same_bodies-are_same_instrs-requires
are_same_bodies-are_same_instrs-requires t c =
    let f = item_falls c.as_slice-instrs.result.now c.loop-place.place c.index-instrs-place.result c.args.left.now c.loop-place-test.true c.index-instrs-place.is c.as_slice-instrs.ensures in
    (omega (arith, f, c.decreases), tt)

-- where the first have come to their end, the others have none left over
at_end : (is others : List Instr) (k : ℕ) → length is ≤ k → k ≤ length is → (code_of is ≡ code_of others) ↔ (code_of (drop k is) ≡ code_of (drop k others))
    → IsTrue (nat_le (length others) (length is)) ↔ (code_of is ≡ code_of others)
at_end is others k past within so_far = (
  λ b. let few : length others ≤ length is = grind (arith, nat_tests, b) in
      so_far.1 (code_done is k past ∙ sym (code_done others k (omega arith))),
  λ e. let few : length others ≤ k = code_over others k (sym (so_far.0 e) ∙ code_done is k past) in
      grind (arith, nat_tests, few, within),
)

pub are_same_bodies-returns : goal.are_same_bodies-returns
are_same_bodies-returns t c =
    let last = at_end c.as_slice-instrs.result.now c.as_slice-others.result.now c.loop-place.place c.loop-place-test.false c.loop-place.auto.place-end c.loop-place.invariant in (
      λ b. sym c.as_slice-instrs.ensures ∙ last.0 b ∙ c.as_slice-others.ensures,
      λ e. last.1 (c.as_slice-instrs.ensures ∙ e ∙ sym c.as_slice-others.ensures),
    )
