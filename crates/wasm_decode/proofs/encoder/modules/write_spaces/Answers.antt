use Rattle.std.proofs.Common.{◌≡◌, ℕ, List, OnOk, subst}
use Rattle.wasm_decode.specs.Canonical.{start_section}
use Rattle.wasm_decode.specs.inside.WritingModule.{spaces_bytes}
use Rattle.wasm_decode.proofs.CanonicalSections.{four_in_order}
use Rattle.wasm_decode.proofs.encoder.modules.write_spaces.Goals as goal

pub returns : goal.returns
unfolding spaces_bytes
returns c =
    let o1 = rw c.as_slice.ensures at c.in_ok-write_vector_section.ensures in
    let o2 = rw c.as_slice-2.ensures at c.in_ok-write_vector_section-2.ensures in
    let o3 = rw c.as_slice-3.ensures at c.in_ok-write_vector_section-3.ensures in
    let all = four_in_order c.args.out.now.items _ _ _ _ _ _ (start_section c.args.module.now.start) o1 o2 o3 in
    subst (λ (xs : List ℕ). OnOk c.write_start_section.result (c.write_start_section.new.out.items ≡ xs)) all c.write_start_section.ensures
