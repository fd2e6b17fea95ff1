use Rattle.std.proofs.Common.{◌≡◌, ℕ, List, OnOk, subst}
use Rattle.wasm_items.specs.Canonical.{data_bytes}
use Rattle.wasm_decode.specs.Canonical.{vector_section}
use Rattle.wasm_decode.specs.inside.WritingModule.{contents_bytes}
use Rattle.wasm_decode.proofs.CanonicalSections.{three_in_order}
use Rattle.wasm_decode.proofs.encoder.modules.write_contents.Goals as goal

pub returns : goal.returns
unfolding contents_bytes
returns c =
    let o1 = rw c.as_slice.ensures at c.in_ok-write_vector_section.ensures in
    let o2 = rw c.as_slice-2.ensures at c.in_ok-write_code_section.ensures in
    let last = rw c.as_slice-3.ensures at c.write_vector_section-2.ensures in
    let all = three_in_order c.args.out.now.items _ _ _ _ (vector_section 11 data_bytes c.args.module.now.data) o1 o2 in
    subst (λ (xs : List ℕ). OnOk c.write_vector_section-2.result (c.write_vector_section-2.new.out.items ≡ xs)) all last
