use Rattle.std.proofs.Common.{◌≡◌, ℕ, List, OnOk, subst}
use Rattle.wasm_items.specs.Canonical.{table_bytes}
use Rattle.wasm_decode.specs.Canonical.{vector_section}
use Rattle.wasm_decode.specs.inside.WritingModule.{declarations_bytes}
use Rattle.wasm_decode.proofs.CanonicalSections.{four_in_order}
use Rattle.wasm_decode.proofs.encoder.modules.write_declarations.Goals as goal

pub returns : goal.returns
unfolding declarations_bytes
returns c =
    let o1 = rw c.as_slice.ensures at c.in_ok-write_vector_section.ensures in
    let o2 = rw c.as_slice-2.ensures at c.in_ok-write_vector_section-2.ensures in
    let o3 = rw c.as_slice-3.ensures at c.in_ok-write_vector_section-3.ensures in
    let last = rw c.as_slice-4.ensures at c.write_table_section.ensures in
    let all = four_in_order c.args.out.now.items _ _ _ _ _ _ (vector_section 4 table_bytes c.args.module.now.tables) o1 o2 o3 in
    subst (λ (xs : List ℕ). OnOk c.write_table_section.result (c.write_table_section.new.out.items ≡ xs)) all last
