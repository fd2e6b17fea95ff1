use Rattle.std.proofs.Common.{◌≡◌, ℕ, List, OnOk, subst}
use Rattle.wasm_decode.proofs.CanonicalSections.{groups_in_order}
use Rattle.wasm_decode.proofs.encoder.modules.write_sections.Goals as goal

pub returns : goal.returns
returns c =
    let all = groups_in_order c.args.module.now c.args.out.now.items _ _ c.in_ok-write_declarations.ensures c.in_ok-write_spaces.ensures in
    subst (λ (xs : List ℕ). OnOk c.write_contents.result (c.write_contents.new.out.items ≡ xs)) all c.write_contents.ensures
