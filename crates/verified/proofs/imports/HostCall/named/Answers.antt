use Rattle.std.proofs.Common.{◌≡◌, find, option_map, bytes_eq, rules, tests, sym, ◌∙◌}
use Rattle.std.proofs.lemmas.Iterator.{YieldsList-from_slice}
use Rattle.std.proofs.lemmas.Iterator.Adapters.{option_map_id}
use Rattle.std.proofs.lemmas.Iterator.Consumers.{YieldsList-from_copied}
use Rattle.std.proofs.lemmas.Iterator.Search.{find_from_yields_List}
use Rattle.verified.specs.Imports.{name_of, all_calls}
use Rattle.verified.proofs.Table.{named_in_table}
use Rattle.verified.proofs.imports.HostCall.named.Goals as goal

pub returns-then-eq : goal.returns-then-eq
returns-then-eq c =
    let found : option_map (λ call. call) c.find.result ≡ find (λ call. bytes_eq (name_of call) c.args.name.now) all_calls =
    find_from_yields_List (λ call. bytes_eq (name_of call) c.args.name.now) _ _ c.find.result c.find.ensures.ran (YieldsList-from_copied (YieldsList-from_slice all_calls cc)) (λ x b q k. search (rules, tests)) in
    named_in_table c.args.module.now c.args.name.now c.find.result c.if-eq.ensures (sym (option_map_id c.find.result) ∙ found)
