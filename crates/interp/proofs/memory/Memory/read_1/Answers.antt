use Rattle.std.proofs.Common.{◌≡◌, Some, drop, length, take, true, sym, ap, ◌∙◌, arith}
use Rattle.semantics.specs.Memory.{number_of_bytes}
use Rattle.interp.specs.inside.Kept.{is_kept, kept_read, spread}
use Rattle.semantics.specs.inside.Touched.{marks}
use Rattle.interp.proofs.Kept.{place_within, read_spread, spread_there}
use Rattle.interp.proofs.memory.Memory.read_1.Goals as goal

pub kept_place-requires : goal.kept_place-requires
kept_place-requires c =
    let m = c.self.inside.verified.now in
    let bs = c.self.inside.bytes.items in
    let kept : is_kept c.args.place 1 (spread (marks m) bs) ≡ true = ap (is_kept c.args.place 1) c.self.view_is ∙ c.requires in
    omega (arith, place_within m bs c.args.place 1 kept)

pub number_1-requires : goal.number_1-requires
number_1-requires c =
    let m = c.self.inside.verified.now in
    let bs = c.self.inside.bytes.items in
    let kept : is_kept c.args.place 1 (spread (marks m) bs) ≡ true = ap (is_kept c.args.place 1) c.self.view_is ∙ c.requires in
    omega (arith, spread_there (marks m) bs c.args.place 1 kept (omega arith), c.kept_place.ensures.place, ap length c.as_slice.ensures.value)

pub returns : goal.returns
returns c =
    let m = c.self.inside.verified.now in
    let bs = c.self.inside.bytes.items in
    let kept : is_kept c.args.place 1 (spread (marks m) bs) ≡ true = ap (is_kept c.args.place 1) c.self.view_is ∙ c.requires in
    sym (ap (kept_read c.args.place 1) c.self.view_is)
    ∙ read_spread (marks m) bs c.args.place 1 kept
    ∙ ap (λ k. Some (number_of_bytes (take 1 (drop k bs)))) (sym c.kept_place.ensures.place)
    ∙ ap (λ l. Some (number_of_bytes (take 1 (drop c.kept_place.result l)))) (sym c.as_slice.ensures.value)
    ∙ ap (λ n. Some n) (sym c.number_1.ensures)
