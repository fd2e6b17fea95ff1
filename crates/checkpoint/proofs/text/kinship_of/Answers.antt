use Rattle.std.proofs.Common.{◌∙◌, Some, ap, sym}
use Rattle.std.proofs.lemmas.Bool.{not-false}
use Rattle.std.proofs.lemmas.Slice.Eq.{bytes_eq-Decides}
use Rattle.checkpoint.proofs.text.kinship_of.Goals as goal

pub returns : goal.returns
returns c =
    let own = (bytes_eq-Decides c.in-Some.module.now c.as_str.result.now).0 (not-false _ (sym c.if-ne.ensures)) in
    let graph = (bytes_eq-Decides c.in-Some-text_of.graph.now c.as_str-2.result.now).0 (not-false _ (sym c.if-ne-2.ensures)) in
    record {
      of_module = sym c.in-Some.ensures ∙ ap Some (own ∙ c.as_str.ensures.value ∙ c.in_ok-own.ensures);
      of_graph = sym c.in-Some-text_of.ensures ∙ ap Some (graph ∙ c.as_str-2.ensures.value ∙ c.in_ok-own-2.ensures);
    }
