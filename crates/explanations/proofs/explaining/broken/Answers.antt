use Rattle.std.proofs.Common.{◌∙◌, ◌++◌, ap, codes, string_bytes}
use Rattle.std.proofs.lemmas.Result.{IfOk-weaker}
use Rattle.profile_rules.specs.FaultText.{rule_word}
use Rattle.explanations.specs.Explanation.{advice_text}
use Rattle.explanations.proofs.explaining.broken.Goals as goal

pub returns : goal.returns
returns c =
    let advice = c.advice_of-advice.result in
    IfOk-weaker c.ruled.result _ _ (λ told is. record {
      advice = advice;
      shown = string_bytes c.in_ok-seen.seen.text;
      place = c.in_ok-seen.ensures;
      joined = is ∙ ap (λ place. (codes "Rule " ++ rule_word c.args.rule ++ codes ": ") ++ (advice_text advice ++ place)) c.as_str.ensures.value;
    }) c.ruled.ensures
