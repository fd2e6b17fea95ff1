use Rattle.std.proofs.Common.{inl, inr, subst}
use Rattle.std.specs.String.{string_bytes}
use Rattle.conversions.specs.graph_import.Import.{IsImport, format_in}
use Rattle.sources.proofs.Faults.{is_fault}
use Rattle.conversions.proofs.importing.made_in.Goals as goal

pub returns-in_err-text-clause-found : goal.returns-in_err-text-clause-found
returns-in_err-text-clause-found g c = rw (is_fault _ _ c.from_residual.ensures.1) (inl c.in_err-text.ensures.found)

pub returns-in_err-made-clause-found : goal.returns-in_err-made-clause-found
returns-in_err-made-clause-found g c =
    rw (is_fault _ _ c.from_residual-in_err-made.ensures.1) (inr (string_bytes c.in_ok-text.text, c.in_ok-text.ensures.found, tt))

pub returns-clause-found : goal.returns-clause-found
returns-clause-found g c = (
  string_bytes c.in_ok-text.text,
  c.in_ok-text.ensures.found,
  subst (λ plan. IsImport (string_bytes c.in_ok-text.text) (format_in c.args.asked.edges.now) plan c.in_ok-made.made) c.plan_of.ensures
      (subst (λ format. IsImport (string_bytes c.in_ok-text.text) format c.plan_of.result c.in_ok-made.made) c.format_of-format.ensures
      (subst (λ text. IsImport text c.format_of-format.result c.plan_of.result c.in_ok-made.made) c.as_str.ensures.value c.in_ok-made.ensures)),
)
