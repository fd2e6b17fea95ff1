use Rattle.std.proofs.Common.{inl, inr, true, subst}
use Rattle.std.specs.String.{string_bytes}
use Rattle.plain_commands.specs.ComputeCall.{AreCallLines, RefusesText}
use Rattle.sources.proofs.Disks.{stays_again, unread_before}
use Rattle.sources.proofs.Faults.{IfErr-along, IfOk-along, is_fault}
use Rattle.plain_commands.proofs.compute_call.call_files.Goals as goal

pub returns-in_err-verified-clause-refused : goal.returns-in_err-verified-clause-refused
returns-in_err-verified-clause-refused g c = rw (is_fault _ _ c.from_residual.ensures.1) (inl c.in_err-verified.ensures.found)

pub returns-in_err-text-clause-refused : goal.returns-in_err-text-clause-refused
returns-in_err-text-clause-refused g c =
    let disk = g.F.Files.disk c.args.files.now in
    rw (is_fault _ _ c.from_residual-in_err-text.ensures.1)
    (inr (
      c.in_ok-verified.verified,
      c.in_ok-verified.ensures.found,
      inl (unread_before true disk (g.F.Files.disk c.load_within.new.files) c.args.input.now c.in_ok-verified.ensures.kept _ c.in_err-text.ensures.found),
    ))

pub returns-clause-answered : goal.returns-clause-answered
returns-clause-answered g c =
    let verified = c.in_ok-verified.verified in
    let there = c.in_ok-verified.ensures.kept.holds c.args.input.now _ c.in_ok-text.ensures.found in
    IfOk-along c.answer.result
    (λ told answers. (
      verified,
      c.in_ok-verified.ensures.found,
      (string_bytes c.in_ok-text.text, there, subst (λ text. AreCallLines verified text (string_bytes told)) c.as_str.ensures.value answers),
    ))
    c.answer.ensures.answer

pub returns-clause-refused : goal.returns-clause-refused
returns-clause-refused g c =
    let verified = c.in_ok-verified.verified in
    let there = c.in_ok-verified.ensures.kept.holds c.args.input.now _ c.in_ok-text.ensures.found in
    IfErr-along c.answer.result
    (λ fault refused. inr (
      verified,
      c.in_ok-verified.ensures.found,
      inr (string_bytes c.in_ok-text.text, there, subst (λ text. RefusesText verified text fault) c.as_str.ensures.value refused),
    ))
    c.answer.ensures.refused

pub returns-in_err-verified-clause-kept : goal.returns-in_err-verified-clause-kept
returns-in_err-verified-clause-kept g c = c.in_err-verified.ensures.kept

pub returns-in_err-text-clause-kept : goal.returns-in_err-text-clause-kept
returns-in_err-text-clause-kept g c =
    stays_again (g.F.Files.disk c.args.files.now) (g.F.Files.disk c.load_within.new.files) (g.F.Files.disk c.read_text.new.files)
    c.in_ok-verified.ensures.kept c.in_err-text.ensures.kept

pub returns-clause-kept : goal.returns-clause-kept
returns-clause-kept g c =
    stays_again (g.F.Files.disk c.args.files.now) (g.F.Files.disk c.load_within.new.files) (g.F.Files.disk c.read_text.new.files)
    c.in_ok-verified.ensures.kept c.in_ok-text.ensures.kept
