use Rattle.std.proofs.Common.{string_bytes, rules}
use Rattle.run_report.proofs.json.json_text.Goals as goal

pub returns : goal.returns
returns c = record {
  json = string_bytes c.in_ok-text.text;
  is = search rules;
  compact = c.in_ok-text.ensures.compact;
  reads_back = c.in_ok-text.ensures.reads_back;
}
