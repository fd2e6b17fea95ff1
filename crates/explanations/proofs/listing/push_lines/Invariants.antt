use Rattle.std.proofs.Common.{◌≡◌, ◌+◌, ◌≤◌, ◌++◌, drop, false, string_bytes}
use Rattle.explanations.specs.Listing.{listed}
use Rattle.explanations.specs.inside.Shown.{texts}
use Rattle.explanations.proofs.listing.push_lines.Given as goal

abbrev pub invariant-loop-line : goal.invariant-loop-line
invariant-loop-line l =
    (l.text.is_cut ≡ false → (l.initial.text.is_cut ≡ false)
    × (string_bytes l.text.text ++ listed l.marked l.number (texts (drop l.line-index l.lines))
    ≡ string_bytes l.initial.text.text ++ listed l.marked l.first (texts l.lines)))
    × (l.number ≤ l.first + l.line-index)
