-- Where the instructions that a form of a loop names are.
use Rattle.std.specs.Prelude.{ℕ, ◌+◌, ◌≤◌, ⊤}
use Rattle.fit.specs.declared.loops.Form.{Form}
use Rattle.fit.specs.declared.loops.Form.TheVariants as form

-- they are in a body of this length
abbrev pub FormFits : ℕ → Form → Type 0
FormFits n form.Other = ⊤
FormFits n form.Once = ⊤
FormFits n (form.Trailing index) = index + 2 ≤ n
FormFits n (form.Inverted index) = index + 3 ≤ n
FormFits n (form.Late index) = index + 3 ≤ n
FormFits n (form.Nested index) = index + 1 ≤ n
FormFits n (form.Chosen index) = index + 2 ≤ n
FormFits n (form.ChosenNot index) = index + 3 ≤ n
