-- The listing of lines of a module's text.
use Rattle.std.specs.Prelude.{◌≡◌, ℕ, ◌+◌, ◌^◌, ◌-◌, ◌||◌, Bool, true, false, not, nat_eq, List, [], ◌∷◌, ◌++◌, Option, Some, None, codes, count_by, if◌then◌else◌}
use Rattle.std.specs.Fmt.{format_spec, styled_decimal}
use Rattle.std.specs.Str.{bytes_eq, trim_start}
use Rattle.call_lines.specs.OutputLines.{line}

-- whether a line of a function has an instruction, and so a number
abbrev pub is_numbered : List ℕ → Bool
is_numbered text = not (bytes_eq (trim_start text) (codes "end") || bytes_eq (trim_start text) (codes "else"))

-- whether an instruction is the one that is named
abbrev pub is_marked : ℕ → Option ℕ → Bool
is_marked number None = false
is_marked number (Some marked) = nat_eq number marked

abbrev pub mark : Bool → List ℕ
mark true = codes ">"
mark false = codes " "

-- the number in six columns
abbrev pub column : ℕ → List ℕ
column number = styled_decimal (format_spec 32 0 0 6 (2 ^ 64 - 1)) number

-- a line: an instruction after its number, with a mark if it is the one that is named; any other line with the same
-- indent
abbrev pub listed_line : Option ℕ → ℕ → List ℕ → List ℕ
listed_line marked number text = if is_numbered text
    then line (mark (is_marked number marked) ++ codes " " ++ column number ++ codes " " ++ text)
    else line (codes "         " ++ text)

-- the number of the next instruction
abbrev pub next_number : ℕ → List ℕ → ℕ
next_number number text = if is_numbered text then number + 1 else number

-- lines, one after another; `number` is that of the first instruction among them
abbrev pub listed : Option ℕ → ℕ → List (List ℕ) → List ℕ
listed marked number [] = []
listed marked number (text ∷ more) = listed_line marked number text ++ listed marked (next_number number text) more

-- a part of a list: adjacent elements
pub record IsStretch {T : Type 0} (all part : List T) : Type 0 where
  pub before : List T
  pub after : List T
  pub joined : all ≡ before ++ (part ++ after)

-- Adjacent lines of a function's body are listed, each instruction after its number: the number of instructions
-- before it in the body.
pub record IsListing (body : List (List ℕ)) (marked : Option ℕ) (told : List ℕ) : Type 0 where
  pub before : List (List ℕ)
  pub part : List (List ℕ)
  pub after : List (List ℕ)
  pub joined : body ≡ before ++ (part ++ after)
  pub printed : told ≡ listed marked (count_by is_numbered before) part
