-- The paths of modules that are text.
use Rattle.std.specs.Prelude.{ℕ, nat_eq, Bool, List, codes}
use Rattle.std.specs.List.{ends_with}

-- if the path of a module's file ends in `.wat`, it is text; any other file is binary
abbrev pub is_text_path : List ℕ → Bool
is_text_path path = ends_with nat_eq path (codes ".wat")
