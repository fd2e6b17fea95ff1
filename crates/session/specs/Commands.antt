-- The command that a line asks for.
use Rattle.std.specs.Prelude.{ℕ, nat_lt, Bool, true, false, ◌&&◌, List, [], ◌∷◌, length, map, Option, Some, None, codes, if◌then◌else◌}
use Rattle.std.specs.Str.{bytes_eq, is_utf8}
use Rattle.job_state.specs.declared.settings.Settings.{Settings}
use Rattle.call_lines.specs.InputLine.{u32_of}
use Rattle.session.specs.declared.command.Kind.{Kind}
use Rattle.session.specs.declared.command.Kind.TheVariants as kind
use Rattle.session.specs.Lines.{lines_of}
use Rattle.session.specs.Words.{is_name, words_of}

pub data Asked : Type 0 where
  -- the module, or the graph, in a file gets a name
  add_module : (name path : List ℕ) → Asked
  add_graph : (name path : List ℕ) → Asked
  -- a job of a module over a graph gets a name
  add_job : (name module_name graph_name : List ℕ) → Settings → Asked
  run : (name : List ℕ) → Asked
  status : (name : List ℕ) → Asked
  values : (name : List ℕ) → Asked
  drop : Kind → (name : List ℕ) → Asked
  quit : Asked
  -- it is no command
  unknown : Asked

-- this command, if the name is allowed
abbrev pub if_named : List ℕ → Asked → Asked
if_named name asked = if is_name name then asked else unknown

-- ---- the settings of a job, each a number of 32 bits

abbrev pub settings_by : (parts workers every limit : Option ℕ) → Option Settings
settings_by (Some parts) (Some workers) (Some every) (Some limit) =
    Some (record { parts = parts; workers = workers; every = every; limit = limit; lease = 1000000 })
settings_by _ _ _ _ = None

abbrev pub settings_of : List (List ℕ) → Option Settings
settings_of (parts ∷ workers ∷ every ∷ limit ∷ []) = settings_by (u32_of parts) (u32_of workers) (u32_of every) (u32_of limit)
settings_of _ = None

-- ---- words

abbrev pub asked_alone : List ℕ → Asked
asked_alone word = if bytes_eq word (codes "quit") then quit else unknown

abbrev pub asked_of_name : (word name : List ℕ) → Asked
asked_of_name word name =
    if_named name (
    if bytes_eq word (codes "run") then run name
    else if bytes_eq word (codes "status") then status name
    else if bytes_eq word (codes "values") then values name
    else unknown)

abbrev pub asked_of_drop : (word name : List ℕ) → Asked
asked_of_drop word name =
    if_named name (
    if bytes_eq word (codes "module") then drop kind.Module name
    else if bytes_eq word (codes "graph") then drop kind.Graph name
    else if bytes_eq word (codes "job") then drop kind.Job name
    else unknown)

abbrev pub asked_of_two : (word first second : List ℕ) → Asked
asked_of_two word first second =
    if bytes_eq word (codes "drop") then asked_of_drop first second
    else if_named first (
    if bytes_eq word (codes "module") then add_module first second
    else if bytes_eq word (codes "graph") then add_graph first second
    else unknown)

abbrev pub job_with : (name module_name graph_name : List ℕ) → Option Settings → Asked
job_with name module_name graph_name (Some settings) = add_job name module_name graph_name settings
job_with name module_name graph_name None = unknown

-- the names of a job, its module and its graph, and the words of its settings
abbrev pub asked_job : (name module_name graph_name : List ℕ) → List (List ℕ) → Asked
asked_job name module_name graph_name numbers = job_with name module_name graph_name (settings_of numbers)

abbrev pub asked_of_more : (word name module_name graph_name : List ℕ) → List (List ℕ) → Asked
asked_of_more word name module_name graph_name numbers =
    if bytes_eq word (codes "job") && is_name name && is_name module_name && is_name graph_name
    then asked_job name module_name graph_name numbers else unknown

abbrev pub asked_by : List (List ℕ) → Asked
asked_by [] = unknown
asked_by (word ∷ []) = asked_alone word
asked_by (word ∷ name ∷ []) = asked_of_name word name
asked_by (word ∷ first ∷ second ∷ []) = asked_of_two word first second
asked_by (word ∷ name ∷ module_name ∷ graph_name ∷ numbers) = asked_of_more word name module_name graph_name numbers

-- ---- lines

-- the command of a line in UTF-8
abbrev pub asked_by_text : List ℕ → Asked
asked_by_text text = if is_utf8 text then asked_by (words_of text) else unknown

-- The command of a line, which has at most 4,096 bytes. Only spaces separate words: a tab or a carriage return is part of
-- its word.
abbrev pub asked_of : List ℕ → Asked
asked_of line = if nat_lt 4096 (length line) then unknown else asked_by_text line

abbrev pub is_quit : Asked → Bool
is_quit quit = true
is_quit _ = false

-- the commands of the lines in these bytes
abbrev pub asked_in : List ℕ → List Asked
asked_in bytes = map asked_of (lines_of bytes)
