-- The graph file that an import makes.
use denote.Bor.{Bor}
use Rattle.std.specs.Prelude.{◌≡◌, ℕ, ℤ, pos, neg_ℤ, Bool, true, false, List, map, length, Option, Some, None, codes, nat_eq, string_bytes, if◌then◌else◌}
use Rattle.std.specs.List.{All, Contains, ends_with, starts_with}
use Rattle.graph.specs.declared.vertex.Edge.{Edge}
use Rattle.graph.specs.Graph.{IsGraphText, IsWithinLimits}
use Rattle.line_text.specs.Number.{id_of, number_of}
use Rattle.conversions.specs.declared.graph_import.making.Imported.{Imported}
use Rattle.graph.specs.declared.edge_list.line.Form.{Form}
use Rattle.conversions.specs.declared.graph_import.plan.Format.{Format}
use Rattle.conversions.specs.declared.graph_import.plan.Format.TheVariants as format
use Rattle.conversions.specs.declared.graph_import.plan.Plan.{Plan}
use Rattle.conversions.specs.declared.graph_import.writing.Values.{Values}
use Rattle.conversions.specs.graph_import.Graph.{AreIdsOf, ends, graph_of, graph_text, valued, weighed}
use Rattle.graph.specs.edge_list.Said.{all_edges, is_good, lines_of}

-- ---- the edges that are read

-- the format of a file by its name: commas or tabs separate the columns of a table
abbrev pub format_in : (path : List ℕ) → Format
format_in path =
    if ends_with nat_eq path (codes ".csv") then format.Table 44
    else if ends_with nat_eq path (codes ".tsv") then format.Table 9
    else format.Lines

-- the number of a word, if there is a word and it is a number
abbrev pub number_in : Option (Bor (List ℕ)) → Option ℤ
number_in None = None
number_in (Some word) = number_of word.now

-- the value that each edge is given, if one is
abbrev pub weight_in : Plan → Option ℤ
weight_in plan = number_in plan.weight

-- a line of an edge list may have a value
abbrev pub list_form : Plan → Form
list_form plan = record { takes_value = true; needs_value = false; weight = weight_in plan }

-- the text is an edge list whose ends are numbers
pub record IsNumbered (text : List ℕ) (plan : Plan) : Type 0 where
  pub no_matrix : starts_with nat_eq text (codes "%%MatrixMarket") ≡ false
  pub no_names : plan.names ≡ false

-- each line of an edge list whose ends are numbers is blank, a comment or an edge; these are its edges, and the vertices are
-- their ends
pub record SaysEdges (text : List ℕ) (plan : Plan) (declared : ℕ) (edges : List Edge) : Type 0 where
  pub good : All (λ line. is_good line ≡ true) (lines_of (list_form plan) text)
  pub said : edges ≡ all_edges plan.undirected (lines_of (list_form plan) text)
  pub none_declared : declared ≡ 0

-- the edges of an edge list whose ends are numbers are those of its lines; the edges of other files are not specified
abbrev pub IsRead : List ℕ → Format → Plan → (declared : ℕ) → List Edge → Type 0
IsRead text (format.Table delimiter) plan declared edges = declared ≡ 0
IsRead text format.Lines plan declared edges = IsNumbered text plan → SaysEdges text plan declared edges

-- ---- the values of vertices

-- the source is a vertex; where vertices have no names, the word is its id
abbrev pub GivesSource : (ids : List ℕ) → (names : Bool) → (word : Option (Bor (List ℕ))) → (source : Option ℕ) → Type 0
GivesSource ids names None source = source ≡ None
GivesSource ids names (Some word) source =
    (id : ℕ) × (source ≡ Some id) × Contains ids id × (names ≡ false → id_of word.now ≡ Some id)

abbrev pub default_beside : (source : Option (Bor (List ℕ))) → ℤ
default_beside None = pos 0
default_beside (Some word) = neg_ℤ (pos 1)

-- the number of a word, or `otherwise` where there is no word
abbrev pub GivesNumber : (otherwise : ℤ) → Option (Bor (List ℕ)) → ℤ → Type 0
GivesNumber otherwise None value = value ≡ otherwise
GivesNumber otherwise (Some word) value = number_of word.now ≡ Some value

-- The source is a vertex, and its value is 0. The value of every other vertex is the given one. Where none is given, it is 0
-- without a source and -1 with one.
pub record GivesValues (ids : List ℕ) (plan : Plan) (values : Values) : Type 0 where
  pub source : GivesSource ids plan.names plan.source values.source
  pub other : GivesNumber (default_beside plan.source) plan.value values.other

-- ---- the result

-- The text is the print of the graph of the edges that were read. It means that graph, which is within the limits.
pub record IsImport (text : List ℕ) (format : Format) (plan : Plan) (made : Imported) : Type 0 where
  pub declared : ℕ
  pub edges : List Edge
  pub read : IsRead text format plan declared edges
  pub ids : List ℕ
  pub are_ids : AreIdsOf (ends declared edges) ids
  pub values : Values
  pub gives : GivesValues ids plan values
  pub printed : string_bytes made.text ≡ graph_text (map (valued values) ids) (weighed plan.share edges)
  pub means : IsGraphText (string_bytes made.text) (graph_of (map (valued values) ids) (weighed plan.share edges))
  pub within : IsWithinLimits (string_bytes made.text)
  pub vertex_count : made.vertices ≡ length ids
  pub edge_count : made.edges ≡ length edges
