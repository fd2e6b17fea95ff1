-- What is written of a file of edges, and why nothing is.
use denote.Bor.{Bor}
use Rattle.std.specs.Prelude.{◌≡◌, ◌⊎◌, ℕ, true, List, [], ◌∷◌, ◌++◌, Option, Some, None, String, codes, string_bytes}
use Rattle.std.specs.Fmt.{decimal}
use Rattle.std.specs.Option.{is_some}
use Rattle.conversions.specs.graph_import.Import.{IsImport, format_in}
use Rattle.conversions.specs.declared.graph_import.making.Imported.{Imported}
use Rattle.conversions.specs.declared.graph_import.plan.Plan.{Plan}
use Rattle.requests.specs.declared.request.ImportRequest.{ImportRequest}
use Rattle.sources.specs.declared.fault.CommandFault.{CommandFault}
use Rattle.sources.specs.declared.fault.CommandFault.TheVariants as command
use Rattle.sources.specs.Disk.{Disk, HoldsAt, Stays}
use Rattle.call_lines.specs.OutputLines.{line}
use Rattle.sources.specs.Writing.{TriesAll, WritesAll}
use Rattle.sources.specs.Reading.{IsUnread}

-- ---- answers

-- how the graph is to be made
abbrev pub plan_in : ImportRequest → Plan
plan_in asked = record {
  undirected = asked.undirected;
  names = is_some asked.names;
  value = asked.value;
  source = asked.source;
  weight = asked.weight;
  share = asked.share;
}

-- the file has edges of which this is made
abbrev pub IsImportedAt : Disk → ImportRequest → Imported → Type 0
IsImportedAt disk asked made =
    HoldsAt disk asked.edges.now (λ text. IsImport text (format_in asked.edges.now) (plan_in asked) made)

-- the list of names, where one is to be kept
abbrev pub names_written : {Z : Type 0} → Option (Bor (List ℕ)) → Option (String Z) → List (List ℕ × List ℕ)
names_written None names = []
names_written (Some path) None = []
names_written (Some path) (Some names) = (path.now, string_bytes names) ∷ []

-- the list of names, and then the graph
abbrev pub files_of : ImportRequest → Imported → List (List ℕ × List ℕ)
files_of asked made = names_written asked.names made.names ++ (asked.graph.now, string_bytes made.text) ∷ []

abbrev pub import_line : (vertices edges : ℕ) → List ℕ
import_line vertices edges = line (codes "ok " ++ decimal vertices ++ codes " " ++ decimal edges)

-- the result is written to its files, and nothing else is, and the numbers of vertices and edges are printed
pub record PrintsMade (before after : Disk) (asked : ImportRequest) (made : Imported) (told : List ℕ) : Type 0 where
  pub written : WritesAll (files_of asked made) before after
  pub line_of_counts : told ≡ import_line made.vertices made.edges

-- the result of importing a file's edges is written, and its numbers are printed
abbrev pub PrintsImport : (before after : Disk) → ImportRequest → List ℕ → Type 0
PrintsImport before after asked told =
    (made : Imported) × IsImportedAt before asked made × PrintsMade before after asked made told

-- ---- refusals

-- the edges are refused, or memory ran out
abbrev pub RefusesEdges : CommandFault → Type 0
RefusesEdges (command.Graph fault) = Unit {0}
RefusesEdges _ = ⊥

-- the file is not read, or the edges in it are refused
abbrev pub IsNoImportAt : Disk → ImportRequest → CommandFault → Type 0
IsNoImportAt disk asked fault =
    IsUnread true disk asked.edges.now fault ⊎ HoldsAt disk asked.edges.now (λ text. RefusesEdges fault)

-- the path is that of the names, where they are kept
abbrev pub AreNamesAt : Option (Bor (List ℕ)) → (path : List ℕ) → Type 0
AreNamesAt None path = ⊥
AreNamesAt (Some names) path = path ≡ names.now

-- one of the files is not written, or memory ran out; this leaves open why the second file is not written
abbrev pub IsUnwritten : ImportRequest → CommandFault → Type 0
IsUnwritten asked (command.Unwritable refused) = (refused.now ≡ asked.graph.now) ⊎ AreNamesAt asked.names refused.now
IsUnwritten asked command.OutOfMemory = Unit {0}
IsUnwritten asked _ = ⊥

-- why no graph file is written
abbrev pub IsNotImported : Disk → ImportRequest → CommandFault → Type 0
IsNotImported disk asked fault =
    IsNoImportAt disk asked fault ⊎ ((made : Imported) × IsImportedAt disk asked made × IsUnwritten asked fault)

-- the files are as they were, or those of the import were begun
abbrev pub TriesImport : (before after : Disk) → ImportRequest → Type 0
TriesImport before after asked =
    Stays before after ⊎ ((made : Imported) × IsImportedAt before asked made × TriesAll (files_of asked made) before after)
