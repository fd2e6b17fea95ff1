-- The next state from the results of all parts, as the code has it.
use Rattle.std.specs.Prelude.{◌≡◌, ℕ, ℤ, Bool, true, List, Some, map, slice_get, vec_items}
use Rattle.std.specs.Global.{Vec}
use Rattle.std.specs.List.{AllByRecursion, flat_map, zip}
use Rattle.std.specs.List.Sorted.{IsPermutation, IsStrictlyIncreasing}
use Rattle.graph.specs.Entry.{ids}
use Rattle.graph.specs.Partition.{joined}
use Rattle.inbox.specs.declared.letters.Letter.{Letter}
use Rattle.superstep.specs.declared.barrier_step.Gathered.{Gathered}
use Rattle.job_state.specs.declared.state.VertexState.{VertexState}
use Rattle.job_state.specs.State.{capped}
use Rattle.job_state.specs.inside.Filled.{filled}
use Rattle.superstep.specs.Folds.{aggregated}
use Rattle.superstep.specs.Superstep.{contributions_of, units_left}
use Rattle.superstep.specs.Job.{Work}
use Rattle.job_state.specs.Stamps.{DoneStamp}
use Rattle.superstep.specs.Tasks.{IsLeftAt, VertexOutcome, emptied, letters_of, outcomes_in}

abbrev pub left_id : VertexOutcome → ℕ
left_id one = one.0

abbrev pub left_ids : List VertexOutcome → List ℕ
left_ids left = map left_id left

-- a part's stamp, and the outcomes of its vertices
abbrev pub PartLeft : Type 0
PartLeft = DoneStamp × List VertexOutcome

pub record IsPartLeft (work : Work) (honest : ℕ → Bool) (part : PartLeft) : Type 0 where
  pub fits : slice_get (map ids work.parts) part.0.part ≡ Some (left_ids part.1)
  pub at : honest part.0.epoch ≡ true → IsLeftAt work part.0.superstep part.0.part part.1

-- the outcomes of these parts, one part after another
abbrev pub spread : List PartLeft → List VertexOutcome
spread parts = flat_map (λ (part : PartLeft). part.1) parts

-- these are the gathered results of the parts with these stamps
pub record IsGathered (work : Work) (honest : ℕ → Bool) (dones : List DoneStamp) (gathered : Gathered) : Type 0 where
  pub parts : List PartLeft
  pub stamps : map (λ (part : PartLeft). part.0) parts ≡ dones
  pub each : AllByRecursion (IsPartLeft work honest) parts
  pub vertices : gathered.vertices.items ≡ map (λ (part : PartLeft). map emptied part.1) parts
  pub letters : IsPermutation (letters_of (spread parts)) (joined gathered.letters.items)
  pub aggregators : gathered.aggregators ≡ aggregated (contributions_of (outcomes_in (spread parts)))
  pub units : gathered.units ≡ capped (units_left (outcomes_in (spread parts)))

-- `lefts` has the outcomes part by part, with these ids and letters, and `ordered` has them by rising id
pub record IsSpread (all_ids : List (List ℕ)) (all_letters : List (List Letter)) (lefts : List (List VertexOutcome)) (ordered : List VertexOutcome) : Type 0 where
  pub ids : all_ids ≡ map left_ids lefts
  pub letters : IsPermutation (letters_of (joined lefts)) (joined all_letters)
  pub same : IsPermutation (joined lefts) ordered
  pub rising : IsStrictlyIncreasing (left_ids ordered)

-- the same, where each part has a vector of ids
abbrev pub AreSpread : List (Vec ℕ) → List (List Letter) → List (List VertexOutcome) → List VertexOutcome → Type 0
AreSpread ids letters lefts ordered = IsSpread (map vec_items ids) letters lefts ordered

-- the vertices of each part, each with its inbox
abbrev pub all_filled : List (List VertexState) → List (List (List ℤ)) → List (List VertexState)
all_filled parts inboxes = map filled (zip parts inboxes)
