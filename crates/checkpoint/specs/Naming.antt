-- Of which job the text of a file is.
use Rattle.std.specs.Prelude.{◌≡◌, ◌≢◌, ◌⊎◌, ℕ, List, Option, Some, None, IsSomeAnd, MatchOption, codes, option_and_then}
use Rattle.hex.specs.Hex.{encode_lower}
use Rattle.serde_json.specs.Data.{Data, member, no_members, number, object, string, unsigned}
use Rattle.serde_json.specs.Find.{as_str, get}
use Rattle.serde_json.specs.Read.{read}
use Rattle.checkpoint.specs.declared.job_id.JobId.{JobId}
use Rattle.checkpoint.specs.declared.text.Kinship.{Kinship}
use Rattle.checkpoint.specs.declared.text.Kinship.TheVariants.{OtherGraph, OtherModule, Same, Unreadable}

-- the text that is a member of a JSON object
abbrev pub text_at : (name : List ℕ) → Data → Option (List ℕ)
text_at name json = option_and_then as_str (get name json)

-- what the file of a job holds
abbrev pub job_data : JobId → (limit parts : ℕ) → Data
job_data job limit parts =
    object (member (codes "graph") (string (encode_lower job.graph))
    (member (codes "limit") (number (unsigned limit))
    (member (codes "module") (string (encode_lower job.«module»))
    (member (codes "parts") (number (unsigned parts)) no_members))))

-- its members `module` and `graph` are the digests of this job's, in hexadecimal
pub record Names (job : JobId) (json : Data) : Type 0 where
  pub of_module : text_at (codes "module") json ≡ Some (encode_lower job.«module»)
  pub of_graph : text_at (codes "graph") json ≡ Some (encode_lower job.graph)

-- the text is JSON that names this job
pub record NamesJob (text : List ℕ) (job : JobId) : Type 0 where
  pub json : Data
  pub parsed : read text ≡ Some json
  pub names : Names job json

-- the member of this name is a text, and another than this digest, in hexadecimal
abbrev pub DiffersAt : (name : List ℕ) → Data → (digest : List ℕ) → Type 0
DiffersAt name json digest = IsSomeAnd (text_at name json) (λ found. found ≢ encode_lower digest)

-- what is told of a JSON value: it names this job, or what it names instead
abbrev pub IsKinshipIn : Data → JobId → Kinship → Type 0
IsKinshipIn json job Same = Names job json
IsKinshipIn json job OtherModule = DiffersAt (codes "module") json job.«module»
IsKinshipIn json job OtherGraph =
    (text_at (codes "module") json ≡ Some (encode_lower job.«module»)) × DiffersAt (codes "graph") json job.graph
IsKinshipIn json job Unreadable = (text_at (codes "module") json ≡ None) ⊎ (text_at (codes "graph") json ≡ None)

-- what is told of a text, which may be no JSON
abbrev pub IsKinship : List ℕ → JobId → Kinship → Type 0
IsKinship text job kinship = MatchOption (read text) (kinship ≡ Unreadable) (λ json. IsKinshipIn json job kinship)
