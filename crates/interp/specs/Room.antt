-- The room that the calls of a bounded module need, by the number of frames. No function has more locals, nor deeper
-- blocks, than the limits on a module allow.
use Rattle.std.specs.Prelude.{◌≡◌, ℕ, ◌+◌, ◌*◌, ◌≤◌, []}
use Rattle.wasm_ast.specs.declared.module.Module.{Module}
use Rattle.wasm_ast.specs.Limits.{IsWithinLimits, max_locals, max_nesting}
use Rattle.verified.specs.declared.call.CallInput.{CallInput}
use Rattle.verified.specs.Host.{host_of}
use Rattle.verified.specs.Modules.{IsTyped}
use Rattle.verified.specs.Profile.{IsBounded}
use Rattle.verified.specs.Facts.{AreFacts}
use Rattle.verified.specs.declared.facts.Facts.{Facts}
use Rattle.semantics.specs.Call.{ComesTo, Outcome}
use Rattle.semantics.specs.Heights.{entries, locals}
use Rattle.semantics.specs.Machine.{Machine, run}
use Rattle.semantics.specs.Start.{Starts}

-- the most control entries of this many frames: their labels, and the frames
abbrev pub most_entries : ℕ → ℕ
most_entries frames = frames * (1 + max_nesting)

abbrev pub most_locals : ℕ → ℕ
most_locals frames = frames * max_locals

-- from this configuration on, there are never more control entries and locals than those of this many frames
pub record StaysWithin (m : Module) (first : Machine) (most_frames : ℕ) : Type 0 where
  pub few_entries : (n : ℕ) → entries (run m n first) ≤ most_entries most_frames
  pub few_locals : (n : ℕ) → locals (run m n first) ≤ most_locals most_frames

-- each call of the module does so
abbrev pub CallsStayWithin : Module → Type 0
CallsStayWithin m =
    IsTyped m → IsBounded m → IsWithinLimits m → (facts : Facts) → AreFacts m facts
    → (input : CallInput) (first : Machine) → Starts m input first → StaysWithin m first facts.max_frames

-- a call without messages and contributions: whatever its outcome, it sends nothing and contributes to no aggregator
abbrev pub IsSilent : Module → CallInput → Type 0
IsSilent m input =
    (outcome : Outcome) → ComesTo m (host_of input) outcome → (outcome.sends ≡ []) × (outcome.contributions ≡ [])
