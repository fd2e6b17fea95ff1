-- Parts of a file, and where they end.
use Rattle.std.proofs.Common.{◌≡◌, ℕ, ◌+◌, ◌-◌, ◌≤◌, ◌<◌, false, List, length, drop, take, Option, Some, None, refl, arith, length-drop}
use Rattle.std.proofs.lemmas.Bool.{le-leb}
use Rattle.std.proofs.lemmas.List.{drop-drop, drop-take, drop_more}
use Rattle.wasm_items.specs.declared.fault.DecodeFault.{DecodeFault}
use Rattle.wasm_items.specs.declared.fault.DecodeFault.TheVariants.{OutOfMemory}
use Rattle.wasm_items.specs.inside.Reading.{Fails, IsRefusal, u32_at, take_at, part_at, is_empty}

pub part_at-drop : (bytes rest file : List ℕ) (at len : ℕ) → u32_at bytes ≡ Some (len, rest) → drop at file ≡ rest → len ≤ length file - at
    → part_at bytes ≡ Some (drop at (take (at + len) file), drop (at + len) file)
unfolding part_at take_at
part_at-drop bytes rest file at len e f le =
    let fits : len ≤ length (drop at file) = omega (arith, length-drop at file) in
    rw (e, ← f, le-leb len (length (drop at file)) fits, drop-take at len file, drop-drop len at file) refl

pub is_empty-drop : (file : List ℕ) (at : ℕ) → at < length file → is_empty (drop at file) ≡ false
is_empty-drop file at lt = rw (drop_more file at 0 lt) refl

pub Fails-refusal : {Y : Type 0} (fault : DecodeFault) (read : Option Y) → IsRefusal fault → read ≡ None → Fails fault read
Fails-refusal OutOfMemory read h e = tt
Fails-refusal _ read h e = e
