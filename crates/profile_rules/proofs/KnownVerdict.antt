-- The answer of the pass is the rules' own.
use Rattle.std.proofs.Common.{◌≡◌, true, List, [], ◌∷◌, ◌++◌, reverse, refl, sym, subst}
use Rattle.std.specs.Prelude.{Result, Ok, Err, OnOk, IsOkUnless, slice_get, Option, Some}
use Rattle.std.specs.List.{AllByRecursion}
use Rattle.wasm_ast.specs.declared.types.ValType.{ValType}
use Rattle.wasm_ast.specs.declared.types.FuncType.{FuncType}
use Rattle.wasm_ast.specs.declared.module.Function.{Function}
use Rattle.wasm_ast.specs.declared.module.Module.{Module}
use Rattle.verified.specs.Spaces.{spaces_of, first_type}
use Rattle.verified.specs.Instructions as valid
use Rattle.verified.specs.Modules.{FunctionTyped}
use Rattle.profile_rules.specs.declared.constants.asks.Asks.{Asks}
use Rattle.profile_rules.specs.declared.constants.asks.Asks.TheVariants.{Addresses, Divisors, Slots, All}
use Rattle.profile_rules.specs.declared.constants.fault.ConstantsFault.{ConstantsFault}
use Rattle.profile_rules.specs.declared.constants.fault.ConstantsFault.TheVariants as fault
use Rattle.profile_rules.specs.inside.ConstantsFaults.{Says, SettlesConstants}
use Rattle.verified.specs.Kinds.{kinds}
use Rattle.verified.specs.Known.{FunctionKnown, ConstantsKnown}
use Rattle.verified.specs.Profile.{NoUnreachable, NothingAfterBranches, asks_addresses, asks_divisors, asks_slots, asks_all}
use Rattle.verified.specs.Shapes.{Everywhere, NotUnreachable, LastIfBranch}
use Rattle.profile_rules.specs.inside.Tracking.{asks_of, Setting, setting_of, holds_then, check, Passes}
use Rattle.profile_rules.proofs.KnownSound.{Where, context_of, sound, inside_known}
use Rattle.profile_rules.proofs.KnownComplete.{complete}
use Rattle.profile_rules.proofs.KnownFewer.{all_pass_too}
use Rattle.profile_rules.proofs.KnownTogether.{IsOne, all_pass_together}

-- the context of the body of a function of this type
abbrev where_of : Asks → Module → Function → FuncType → Where
where_of a m f t = record { asks = a; «module» = m; locals = t.parameters ++ f.locals; outcome = first_type t.results }

function_known : (a : Asks) (m : Module) (f : Function) → FunctionTyped (spaces_of m) f → Passes (setting_of a m) f → FunctionKnown (asks_of a) m f
function_known a m f h p =
    let t = h.0 in
    let passes = subst (λ (o : Option FuncType). holds_then o (λ (u : FuncType). check f.body (setting_of a m) (first_type u.results ∷ []) []) ≡ true) h.1 p in
    let x = sound f.body (where_of a m f t) (first_type t.results ∷ []) [] (valid.operands_of (first_type t.results)) [] h.2 passes in
    (t, h.1, inside_known f.body (context_of (where_of a m f t) (first_type t.results ∷ [])) (first_type t.results) x)

function_passes : (a : Asks) (m : Module) (f : Function) → Everywhere NotUnreachable f.body → Everywhere LastIfBranch f.body → FunctionKnown (asks_of a) m f → Passes (setting_of a m) f
function_passes a m f v l h =
    let t = h.0 in
    let passes = complete f.body (where_of a m f t) (first_type t.results ∷ []) [] [] (kinds (first_type t.results)) v l tt h.2 in
    subst (λ (o : Option FuncType). holds_then o (λ (u : FuncType). check f.body (setting_of a m) (first_type u.results ∷ []) []) ≡ true) (sym h.1) passes

pub all_known : (a : Asks) (m : Module) (fs : List Function) → AllByRecursion (FunctionTyped (spaces_of m)) fs → AllByRecursion (Passes (setting_of a m)) fs → AllByRecursion (FunctionKnown (asks_of a) m) fs
all_known a m [] h p = tt
all_known a m (f ∷ fs) h p = (function_known a m f h.0 p.0, all_known a m fs h.1 p.1)

pub all_pass : (a : Asks) (m : Module) (fs : List Function) → AllByRecursion (λ (f : Function). Everywhere NotUnreachable f.body) fs → AllByRecursion (λ (f : Function). Everywhere LastIfBranch f.body) fs → AllByRecursion (FunctionKnown (asks_of a) m) fs → AllByRecursion (Passes (setting_of a m)) fs
all_pass a m [] v l h = tt
all_pass a m (f ∷ fs) v l h = (function_passes a m f v.0 l.0 h.0, all_pass a m fs v.1 l.1 h.1)

-- ---- answers

pub accepted : (a : Asks) (m n : Module) (r : Result (Unit {0}) ConstantsFault) → n ≡ m → AllByRecursion (FunctionTyped (spaces_of m)) m.functions → SettlesConstants (AllByRecursion (Passes (setting_of a n)) n.functions) r → OnOk r (ConstantsKnown (asks_of a) m)
accepted a m n (Ok u) e t h =
    all_known a m m.functions t (subst (λ (x : Module). AllByRecursion (Passes (setting_of a x)) x.functions) e h)
accepted a m n (Err f) e t h = tt

pub refused : (a : Asks) (m n : Module) (r : Result (Unit {0}) ConstantsFault) → n ≡ m → NoUnreachable m → NothingAfterBranches m → SettlesConstants (AllByRecursion (Passes (setting_of a n)) n.functions) r → ConstantsKnown (asks_of a) m → IsOkUnless r fault.OutOfMemory
refused a m n (Ok u) e v l h k = tt
refused a m n (Err fault.OutOfMemory) e v l h k = refl
refused a m n (Err (fault.Breaks place)) e v l h k =
    absurd (h (subst (λ (x : Module). AllByRecursion (Passes (setting_of a x)) x.functions) (sym e) (all_pass a m m.functions v l k)))

-- where all constants are known, so are those of each rule
pub fewer : (a : Asks) (m : Module) → AllByRecursion (FunctionTyped (spaces_of m)) m.functions → NoUnreachable m → NothingAfterBranches m → ConstantsKnown asks_all m → ConstantsKnown (asks_of a) m
fewer a m t v l k = all_known a m m.functions t (all_pass_too a m m.functions (all_pass All m m.functions v l k))

-- and where those of each rule are, so are all
pub together : (m : Module) → AllByRecursion (FunctionTyped (spaces_of m)) m.functions → NoUnreachable m → NothingAfterBranches m → ConstantsKnown asks_addresses m → ConstantsKnown asks_divisors m → ConstantsKnown asks_slots m → ConstantsKnown asks_all m
together m t v l addresses divisors slots = all_known All m m.functions t (all_pass_together m m.functions each)
  where
    each : (a : Asks) → IsOne a → AllByRecursion (Passes (setting_of a m)) m.functions
    each Addresses o = all_pass Addresses m m.functions v l addresses
    each Divisors o = all_pass Divisors m m.functions v l divisors
    each Slots o = all_pass Slots m m.functions v l slots
    each All o = absurd o

-- a function of this type, by the answer for its body
pub settled : (t : Setting) (f : Function) (u : FuncType) (outcome : Option ValType) (labels : List (Option ValType)) (r : Result (Unit {0}) ConstantsFault) → slice_get t.types f.type_number ≡ Some u → outcome ≡ first_type u.results → labels ≡ [] → Says (check f.body t (outcome ∷ reverse labels) []) r → SettlesConstants (Passes t f) r
settled t f u outcome labels r e o l h =
    by_answer r (subst (λ (g : Option ValType). Says (check f.body t (g ∷ []) []) r) o (subst (λ (ls : List (Option ValType)). Says (check f.body t (outcome ∷ reverse ls) []) r) l h))
  where
    passes : Passes t f → check f.body t (first_type u.results ∷ []) [] ≡ true
    passes p = subst (λ (o : Option FuncType). holds_then o (λ (v : FuncType). check f.body t (first_type v.results ∷ []) []) ≡ true) e p

    by_answer : (r : Result (Unit {0}) ConstantsFault) → Says (check f.body t (first_type u.results ∷ []) []) r → SettlesConstants (Passes t f) r
    by_answer (Ok x) h = subst (λ (o : Option FuncType). holds_then o (λ (v : FuncType). check f.body t (first_type v.results ∷ []) []) ≡ true) (sym e) h
    by_answer (Err fault.OutOfMemory) h = tt
    by_answer (Err (fault.Breaks place)) h = λ p. let g = passes p in absurd (cc (g, h))
