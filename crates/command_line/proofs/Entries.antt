-- What the getters of a parse's matches read, by its entries.
use Rattle.std.proofs.Common.{◌≡◌, ◌∙◌, ◌<◌, ◌^◌, ℕ, Bool, true, false, true≢false, List, Option, Some, None, Result, Ok, Err, ap, sym, subst, refl, codes, option_map}
use Rattle.std.specs.Prelude.{IsSomeAnd, MatchOption, find, option_and_then, unwrap_or}
use Rattle.std.specs.Borrow.{Bor}
use Rattle.std.specs.Option.{option_map_or}
use Rattle.std.specs.Str.{bytes_eq}
use Rattle.std.specs.Str.Parse.{IsNumeral, ParsesBool, ParsesUnsigned, digits_value, without_leading_plus}
use Rattle.std.proofs.lemmas.Slice.Eq.{bytes_eq-Decides}
use Rattle.clap.specs.Words.{ReadsOne, Row, Text, first_of, first_value, found_of, matched_of, one_text, rows_of, subcommand_name_of, subcommand_rows, subcommand_rows_of}
use Rattle.clap.specs.Facts.{Entry}
use Rattle.clap.specs.Walk.{row_of}
use Rattle.clap.specs.declared.parser.matches.ArgMatches.{ArgMatches}
use Rattle.clap.specs.declared.parser.matches.ArgMatches.TheViews.{out-ArgMatches}
use Rattle.clap.specs.declared.parser.matches.Found.{Found}
use Rattle.clap.specs.declared.parser.matches.MatchedArg.{MatchedArg}
use Rattle.clap.proofs.WalkLemmas.{find_row, first_value-rows, one_text-rows}
use Rattle.command_line.specs.CommandLine.{Asks, AsksFor, AsksImport, AsksJob, AsksModule, AsksRun, Gives, GivesNumber, MayGiveNumber, is_set}
use Rattle.requests.specs.declared.request.ImportRequest.{ImportRequest}
use Rattle.requests.specs.declared.request.JobRequest.{JobRequest}
use Rattle.requests.specs.declared.request.ModuleRequest.{ModuleRequest}
use Rattle.requests.specs.declared.request.Options.{Options}
use Rattle.requests.specs.declared.request.Options.TheVariants as options
use Rattle.requests.specs.declared.request.Request.{Request}
use Rattle.requests.specs.declared.request.Request.TheVariants as request
use Rattle.requests.specs.declared.request.RunRequest.{RunRequest}
use Rattle.command_line.specs.inside.Matches.{Finds, rows_in}

pub text_given : (m : ArgMatches) (name : Text) (read : Option (Bor Text)) (text : Bor Text)
    → option_map (λ s. s.now) read ≡ first_value (found_of m) name → read ≡ Some text → first_of name (rows_in m) ≡ Some text.now
text_given m name read text got is = sym (first_value-rows (found_of m) name) ∙ sym got ∙ ap (option_map (λ s. s.now)) is

pub none_given : (m : ArgMatches) (name : Text) (read : Option (Bor Text))
    → option_map (λ s. s.now) read ≡ first_value (found_of m) name → read ≡ None → first_of name (rows_in m) ≡ None
none_given m name read got is = sym (first_value-rows (found_of m) name) ∙ sym got ∙ ap (option_map (λ s. s.now)) is

pub text_read : (m : ArgMatches) (name : Text) (read : Option (Bor Text))
    → option_map (λ s. s.now) read ≡ first_value (found_of m) name → first_of name (rows_in m) ≡ option_map (λ s. s.now) read
text_read m name read got = sym (first_value-rows (found_of m) name) ∙ sym got

pub lacking : (m : ArgMatches) (name : Text) (read : Option (Bor Text))
    → option_map (λ s. s.now) read ≡ first_value (found_of m) name → read ≡ None → (t : Bor Text) → Gives (rows_in m) name t → ⊥
lacking m name read got is t gives =
    let no : ◌≡◌ {A = Option Text} None (Some t.now) = sym (none_given m name read got is) ∙ gives in cc

abbrev means : ℕ → Text → Type 0
means n text = IsNumeral 10 (without_leading_plus text) × (n ≡ digits_value 10 (without_leading_plus text)) × (n < 2 ^ 32)

pub number_read : {E : Type 0} (G : Text → Result ℕ E → Type 0) (f : Found) (name : Text) (read : Option ℕ)
    → ((t : Text) (r : Result ℕ E) → G t r → ParsesUnsigned 32 10 t r)
    → (one_text f name ≡ None → read ≡ None)
    → ((t : Text) → one_text f name ≡ Some t → ReadsOne G t read)
    → Finds (GivesNumber (rows_of f) name) read
number_read G f name None only none value = go (one_text f name) refl
  where
    go : (o : Option Text) → one_text f name ≡ o → (n : ℕ) → GivesNumber (rows_of f) name n → ⊥
    go None e n given = subst (λ (o : Option Text). IsSomeAnd o (means n)) (sym (one_text-rows f name) ∙ e) given
    go (Some t) e n given =
        let is = subst (λ (o : Option Text). IsSomeAnd o (means n)) (sym (one_text-rows f name) ∙ e) given in
        let failed = value t e in
        only t (Err failed.0) failed.1 (is.0, subst (λ k. k < 2 ^ 32) is.1 is.2)
number_read G f name (Some n) only none value = go (one_text f name) refl
  where
    go : (o : Option Text) → one_text f name ≡ o → GivesNumber (rows_of f) name n
    go None e = let no : Some n ≡ None = none e in cc
    go (Some t) e =
        let read = only t (Ok n) (value t e) in
        subst (λ (o : Option Text). IsSomeAnd o (means n))
        (sym e ∙ one_text-rows f name) (read.0.0, read.1, subst (λ k. k < 2 ^ 32) (sym read.1) read.0.1)

true_word : (E : Type 0) (t : Text) (read : Option Bool) → ReadsOne (ParsesBool {E = E}) t read → unwrap_or read false ≡ bytes_eq (codes "true") t
true_word E t (Some true) h = sym (ap (bytes_eq (codes "true")) h)
true_word E t (Some false) h = sym (ap (bytes_eq (codes "true")) h)
true_word E t None h = go (bytes_eq (codes "true") t) refl
  where
    go : (b : Bool) → bytes_eq (codes "true") t ≡ b → false ≡ bytes_eq (codes "true") t
    go true e = absurd (h.1.0 (sym ((bytes_eq-Decides (codes "true") t).0 e)))
    go false e = sym e

abbrev set_by : Option Text → Bool
set_by o = option_map_or (bytes_eq (codes "true")) o false

pub flag_read : (E : Type 0) (f : Found) (name : Text) (read : Option Bool)
    → (one_text f name ≡ None → read ≡ None)
    → ((t : Text) → one_text f name ≡ Some t → ReadsOne (ParsesBool {E = E}) t read)
    → unwrap_or read false ≡ is_set (rows_of f) name
flag_read E f name read none value = go (one_text f name) refl
  where
    go : (o : Option Text) → one_text f name ≡ o → unwrap_or read false ≡ is_set (rows_of f) name
    go None e = ap (λ (r : Option Bool). unwrap_or r false) (none e) ∙ ap set_by (sym e ∙ one_text-rows f name)
    go (Some t) e = true_word E t read (value t e) ∙ ap set_by (sym e ∙ one_text-rows f name)

-- where the value of an argument came from
pub source_read : (f : Found) (name : Text)
    → option_and_then (λ (a : MatchedArg). a.source) (matched_of f name) ≡ option_and_then (λ (row : Row). row.source) (find (λ row. bytes_eq row.id name) (rows_of f))
source_read f name = go (find (λ (e : Entry). bytes_eq e.0.now name) f.entries.items) ∙ ap (option_and_then (λ (row : Row). row.source)) (sym (find_row f.entries.items name))
  where
    go : (o : Option Entry) → option_and_then (λ (a : MatchedArg). a.source) (option_map (λ e. e.1) o)
        ≡ option_and_then (λ (row : Row). row.source) (option_map row_of o)
    go None = refl
    go (Some e) = refl

both : {A B : Type 0} (a x : A) (b y : B) → Some a ≡ Some x → Some b ≡ Some y → ◌≡◌ {A = Option (A × B)} (Some (x, y)) (Some (a, b))
both a x b y p q = cc

-- the subcommand that a parse met
pub met : (m : ArgMatches) (read : Option (Bor Text × Bor ArgMatches)) (name : Bor Text) (entries : Bor ArgMatches)
    → option_map (λ p. p.0.now) read ≡ subcommand_name_of m
    → option_map (λ p. rows_of (found_of p.1.now)) read ≡ option_map (λ p. p.1) (subcommand_rows_of m)
    → read ≡ Some (name, entries) → subcommand_rows_of m ≡ Some (name.now, rows_of (found_of entries.now))
met m read name entries named rows is = go (out-ArgMatches m).subcommand refl
  where
    go : (o : _) → (out-ArgMatches m).subcommand ≡ o → subcommand_rows_of m ≡ Some (name.now, rows_of (found_of entries.now))
    go None e = let no : Some name.now ≡ None = rw (is, e) at named in cc
    go (Some b) e = ap subcommand_rows e ∙ both _ _ _ _ (rw (is, e) at named) (rw (is, e) at rows)

pub missed : (m : ArgMatches) (read : Option (Bor Text × Bor ArgMatches)) → option_map (λ p. p.0.now) read ≡ subcommand_name_of m
    → read ≡ None → subcommand_rows_of m ≡ None
missed m read named is = go (out-ArgMatches m).subcommand refl
  where
    go : (o : _) → (out-ArgMatches m).subcommand ≡ o → subcommand_rows_of m ≡ None
    go None e = ap subcommand_rows e
    go (Some b) e =
        let no = rw (is, e) at named in
        cc

-- where there is none, nothing is
pub none_is : {T : Type 0} (P : T → Type 0) (r : Option T) → r ≡ None → ((x : T) → P x → ⊥) → Finds P r
none_is P None empty none = none
none_is P (Some x) empty none = cc

pub none_found : {T : Type 0} (P : T → Type 0) (r : Option T) → Finds P r → r ≡ None → (x : T) → P x → ⊥
none_found P None finds is = finds
none_found P (Some x) finds is = cc

-- a number that is there and may be left out
pub bound_found : (rows : List Row) (name text : Text) (found : Option ℕ) (made : Option (Option ℕ)) → first_of name rows ≡ Some text
    → Finds (GivesNumber rows name) found → MatchOption found (made ≡ None) (λ n. IsSomeAnd made (λ r. r ≡ Some n))
    → Finds (MayGiveNumber rows name) made
bound_found rows name text None made there finds made_is = none_is _ made made_is none
  where
    none : (x : Option ℕ) → MayGiveNumber rows name x → ⊥
    none None empty = let no : Some text ≡ None = sym there ∙ empty in cc
    none (Some n) gives = finds n gives
bound_found rows name text (Some n) None there finds made_is = absurd made_is
bound_found rows name text (Some n) (Some r) there finds made_is = subst (MayGiveNumber rows name) (sym made_is) finds

-- ---- which request a command asks for, by its name

pub asks_call : (rows : List Row) (asked : Request) → AsksFor (codes "call") rows asked → (m : ModuleRequest) × (input : Bor Text) × AsksModule rows m × Gives rows (codes "input") input
asks_call rows (request.Call m input) h = (m, input, h.1, h.2)
asks_call rows other h = absurd (true≢false (ap (bytes_eq (codes "call")) h.0))

pub asks_run : (rows : List Row) (asked : Request) → AsksFor (codes "run") rows asked → (asked : RunRequest) × AsksRun rows asked
asks_run rows (request.Run asked) h = (asked, h.1)
asks_run rows other h = absurd (true≢false (ap (bytes_eq (codes "run")) h.0))

pub asks_replay : (rows : List Row) (asked : Request) → AsksFor (codes "replay") rows asked → (asked : JobRequest) × (steps : Bor Text) × AsksJob rows asked × Gives rows (codes "steps") steps
asks_replay rows (request.Replay asked steps) h = (asked, steps, h.1, h.2)
asks_replay rows other h = absurd (true≢false (ap (bytes_eq (codes "replay")) h.0))

pub asks_upgrade : (rows : List Row) (asked : Request) → AsksFor (codes "upgrade") rows asked → (checkpoint : Bor Text) × (newer : Bor Text) × Gives rows (codes "checkpoint") checkpoint × Gives rows (codes "binary") newer
asks_upgrade rows (request.Upgrade checkpoint newer) h = (checkpoint, newer, h.1, h.2)
asks_upgrade rows other h = absurd (true≢false (ap (bytes_eq (codes "upgrade")) h.0))

pub asks_asm : (rows : List Row) (asked : Request) → AsksFor (codes "asm") rows asked → (m : Bor Text) × (binary : Bor Text) × Gives rows (codes "module") m × Gives rows (codes "binary") binary
asks_asm rows (request.Assemble m binary) h = (m, binary, h.1, h.2)
asks_asm rows other h = absurd (true≢false (ap (bytes_eq (codes "asm")) h.0))

pub asks_fit : (rows : List Row) (asked : Request) → AsksFor (codes "fit") rows asked → (m : Bor Text) × (binary : Bor Text) × Gives rows (codes "module") m × Gives rows (codes "binary") binary
asks_fit rows (request.Fit m binary) h = (m, binary, h.1, h.2)
asks_fit rows other h = absurd (true≢false (ap (bytes_eq (codes "fit")) h.0))

pub asks_print : (rows : List Row) (asked : Request) → AsksFor (codes "print") rows asked → (m : Bor Text) × Gives rows (codes "module") m
asks_print rows (request.Print m) h = (m, h.1)
asks_print rows other h = absurd (true≢false (ap (bytes_eq (codes "print")) h.0))

pub asks_verify : (rows : List Row) (asked : Request) → AsksFor (codes "verify") rows asked → (m : ModuleRequest) × AsksModule rows m
asks_verify rows (request.Verify m) h = (m, h.1)
asks_verify rows other h = absurd (true≢false (ap (bytes_eq (codes "verify")) h.0))

pub asks_graph : (rows : List Row) (asked : Request) → AsksFor (codes "graph") rows asked → (asked : ImportRequest) × AsksImport rows asked
asks_graph rows (request.Import asked) h = (asked, h.1)
asks_graph rows other h = absurd (true≢false (ap (bytes_eq (codes "graph")) h.0))

pub asks_none : (name : Text) (rows : List Row) → (name ≡ codes "call" → ⊥) → (name ≡ codes "run" → ⊥) → (name ≡ codes "replay" → ⊥)
    → (name ≡ codes "upgrade" → ⊥) → (name ≡ codes "asm" → ⊥) → (name ≡ codes "fit" → ⊥) → (name ≡ codes "print" → ⊥) → (name ≡ codes "verify" → ⊥) → (name ≡ codes "graph" → ⊥)
    → (asked : Request) → AsksFor name rows asked → ⊥
asks_none name rows call run replay upgrade asm fit print verify graph (request.Call m input) h = call h.0
asks_none name rows call run replay upgrade asm fit print verify graph (request.Run asked) h = run h.0
asks_none name rows call run replay upgrade asm fit print verify graph (request.Replay asked steps) h = replay h.0
asks_none name rows call run replay upgrade asm fit print verify graph (request.Upgrade checkpoint newer) h = upgrade h.0
asks_none name rows call run replay upgrade asm fit print verify graph (request.Assemble m binary) h = asm h.0
asks_none name rows call run replay upgrade asm fit print verify graph (request.Fit m binary) h = fit h.0
asks_none name rows call run replay upgrade asm fit print verify graph (request.Print m) h = print h.0
asks_none name rows call run replay upgrade asm fit print verify graph (request.Verify m) h = verify h.0
asks_none name rows call run replay upgrade asm fit print verify graph (request.Import asked) h = graph h.0

pub nothing_asked : (name : Text) (rows : List Row) → (name ≡ codes "console" → ⊥) → ((asked : Request) → AsksFor name rows asked → ⊥)
    → (given : Options) → Asks name rows given → ⊥
nothing_asked name rows other none options.Session asks = other asks
nothing_asked name rows other none (options.Command asked explains) asks = none asked asks.0
