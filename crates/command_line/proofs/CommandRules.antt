-- The rules of a command that gets more arguments.
use Rattle.std.proofs.Common.{◌≡◌, ◌∙◌, ◌<◌, ◌+◌, ◌||◌, ◌∷◌, ◌++◌, ℕ, Bool, true, false, List, [], ap, refl, sym, length, map, take, append_assoc, append-nil}
use Rattle.std.specs.List.{slice_index_or}
use Rattle.std.proofs.lemmas.List.{map_more}
use Rattle.clap.specs.Words.{App, Rule, Shape, with_rule, with_subcommand}
use Rattle.command_line.specs.inside.Tables.{with_rules, with_shapes}

pub or_false : (b : Bool) → (b || false) ≡ b
or_false true = refl
or_false false = refl

all_of : App → List Rule → App
all_of app rules = record app { top = record app.top { rules = rules } }

pub no_more : (app : App) → app ≡ with_rules app []
unfolding all_of
no_more app = ap (all_of app) (sym (append-nil app.top.rules))

pub one_more : (app : App) (rules : List Rule) (rule : Rule) → with_rule (with_rules app rules) rule ≡ with_rules app (rules ++ rule ∷ [])
unfolding all_of
one_more app rules rule = ap (all_of app) (append_assoc app.top.rules rules (rule ∷ []))

-- one more of the rules that are made of xs
pub next_made : {X : Type 0} (make : X → Rule) (app : App) (xs : List X) (k : ℕ) (x : X) → k < length xs
    → with_rule (with_rules app (map make (take k xs))) (make (slice_index_or xs k x)) ≡ with_rules app (map make (take (k + 1) xs))
next_made make app xs k x low = one_more app (map make (take k xs)) (make (slice_index_or xs k x)) ∙ ap (with_rules app) (sym (map_more make xs k x low))

-- one more of the subcommands that are made of xs
pub last_below : (app : App) (shapes : List Shape) (shape : Shape) → with_subcommand (with_shapes app shapes) shape ≡ with_shapes app (shapes ++ shape ∷ [])
last_below app [] shape = refl
last_below app (s ∷ shapes) shape = last_below (with_subcommand app s) shapes shape

pub next_below : {X : Type 0} (make : X → Shape) (app : App) (xs : List X) (k : ℕ) (x : X) → k < length xs
    → with_subcommand (with_shapes app (map make (take k xs))) (make (slice_index_or xs k x)) ≡ with_shapes app (map make (take (k + 1) xs))
next_below make app xs k x low = last_below app (map make (take k xs)) (make (slice_index_or xs k x)) ∙ ap (with_shapes app) (sym (map_more make xs k x low))
