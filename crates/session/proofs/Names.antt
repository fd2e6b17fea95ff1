-- What maps by name have, after a change at one name.
use Rattle.std.proofs.Common.{◌≡◌, ◌∙◌, ℕ, List, [], Option, None, Some, Result, Ok, Err, false, ap, cond, refl, sym}
use mathlib.Core.Path.{fun_ext}
use Rattle.std.specs.Prelude.{IfNone, OnErr, String, is_some, string_bytes, string_cmp}
use Rattle.std.specs.Str.{bytes_eq}
use Rattle.std.specs.BTreeMap.{BTreeMap, UpdatesBy, get_by_text, is_at}
use Rattle.std.specs.Cmp.Lexicographic.{slice_cmp}
use Rattle.std.specs.Map.{lookup}
use Rattle.std.specs.Ordering.{nat_cmp}
use Rattle.std.proofs.lemmas.Map.Text.{btree_map_updates_text}
use Rattle.wasm_ast.specs.declared.module.Module.{Module}
use Rattle.graph.specs.Entry.{Entry}
use Rattle.session.specs.declared.held_job.HeldJob.{HeldJob}
use Rattle.session.specs.declared.run_state.RunState.{RunState}
use Rattle.session.specs.Maps.{Maps, nothing, put}
use Rattle.session.specs.inside.Answered.{IsSet}

pub put_text : {X Y : Type 0} (bytes name : List ℕ) (m n : BTreeMap (String Y) X) (found : Option X) → bytes ≡ name
    → UpdatesBy string_cmp (λ key. slice_cmp nat_cmp bytes (string_bytes key)) m n found → get_by_text n ≡ put name found (get_by_text m)
put_text bytes name m n found same updates = fun_ext (λ other.
    btree_map_updates_text bytes m n found updates other ∙ ap (λ key. cond (bytes_eq key other) found (get_by_text m other)) same)

pub same_text : {X Y : Type 0} (m n : BTreeMap (String Y) X) → n.entries ≡ m.entries → get_by_text n ≡ get_by_text m
same_text m n same = fun_ext (λ name. ap (λ entries. lookup (is_at (λ key. slice_cmp nat_cmp name (string_bytes key))) entries) same)

-- a name that had nothing
pub none_text : {X Y : Type 0} (m : BTreeMap (String Y) X) → m.entries ≡ [] → get_by_text m ≡ (λ name. None)
none_text m empty = fun_ext (λ name. ap (λ entries. lookup (is_at (λ key. slice_cmp nat_cmp name (string_bytes key))) entries) empty)

-- what a session begins with
pub empty_maps : {Y Z V : Type 0} (modules : BTreeMap (String Y) Module) (graphs : BTreeMap (String Z) (List Entry)) (jobs : BTreeMap (String V) HeldJob)
    → modules.entries ≡ [] → graphs.entries ≡ [] → jobs.entries ≡ []
    → ◌≡◌ {A = Maps} (record { modules = get_by_text modules; graphs = get_by_text graphs; jobs = get_by_text jobs }) nothing
empty_maps modules graphs jobs no_modules no_graphs no_jobs =
    ap (λ (found : List ℕ → Option Module). record { modules = found; graphs = get_by_text graphs; jobs = get_by_text jobs }) (none_text modules no_modules)
    ∙ ap (λ (found : List ℕ → Option (List Entry)). record { modules = λ name. None; graphs = found; jobs = get_by_text jobs }) (none_text graphs no_graphs)
    ∙ ap (λ (found : List ℕ → Option HeldJob). record { modules = λ name. None; graphs = λ name. None; jobs = found }) (none_text jobs no_jobs)

pub if_none : {X : Type 0} (found : Option X) (P : Type 0) → is_some found ≡ false → IfNone found P → P
if_none None P none holds = holds
if_none (Some x) P none holds = cc

-- what holds in any case
pub on_err_of : {T E : Type 0} (r : Result T E) (P : Type 0) → P → OnErr r P
on_err_of (Ok x) P holds = tt
on_err_of (Err e) P holds = holds

some_same : {X : Type 0} (x y : X) → Some x ≡ Some y → x ≡ y
some_same x y e = cc

-- a job that has a name, of which it is written how it ended
pub ends_so : {Y : Type 0} (name : List ℕ) (jobs after : BTreeMap (String Y) HeldJob) (end : RunState) (found next : HeldJob) → get_by_text jobs name ≡ Some found
    → UpdatesBy string_cmp (λ key. slice_cmp nat_cmp name (string_bytes key)) jobs after (Some next) → next.job ≡ found.job → next.state ≡ end
    → IsSet (get_by_text jobs) (get_by_text after) name end
ends_so name jobs after end found next is updates same ended = λ held is_held.
    let e : found ≡ held = some_same found held (sym is ∙ is_held) in
    record {
      next = next;
      same = same ∙ ap (λ (it : HeldJob). it.job) e;
      ended = ended;
      kept = put_text name name jobs after (Some next) refl updates;
    }

-- the same, of what a map becomes as the value that was lent ends
pub ends_as : {Y : Type 0} (name : List ℕ) (jobs : BTreeMap (String Y) HeldJob) (lender : HeldJob → BTreeMap (String Y) HeldJob) (end : RunState) (found next : HeldJob)
    → get_by_text jobs name ≡ Some found
    → ((last : HeldJob) → UpdatesBy string_cmp (λ key. slice_cmp nat_cmp name (string_bytes key)) jobs (lender last) (Some last))
    → next.job ≡ found.job → next.state ≡ end → IsSet (get_by_text jobs) (get_by_text (lender next)) name end
ends_as name jobs lender end found next is updates same ended = ends_so name jobs (lender next) end found next is (updates next) same ended
