-- What is answered, by what each step of an answer says.
use Rattle.std.proofs.Common.{inl, inr, ◌≡◌, ◌∙◌, ◌≢◌, ℕ, true, false, List, length, Option, None, Some, Result, Ok, Err, refl, ap, sym, subst}
use Rattle.std.specs.Prelude.{IfOk, String, is_some, string_bytes}
use Rattle.std.specs.Option.{option_copied}
use Rattle.std.specs.Borrow.{Bor}
use Rattle.wasm_ast.specs.declared.module.Module.{Module}
use Rattle.graph.specs.Entry.{Entry, edge_count}
use Rattle.job_state.specs.declared.settings.Settings.{Settings}
use Rattle.job_state.specs.declared.fault.JobFault.{JobFault}
use Rattle.superstep.specs.Job.{Work}
use Rattle.superstep.specs.Ending.{IsEndOf}
use Rattle.sources.specs.declared.fault.CommandFault.{CommandFault}
use Rattle.sources.specs.Disk.{Disk, unknown as any_disk}
use Rattle.sources.specs.Source.{RefusesLoad}
use Rattle.sources.specs.Jobs.{IsJobOf, RefusesSettings}
use Rattle.sources.specs.Reading.{IsLoadedAt, IsNoGraphAt, IsReadAt, IsRefusedAt}
use Rattle.session.specs.declared.run_state.RunState.{RunState}
use Rattle.session.specs.declared.run_state.RunState.TheVariants as state
use Rattle.session.specs.declared.held_job.HeldJob.{HeldJob}
use Rattle.session.specs.declared.reply.Reply.{Reply}
use Rattle.book.specs.declared.report.Report.{Report}
use Rattle.session.specs.Commands.{add_module, add_graph, add_job, run, status, values}
use Rattle.session.specs.Held.{IsSound}
use Rattle.session.specs.Maps.{Maps}
use Rattle.session.specs.Runs.{Runs}
use Rattle.session.specs.Replies.{graph_line, job_line, memory_line, not_waiting_line, refusal_line, status_line, taken_line, unknown_line, values_text}
use Rattle.session.specs.Transcript.{IsReplyTo}
use Rattle.session.specs.inside.Answered.{GivesName, IsSet, IsSoundAt, NamesJob, ReportsHeldValues, is_waiting, never}
use Rattle.session.specs.inside.SeenLines.{IsModuleLine, IsReplyOf, IsToldOrNoMemory, run_end_line, state_of, reply_text}
use Rattle.session.specs.inside.Seen.{IsToldOf}

-- ---- what is found

pub none_of : {X : Type 0} (found : Option X) → is_some found ≡ false → found ≡ None
none_of None free = refl
none_of (Some x) free = cc

pub some_of : {X : Type 0} (found : Option X) (x : X) → found ≡ Some x → is_some found ≡ true
some_of found x e = ap is_some e

pub some_same : {X : Type 0} (x y : X) → Some x ≡ Some y → x ≡ y
some_same x y e = cc

-- what a look-up lends
pub copied_some : {X : Type 0} (found : Option (Bor X)) (x : Bor X) (held : Option X) → option_copied found ≡ held → found ≡ Some x → held ≡ Some x.now
copied_some found x held same is = sym same ∙ ap option_copied is

pub copied_none : {X : Type 0} (found : Option (Bor X)) (held : Option X) → option_copied found ≡ held → found ≡ None → held ≡ None
copied_none found held same is = sym same ∙ ap option_copied is

-- ---- files

-- a fault that has a cause, and is told
pub told_of : (Cause : CommandFault → Type 0) (fault : CommandFault) (told : List ℕ) → Cause fault → IsToldOrNoMemory (refusal_line fault) told → IsToldOf Cause told
told_of Cause fault told because (inl is) = inl (record { fault = fault; because = because; told = is })
told_of Cause fault told because (inr memory) = inr memory

-- ---- modules and graphs

pub module_taken : (disk : Disk) (maps : Maps) (name path reply : List ℕ) → is_some (maps.modules name) ≡ true → reply ≡ taken_line
    → IsReplyTo disk never maps (add_module name path) reply maps
module_taken disk maps name path reply taken told = inr (refl, inl (inl (record { taken = taken; told = told })))

pub module_named : (disk : Disk) (maps : Maps) (name path reply : List ℕ) (m : Module) (modules : List ℕ → Option Module) → is_some (maps.modules name) ≡ false
    → IsLoadedAt disk path m → GivesName (IsModuleLine name m) name m maps.modules modules reply
    → IsReplyTo disk never maps (add_module name path) reply (record maps { modules = modules })
module_named disk maps name path reply m modules free loaded (inl (is, line)) = inl (record {
  free = none_of (maps.modules name) free;
  m = m;
  loaded = loaded;
  size = line.0;
  has_size = line.1;
  told = line.2;
  added = ap (λ (found : List ℕ → Option Module). record maps { modules = found }) is;
})
module_named disk maps name path reply m modules free loaded (inr (same, memory)) =
    inr (ap (λ (found : List ℕ → Option Module). record maps { modules = found }) same, inr memory)

pub module_refused : (disk : Disk) (maps : Maps) (name path reply : List ℕ) → is_some (maps.modules name) ≡ false
    → IsToldOf (IsRefusedAt disk path RefusesLoad) reply → IsReplyTo disk never maps (add_module name path) reply maps
module_refused disk maps name path reply free (inl tells) = inr (refl, inl (inr (none_of (maps.modules name) free, tells)))
module_refused disk maps name path reply free (inr memory) = inr (refl, inr memory)

pub graph_taken : (disk : Disk) (maps : Maps) (name path reply : List ℕ) → is_some (maps.graphs name) ≡ true → reply ≡ taken_line
    → IsReplyTo disk never maps (add_graph name path) reply maps
graph_taken disk maps name path reply taken told = inr (refl, inl (inl (record { taken = taken; told = told })))

pub graph_named : (disk : Disk) (maps : Maps) (name path reply : List ℕ) (graph : List Entry) (graphs : List ℕ → Option (List Entry)) → is_some (maps.graphs name) ≡ false
    → IsReadAt disk path graph → GivesName (λ told. told ≡ graph_line name (length graph) (edge_count graph)) name graph maps.graphs graphs reply
    → IsReplyTo disk never maps (add_graph name path) reply (record maps { graphs = graphs })
graph_named disk maps name path reply graph graphs free read (inl (is, told)) = inl (record {
  free = none_of (maps.graphs name) free;
  graph = graph;
  read = read;
  told = told;
  added = ap (λ (found : List ℕ → Option (List Entry)). record maps { graphs = found }) is;
})
graph_named disk maps name path reply graph graphs free read (inr (same, memory)) =
    inr (ap (λ (found : List ℕ → Option (List Entry)). record maps { graphs = found }) same, inr memory)

pub graph_refused : (disk : Disk) (maps : Maps) (name path reply : List ℕ) → is_some (maps.graphs name) ≡ false
    → IsToldOf (IsNoGraphAt disk path) reply → IsReplyTo disk never maps (add_graph name path) reply maps
graph_refused disk maps name path reply free (inl tells) = inr (refl, inl (inr (none_of (maps.graphs name) free, tells)))
graph_refused disk maps name path reply free (inr memory) = inr (refl, inr memory)

-- ---- jobs

module _ (maps : Maps) (name module_name graph_name : List ℕ) (settings : Settings) (reply : List ℕ) where
  pub job_taken : is_some (maps.jobs name) ≡ true → reply ≡ taken_line → IsReplyTo any_disk never maps (add_job name module_name graph_name settings) reply maps
  job_taken taken told = inr (refl, inl (inl (record { taken = taken; told = told })))

  pub job_without_module : is_some (maps.jobs name) ≡ false → maps.modules module_name ≡ None → reply ≡ unknown_line
      → IsReplyTo any_disk never maps (add_job name module_name graph_name settings) reply maps
  job_without_module free none told = inr (refl, inl (inr (inl (none_of (maps.jobs name) free, record { none = none; told = told }))))

  pub job_without_graph : is_some (maps.jobs name) ≡ false → maps.graphs graph_name ≡ None → reply ≡ unknown_line
      → IsReplyTo any_disk never maps (add_job name module_name graph_name settings) reply maps
  job_without_graph free none told = inr (refl, inl (inr (inr (inl (none_of (maps.jobs name) free, record { none = none; told = told })))))

  pub job_refused : (m : Module) (graph : List Entry) → is_some (maps.jobs name) ≡ false → maps.modules module_name ≡ Some m
      → maps.graphs graph_name ≡ Some graph → IsToldOf (RefusesSettings settings) reply
      → IsReplyTo any_disk never maps (add_job name module_name graph_name settings) reply maps
  job_refused m graph free has_module has_graph (inl tells) =
      inr (
        refl,
        inl (inr (inr (inr (
          none_of (maps.jobs name) free,
          some_of (maps.modules module_name) m has_module,
          some_of (maps.graphs graph_name) graph has_graph,
          tells,
        )))),
      )
  job_refused m graph free has_module has_graph (inr memory) = inr (refl, inr memory)

  pub job_named : (m : Module) (graph : List Entry) (work : Work) (jobs : List ℕ → Option HeldJob) → is_some (maps.jobs name) ≡ false
      → maps.modules module_name ≡ Some m → maps.graphs graph_name ≡ Some graph → IsJobOf m graph settings work → NamesJob name work maps.jobs jobs reply
      → IsReplyTo any_disk never maps (add_job name module_name graph_name settings) reply (record maps { jobs = jobs })
  job_named m graph work jobs free has_module has_graph is_job (held, waiting, inl (is, told)) = inl (record {
    free = none_of (maps.jobs name) free;
    m = m;
    has_module = has_module;
    graph = graph;
    has_graph = has_graph;
    held = held;
    is_job = subst (IsJobOf m graph settings) (sym waiting.same) is_job;
    waits = waiting.waits;
    told = told;
    added = ap (λ (found : List ℕ → Option HeldJob). record maps { jobs = found }) is;
  })
  job_named m graph work jobs free has_module has_graph is_job (held, waiting, inr (same, memory)) =
      inr (ap (λ (found : List ℕ → Option HeldJob). record maps { jobs = found }) same, inr memory)

-- ---- runs

waits_then : (end : RunState) → is_waiting end ≡ true → end ≡ state.Waiting
waits_then state.Waiting waits = refl
waits_then (state.Ended report) waits = cc
waits_then (state.Failed fault) waits = cc

ran_then : (end : RunState) → is_waiting end ≡ false → end ≢ state.Waiting
ran_then state.Waiting ran = λ e. cc
ran_then (state.Ended report) ran = λ e. cc
ran_then (state.Failed fault) ran = λ e. cc

pub sound_end : (work : Work) (end : Result Report JobFault) → IfOk end (λ report. IsEndOf work report.ended) → IsSound work (state_of end)
sound_end work (Ok report) ends = λ other e. let same : report ≡ other = cc in subst (λ (told : Report). IsEndOf work told.ended) same ends
sound_end work (Err fault) ends = λ other e. cc

module _ (runs : Runs) (maps : Maps) (name reply : List ℕ) where
  pub run_unknown : maps.jobs name ≡ None → reply ≡ unknown_line → IsReplyTo any_disk runs maps (run name) reply maps
  run_unknown none told = inr (refl, inl (inl (record { none = none; told = told })))

  pub run_again : (held : HeldJob) → maps.jobs name ≡ Some held → is_waiting held.state ≡ false → reply ≡ not_waiting_line
      → IsReplyTo any_disk runs maps (run name) reply maps
  run_again held is_held ran told = inr (refl, inl (inr (record { held = held; is_held = is_held; ran = ran_then held.state ran; told = told })))

  pub run_untold : reply ≡ memory_line → IsReplyTo any_disk runs maps (run name) reply maps
  run_untold memory = inr (refl, inr memory)

  pub job_ran : (held : HeldJob) (end : Result Report JobFault) (jobs : List ℕ → Option HeldJob) → maps.jobs name ≡ Some held → is_waiting held.state ≡ true
      → runs.may_end held.job end → IfOk end (λ report. IsEndOf held.job report.ended) → reply ≡ run_end_line name end → IsSet maps.jobs jobs name (state_of end)
      → IsReplyTo any_disk runs maps (run name) reply (record maps { jobs = jobs })
  job_ran held (Ok report) jobs is_held waits may_end ends told set = let so = set held is_held in inl (inl (record {
    held = held;
    is_held = is_held;
    waits = waits_then held.state waits;
    report = report;
    may_end = may_end;
    ends = ends;
    told = told;
    next = so.next;
    same = so.same;
    ended = so.ended;
    kept = ap (λ (found : List ℕ → Option HeldJob). record maps { jobs = found }) so.kept;
  }))
  job_ran held (Err fault) jobs is_held waits may_end ends told set = let so = set held is_held in inl (inr (record {
    held = held;
    is_held = is_held;
    waits = waits_then held.state waits;
    fault = fault;
    may_end = may_end;
    told = told;
    next = so.next;
    same = so.same;
    ended = so.ended;
    kept = ap (λ (found : List ℕ → Option HeldJob). record maps { jobs = found }) so.kept;
  }))

-- ---- what is told of a job

module _ (maps : Maps) (name reply : List ℕ) where
  pub status_told : (held : HeldJob) → maps.jobs name ≡ Some held → IsToldOrNoMemory (status_line name held.state) reply
      → IsReplyTo any_disk never maps (status name) reply maps
  status_told held is_held (inl told) = (refl, inl (record { held = held; is_held = is_held; told = told }))
  status_told held is_held (inr memory) = (refl, inr (inr memory))

  pub status_unknown : maps.jobs name ≡ None → reply ≡ unknown_line → IsReplyTo any_disk never maps (status name) reply maps
  status_unknown none told = (refl, inr (inl (record { none = none; told = told })))

  pub values_told : (held : HeldJob) → maps.jobs name ≡ Some held → ReportsHeldValues held reply → IsReplyTo any_disk never maps (values name) reply maps
  values_told held is_held (inl tells) =
      (refl, inl (record { held = held; is_held = is_held; report = tells.report; ended = tells.ended; ends = tells.ends; told = tells.told }))
  values_told held is_held (inr (inl none)) = (refl, inr (inr (inl (record { held = held; is_held = is_held; none = none.none; told = none.told }))))
  values_told held is_held (inr (inr memory)) = (refl, inr (inr (inr memory)))

  pub values_unknown : maps.jobs name ≡ None → reply ≡ unknown_line → IsReplyTo any_disk never maps (values name) reply maps
  values_unknown none told = (refl, inr (inl (record { none = none; told = told })))

-- ---- names and texts

-- a name is given, and a text with this property told
pub gives_told : {X : Type 0} (Told : List ℕ → Type 0) (name : List ℕ) (value : X) (before after : List ℕ → Option X) (text reply : List ℕ) → Told text
    → GivesName (λ told. told ≡ text) name value before after reply → GivesName Told name value before after reply
gives_told Told name value before after text reply holds (inl (is, told)) = inl (is, subst Told (sym told) holds)
gives_told Told name value before after text reply holds (inr (same, memory)) = inr (same, memory)

-- a text is told, or that there was no memory for it
pub reply_of : {Z E : Type 0} (line : List ℕ) (text : Result (String Z) E) (told : Reply) → IfOk text (λ t. string_bytes t ≡ line) → IsReplyOf text told
    → IsToldOrNoMemory line (reply_text told)
reply_of line (Ok text) told same is = inl (is ∙ same)
reply_of line (Err error) told same is = inr (ap reply_text is)

-- a job gets a name
pub names_job : (name : List ℕ) (job : Work) (held : HeldJob) (before after : List ℕ → Option HeldJob) (text reply : List ℕ) → text ≡ job_line name
    → GivesName (λ told. told ≡ text) name held before after reply → held.job ≡ job → held.state ≡ state.Waiting → NamesJob name job before after reply
names_job name job held before after text reply line gives same waits =
    (held, record { same = same; waits = waits }, gives_told (λ told. told ≡ job_line name) name held before after text reply line gives)

-- or there is no memory for what is told
pub names_no_job : (name : List ℕ) (job : Work) (before : List ℕ → Option HeldJob) → NamesJob name job before before memory_line
names_no_job name job before =
    (record { job = job; state = state.Waiting; sound = λ report e. cc }, record { same = refl; waits = refl }, inr (refl, refl))

-- the values of a job that ended
pub ended_told : {Z E : Type 0} (held : HeldJob) (report : Report) (text : Result (String Z) E) (told : Reply) → held.state ≡ state.Ended report
    → IfOk text (λ t. string_bytes t ≡ values_text report.ended) → IsReplyOf text told → ReportsHeldValues held (reply_text told)
ended_told held report text told is same of = elim (reply_of (values_text report.ended) text told same of) [
  | inl line ↦ inl (record { report = report; ended = is; ends = held.sound report is; told = line })
  | inr memory ↦ inr (inr memory)
]

-- how a job may end, of what its run may answer
pub sound_of : (jobs : List ℕ → Option HeldJob) (name : List ℕ) (found : HeldJob) (end : Result Report JobFault) (ended : RunState) → jobs name ≡ Some found
    → IfOk end (λ report. IsEndOf found.job report.ended) → ended ≡ state_of end → IsSoundAt jobs name ended
sound_of jobs name found end ended is ends same = λ held is_held.
    let at : found ≡ held = some_same found held (sym is ∙ is_held) in
    subst (IsSound held.job) (sym same) (sound_end held.job end (subst (λ (it : HeldJob). IfOk end (λ report. IsEndOf it.job report.ended)) at ends))
