-- Codes of a job's model, for the logic.
use Rattle.std.specs.Prelude.{ℕ, ℤ, List, [], refl}
use Rattle.std.specs.Coded.{Coded, code_by, coded×, coded_ℕ, coded_ℤ, coded_list}
use Rattle.wasm_ast.specs.declared.module.Module.{Module}
use Rattle.wasm_ast.specs.Modules.{empty_module}
use Rattle.wasm_ast.specs.contracts.module.Module as module_type
use Rattle.graph.specs.Entry.{Entry}
use Rattle.job_state.specs.declared.settings.Settings.{Settings}
use Rattle.superstep.specs.Job.{Work}

abbrev pub entry_code : Coded Entry
entry_code =
    code_by (ℕ × (ℤ × List (ℕ × ℤ))) (coded× coded_ℕ (coded× coded_ℤ (coded_list (coded× coded_ℕ coded_ℤ))))
    (λ e. (e.id, (e.value, e.edges))) (λ p. record { id = p.0; value = p.1.0; edges = p.1.1 }) (λ _. refl)

abbrev pub settings_code : Coded Settings
settings_code =
    code_by (ℕ × (ℕ × (ℕ × (ℕ × ℕ)))) (coded× coded_ℕ (coded× coded_ℕ (coded× coded_ℕ (coded× coded_ℕ coded_ℕ))))
    (λ s. (s.parts, (s.workers, (s.every, (s.limit, s.lease)))))
    (λ p. record { parts = p.0; workers = p.1.0; every = p.1.1.0; limit = p.1.1.1.0; lease = p.1.1.1.1 }) (λ _. refl)

-- the model of no job: an empty module over no graph
abbrev pub no_work : Work
no_work = record { «module» = empty_module; parts = []; settings = record { parts = 0; workers = 0; every = 0; limit = 0; lease = 0 } }

abbrev pub work_code : Coded Work
work_code =
    code_by (Module × (List (List Entry) × Settings)) (coded× module_type.the_row.coded (coded× (coded_list (coded_list entry_code)) settings_code))
    (λ w. (w.«module», (w.parts, w.settings))) (λ p. record { «module» = p.0; parts = p.1.0; settings = p.1.1 }) (λ _. refl)
