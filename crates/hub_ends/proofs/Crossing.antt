-- A job may be lent to other threads.
use denote.Builtin.{u8, u32, u64}
use denote.Hole.{as_row}
use denote.Struct.Field.{Field, row_field, u32-field}
use denote.Struct.Declared as struct_type
use denote.Param.Send.{IsSync, view_sync, recorded_sync, struct_sync, sendable}
use denote.Param.SendFields.{as_row_sync, declared_sync, variants_sync}
use denote.Model.Goals.{sync, one_law, part_has, has_of, tied_goals}
use denote.Model.Cut.{split_one}
use denote.Model.Local.{Parts, rows}
use Rattle.std.proofs.Crossing.{Box-sync, Vec-sync}
use Rattle.std.specs.contracts.alloc.Global as Heap
use Rattle.std.specs.contracts.impls.GlobalAllocator.TheImpl.{ghosts}
use Rattle.std.specs.contracts.vec.Vec as Vec
use Rattle.std.specs.contracts.option.Option as Option
use Rattle.wasm_ast.specs.declared.body.Body.TheDeep as deep
use Rattle.wasm_ast.specs.contracts.body.Body as Body
use Rattle.wasm_ast.specs.contracts.body.Body.TheKnot as knot
use Rattle.wasm_ast.specs.contracts.plain.Branch as Branch
use Rattle.wasm_ast.specs.contracts.plain.Plain as Plain
use Rattle.wasm_ast.specs.contracts.types.ValType as ValType
use Rattle.wasm_ast.specs.contracts.module.Data as Data
use Rattle.wasm_ast.specs.contracts.module.Element as Element
use Rattle.wasm_ast.specs.contracts.module.Export as Export
use Rattle.wasm_ast.specs.contracts.module.Function as Function
use Rattle.wasm_ast.specs.contracts.module.Global as Global
use Rattle.wasm_ast.specs.contracts.module.Import as Import
use Rattle.wasm_ast.specs.contracts.module.Module as Module
use Rattle.wasm_ast.specs.contracts.types.FuncType as FuncType
use Rattle.wasm_ast.specs.contracts.types.Limits as Limits
use Rattle.verified.specs.contracts.valid.Valid as Valid
use Rattle.verified.specs.contracts.valid.Valid.TheInside as valid_inside
use Rattle.verified.specs.contracts.imports.HostCall as HostCall
use Rattle.verified.specs.contracts.cells.Cells as Cells
use Rattle.verified.specs.contracts.extents.Extent as Extent
use Rattle.verified.specs.contracts.tables.Tables as Tables
use Rattle.verified.specs.contracts.verified.Judged as Judged
use Rattle.verified.specs.contracts.verified.Verified as Verified
use Rattle.verified.specs.contracts.verified.Verified.TheInside as verified_inside
use Rattle.graph.specs.contracts.parts.Part as Part
use Rattle.superstep.specs.contracts.job.Job as Job
use Rattle.superstep.specs.contracts.job.Job.TheInside as job_inside
use Rattle.superstep.specs.contracts.job.Kept as Kept
use Rattle.wasm_ast.proofs.module.Export.TheSendSync as export_law
use Rattle.wasm_ast.proofs.module.Import.TheSendSync as import_law
use Rattle.wasm_ast.proofs.sequence.Sequence.TheSendSync as sequence
use Rattle.wasm_ast.proofs.types.FuncType.TheSendSync as func_type
use Rattle.wasm_ast.proofs.types.GlobalType.TheSendSync as global_type
use Rattle.wasm_ast.proofs.types.Limits.TheSendSync as limits
use Rattle.verified.proofs.imports.HostCall.TheSendSync as host_call
use Rattle.verified.proofs.cells.Cells.TheSendSync as cells
use Rattle.verified.proofs.facts.Facts.TheSendSync as facts
use Rattle.verified.proofs.extents.Extent.TheSendSync as extent
use Rattle.graph.proofs.parts.Part.TheSendSync as part
use Rattle.job_state.proofs.settings.Settings.TheSendSync as settings
use Rattle.wasm_ast.proofs.plain.Branch.TheSendSync as branch
use Rattle.wasm_ast.proofs.plain.Plain.TheSendSync as plain
use Rattle.verified.specs.contracts.body.FlatBody as FlatBody
use Rattle.hub_ends.proofs.CrossingFields.{as_row_of, number_sync, option_sync}
use Rattle.hub_ends.proofs.FlatCrossing.{flat_sync}
use Rattle.wasm_ast.proofs.types.ValType.TheSendSync as val_type

module _ (p : Parts knot.frame) (body : IsSync (rows knot.frame p deep.member-Body)) where
  held : IsSync (as_row (row_field (rows knot.frame p deep.member-Body)))
  held = as_row_sync (row_field (rows knot.frame p deep.member-Body)) body

  number : IsSync (as_row (row_field (as_row u32-field)))
  number = as_row_of u32-field number_sync

  block_type : IsSync (as_row (row_field (as_row (Option.the_field ValType.the_row))))
  block_type = as_row_of (Option.the_field ValType.the_row) option_sync

  instr_sync : IsSync (knot.at-Instr p)
  instr_sync = recorded_sync _ _ _ (split_one _ _ deep.split-Instr deep.join-Instr deep.joins-Instr)
      (variants_sync (knot.type-Instr (rows knot.frame p deep.member-Body) (rows knot.frame p deep.member-Body) (rows knot.frame p deep.member-Body) (rows knot.frame p deep.member-Body)) (
        (as_row_of Plain.the_field plain.the_field_sync, tt),
        (
          (as_row_of Branch.the_field branch.the_field_sync, tt),
          (
            (number, tt),
            ((number, tt), (tt, ((block_type, (held, tt)), ((block_type, (held, tt)), ((block_type, (held, (held, tt))), tt))))),
          ),
        ),
      ))

  layer_sync : IsSync (knot.at-Body p)
  layer_sync = recorded_sync _ _ _ (split_one _ _ deep.split-Body deep.join-Body deep.joins-Body)
      (declared_sync (knot.type-Body (knot.at-Instr p)) (as_row_sync (row_field (Vec.the_row (knot.at-Instr p) Heap.the_row ghosts)) (Vec-sync (knot.at-Instr p) instr_sync), tt))

  step_sync : IsSync (rows knot.frame (knot.step p) deep.member-Body)
  step_sync = has_of knot.frame sync (knot.step p) deep.member-Body (part_has sync (knot.view-Body p) (view_sync (knot.at-Body p) _ _ _ _ layer_sync))

steps : (p : Parts knot.frame) → ((i : deep.the_members) → IsSync (rows knot.frame p i)) → (i : deep.the_members) → IsSync (rows knot.frame (knot.step p) i)
steps p all deep.member-Body = step_sync p (all deep.member-Body)

pub body_sync : IsSync Body.the_row
body_sync = tied_goals knot.frame knot.step knot.sizes (one_law deep.the_members sync) steps deep.member-Body

-- ---- a module

function_field : IsSync (Function.the_field).row
function_field = struct_sync (struct_type.shape Function.the_type) (search sendable, (sequence.the_sync ValType.the_row val_type.the_sync, (body_sync, tt)))

function_sync : IsSync Function.the_row
function_sync = recorded_sync (Function.the_field).row _ _ (Function.the_type).to_one function_field

global_field : IsSync (Global.the_field).row
global_field = struct_sync (struct_type.shape Global.the_type) (global_type.the_field_sync, (body_sync, tt))

global_sync : IsSync Global.the_row
global_sync = recorded_sync (Global.the_field).row _ _ (Global.the_type).to_one global_field

u32_sync : IsSync u32
u32_sync = search sendable

u8_sync : IsSync u8
u8_sync = search sendable

u64_sync : IsSync u64
u64_sync = search sendable

element_field : IsSync (Element.the_field).row
element_field = struct_sync (struct_type.shape Element.the_type) (search sendable, (body_sync, (sequence.the_sync u32 u32_sync, tt)))

element_sync : IsSync Element.the_row
element_sync = recorded_sync (Element.the_field).row _ _ (Element.the_type).to_one element_field

data_field : IsSync (Data.the_field).row
data_field = struct_sync (struct_type.shape Data.the_type) (search sendable, (body_sync, (sequence.the_sync u8 u8_sync, tt)))

data_sync : IsSync Data.the_row
data_sync = recorded_sync (Data.the_field).row _ _ (Data.the_type).to_one data_field

module_field : IsSync (Module.the_field).row
module_field = struct_sync (struct_type.shape Module.the_type) (
  sequence.the_sync FuncType.the_row func_type.the_sync,
  (
    sequence.the_sync Import.the_row import_law.the_sync,
    (
      sequence.the_sync Function.the_row function_sync,
      (
        sequence.the_sync Limits.the_row limits.the_sync,
        (
          sequence.the_sync Limits.the_row limits.the_sync,
          (
            sequence.the_sync Global.the_row global_sync,
            (
              sequence.the_sync Export.the_row export_law.the_sync,
              (
                search sendable depth 20,
                (sequence.the_sync Element.the_row element_sync, (sequence.the_sync Data.the_row data_sync, tt)),
              ),
            ),
          ),
        ),
      ),
    ),
  ),
)

-- ---- what is made of it

module_sync : IsSync Module.the_row
module_sync = recorded_sync (Module.the_field).row _ _ (Module.the_type).to_one module_field

valid_sync : IsSync Valid.the_row
valid_sync = view_sync valid_inside.the_row _ _ _ _
    (recorded_sync (valid_inside.the_field).row _ _ (valid_inside.the_type).to_one
    (struct_sync (struct_type.shape valid_inside.the_type) (Box-sync Module.the_row module_sync, tt)))

tables_field : IsSync (Tables.the_field).row
tables_field = struct_sync (struct_type.shape Tables.the_type) (
  facts.the_field_sync,
  (
    Vec-sync HostCall.the_row host_call.the_sync,
    (Vec-sync Cells.the_row cells.the_sync, (Vec-sync Extent.the_row extent.the_sync, tt)),
  ),
)

judged_field : IsSync (Judged.the_field).row
judged_field = struct_sync (struct_type.shape Judged.the_type) (valid_sync, (tables_field, (Vec-sync FlatBody.the_row flat_sync, tt)))

judged_sync : IsSync Judged.the_row
judged_sync = recorded_sync (Judged.the_field).row _ _ (Judged.the_type).to_one judged_field

verified_sync : IsSync Verified.the_row
verified_sync = view_sync verified_inside.the_row _ _ _ _
    (recorded_sync (verified_inside.the_field).row _ _ (verified_inside.the_type).to_one
    (struct_sync (struct_type.shape verified_inside.the_type) (Box-sync Judged.the_row judged_sync, tt)))

kept_sync : IsSync Kept.the_row
kept_sync = recorded_sync (Kept.the_field).row _ _ (Kept.the_type).to_one
    (struct_sync (struct_type.shape Kept.the_type) (verified_sync, (Vec-sync Part.the_row part.the_sync, (Vec-sync (Vec.the_row u64 Heap.the_row ghosts) (Vec-sync u64 u64_sync), (search sendable, (settings.the_field_sync, tt))))))

pub job_sync : IsSync Job.the_row
job_sync = view_sync job_inside.the_row _ _ _ _
    (recorded_sync (job_inside.the_field).row _ _ (job_inside.the_type).to_one (struct_sync (struct_type.shape job_inside.the_type) (Box-sync Kept.the_row kept_sync, tt)))
