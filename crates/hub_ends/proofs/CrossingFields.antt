-- Fields of instructions may be lent to other threads.
use denote.Hole.{as_row}
use denote.Struct.Field.{Field, row_field, u32-field}
use denote.Param.Send.{IsSync, sendable}
use denote.Param.SendFields.{as_row_sync}
use Rattle.std.specs.contracts.option.Option as Option
use Rattle.wasm_ast.specs.contracts.types.ValType as ValType
use Rattle.wasm_ast.proofs.types.ValType.TheSendSync as val_type

pub as_row_of : (F : Field) → IsSync F.row → IsSync (as_row (row_field (as_row F)))
as_row_of F s = as_row_sync (row_field (as_row F)) (as_row_sync F s)

pub option_sync : IsSync (Option.the_field ValType.the_row).row
option_sync = let s = val_type.the_sync in search sendable depth 20

pub number_sync : IsSync u32-field.row
number_sync = search sendable
