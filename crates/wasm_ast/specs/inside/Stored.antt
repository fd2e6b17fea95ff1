-- The stored form of each type of the syntax that holds lists. The proofs use only that there is one.
use Rattle.std.specs.Coded.{Coded}
use Rattle.wasm_ast.specs.declared.sequence.Name.{Name}
use Rattle.wasm_ast.specs.declared.types.FuncType.{FuncType}
use Rattle.wasm_ast.specs.declared.plain.Branch.{Branch}
use Rattle.wasm_ast.specs.declared.body.Instr.{Instr}
use Rattle.wasm_ast.specs.declared.body.Body.{Body}
use Rattle.wasm_ast.specs.declared.module.Import.{Import}
use Rattle.wasm_ast.specs.declared.module.Function.{Function}
use Rattle.wasm_ast.specs.declared.module.Global.{Global}
use Rattle.wasm_ast.specs.declared.module.Export.{Export}
use Rattle.wasm_ast.specs.declared.module.Element.{Element}
use Rattle.wasm_ast.specs.declared.module.Data.{Data}
use Rattle.wasm_ast.specs.declared.module.Module.{Module}
use Rattle.wasm_ast.specs.contracts.sequence.Name as name_type
use Rattle.wasm_ast.specs.contracts.types.FuncType as func_type_type
use Rattle.wasm_ast.specs.contracts.plain.Branch as branch_type
use Rattle.wasm_ast.specs.contracts.body.Instr as instr_type
use Rattle.wasm_ast.specs.contracts.body.Body as body_type
use Rattle.wasm_ast.specs.contracts.module.Import as import_type
use Rattle.wasm_ast.specs.contracts.module.Function as function_type
use Rattle.wasm_ast.specs.contracts.module.Global as global_type
use Rattle.wasm_ast.specs.contracts.module.Export as export_type
use Rattle.wasm_ast.specs.contracts.module.Element as element_type
use Rattle.wasm_ast.specs.contracts.module.Data as data_type
use Rattle.wasm_ast.specs.contracts.module.Module as module_type

pub stored_name : Coded Name
stored_name = name_type.the_row.coded

pub stored_func_type : Coded FuncType
stored_func_type = func_type_type.the_row.coded

pub stored_branch : Coded Branch
stored_branch = branch_type.the_row.coded

pub stored_instr : Coded Instr
stored_instr = instr_type.the_row.coded

pub stored_body : Coded Body
stored_body = body_type.the_row.coded

pub stored_import : Coded Import
stored_import = import_type.the_row.coded

pub stored_function : Coded Function
stored_function = function_type.the_row.coded

pub stored_global : Coded Global
stored_global = global_type.the_row.coded

pub stored_export : Coded Export
stored_export = export_type.the_row.coded

pub stored_element : Coded Element
stored_element = element_type.the_row.coded

pub stored_data : Coded Data
stored_data = data_type.the_row.coded

pub stored_module : Coded Module
stored_module = module_type.the_row.coded
