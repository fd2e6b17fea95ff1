use Rattle.interp.proofs.Flats.{operator_did}
use Rattle.interp.proofs.flat.act_operator.Goals as goal

pub returns-in-I64Add : goal.returns-in-I64Add
returns-in-I64Add c =
    operator_did c.args.op _ c.in-I64Add.is c.act_binary.result c.args.top c.args.cells.now c.act_binary.new.cells c.act_binary.ensures

pub returns-in-I64Sub : goal.returns-in-I64Sub
returns-in-I64Sub c =
    operator_did c.args.op _ c.in-I64Sub.is c.act_binary-in-I64Sub.result c.args.top c.args.cells.now c.act_binary-in-I64Sub.new.cells c.act_binary-in-I64Sub.ensures

pub returns-in-I64Mul : goal.returns-in-I64Mul
returns-in-I64Mul c =
    operator_did c.args.op _ c.in-I64Mul.is c.act_binary-in-I64Mul.result c.args.top c.args.cells.now c.act_binary-in-I64Mul.new.cells c.act_binary-in-I64Mul.ensures

pub returns-in-I64And : goal.returns-in-I64And
returns-in-I64And c =
    operator_did c.args.op _ c.in-I64And.is c.act_binary-in-I64And.result c.args.top c.args.cells.now c.act_binary-in-I64And.new.cells c.act_binary-in-I64And.ensures

pub returns-in-I64Or : goal.returns-in-I64Or
returns-in-I64Or c =
    operator_did c.args.op _ c.in-I64Or.is c.act_binary-in-I64Or.result c.args.top c.args.cells.now c.act_binary-in-I64Or.new.cells c.act_binary-in-I64Or.ensures

pub returns-in-I64Xor : goal.returns-in-I64Xor
returns-in-I64Xor c =
    operator_did c.args.op _ c.in-I64Xor.is c.act_binary-in-I64Xor.result c.args.top c.args.cells.now c.act_binary-in-I64Xor.new.cells c.act_binary-in-I64Xor.ensures

pub returns-in-I64Shl : goal.returns-in-I64Shl
returns-in-I64Shl c =
    operator_did c.args.op _ c.in-I64Shl.is c.act_binary-in-I64Shl.result c.args.top c.args.cells.now c.act_binary-in-I64Shl.new.cells c.act_binary-in-I64Shl.ensures

pub returns-in-I64ShrS : goal.returns-in-I64ShrS
returns-in-I64ShrS c =
    operator_did c.args.op _ c.in-I64ShrS.is c.act_binary-in-I64ShrS.result c.args.top c.args.cells.now c.act_binary-in-I64ShrS.new.cells c.act_binary-in-I64ShrS.ensures

pub returns-in-I64ShrU : goal.returns-in-I64ShrU
returns-in-I64ShrU c =
    operator_did c.args.op _ c.in-I64ShrU.is c.act_binary-in-I64ShrU.result c.args.top c.args.cells.now c.act_binary-in-I64ShrU.new.cells c.act_binary-in-I64ShrU.ensures

pub returns-in-I64Rotl : goal.returns-in-I64Rotl
returns-in-I64Rotl c =
    operator_did c.args.op _ c.in-I64Rotl.is c.act_binary-in-I64Rotl.result c.args.top c.args.cells.now c.act_binary-in-I64Rotl.new.cells c.act_binary-in-I64Rotl.ensures

pub returns-in-I64Eqz : goal.returns-in-I64Eqz
returns-in-I64Eqz c =
    operator_did c.args.op _ c.in-I64Eqz.is c.act_op.result c.args.top c.args.cells.now c.act_op.new.cells c.act_op.ensures

pub returns-in-I64Eq : goal.returns-in-I64Eq
returns-in-I64Eq c =
    operator_did c.args.op _ c.in-I64Eq.is c.act_comparison.result c.args.top c.args.cells.now c.act_comparison.new.cells c.act_comparison.ensures

pub returns-in-I64Ne : goal.returns-in-I64Ne
returns-in-I64Ne c =
    operator_did c.args.op _ c.in-I64Ne.is c.act_comparison-in-I64Ne.result c.args.top c.args.cells.now c.act_comparison-in-I64Ne.new.cells c.act_comparison-in-I64Ne.ensures

pub returns-in-I64LtS : goal.returns-in-I64LtS
returns-in-I64LtS c =
    operator_did c.args.op _ c.in-I64LtS.is c.act_comparison-in-I64LtS.result c.args.top c.args.cells.now c.act_comparison-in-I64LtS.new.cells c.act_comparison-in-I64LtS.ensures

pub returns-in-I64LtU : goal.returns-in-I64LtU
returns-in-I64LtU c =
    operator_did c.args.op _ c.in-I64LtU.is c.act_comparison-in-I64LtU.result c.args.top c.args.cells.now c.act_comparison-in-I64LtU.new.cells c.act_comparison-in-I64LtU.ensures

pub returns-in-I64GtS : goal.returns-in-I64GtS
returns-in-I64GtS c =
    operator_did c.args.op _ c.in-I64GtS.is c.act_comparison-in-I64GtS.result c.args.top c.args.cells.now c.act_comparison-in-I64GtS.new.cells c.act_comparison-in-I64GtS.ensures

pub returns-in-I64GtU : goal.returns-in-I64GtU
returns-in-I64GtU c =
    operator_did c.args.op _ c.in-I64GtU.is c.act_comparison-in-I64GtU.result c.args.top c.args.cells.now c.act_comparison-in-I64GtU.new.cells c.act_comparison-in-I64GtU.ensures

pub returns-in-I64LeS : goal.returns-in-I64LeS
returns-in-I64LeS c =
    operator_did c.args.op _ c.in-I64LeS.is c.act_comparison-in-I64LeS.result c.args.top c.args.cells.now c.act_comparison-in-I64LeS.new.cells c.act_comparison-in-I64LeS.ensures

pub returns-in-I64LeU : goal.returns-in-I64LeU
returns-in-I64LeU c =
    operator_did c.args.op _ c.in-I64LeU.is c.act_comparison-in-I64LeU.result c.args.top c.args.cells.now c.act_comparison-in-I64LeU.new.cells c.act_comparison-in-I64LeU.ensures

pub returns-in-I64GeS : goal.returns-in-I64GeS
returns-in-I64GeS c =
    operator_did c.args.op _ c.in-I64GeS.is c.act_comparison-in-I64GeS.result c.args.top c.args.cells.now c.act_comparison-in-I64GeS.new.cells c.act_comparison-in-I64GeS.ensures

pub returns-in-I64GeU : goal.returns-in-I64GeU
returns-in-I64GeU c =
    operator_did c.args.op _ c.in-I64GeU.is c.act_comparison-in-I64GeU.result c.args.top c.args.cells.now c.act_comparison-in-I64GeU.new.cells c.act_comparison-in-I64GeU.ensures

pub returns-in-I32Add : goal.returns-in-I32Add
returns-in-I32Add c =
    operator_did c.args.op _ c.in-I32Add.is c.act_binary-in-I32Add.result c.args.top c.args.cells.now c.act_binary-in-I32Add.new.cells c.act_binary-in-I32Add.ensures

pub returns-in-I32Sub : goal.returns-in-I32Sub
returns-in-I32Sub c =
    operator_did c.args.op _ c.in-I32Sub.is c.act_binary-in-I32Sub.result c.args.top c.args.cells.now c.act_binary-in-I32Sub.new.cells c.act_binary-in-I32Sub.ensures

pub returns-in-I32Mul : goal.returns-in-I32Mul
returns-in-I32Mul c =
    operator_did c.args.op _ c.in-I32Mul.is c.act_binary-in-I32Mul.result c.args.top c.args.cells.now c.act_binary-in-I32Mul.new.cells c.act_binary-in-I32Mul.ensures

pub returns-in-I32And : goal.returns-in-I32And
returns-in-I32And c =
    operator_did c.args.op _ c.in-I32And.is c.act_binary-in-I32And.result c.args.top c.args.cells.now c.act_binary-in-I32And.new.cells c.act_binary-in-I32And.ensures

pub returns-in-I32Or : goal.returns-in-I32Or
returns-in-I32Or c =
    operator_did c.args.op _ c.in-I32Or.is c.act_binary-in-I32Or.result c.args.top c.args.cells.now c.act_binary-in-I32Or.new.cells c.act_binary-in-I32Or.ensures

pub returns-in-I32Xor : goal.returns-in-I32Xor
returns-in-I32Xor c =
    operator_did c.args.op _ c.in-I32Xor.is c.act_binary-in-I32Xor.result c.args.top c.args.cells.now c.act_binary-in-I32Xor.new.cells c.act_binary-in-I32Xor.ensures

pub returns-in-I32Eqz : goal.returns-in-I32Eqz
returns-in-I32Eqz c =
    operator_did c.args.op _ c.in-I32Eqz.is c.act_op-in-I32Eqz.result c.args.top c.args.cells.now c.act_op-in-I32Eqz.new.cells c.act_op-in-I32Eqz.ensures

pub returns-in-I32Eq : goal.returns-in-I32Eq
returns-in-I32Eq c =
    operator_did c.args.op _ c.in-I32Eq.is c.act_comparison-in-I32Eq.result c.args.top c.args.cells.now c.act_comparison-in-I32Eq.new.cells c.act_comparison-in-I32Eq.ensures

pub returns-in-I32Ne : goal.returns-in-I32Ne
returns-in-I32Ne c =
    operator_did c.args.op _ c.in-I32Ne.is c.act_comparison-in-I32Ne.result c.args.top c.args.cells.now c.act_comparison-in-I32Ne.new.cells c.act_comparison-in-I32Ne.ensures

pub returns-in-I32LtS : goal.returns-in-I32LtS
returns-in-I32LtS c =
    operator_did c.args.op _ c.in-I32LtS.is c.act_comparison-in-I32LtS.result c.args.top c.args.cells.now c.act_comparison-in-I32LtS.new.cells c.act_comparison-in-I32LtS.ensures

pub returns-in-I32LtU : goal.returns-in-I32LtU
returns-in-I32LtU c =
    operator_did c.args.op _ c.in-I32LtU.is c.act_comparison-in-I32LtU.result c.args.top c.args.cells.now c.act_comparison-in-I32LtU.new.cells c.act_comparison-in-I32LtU.ensures

pub returns-in-I32GtS : goal.returns-in-I32GtS
returns-in-I32GtS c =
    operator_did c.args.op _ c.in-I32GtS.is c.act_comparison-in-I32GtS.result c.args.top c.args.cells.now c.act_comparison-in-I32GtS.new.cells c.act_comparison-in-I32GtS.ensures

pub returns-in-I32GtU : goal.returns-in-I32GtU
returns-in-I32GtU c =
    operator_did c.args.op _ c.in-I32GtU.is c.act_comparison-in-I32GtU.result c.args.top c.args.cells.now c.act_comparison-in-I32GtU.new.cells c.act_comparison-in-I32GtU.ensures

pub returns-in-I32LeS : goal.returns-in-I32LeS
returns-in-I32LeS c =
    operator_did c.args.op _ c.in-I32LeS.is c.act_comparison-in-I32LeS.result c.args.top c.args.cells.now c.act_comparison-in-I32LeS.new.cells c.act_comparison-in-I32LeS.ensures

pub returns-in-I32GeS : goal.returns-in-I32GeS
returns-in-I32GeS c =
    operator_did c.args.op _ c.in-I32GeS.is c.act_comparison-in-I32GeS.result c.args.top c.args.cells.now c.act_comparison-in-I32GeS.new.cells c.act_comparison-in-I32GeS.ensures

pub returns-in-I32WrapI64 : goal.returns-in-I32WrapI64
returns-in-I32WrapI64 c =
    operator_did c.args.op _ c.in-I32WrapI64.is c.act_op-in-I32WrapI64.result c.args.top c.args.cells.now c.act_op-in-I32WrapI64.new.cells c.act_op-in-I32WrapI64.ensures

pub returns-in-I64ExtendI32S : goal.returns-in-I64ExtendI32S
returns-in-I64ExtendI32S c =
    operator_did c.args.op _ c.in-I64ExtendI32S.is c.act_op-in-I64ExtendI32S.result c.args.top c.args.cells.now c.act_op-in-I64ExtendI32S.new.cells c.act_op-in-I64ExtendI32S.ensures

pub returns-in-I64ExtendI32U : goal.returns-in-I64ExtendI32U
returns-in-I64ExtendI32U c =
    operator_did c.args.op _ c.in-I64ExtendI32U.is c.act_op-in-I64ExtendI32U.result c.args.top c.args.cells.now c.act_op-in-I64ExtendI32U.new.cells c.act_op-in-I64ExtendI32U.ensures
