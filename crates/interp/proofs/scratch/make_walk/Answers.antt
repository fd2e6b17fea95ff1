use Rattle.std.proofs.Common.{◌+◌, ◌<◌, ◌≤◌, List, rules, sym, subst}
use Rattle.std.specs.Prelude.{vec_capacity}
use Rattle.wasm_ast.specs.declared.types.Value.{Value}
use Rattle.wasm_ast.specs.declared.module.Module.{Module}
use Rattle.wasm_ast.specs.Limits.{max_locals}
use Rattle.interp.specs.Room.{most_entries, most_locals}
use Rattle.interp.specs.inside.Begun.{AreInitial}
use Rattle.interp.proofs.scratch.make_walk.Goals as goal

pub returns : goal.returns
returns c =
    let initial = subst (λ (m : Module). AreInitial m.globals c.globals.result.now) c.requires c.globals.ensures in
    let frames = c.max_frames-frames.result in
    let entries : most_entries frames < vec_capacity c.in_ok-entries.entries = search rules in
    let operands : c.max_operands.result < c.in_ok-operands.operands.below.room = search rules in
    let locals : most_locals frames + max_locals ≤ c.in_ok-locals.locals.below.room = search rules in
    record {
      frames = frames;
      told = c.max_frames-frames.ensures;
      few_entries = entries;
      height = c.max_operands.result;
      told_height = c.max_operands.ensures;
      few_operands = operands;
      few_locals = locals;
      globals = subst (λ (cells : List Value). AreInitial c.args.verified.now.globals cells) (sym c.in_ok-globals.ensures) initial;
      bytes = c.in_ok-memory.ensures.kept;
    }
