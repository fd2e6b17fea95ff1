use Rattle.std.proofs.Common.{◌≡◌, ◌+◌, ◌*◌, ◌++◌, false, List, drop, string_bytes}
use Rattle.wasm_ast.specs.View.{code_of}
use Rattle.wasm_ast.specs.Limits.{IsCodeWithin}
use Rattle.wat_syntax.specs.Pieces.{Piece, text}
use Rattle.wat_syntax.specs.Instructions.{code}
use Rattle.wat_syntax.proofs.instructions.+code.Given as goal

abbrev pub decreases-write_code : goal.decreases-write_code
decreases-write_code l = 2 * goal.size-write_code l

abbrev pub decreases-write_block : goal.decreases-write_block
decreases-write_block l = 2 * goal.size-write_block l + 1

abbrev pub decreases-write_else : goal.decreases-write_else
decreases-write_else l = 2 * goal.size-write_else l + 1

abbrev pub decreases-write_instr : goal.decreases-write_instr
decreases-write_instr l = 2 * goal.size-write_instr l

-- the rest is within the limits, and what is written and the rest are the whole
abbrev pub invariant-write_code-loop-instr : goal.invariant-write_code-loop-instr
invariant-write_code-loop-instr l = record {
  within : IsCodeWithin l.levels (code_of (drop l.instr-index l.instr-items));
  written : l.text.is_cut ≡ false → (l.fn.text.is_cut ≡ false)
      × ((more : List Piece) → string_bytes l.text.text ++ text (code l.gap (code_of (drop l.instr-index l.instr-items)) more)
      ≡ string_bytes l.fn.text.text ++ text (code l.gap (code_of l.instr-items) more));
}
