-- What the parser makes of a printed text.
use Rattle.std.proofs.Common.{◌≡◌, ℕ, List, [], Some, ap, ◌∙◌, arith}
use Rattle.wasm_ast.specs.declared.module.Module.{Module}
use Rattle.wasm_ast.specs.Limits.{IsWithinLimits}
use Rattle.wasm_ast.specs.Representable.{IsRepresentable}
use Rattle.wat_syntax.specs.declared.lexer.token.Token.{Token}
use Rattle.wat_syntax.specs.Layout.{layout, pieces}
use Rattle.wat_syntax.specs.inside.Tokens.{IsPrinted, sorted, toks_of}
use Rattle.wat_syntax.specs.inside.ReadingModule.{module_at}
use Rattle.wat_syntax.proofs.AgainModule.{module_again, steps_of}

pub layout_printed : (source : List ℕ) (m : Module) → source ≡ layout m → IsPrinted source (pieces m [])
unfolding layout
layout_printed source m e = e

pub tokens_again : (source : List ℕ) (ts : List Token) (m : Module) → IsRepresentable m → IsWithinLimits m
    → toks_of source ts ≡ sorted (pieces m []) → module_at (steps_of m) (toks_of source ts) ≡ Some m
tokens_again source ts m held within same =
    ap (module_at (steps_of m)) same ∙ module_again m held within (steps_of m) (omega arith)
