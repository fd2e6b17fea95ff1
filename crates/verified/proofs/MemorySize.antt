-- How large the memory is.
use Rattle.std.proofs.Common.{◌≤◌, List, [], ◌∷◌, arith}
use Rattle.std.specs.List.{AllByRecursion}
use Rattle.wasm_ast.specs.declared.types.Limits.{Limits}
use Rattle.wasm_ast.specs.declared.module.Module.{Module}
use Rattle.verified.specs.Memory.{memory_bytes, bytes_of, max_minimum, MinimumsWithin}

pub memory_small : (m : Module) → MinimumsWithin m → memory_bytes m ≤ 1048576
memory_small m h = by_list m.memories h
  where
    by_list : (ls : List Limits) → AllByRecursion (λ (l : Limits). l.minimum ≤ max_minimum) ls → bytes_of ls ≤ 1048576
    by_list [] g = omega arith
    by_list (l ∷ ls) g = let few = g.0 in omega (arith, few)
