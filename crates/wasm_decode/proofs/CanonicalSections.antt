-- Sections one after another.
use Rattle.std.proofs.Common.{◌≡◌, ℕ, List, ◌++◌, append_assoc}
use Rattle.wasm_ast.specs.declared.module.Module.{Module}
use Rattle.wasm_decode.specs.Canonical.{sections_bytes}
use Rattle.wasm_decode.specs.inside.WritingModule.{declarations_bytes, spaces_bytes, contents_bytes}

pub three_in_order : (o a b o1 o2 c : List ℕ) → o1 ≡ o ++ a → o2 ≡ o1 ++ b → o2 ++ c ≡ o ++ (a ++ (b ++ c))
three_in_order o a b o1 o2 c e1 e2 = rw (e2, e1) (simp append_assoc)

pub four_in_order : (o a b c o1 o2 o3 d : List ℕ) → o1 ≡ o ++ a → o2 ≡ o1 ++ b → o3 ≡ o2 ++ c
    → o3 ++ d ≡ o ++ (a ++ (b ++ (c ++ d)))
four_in_order o a b c o1 o2 o3 d e1 e2 e3 = rw (e3, e2, e1) (simp append_assoc)

-- the three groups are all of the sections
pub groups_in_order : (m : Module) (o o1 o2 : List ℕ) → o1 ≡ o ++ declarations_bytes m → o2 ≡ o1 ++ spaces_bytes m
    → o2 ++ contents_bytes m ≡ o ++ sections_bytes m
unfolding declarations_bytes spaces_bytes contents_bytes sections_bytes
groups_in_order m o o1 o2 e1 e2 = rw (e2, e1) (simp append_assoc)
