-- What is printed is read again: numbers, names and types.
use Rattle.std.proofs.Common.{◌≡◌, ℕ, ◌-◌, ◌<◌, ◌^◌, Bool, true, false, List, [], ◌∷◌, ◌++◌, length, Option, Some, None, refl, ◌∙◌, arith}
use Rattle.std.specs.List.{AllByRecursion}
use Rattle.std.specs.Str.{IsUtf8}
use Rattle.std.proofs.lemmas.Bool.{lt-ltb}
use Rattle.std.proofs.lemmas.Str.{is_utf8-from_IsUtf8}
use Rattle.wasm_ast.specs.declared.types.ValType.{ValType}
use Rattle.wasm_ast.specs.declared.types.FuncType.{FuncType}
use Rattle.wasm_ast.specs.declared.types.Limits.{Limits}
use Rattle.wasm_ast.specs.declared.types.Mutability.TheVariants as mutability
use Rattle.wasm_ast.specs.declared.types.Mutability.{Mutability}
use Rattle.wasm_ast.specs.declared.types.GlobalType.{GlobalType}
use Rattle.wasm_ast.specs.Representable.{IsU32, IsOptionalU32, AreLimitsHeld}
use Rattle.wat_syntax.specs.declared.keyword.Keyword.{Keyword}
use Rattle.wat_syntax.specs.declared.keyword.Keyword.TheVariants as keyword
use Rattle.wat_syntax.specs.Pieces.{Piece, each}
use Rattle.wat_syntax.specs.Pieces as piece
use Rattle.wat_syntax.specs.Instructions.{type_use, type_word, number}
use Rattle.wat_syntax.specs.Layout.{type_group, maximum_part, limits, value_type, global_type, type_field}
use Rattle.wat_syntax.specs.inside.Tokens.{Tok, sorted}
use Rattle.wat_syntax.specs.inside.Tokens as tok
use Rattle.wat_syntax.specs.inside.Reading.{repeated, item_step, closed_at, unnamed_at, number_at, number_first, text_at, name_at, val_type_at, val_type_first, val_types_at, maximum_at, limits_at, mut_type_at, global_type_at, group_at, param_first, result_first, local_first, nameless_at, group_step, groups_at, signature_at, signature_first, func_at, defined_type_at, named_use_at, type_use_at}
use Rattle.wat_syntax.specs.inside.ReadingModule.{goes_on_with_type, type_step, types_at}
use Rattle.wat_syntax.proofs.AgainTools.{unnamed_again, Ends, step_again, stop_again, each_again, all_of}

-- ---- numbers and names

pub number_again : (n : ℕ) (ts : List Tok) (types : List FuncType) → IsU32 n → number_at (tok.number n ∷ ts, types) ≡ Some (n, (ts, types))
unfolding number_at
number_again n ts types small = rw (lt-ltb n (2 ^ 32) small) refl

-- numbers one after another
pub numbers_again : (ns : List ℕ) (n : ℕ) (more : List Piece) (types : List FuncType) → AllByRecursion IsU32 ns → length ns < n → number_first (sorted more) ≡ Some false
    → repeated number_first (item_step number_at) n ([], (sorted (each number ns more), types)) ≡ Some (ns, (sorted more, types))
unfolding number_first
numbers_again ns n more types all lt off =
    each_again number_first (item_step number_at) number IsU32 (λ front ps. (front, (sorted ps, types)))
    (λ front x after. refl)
    (λ front x after fine. rw (number_again x (sorted after) types fine) refl)
    ns [] n more all lt off

pub name_again : (bytes : List ℕ) (ts : List Tok) (types : List FuncType) → IsUtf8 bytes → name_at (tok.text bytes ∷ ts, types) ≡ Some (bytes, (ts, types))
unfolding name_at text_at
name_again bytes ts types h = rw (is_utf8-from_IsUtf8 bytes h) refl

-- ---- limits and the types of globals

maximum_again : (m : Option ℕ) (more : List Piece) (types : List FuncType) → IsOptionalU32 m → Ends (sorted more)
    → maximum_at (sorted (maximum_part m more), types) ≡ Some (m, (sorted more, types))
unfolding maximum_at
maximum_again None more types h e = e.no_maximum types
maximum_again (Some n) more types h e = rw (number_again n (sorted more) types h) refl

pub limits_again : (l : Limits) (more : List Piece) (types : List FuncType) → AreLimitsHeld l → Ends (sorted more)
    → limits_at (sorted (limits l more), types) ≡ Some (l, (sorted more, types))
unfolding limits_at
limits_again l more types h e =
    rw (number_again l.minimum (sorted (maximum_part l.maximum more)) types h.0, maximum_again l.maximum more types h.1 e) refl

value_type_again : (m : Mutability) (t : ValType) (more : List Piece) (types : List FuncType)
    → global_type_at (sorted (value_type m t more), types) ≡ Some (record { mutability = m; value = t }, (sorted more, types))
unfolding global_type_at mut_type_at val_type_at closed_at
value_type_again mutability.Constant t more types = refl
value_type_again mutability.Variable t more types = refl

pub global_type_again : (t : GlobalType) (more : List Piece) (types : List FuncType) → global_type_at (sorted (global_type t more), types) ≡ Some (t, (sorted more, types))
global_type_again t more types = value_type_again t.mutability t.value more types

-- ---- groups of types

val_types_again : (ts : List ValType) (n : ℕ) (more : List Piece) (types : List FuncType) → length ts < n → val_type_first (sorted more) ≡ Some false
    → val_types_at n ([], (sorted (each type_word ts more), types)) ≡ Some (ts, (sorted more, types))
unfolding val_types_at val_type_at val_type_first
val_types_again ts n more types lt off =
    each_again val_type_first (item_step val_type_at) type_word (λ t. Unit {0}) (λ front ps. (front, (sorted ps, types)))
    (λ front x after. refl)
    (λ front x after fine. refl)
    ts [] n more (all_of (λ t. Unit {0}) (λ t. tt) ts) lt off

group_again : (ts : List ValType) (n : ℕ) (more : List Piece) (types : List FuncType) → length ts < n
    → group_at n ([], (sorted (each type_word ts (piece.closes ∷ more)), types)) ≡ Some (ts, (sorted more, types))
unfolding group_at closed_at val_type_first
group_again ts n more types lt = rw (val_types_again ts n (piece.closes ∷ more) types lt refl) refl

-- what tells whether a group stands in front that begins with this keyword
abbrev Begins : Keyword → (List Tok → Option Bool) → Type 0
Begins k first = (ts : List Tok) → first (tok.opens ∷ tok.key k ∷ ts) ≡ Some true

group_step_again : (k : Keyword) (n : ℕ) (ps : List Piece) (types : List FuncType) → group_step n ([], (tok.opens ∷ tok.key k ∷ sorted ps, types)) ≡ group_at n ([], (sorted ps, types))
unfolding group_step nameless_at
group_step_again k n ps types = rw (unnamed_again ps types) refl

groups_again : (k : Keyword) (first : List Tok → Option Bool) → Begins k first
    → (ts : List ValType) (n m : ℕ) (more : List Piece) (types : List FuncType) → length ts < n → length ts < m → first (sorted more) ≡ Some false
    → repeated first (group_step n) m ([], (sorted (type_group k ts more), types)) ≡ Some (ts, (sorted more, types))
groups_again k first begins [] n m more types lt le off = stop_again first (group_step n) m ([], (sorted more, types)) (omega arith) off
groups_again k first begins (t ∷ ts) n m more types lt le off =
    let inside : List Piece = each type_word (t ∷ ts) (piece.closes ∷ more) in
    step_again first (group_step n) m ([], (tok.opens ∷ tok.key k ∷ sorted inside, types)) (t ∷ ts, (sorted more, types)) (omega arith)
    (begins (sorted inside)) (group_step_again k n inside types ∙ group_again (t ∷ ts) n more types lt)
    ∙ stop_again first (group_step n) (m - 1) (t ∷ ts, (sorted more, types)) (omega arith) off

pub locals_again : (ts : List ValType) (n : ℕ) (more : List Piece) (types : List FuncType) → length ts < n → local_first (sorted more) ≡ Some false
    → groups_at local_first n ([], (sorted (type_group keyword.Local ts more), types)) ≡ Some (ts, (sorted more, types))
unfolding groups_at
locals_again ts n more types lt off = groups_again keyword.Local local_first (λ ts. refl) ts n n more types lt lt off

-- ---- the types that a module defines

no_params : (ts : List ValType) (more : List Piece) → param_first (sorted more) ≡ Some false → param_first (sorted (type_group keyword.Result ts more)) ≡ Some false
no_params [] more off = off
no_params (t ∷ ts) more off = refl

signature_again : (t : FuncType) (n : ℕ) (more : List Piece) (types : List FuncType) → length t.parameters < n → length t.results < n
    → signature_at n (sorted (type_group keyword.Param t.parameters (type_group keyword.Result t.results (piece.closes ∷ more))), types) ≡ Some (t, (tok.closes ∷ sorted more, types))
unfolding signature_at groups_at
signature_again t n more types lt le =
    let after : List Piece = type_group keyword.Result t.results (piece.closes ∷ more) in
    rw (
      groups_again keyword.Param param_first (λ ts. refl) t.parameters n n after types lt lt (no_params t.results (piece.closes ∷ more) refl),
      groups_again keyword.Result result_first (λ ts. refl) t.results n n (piece.closes ∷ more) types le le refl,
    ) refl

defined_type_again : (t : FuncType) (n : ℕ) (more : List Piece) (types : List FuncType) → length t.parameters < n → length t.results < n
    → type_step n (tt, (sorted (type_field t more), types)) ≡ Some (tt, (sorted more, types ++ t ∷ []))
unfolding type_step defined_type_at unnamed_at func_at closed_at
defined_type_again t n more types lt le = rw (signature_again t n (piece.closes ∷ more) types lt le) refl

pub types_again : (ts : List FuncType) (n : ℕ) (more : List Piece) → AllByRecursion (λ (t : FuncType). (length t.parameters < n) × (length t.results < n)) ts → length ts < n
    → goes_on_with_type (sorted more) ≡ Some false → types_at n (tt, (sorted (each type_field ts more), [])) ≡ Some (tt, (sorted more, ts))
unfolding types_at
types_again ts n more all lt off =
    each_again goes_on_with_type (type_step n) type_field (λ (t : FuncType). (length t.parameters < n) × (length t.results < n)) (λ front ps. (tt, (sorted ps, front)))
    (λ front x after. refl)
    (λ front x after fine. defined_type_again x n after front fine.0 fine.1)
    ts [] n more all lt off

-- (type n), where neither parameters nor results follow
pub type_use_again : (n : ℕ) (more : List Piece) (types : List FuncType) → IsU32 n → signature_first (sorted more) ≡ false
    → type_use_at (sorted (type_use n more), types) ≡ Some (n, (sorted more, types))
unfolding type_use_at named_use_at closed_at
type_use_again n more types small off = rw (number_again n (tok.closes ∷ sorted more) types small, off) refl
