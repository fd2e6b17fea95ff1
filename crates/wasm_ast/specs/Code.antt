-- Code, the model of an instruction sequence (Core 1.0, 2.4.6). Some instructions contain sequences themselves.
use Rattle.std.specs.Prelude.{◌≡◌, ℕ, ◌+◌, Option, refl}
use Rattle.std.specs.Coded.{Coded, coded_option}
use base.Stored.{Gv, gnil, gnum, gcons}
use Rattle.wasm_ast.specs.declared.types.ValType.{ValType}
use Rattle.wasm_ast.specs.declared.plain.Plain.{Plain}
use Rattle.wasm_ast.specs.declared.plain.Branch.{Branch}
use Rattle.wasm_ast.specs.contracts.types.ValType as val_type
use Rattle.wasm_ast.specs.contracts.plain.Plain as plain_type
use Rattle.wasm_ast.specs.contracts.plain.Branch as branch_type

-- each constructor except the first is an instruction and the code after it
pub data Code : Type 0 where
  end : Code
  plain : Plain → Code → Code
  branch : Branch → Code → Code
  call : (function : ℕ) → Code → Code
  call_indirect : (type_number : ℕ) → Code → Code
  unreachable : Code → Code
  block : Option ValType → (body rest : Code) → Code
  loop : Option ValType → (body rest : Code) → Code
  choice : Option ValType → (then_body else_body rest : Code) → Code

-- the number of instructions and ends
abbrev pub size_of : Code → ℕ
size_of end = 1
size_of (plain p rest) = 1 + size_of rest
size_of (branch b rest) = 1 + size_of rest
size_of (call f rest) = 1 + size_of rest
size_of (call_indirect t rest) = 1 + size_of rest
size_of (unreachable rest) = 1 + size_of rest
size_of (block t body rest) = 1 + size_of body + size_of rest
size_of (loop t body rest) = 1 + size_of body + size_of rest
size_of (choice t body other rest) = 1 + size_of body + size_of other + size_of rest

abbrev plain_code : Coded Plain
plain_code = plain_type.the_row.coded

abbrev branch_code : Coded Branch
branch_code = branch_type.the_row.coded

abbrev type_code : Coded (Option ValType)
type_code = coded_option val_type.the_row.coded

-- code in stored form, from which it can be restored
abbrev gv_of : Code → Gv
gv_of end = gnil
gv_of (plain p rest) = gcons (gnum 0) (gcons (plain_code.code p) (gv_of rest))
gv_of (branch b rest) = gcons (gnum 1) (gcons (branch_code.code b) (gv_of rest))
gv_of (call f rest) = gcons (gnum 2) (gcons (gnum f) (gv_of rest))
gv_of (call_indirect t rest) = gcons (gnum 3) (gcons (gnum t) (gv_of rest))
gv_of (unreachable rest) = gcons (gnum 4) (gv_of rest)
gv_of (block t body rest) = gcons (gnum 5) (gcons (type_code.code t) (gcons (gv_of body) (gv_of rest)))
gv_of (loop t body rest) = gcons (gnum 6) (gcons (type_code.code t) (gcons (gv_of body) (gv_of rest)))
gv_of (choice t body other rest) = gcons (gnum 7) (gcons (type_code.code t) (gcons (gv_of body) (gcons (gv_of other) (gv_of rest))))

pub gv_of-inj : (x y : Code) → gv_of x ≡ gv_of y → x ≡ y
gv_of-inj end end e = refl
gv_of-inj (plain p r) (plain q s) e =
    let a : p ≡ q = plain_code.inj p q cc in
    let b : r ≡ s = gv_of-inj r s cc in
    cc
gv_of-inj (branch p r) (branch q s) e =
    let a : p ≡ q = branch_code.inj p q cc in
    let b : r ≡ s = gv_of-inj r s cc in
    cc
gv_of-inj (call f r) (call g s) e =
    let b : r ≡ s = gv_of-inj r s cc in
    cc
gv_of-inj (call_indirect f r) (call_indirect g s) e =
    let b : r ≡ s = gv_of-inj r s cc in
    cc
gv_of-inj (unreachable r) (unreachable s) e =
    let b : r ≡ s = gv_of-inj r s cc in
    cc
gv_of-inj (block t a r) (block u b s) e =
    let d : t ≡ u = type_code.inj t u cc in
    let f : a ≡ b = gv_of-inj a b cc in
    let g : r ≡ s = gv_of-inj r s cc in
    cc
gv_of-inj (loop t a r) (loop u b s) e =
    let d : t ≡ u = type_code.inj t u cc in
    let f : a ≡ b = gv_of-inj a b cc in
    let g : r ≡ s = gv_of-inj r s cc in
    cc
gv_of-inj (choice t a x r) (choice u b y s) e =
    let d : t ≡ u = type_code.inj t u cc in
    let f : a ≡ b = gv_of-inj a b cc in
    let h : x ≡ y = gv_of-inj x y cc in
    let g : r ≡ s = gv_of-inj r s cc in
    cc
gv_of-inj _ _ e = absurd cc

abbrev pub coded_code : Coded Code
coded_code = record { code = gv_of; inj = gv_of-inj }
