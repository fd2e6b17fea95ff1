-- Code within the limit on blocks inside each other, in which labels are counted in 32 bits.
use Rattle.std.proofs.Common.{◌≡◌, ◌↔◌, ◌⊎◌, inl, inr, ℕ, zero, suc, ◌+◌, ◌-◌, ◌^◌, ◌<◌, ◌≤◌, List, [], ◌∷◌, length, get_or, take, drop, Option, subst, arith}
use Rattle.wasm_ast.specs.declared.types.ValType.{ValType}
use Rattle.wasm_ast.specs.declared.body.Instr.{Instr}
use Rattle.wasm_ast.specs.declared.body.Instr.TheVariants as instr
use Rattle.wasm_ast.specs.declared.body.Body.TheDeep.{deep-Instr}
use Rattle.wasm_ast.specs.Code.{Code, size_of}
use Rattle.wasm_ast.specs.Code as code
use Rattle.wasm_ast.specs.View.{code_of, then_code}
use Rattle.wasm_ast.specs.Limits.{IsCodeWithin}
use Rattle.wasm_ast.proofs.Codes.{code_step}
use Rattle.profile_rules.specs.inside.Closing.{LabelFits}

-- within more levels too
pub within_more : (a b : ℕ) → a ≤ b → (c : Code) → IsCodeWithin a c → IsCodeWithin b c
within_more a b h code.end w = tt
within_more a b h (code.plain p rest) w = (w.0, within_more a b h rest w.1)
within_more a b h (code.branch i rest) w = (w.0, within_more a b h rest w.1)
within_more a b h (code.call f rest) w = within_more a b h rest w
within_more a b h (code.call_indirect t rest) w = within_more a b h rest w
within_more a b h (code.unreachable rest) w = within_more a b h rest w
within_more a b h (code.block t body rest) w =
    (omega (arith, w.0), within_more (a - 1) (b - 1) (omega arith) body w.1, within_more a b h rest w.2)
within_more a b h (code.loop t body rest) w =
    (omega (arith, w.0), within_more (a - 1) (b - 1) (omega arith) body w.1, within_more a b h rest w.2)
within_more a b h (code.choice t body other rest) w =
    (omega (arith, w.0), within_more (a - 1) (b - 1) (omega arith) body w.1, within_more (a - 1) (b - 1) (omega arith) other w.2, within_more a b h rest w.3)

-- an instruction, and what comes after it
within_parts : (levels : ℕ) (i : Instr) (rest : Code) → IsCodeWithin levels (then_code i rest) ↔ (IsCodeWithin levels (then_code i code.end) × IsCodeWithin levels rest)
within_parts levels (instr.Plain p) rest = (λ h. ((h.0, tt), h.1), λ h. (h.0.0, h.1))
within_parts levels (instr.Branch b) rest = (λ h. ((h.0, tt), h.1), λ h. (h.0.0, h.1))
within_parts levels (instr.Call f) rest = (λ h. (tt, h), λ h. h.1)
within_parts levels (instr.CallIndirect t) rest = (λ h. (tt, h), λ h. h.1)
within_parts levels instr.Unreachable rest = (λ h. (tt, h), λ h. h.1)
within_parts levels (instr.Block t body) rest = (λ h. ((h.0, h.1, tt), h.2), λ h. (h.0.0, h.0.1, h.1))
within_parts levels (instr.Loop t body) rest = (λ h. ((h.0, h.1, tt), h.2), λ h. (h.0.0, h.0.1, h.1))
within_parts levels (instr.If t body other) rest = (λ h. ((h.0, h.1, h.2, tt), h.3), λ h. (h.0.0, h.0.1, h.0.2, h.1))

-- the instruction with this number, and those after it
pub within_here : (levels : ℕ) (is : List Instr) (k : ℕ) (i : Instr) → k < length is → i ≡ get_or is k i → IsCodeWithin levels (code_of (drop k is))
    → IsCodeWithin levels (then_code i code.end) × IsCodeWithin levels (code_of (drop (k + 1) is))
within_here levels is k i h e w =
    (within_parts levels i (code_of (drop (k + 1) is))).0 (subst (IsCodeWithin levels) (code_step is k i h e) w)

-- the first instructions
pub within_front : (levels : ℕ) (is : List Instr) (k : ℕ) → IsCodeWithin levels (code_of is) → IsCodeWithin levels (code_of (take k is))
within_front levels [] zero w = tt
within_front levels [] (suc k) w = tt
within_front levels (i ∷ is) zero w = tt
within_front levels (i ∷ is) (suc k) w =
    let parts = (within_parts levels i (code_of is)).0 w in
    (within_parts levels i (code_of (take k is))).1 (parts.0, within_front levels is k parts.1)

-- the instruction is a block or a loop with this body
abbrev pub Holds : Instr → Code → Type 0
Holds i body =
    ((t : Option ValType) × (i ≡ instr.Block t body)) ⊎ ((t : Option ValType) × (i ≡ instr.Loop t body))

-- the body of a block or a loop is smaller, and within one level fewer
pub within_body : (levels : ℕ) (i : Instr) (body : Code) → Holds i body → IsCodeWithin levels (then_code i code.end)
    → (size_of body < deep-Instr i) × (1 ≤ levels) × IsCodeWithin (levels - 1) body
within_body levels i body (inl b) h =
    let w = subst (λ x. IsCodeWithin levels (then_code x code.end)) b.1 h in
    (rw b.1 (omega arith), w.0, w.1)
within_body levels i body (inr b) h =
    let w = subst (λ x. IsCodeWithin levels (then_code x code.end)) b.1 h in
    (rw b.1 (omega arith), w.0, w.1)

-- one label more
pub one_deeper : (label : ℕ) (body : Code) → 1 ≤ 2 ^ 32 - 1 - label → IsCodeWithin (2 ^ 32 - 1 - label - 1) body → LabelFits (label + 1) body
one_deeper label body h w =
    let e : 2 ^ 32 - 1 - label - 1 ≡ 2 ^ 32 - 1 - (label + 1) = omega arith in
    rw e at w
