use Rattle.wat_asm.proofs.assembling.parsed.Goals as goal

pub returns-in-Ok-clause-again : goal.returns-in-Ok-clause-again
returns-in-Ok-clause-again c = λ n m none e within.
    c.in-Ok.ensures.again n m (rw c.as_slice.ensures.value none) (rw (c.as_bytes.ensures.value, c.as_slice.ensures.value) e) within

pub returns-clause-again : goal.returns-clause-again
returns-clause-again c = λ n m none e within.
    c.parsed_fault.ensures (c.in-Err.ensures.again n m (rw c.as_slice.ensures.value none) (rw (c.as_bytes.ensures.value, c.as_slice.ensures.value) e) within)
