-- Definitions that mirror the code, only for its proofs. No contract of a public function cites them.

-- operands and locals in two parts, the operand stack, and the place of a run
pub mod Split
pub mod OperandStack
-- globals that are renewed by the numbers of those that were set
pub mod Renewed
pub mod Place
-- the meaning of the walk's lists
pub mod Meaning
-- what its parts do, and what they require
pub mod Acts
pub mod Given
pub mod Going
pub mod Walk
pub mod Straight
pub mod Flat
pub mod Found
-- how a call begins and ends
pub mod Begun
-- the machine over cells, and values that fit their type
pub mod Cells
pub mod Fits
-- the kept bytes of a memory
pub mod Kept
