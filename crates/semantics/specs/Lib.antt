-- What a reader has to believe, in this order. First the value of each numeric instruction (Core 1.0, 4.3).
pub mod Operations
-- the machine: configurations, what instructions do to them, and steps
pub mod Configuration
pub mod Memory
pub mod Effects
pub mod Machine
-- how many instructions a run executes, and its units
pub mod Instructions
-- a call: its first configuration, its outcome, and that as a function of pure data
pub mod Start
pub mod Call
pub mod Outcomes
-- the height of the stack, and the bound
pub mod Heights
pub mod Bounded
-- the state of a sequence of instructions that keeps its types
pub mod Typed
-- definitions only for proofs
pub mod inside
