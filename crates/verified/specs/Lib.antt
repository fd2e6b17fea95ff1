-- The definitions that a reader has to believe, in reading order. Valid modules: the index spaces of a module, the typing of code,
-- constant expressions, and by these the typing of modules.
pub mod Spaces
pub mod Instructions
pub mod Constants
pub mod Modules
-- The host: the functions that a module may import, the start of the aggregators, the state that a call reads and changes, and its
-- effect on the operands.
pub mod Imports
pub mod Aggregators
pub mod Host
pub mod Operands
pub mod Effects
-- Units: the weights of instructions, the calls of functions, cycles of calls, and the size of code with calls inlined.
pub mod Weights
pub mod Calls
pub mod Cycles
pub mod Sizes
-- the heights of functions above those that call nothing
pub mod CallHeights
-- each instruction costs at least 1 unit: for the proofs of every crate
pub mod LeastUnits
-- Flat code: the table of flat instructions, the code that they are, and the bodies of a module.
pub mod Plains
pub mod View
pub mod Bodies
-- recursion over flat code ends: for the proofs of every crate
pub mod Falls
-- The bounded profile, one definition a rule. Then what the rules are made of: the host's functions, code and its loops, what is known
-- of operands, and the memory.
pub mod Profile
pub mod Hosts
pub mod Shapes
pub mod Kinds
pub mod Known
pub mod Memory
-- What is known of a module in the profile: the number of `compute`, its size, and the most operands and frames that a
-- call of it has.
pub mod Compute
pub mod Arities
pub mod Heights
pub mod Facts
-- the cells that the frame of each function needs
pub mod Cells
-- the bytes of the memory that loads and stores reach
pub mod Reached
-- what only mirrors the code, for its proofs
pub mod inside
