-- Definitions that mirror the code, only for its proofs. First the rules of shapes. Then the pass for known constants and its errors, and
-- the last two instructions of a loop. Last heights that saturate.
pub mod ShapeRules
pub mod ConstantsFaults
pub mod Tracking
pub mod Closing
pub mod StackHeights
