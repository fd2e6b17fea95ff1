pub mod Alignments
pub mod ConstantCode
pub mod Distinct
pub mod Exact
pub mod Stacks
pub mod Refusals
pub mod Verdict
pub mod Whole
