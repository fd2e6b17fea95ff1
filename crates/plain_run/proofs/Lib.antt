pub mod Delivering
pub mod PlainCalls
pub mod PlainSteps
