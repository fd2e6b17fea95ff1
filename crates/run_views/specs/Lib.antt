-- The definitions to read: the worker that a run loses on purpose.
pub mod Loss
