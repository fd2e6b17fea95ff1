-- What a reader has to believe: a request on a machine with many processors.
pub mod Machine
