-- The findings of the walk of the call graph, step by step. No contract of a public function cites these.
pub mod Outline
pub mod Outlines
pub mod Walks
pub mod Stops
