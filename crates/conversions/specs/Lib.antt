-- The definitions to read, in this order: what a command prints and writes, and why it is refused.
pub mod Outputs
pub mod Causes
-- the import of a graph, and the same of the command that imports it
pub mod graph_import
pub mod Importing
