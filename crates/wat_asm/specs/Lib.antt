-- The definition to read, behind those of `wat_syntax`: which files have a module as text.
pub mod Paths
