-- The definitions to read, in this order, behind those of `call_lines`: files, the modules in them, and why no module is loaded from a
-- file.
pub mod Disk
pub mod Writing
pub mod Modules
pub mod Source
-- graphs and jobs, and the results of reading a file
pub mod Jobs
pub mod Reading
-- the lines of a fault
pub mod Refusal
