-- The definitions to read, in this order: the meaning of a line, what all lines declare, a graph as a list, and the graph that
-- a text means. The fields and the numbers of a line are in crate line_text.
pub mod Line
pub mod Said
pub mod Entry
pub mod Graph
-- the parts of a list and of a graph, and how values and faults are printed
pub mod Partition
pub mod Parts
pub mod Print
pub mod Faults
-- edge lists: the meaning of a line, and the edges of a text
pub mod edge_list
-- for proofs only: definitions that follow the code, and facts on lists, which crates above use too
pub mod inside
