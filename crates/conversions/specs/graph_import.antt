-- The definitions to read, in this order: the graph of edges and its text, and the import of a file. Those of
-- `edge_list` in crate graph come first.
pub mod Graph
pub mod Import
