-- The definitions to read, in this order: the meaning of a line, and the edges of a text.
pub mod Line
pub mod Said
