-- The definitions to read, in this order: the fields of a line, its numbers, the bytes that a writer took, and texts of pieces.
pub mod Fields
pub mod Number
pub mod Output
pub mod TextBuilder
