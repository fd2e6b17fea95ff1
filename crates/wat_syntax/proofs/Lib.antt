pub mod Adds
pub mod Codes
pub mod Keywords
pub mod Repeats
pub mod Exponents
pub mod Labels
mod Numbering
mod Left
mod Numerals
mod Words
mod Quotes
mod Scanner
mod WordText
mod Escapes
mod KeywordWords
mod Spelled
mod Lexes
pub mod Nested
pub mod Texts
pub mod Modules
pub mod Nameless
pub mod Printed
pub mod AgainModule
pub mod Assembled
pub mod AgainTools
pub mod AgainTypes
pub mod AgainInstructions
pub mod AgainCode
pub mod AgainFields
pub mod AgainBytes
pub mod AgainHeld
