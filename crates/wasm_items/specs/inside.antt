-- Reading from left to right, on lists: each reader is proved equal to one of these functions.
pub mod Reading
pub mod ReadingCode
pub mod ReadingItems
-- the bytes that the writers append
pub mod WritingCode
