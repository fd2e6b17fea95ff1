-- Reading from left to right, on lists: each reader is proved equal to one of these functions.
pub mod ReadingModule
-- the bytes that the writers append
pub mod WritingModule
