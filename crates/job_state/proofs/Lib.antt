pub mod DueFound
pub mod DueRows
pub mod Filling
pub mod Handing
pub mod Ordering
pub mod Tests
