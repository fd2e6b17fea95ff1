pub mod Control
pub mod Sound
