pub mod Cycles
pub mod Distinct
pub mod Heights
pub mod Walking
pub mod Bodies
pub mod Ranking
pub mod Sizing
pub mod Weighing
