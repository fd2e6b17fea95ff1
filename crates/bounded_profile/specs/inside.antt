-- Definitions that mirror the code, only for its proofs. First how far heights are set, and marks and extents of reached bytes. Last what
-- holds between the rules.
pub mod Levels
pub mod Footprint
pub mod Stages
