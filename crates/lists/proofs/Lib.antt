pub mod Decisions
pub mod Elements
pub mod Pigeonhole
pub mod Chains
