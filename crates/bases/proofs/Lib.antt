pub mod Sites
pub mod Scans
pub mod TreeCalls
pub mod MatchingCalls
