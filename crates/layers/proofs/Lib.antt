pub mod Sites
pub mod Places
pub mod Turns
pub mod Children
pub mod Counts
pub mod Changes
pub mod Ranks
pub mod RankTurns
