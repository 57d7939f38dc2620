pub mod Table
pub mod Kept
pub mod Sites
pub mod Entering
pub mod Questions
pub mod Levels
