pub mod Entering
pub mod Faults
pub mod Body
pub mod Kinds
pub mod Judge
pub mod Sheets
pub mod Checking
