pub mod Whole
pub mod Ends
pub mod Marks
pub mod Partial
pub mod Adding
pub mod Finishing
pub mod Entries
