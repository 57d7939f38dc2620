pub mod Bits
pub mod Marking
pub mod Counting
pub mod Calls
pub mod Lives
pub mod Settling
