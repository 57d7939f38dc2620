pub mod Faults
pub mod Answers
pub mod Runs
pub mod Stacks
