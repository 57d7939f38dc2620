pub mod LineLow
pub mod Told
pub mod Entering
pub mod Daemons
