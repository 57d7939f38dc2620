pub mod Nets
pub mod History
pub mod Promise
pub mod Firm
pub mod Cases
