pub mod Below
pub mod Sites
