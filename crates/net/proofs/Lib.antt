pub mod BitLaws
pub mod CountLaws
pub mod LivesLaws
pub mod SettlingLaws
pub mod CourseLaws
