pub mod AskingsLaws
pub mod OrdersLaws
