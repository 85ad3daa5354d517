pub mod Choice
pub mod Look
