pub mod Along
pub mod Budgets
pub mod Expanded
pub mod Outcomes
pub mod Reached
pub mod Stack
pub mod Underway
