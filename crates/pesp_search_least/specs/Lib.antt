pub mod Expansions
pub mod Order
pub mod Reached
pub mod Spending
pub mod Sums
