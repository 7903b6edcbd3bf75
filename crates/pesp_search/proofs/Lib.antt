pub mod Beforehand
pub mod BestSoFar
mod Cases
pub mod Costed
pub mod Costs
pub mod Counted
pub mod Cuts
pub mod Decided
mod DrawnCases
pub mod Ends
pub mod Enumerated
pub mod Events
pub mod Fronts
pub mod Labels
pub mod Lifted
pub mod Maps
pub mod Members
pub mod Moves
pub mod Networks
pub mod Order
pub mod Placed
pub mod Residues
pub mod Rest
pub mod Searching
pub mod Sizes
pub mod Sought
pub mod Timed
pub mod Turns
