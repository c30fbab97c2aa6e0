pub mod Numbers
pub mod Openings
pub mod Order
pub mod RowsAfter
pub mod Single
pub mod Standings
pub mod Versions
