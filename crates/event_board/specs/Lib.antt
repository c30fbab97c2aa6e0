pub mod Asked
pub mod Calls
pub mod Laws
pub mod Numbered
pub mod Standings
pub mod inner
