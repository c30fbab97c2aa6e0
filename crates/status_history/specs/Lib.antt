pub mod Claims
pub mod Events
pub mod Laws
pub mod Values
pub mod inner
