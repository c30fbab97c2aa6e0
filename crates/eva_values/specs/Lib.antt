pub mod Laws
pub mod Marks
pub mod Shapes
pub mod Values
pub mod inner
