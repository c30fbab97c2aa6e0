pub mod Agreement
pub mod Emitters
pub mod Table
