pub mod Members
pub mod Params
pub mod Texts
pub mod Told
