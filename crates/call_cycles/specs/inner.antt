pub mod Colours
pub mod Walk
