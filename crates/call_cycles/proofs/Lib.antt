pub mod Cases
pub mod Chains
pub mod Pigeonhole
pub mod Paths
pub mod Colours
pub mod Walk
pub mod Firsts
