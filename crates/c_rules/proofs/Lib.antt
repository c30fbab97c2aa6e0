pub mod Evaluations
pub mod Formed
pub mod Named
pub mod Sited
