pub mod Counts
pub mod Fitting
pub mod Index
pub mod Numbered
