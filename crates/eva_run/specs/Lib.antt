pub mod Answers
pub mod Code
pub mod Entered
pub mod Numbered
