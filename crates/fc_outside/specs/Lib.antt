pub mod Calls
pub mod Causes
pub mod Contents
pub mod Memory
pub mod inner
pub mod Requests
pub mod Whole
