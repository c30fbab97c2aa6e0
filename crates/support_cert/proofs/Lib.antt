pub mod Counted
pub mod Fits
pub mod Held
pub mod Listed
pub mod Made
pub mod Supports
pub mod Tests
