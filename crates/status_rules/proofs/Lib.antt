pub mod Each
pub mod Kept
pub mod Known
pub mod Last
pub mod Noted
pub mod Right
pub mod Sound
pub mod VisitsOf
