pub mod Cover
pub mod Normal
