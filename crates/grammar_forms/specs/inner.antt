-- The code's side of the definitions: how a table is read.
pub mod Reading
