-- What the code computes with: no public contract cites it.
pub mod Checked
pub mod Found
pub mod Scanned
