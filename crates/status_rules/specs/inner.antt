-- What the code keeps: no public contract cites it.
pub mod ByProp
pub mod Consolidated
pub mod Flags
