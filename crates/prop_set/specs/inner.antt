-- What the code keeps: no public contract cites it.
pub mod Words
