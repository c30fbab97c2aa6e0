-- What the code of the walk goes by: no public contract cites it.
pub mod Contracted
pub mod Goes
pub mod Nexts
pub mod Sizes
pub mod Texts
