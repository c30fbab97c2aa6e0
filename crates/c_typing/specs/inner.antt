-- What the code's loops keep: no public contract cites it.
pub mod Goes
