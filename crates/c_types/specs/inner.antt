-- What the proofs on typed trees and programs go by: no public contract cites it.
pub mod Expressions
pub mod Keeping
