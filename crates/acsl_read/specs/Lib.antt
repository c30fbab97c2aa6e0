pub mod Classes
pub mod Words
pub mod Table
pub mod Trees
pub mod Grammar
pub mod Program
pub mod inner
