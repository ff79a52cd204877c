-- What contracts see of an error, its chain and its texts.
pub mod Chain
pub mod Code
pub mod Context
pub mod Error
pub mod Kept
pub mod Lends
pub mod Repr
