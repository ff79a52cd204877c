-- What contracts see of collecting.
pub mod Collect
pub mod Collected
pub mod Cow
pub mod CowLends
pub mod Errors
pub mod Iterates
pub mod Ranges
