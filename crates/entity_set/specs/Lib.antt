-- What contracts see of an entity set, and of a worklist.
pub mod Entities
pub mod Follows
