-- The text of out of memory, what a guard lends, and what is said of sets.
pub mod Lends
pub mod OutOfMemory
pub mod Sets
