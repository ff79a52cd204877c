-- Batches within batches: bodies, what they come to, what the results of a nest say, and scripts of nests.
pub mod Applied
pub mod Counts
pub mod Laws
pub mod Nest
pub mod Program
pub mod Reading
pub mod ReadingLaws
pub mod Savepoint
pub mod Script
pub mod Space
