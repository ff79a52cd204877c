-- The plain machine: states, commands, batches, room and going back; and what contracts see of a workspace.
pub mod Applied
pub mod Back
pub mod Batch
pub mod Command
pub mod Counts
pub mod Course
pub mod Laws
pub mod Many
pub mod Room
pub mod Same
pub mod State
pub mod Store
pub mod Workspace
