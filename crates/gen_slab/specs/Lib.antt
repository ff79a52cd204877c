-- What contracts see of handles and of a generational slab, its steps, and the law of stale handles.
pub mod GenSlab
pub mod Handle
pub mod Lends
pub mod Runs
