-- What contracts see of a vector and of a text.
pub mod ClosureRun
pub mod Drain
pub mod Resized
pub mod Room
pub mod Same
pub mod TryString
pub mod TryVec
pub mod VecLends
