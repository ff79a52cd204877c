-- What contracts see of a graph, and which variables are live.
pub mod Graph
pub mod Live
pub mod Passes
pub mod Refusal
