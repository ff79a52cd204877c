-- What contracts see of a set.
pub mod Combination
pub mod Compound
pub mod From
pub mod Greatest
pub mod Growth
pub mod Rising
pub mod Room
pub mod Summary
pub mod Words
