-- What the proofs of errors share.
pub mod LinkFacts
pub mod TextFacts
