-- What the proofs of vectors and texts share.
pub mod ClosureFacts
pub mod DigitFacts
pub mod TableFacts
pub mod ListFacts
