pub mod GraphFacts
pub mod LiveFacts
pub mod OpsFacts
pub mod PassFacts
pub mod SetsFacts
