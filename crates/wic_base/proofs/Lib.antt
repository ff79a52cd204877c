-- Lemmas that several crates share.
pub mod AlongFacts
pub mod MapFacts
pub mod RangeFacts
pub mod SetFacts
