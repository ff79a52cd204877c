pub mod KeptFacts
pub mod StaleFacts
