pub mod CallFacts
pub mod RangeFacts
pub mod ReadingFacts
pub mod ResultFacts
pub mod RunFacts
