pub mod DrainFacts
pub mod EntryFacts
pub mod OrderFacts
pub mod SoundFacts
pub mod StepFacts
