pub mod CallFacts
pub mod DigitFacts
pub mod MemberFacts
pub mod WidthFacts
