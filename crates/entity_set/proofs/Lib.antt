pub mod FollowFacts
pub mod KeysFacts
