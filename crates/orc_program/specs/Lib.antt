pub mod Headline
pub mod Ended
pub mod Refusals
pub mod Answers
