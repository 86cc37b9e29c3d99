-- Replies: what an outcome becomes, and what the contract fixes.
pub mod ReplyLaws
pub mod Determined
