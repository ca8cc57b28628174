pub mod Question
pub mod Serving
pub mod Replies
