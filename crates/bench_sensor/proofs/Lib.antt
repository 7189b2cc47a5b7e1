mod Keeping
pub mod Replies
pub mod Sizes
