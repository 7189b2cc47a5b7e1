pub mod Captures
pub mod Commands
pub mod Evaluation
pub mod Flags
pub mod Machine
pub mod Teachpoints
pub mod Teaching
pub mod Promises
