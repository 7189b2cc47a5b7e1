mod Answered
mod Balance
mod Frames
mod Buffers
mod Agreement
mod Least
pub mod Callers
pub mod Unanswered
