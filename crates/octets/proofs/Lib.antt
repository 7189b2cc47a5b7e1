pub mod Numbers
pub mod Rooms
