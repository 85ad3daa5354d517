pub mod Listed
mod Rooms
