pub mod Boards
pub mod Worlds
