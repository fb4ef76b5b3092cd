pub mod Sequels
pub mod Steps
