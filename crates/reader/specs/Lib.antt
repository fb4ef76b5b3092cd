pub mod Tokens
pub mod Sound
pub mod Answers
pub mod Scenes
