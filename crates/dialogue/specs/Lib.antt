pub mod Fatal
pub mod Dialogues
pub mod Spoken
