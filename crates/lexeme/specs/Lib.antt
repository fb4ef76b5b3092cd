pub mod Bytes
pub mod Words
pub mod Rows
pub mod Format
