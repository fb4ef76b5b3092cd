pub mod Kinds
pub mod Spans
