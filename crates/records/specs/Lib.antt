pub mod Decorators
pub mod Told
