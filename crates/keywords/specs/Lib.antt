pub mod Laws
pub mod Run
