pub mod Answering
pub mod Bounds
pub mod Listing
pub mod Laws
