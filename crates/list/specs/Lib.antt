pub mod Lists
pub mod Noting
