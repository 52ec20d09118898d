pub mod Refusals
pub mod View
pub mod Calls
