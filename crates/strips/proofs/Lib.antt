pub mod Puts
pub mod Answering
pub mod Turning
pub mod Recording
pub mod Headings
pub mod Shorts
