pub mod Repeats
pub mod States
pub mod Handed
