pub mod Laws
pub mod Replays
