pub mod Standing
pub mod Stands
pub mod Runs
