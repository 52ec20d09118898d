pub mod PairCalls
pub mod PilesStand
pub mod Written
