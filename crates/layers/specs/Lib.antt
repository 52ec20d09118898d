pub mod Pair
pub mod EveryOther
pub mod Origins
pub mod Piles
pub mod EveryOtherLaws
pub mod PairLaws
pub mod PairParts
