pub mod Entries
pub mod Fields
pub mod Quick
pub mod Undone
pub mod Mixes
pub mod Alphas
pub mod WordBoxes
pub mod Mapped
