pub mod Doubling
pub mod Tables
pub mod Boxes
pub mod Mixing
pub mod Alpha
pub mod Theorems
