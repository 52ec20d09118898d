pub mod Written
pub mod CipherParts
pub mod CipherOrigin
pub mod Labelled
pub mod Examples
