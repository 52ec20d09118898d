pub mod Xors
pub mod Words
pub mod Spelled
pub mod Bytes
pub mod FromFn
