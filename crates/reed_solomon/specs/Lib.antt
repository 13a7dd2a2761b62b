pub mod Field
pub mod Values
pub mod Distance
pub mod Codeword
pub mod Erasures
pub mod Product
pub mod Register
pub mod Kernel
