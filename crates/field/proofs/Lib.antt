pub mod Linear
pub mod Computed
pub mod Basis
pub mod Laws
pub mod Powers
pub mod Inverses
