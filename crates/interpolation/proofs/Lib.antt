pub mod Products
pub mod Polynomials
pub mod Zeros
pub mod Lagrange
pub mod Points
pub mod Cauchy
