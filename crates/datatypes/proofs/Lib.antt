pub mod Agreement
mod Others
mod Sizes
