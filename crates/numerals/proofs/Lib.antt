pub mod Decimals
pub mod SmallDecimals
