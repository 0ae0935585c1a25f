mod Above
mod Sizes
mod Rounding
mod Ranges
mod InRange
