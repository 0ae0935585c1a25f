pub mod InBounds
mod Orders
mod Live
mod Breaks
mod Joint
mod Linear
mod Caps
mod Held
mod Narrow
mod Settled
mod Records
mod Places
mod Offers
mod Services
