mod Places
mod Spelled
