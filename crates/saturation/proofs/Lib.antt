mod Terms
mod Granted
