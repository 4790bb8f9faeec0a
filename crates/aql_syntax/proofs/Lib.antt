mod Examples
mod Readings
