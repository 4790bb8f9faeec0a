mod Keys
mod Positions
