mod Nexts
mod Found
mod Lengths
mod Striped
mod Blocked
mod Chosen
mod Parts
