mod Sets
mod Toggles
mod Lengths
mod Found
