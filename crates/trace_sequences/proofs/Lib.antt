mod CorrelationSums
mod Equal
mod HalfLists
mod RowLists
mod Scattered
mod TapHalves
mod TapLists
