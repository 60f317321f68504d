-- The model of an arena, and the lists and maps that it consists of.
pub mod Count
pub mod Link
pub mod Entries
pub mod Node
pub mod Lists
pub mod Order
pub mod Arena
pub mod Stands
pub mod View
pub mod Fixtures
