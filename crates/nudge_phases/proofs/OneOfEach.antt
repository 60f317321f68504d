-- A phase has one order, one list of bundles and one result.
pub mod OneList
pub mod OneOrder
pub mod OneBundles
pub mod RouteTwins
pub mod OneResult
