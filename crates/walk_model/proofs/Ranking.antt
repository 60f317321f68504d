-- The order of walks: one legal walk is first, and it has one route.
pub mod Deciding
pub mod First
pub mod OneAnswer
pub mod SomeRoute
pub mod StepLists
pub mod StepOrder
pub mod Keys
