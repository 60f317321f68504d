-- Why a connector has no route, and the connectors that have none.
pub mod Causes
pub mod Unrouted
