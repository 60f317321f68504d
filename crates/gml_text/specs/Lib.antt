-- The definitions that contracts cite.
pub use Rattle.fixed_milli.specs.Number
pub mod Bytes
pub mod Tree
pub mod Grammar
pub mod Parse
pub mod View
pub mod Token
pub mod Reading
pub mod Standing
pub mod Reader
pub mod Printed
