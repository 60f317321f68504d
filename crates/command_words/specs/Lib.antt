-- What the arguments of the command line ask for.
pub mod Words
pub mod Commands
pub mod Views
