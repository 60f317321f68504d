-- The replies of a session beside an editor.
pub mod Texts
pub mod Scene
pub mod Changes
pub mod Forms
pub mod Requests
pub mod Said
pub mod Checks
pub mod Reconnect
pub mod Why
pub mod Answers
pub mod Previews
pub mod Client
pub mod Serves
