-- The results of the commands of a script on a scene.
pub mod Replies
pub mod Origins
pub mod Replied
