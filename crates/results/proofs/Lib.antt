pub mod Staged
pub mod Finished
pub mod Joined
