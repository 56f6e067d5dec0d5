pub mod Codes
pub mod Unpacking
pub mod FileAnswers
pub mod Doors
pub mod Days
pub mod Packed
