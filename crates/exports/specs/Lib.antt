pub mod Packing
pub mod Exported
pub mod Examples
pub mod Unpacked
pub mod Files
pub mod Doors
pub mod Days
