pub mod Cell
pub mod Grid
pub mod Entries
pub mod Update
pub mod Size
pub mod Position
pub mod Revision
