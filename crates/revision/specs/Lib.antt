pub mod Revision
