pub mod AnyOrder
