pub mod Empty
