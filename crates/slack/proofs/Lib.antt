pub mod Triangles
pub mod Neither
pub mod Shapes
pub mod Cases
pub mod Rows
pub mod Edges
pub mod Laws
