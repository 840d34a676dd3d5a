pub mod Shape
pub mod Order
pub mod Join
pub mod Laws
pub mod Assign
pub mod Kind
pub mod Methods
pub mod Row
