-- What contracts see of a slab, the order in which it hands out its ids, and the laws of that order.
pub mod Drain
pub mod Entry
pub mod IterMut
pub mod Laws
pub mod Lends
pub mod Order
pub mod Slab
