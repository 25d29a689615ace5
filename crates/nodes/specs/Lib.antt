-- Nodes, their bytes, the node that some bytes are, and how far nodes reach; what becomes of a buffer of nodes; what is known of a run
-- of nodes; the laws of these. Assumes nothing.
pub mod Nodes
pub mod Stored
pub mod Bounds
pub mod NodeLaws
pub mod Buffer
pub mod BufferLaws
pub mod Drawn
pub mod Lent
pub mod Kept
pub mod Hull
pub mod HullLaws
pub mod Values
pub mod RunLaws
