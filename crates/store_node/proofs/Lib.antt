-- The laws of making a node and of Getnode, lowest first.
pub mod Nodes
pub mod Getting
pub mod OneNode
