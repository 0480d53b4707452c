pub mod Parser
pub mod Exprs
pub mod Stmts
pub mod Follow
pub mod Filling
