pub mod Finding
pub mod FunctionSites
pub mod OwnKinds
pub mod Sites
pub mod Spots
pub mod StmtFinds
