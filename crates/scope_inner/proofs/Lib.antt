pub mod ClauseRows
pub mod Extents
pub mod FindRows
pub mod FunctionRows
pub mod OwnScopes
pub mod ScopeCounts
pub mod StmtArms
pub mod StmtRows
