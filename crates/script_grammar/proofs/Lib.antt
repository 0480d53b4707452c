pub mod ExprEquations
pub mod StmtEquations
pub mod PartEquations
pub mod Balance
mod Partners
mod PartnerLists
mod Walking
mod Taking
mod PrintRows
