pub mod CodeSteps
pub mod Fine
pub mod ScriptSteps
