pub mod BodyCode
pub mod CopyCode
pub mod FunctionCode
pub mod ParamCode
pub mod TopCode
