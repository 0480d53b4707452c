pub mod BodyRows
pub mod CopyRows
pub mod FunctionRows
pub mod ParamRows
pub mod TopRows
pub mod VarScopes
