pub mod Numbered
pub mod OneProof
pub mod Texts
