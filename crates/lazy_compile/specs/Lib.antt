pub mod Alone
pub mod Delazified
pub mod Forms
pub mod OwnTexts
pub mod Texts
