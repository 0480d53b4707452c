pub mod Behind
pub mod Compiled
pub mod Crowded
pub mod ExtentTexts
pub mod OwnTexts
pub mod Reading
pub mod Records
pub mod WrittenForms
