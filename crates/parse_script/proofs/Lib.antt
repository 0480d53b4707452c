pub mod AsciiFiles
pub mod FewTexts
pub mod FileTexts
pub mod ReadLemmas
pub mod SmallTexts
pub mod TextLemmas
pub mod TokenLemmas
