pub mod Synonyms
pub mod Towers
pub mod Bases
