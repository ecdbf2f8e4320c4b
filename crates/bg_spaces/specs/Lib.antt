pub mod Declarations
pub mod Views
pub mod SpaceViews
pub mod Pieces
