pub mod Views
pub mod Callees
pub mod Marks
pub mod MarkViews
pub mod Emitted
pub mod Decided
pub mod EmittedViews
pub mod Whole
