pub mod StForms
pub mod LabelForms
