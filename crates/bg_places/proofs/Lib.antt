pub mod Forms
pub mod Meant
pub mod There
pub mod Capped
pub mod SizedForms
pub mod CountedPlaces
