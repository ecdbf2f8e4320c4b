pub mod Scopes
pub mod Firsts
pub mod Forms
pub mod TypeForms
