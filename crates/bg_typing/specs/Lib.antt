pub mod Sides
pub mod Exprs
pub mod Stmts
pub mod Chains
pub mod SideViews
