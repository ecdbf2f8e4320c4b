pub mod Agreement
pub mod Naming
pub mod Bodies
pub mod Programs
pub mod Covering
pub mod Rules
