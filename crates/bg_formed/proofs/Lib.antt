pub mod Below
mod Onward
mod Alike
mod Known
