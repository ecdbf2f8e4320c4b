mod Equal
pub mod Keys
mod Lists
mod Adding
mod Tabled
mod Listing
mod Turning
mod Reading
mod Chained
mod Heading
mod Relating
mod Ranked
mod Joining
mod Telling
mod Sourcing
mod Finally
