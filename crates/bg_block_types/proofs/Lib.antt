mod Renamed
mod Commands
mod Passing
mod Bodies
mod Whole
