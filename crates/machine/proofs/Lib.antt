mod Keeping
mod Parts
mod Telling
mod Departing
mod Progress
mod Ending
