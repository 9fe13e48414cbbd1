mod Keeping
mod Ending
