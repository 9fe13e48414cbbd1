mod Following
mod Moving
mod Steps
mod Views
mod Starting
mod Counting
mod Cases
mod Lawful
