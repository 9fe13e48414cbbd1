mod Starting
mod Pieces
