mod Takes
mod Parts
mod Played
mod PlayedTakes
mod PlayedWrites
