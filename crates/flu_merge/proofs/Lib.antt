mod Moments
mod Turns
mod Spread
mod Clocks
mod Sound
mod Files
mod Times
mod Ticks
