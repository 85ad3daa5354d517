mod Writes
mod Choices
mod Contents
mod Tried
mod Lines
mod States
mod Ends
