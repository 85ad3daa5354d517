mod Names
mod Entries
mod Mappers
mod Steps
mod Told
mod Trees
mod Ways
