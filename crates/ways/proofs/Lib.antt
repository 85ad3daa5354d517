mod OnWays
mod Runs
