mod Seen
mod Standing
