mod KeptLists
mod KeptShown
mod Gathered
