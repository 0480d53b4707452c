mod Compiled
