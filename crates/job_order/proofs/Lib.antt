-- The recorder's calls
mod Leaving
mod Kept
