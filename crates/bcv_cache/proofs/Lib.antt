mod Entries
mod Found
mod Places
mod Steps
