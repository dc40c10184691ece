mod Torn
mod Lawful
mod Undoing
mod Redoing
mod Keeping
mod Telling
