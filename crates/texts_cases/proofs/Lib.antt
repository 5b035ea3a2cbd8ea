mod Callers
mod Ends
mod Keys
