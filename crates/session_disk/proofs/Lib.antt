mod Commits
mod Compared
mod Foreign
mod Forms
mod Logs
mod Reopens
mod Replays
mod Takes
