mod Answered
mod Ending
