mod Growing
mod Passes
