mod Functions
mod Numbered
mod Tokens
