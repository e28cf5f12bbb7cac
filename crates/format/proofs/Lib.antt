mod Fields
mod Trimmed
mod Words
