mod Cuts
mod Digits
