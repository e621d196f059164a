mod Listed
mod Fronts
