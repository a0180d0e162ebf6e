mod Ran
mod Said
