mod Told
mod Pages
