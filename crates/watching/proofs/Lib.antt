mod Books
mod Notes
