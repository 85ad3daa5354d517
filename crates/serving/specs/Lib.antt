pub mod Requests
pub mod Responses
pub mod Serving
pub mod Program
