pub mod Answers
pub mod Refusals
pub mod Reads
pub mod Numbers
pub mod Results
