pub mod Answers
pub mod Assessed
pub mod Places
pub mod Timetables
