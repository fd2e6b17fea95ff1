-- The findings of the checks, as the code's functions find them. No contract of a public function cites these.
pub mod Findings
pub mod Stack
pub mod Steps
pub mod Answers
pub mod Checks
