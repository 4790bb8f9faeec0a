-- Lemmas on answers.
pub mod Answered
