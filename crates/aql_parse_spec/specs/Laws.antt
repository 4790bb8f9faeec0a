-- The laws of this crate: what follows from its definitions.
pub mod AsExpression
pub mod Complete
pub mod First
pub mod Operators
pub mod PatternComplete
pub mod PatternSound
pub mod Readers
pub mod Scripts
pub mod SignNumbers
pub mod Sound
pub mod Steps
pub mod StopsLaws
