pub mod MunchLaws
pub mod Spellings
pub mod Fronts
pub mod Counting
pub mod Covering
pub mod OneAnswer
pub mod Deep
