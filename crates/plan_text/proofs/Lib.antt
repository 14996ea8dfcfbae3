pub mod Numerals
pub mod Complete
pub mod Sound
pub mod PlanTexts
