pub mod Places
pub mod Forms
pub mod DigitTexts
pub mod CivilDates
