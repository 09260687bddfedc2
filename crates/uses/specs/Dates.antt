-- Texts of a date in its two forms (RFC 5280, section 4.1.2.5).
use Rattle.std.specs.Prelude.{ℕ, List}
use Rattle.picky_asn1_date.specs.DateText.{utc_text, generalized_text, IsUtcYear, IsGeneralizedYear}
use Rattle.picky_asn1_date.specs.Moment.{Moment}
use Rattle.picky_asn1_date.specs.Reading.{DateReading}

-- the bytes are the GeneralizedTime text of this date
abbrev pub IsGeneralizedText : List ℕ → Moment → Type 0
IsGeneralizedText bytes m = DateReading IsGeneralizedYear generalized_text bytes m

-- the bytes are the UTCTime text of this date
abbrev pub IsUtcText : List ℕ → Moment → Type 0
IsUtcText bytes m = DateReading IsUtcYear utc_text bytes m
