-- Dates as text.
use Rattle.std.specs.Prelude.{◌≡◌, ◌+◌, ◌/◌, ◌%◌, ℕ, List, [], ◌∷◌, ◌++◌, ℤ, pos, negsuc, ◌+ℤ◌, ◌≤ℤ◌, ◌≤◌}
use Rattle.jiff_core.specs.Calendar.{IsCivilDate, days_from_civil}

-- the digit of a number below 10
abbrev pub written_digit : ℕ → ℕ
written_digit n = 48 + n % 10

abbrev pub two_digits : ℕ → List ℕ
two_digits n = written_digit (n / 10) ∷ written_digit n ∷ []

-- yyyy.mm.dd
abbrev pub date_text : ℕ → ℕ → ℕ → List ℕ
date_text year month day = two_digits (year / 100) ++ (two_digits year ++ (46 ∷ two_digits month ++ (46 ∷ two_digits day)))

-- the year, month and day, in the civil calendar, of a number of days since 2000.01.01, which is 10957 days after 1970.01.01
pub record IsDay (date : ℤ) (year month day : ℕ) : Type 0 where
  pub civil : IsCivilDate (pos year) month day
  pub positive : 1 ≤ year
  pub number : days_from_civil (pos year) month day ≡ date +ℤ pos 10957

-- the text is that of the date
pub record SpellsDate (date : ℤ) (text : List ℕ) : Type 0 where
  pub year : ℕ
  pub month : ℕ
  pub day : ℕ
  pub is_day : IsDay date year month day
  pub text_is : text ≡ date_text year month day

-- the dates whose whole day is in the range of timestamps
abbrev pub IsPlantDate : ℤ → Type 0
IsPlantDate date = (negsuc 106751 ≤ℤ date) × (date ≤ℤ pos 106751)

-- the new bytes are the old ones followed by the date
abbrev pub AppendsDate : List ℕ → List ℕ → ℤ → Type 0
AppendsDate old new date = (text : List ℕ) × ((new ≡ old ++ text) × SpellsDate date text)
