-- Years of the plant's dates.
use Rattle.std.proofs.Common.{◌≡◌, ℕ, refl, arith, ℤ, pos, negsuc, ◌+ℤ◌, ◌≤ℤ◌}
use Rattle.std.proofs.lemmas.Int.{by_lt_z}
use Rattle.jiff_core.specs.Calendar.{day_count, days_from_civil, IsCivilDate}
use Rattle.jiff_core.proofs.SignedLemmas.{signed_arith}
use Rattle.jiff_core.proofs.MarchLemmas.{day_count-early}
use Rattle.jiff_core.proofs.CalendarLemmas.{days_from_civil-day_count, day_count-lt_year}

-- the first day of the year 1
day_count-first : day_count (pos 1) 1 1 ≡ 3_652_791
day_count-first = day_count-early (pos 1) 10000 1 1 refl (omega arith) (omega arith) (omega arith)

pub year_positive : (y : ℤ) (m d : ℕ) → IsCivilDate y m d → (negsuc 106751 +ℤ pos 10957) ≤ℤ days_from_civil y m d → pos 1 ≤ℤ y
year_positive y m d civil late = by_lt_z y (pos 1)
    (λ lt. absurd (omega (arith, signed_arith, day_count-lt_year y m d (pos 1) 1 1 civil (omega arith) lt, day_count-first, days_from_civil-day_count y m d)))
    (λ le. le)
