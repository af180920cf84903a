-- The forms of words: numbers, dates and times (Q for Mortals, 2; KX, Datatypes reference).
use Rattle.std.specs.Prelude.{ℕ, ◌+◌, ◌-◌, ◌*◌, ◌%◌, ◌==◌, ◌||◌, ◌&&◌, Bool, true, false, nat_le, if◌then◌else◌, List, [], ◌∷◌, length, take, drop}
use Rattle.std.specs.Prelude.{slice_index, codes, Option, Some, None, pos}
use Rattle.std.specs.Str.{bytes_eq}
use Rattle.jiff_core.specs.Calendar.{days_in_month}
use Rattle.q_values.specs.declared.kind.IntegerKind.TheVariants as ik
use Rattle.q_values.specs.declared.kind.LongKind.TheVariants as lk
use Rattle.q_text.specs.declared.kinds.NumberKind.TheVariants as nk
use Rattle.q_text.specs.Words.{is_digit, span}
use Rattle.q_text.specs.declared.words.Class.TheVariants as c
use Rattle.q_text.specs.declared.forms.Form.{Form}
use Rattle.q_text.specs.declared.forms.Form.TheVariants as f

-- in a pattern "d" matches any digit, and each other byte itself
abbrev pub fits : ℕ → ℕ → Bool
fits p b = if p == 100 then is_digit b else p == b

-- a word matches the start of the pattern
abbrev pub is_front : List ℕ → List ℕ → Bool
is_front pattern [] = true
is_front [] (b ∷ bs) = false
is_front (p ∷ ps) (b ∷ bs) = fits p b && is_front ps bs

abbrev pub is_like : List ℕ → List ℕ → Bool
is_like pattern w = (length w == length pattern) && is_front pattern w

-- the value of the digit at an offset; 0 past the end
abbrev pub digit : List ℕ → ℕ → ℕ
digit w at = slice_index w at - 48

-- the number of the two digits at an offset
abbrev pub pair : List ℕ → ℕ → ℕ
pair w at = 10 * digit w at + digit w (at + 1)

-- year, month and day of yyyy.mm.dd
unfoldable pub year_of : List ℕ → ℕ
year_of w = 100 * pair w 0 + pair w 2

unfoldable pub month_of : List ℕ → ℕ
month_of w = pair w 5

unfoldable pub day_of : List ℕ → ℕ
day_of w = pair w 8

abbrev pub is_month : List ℕ → Bool
is_month w = (nat_le 1 (year_of w) && nat_le (year_of w) 9999) && (nat_le 1 (month_of w) && nat_le (month_of w) 12)

-- the number of days of the word's month
abbrev pub month_length : List ℕ → ℕ
month_length w = days_in_month (pos (year_of w)) (month_of w)

-- the day is one of the civil calendar
abbrev pub is_civil : List ℕ → Bool
is_civil w = is_month w && (nat_le 1 (day_of w) && nat_le (day_of w) (month_length w))

-- hours, minutes and seconds from an offset on, as far as the word has them
unfoldable pub is_clock : ℕ → List ℕ → ℕ → Bool
is_clock most w at = nat_le (pair w at) most && (nat_le (pair w (at + 3)) 59 && nat_le (pair w (at + 6)) 59)

-- lengths of a clock from its "D" on: none, hours, minutes, seconds, a fraction of 1 to 9 digits
abbrev pub is_clock_length : ℕ → Bool
is_clock_length n = ((n == 1) || (n == 3)) || (((n == 6) || (n == 9)) || (nat_le 11 n && nat_le n 19))

-- the bytes from an offset on are as many as a clock has from its "D" on
abbrev pub ends_clock : List ℕ → ℕ → Bool
ends_clock w at = is_clock_length (length w - at)

unfoldable pub is_date : List ℕ → Bool
is_date w = is_like (codes "dddd.dd.dd") w && is_civil w

unfoldable pub is_year_month : List ℕ → Bool
is_year_month w = is_like (codes "dddd.ddm") w && is_month w

-- a date, "D", and a clock
unfoldable pub is_timestamp : List ℕ → Bool
is_timestamp w = is_front (codes "dddd.dd.ddDdd:dd:dd.ddddddddd") w && (ends_clock w 10 && (is_civil w && is_clock 23 w 11))

-- the number of digits at the start
abbrev pub digits : List ℕ → ℕ
digits w = span c.Digit w

-- 1 to 6 digits, "D", and a clock
unfoldable pub is_timespan : List ℕ → Bool
is_timespan w =
    (nat_le 1 (digits w) && nat_le (digits w) 6)
    && (is_front (codes "Ddd:dd:dd.ddddddddd") (drop (digits w) w) && (ends_clock w (digits w) && is_clock 23 w (digits w + 1)))

unfoldable pub is_minute : List ℕ → Bool
is_minute w = is_like (codes "dd:dd") w && is_clock 99 w 0

unfoldable pub is_second : List ℕ → Bool
is_second w = is_like (codes "dd:dd:dd") w && is_clock 99 w 0

unfoldable pub is_time : List ℕ → Bool
is_time w = is_like (codes "dd:dd:dd.ddd") w && is_clock 99 w 0

abbrev pub either : Option Form → Option Form → Option Form
either (Some form) other = Some form
either None other = other

unfoldable pub calendar_form : List ℕ → Option Form
calendar_form w =
    if is_date w then Some (f.Item (nk.Integers ik.Date))
    else (if is_year_month w then Some (f.Item (nk.Integers ik.Month))
    else (if is_timestamp w then Some (f.Item (nk.Longs lk.Timestamp)) else None))

unfoldable pub clock_form : List ℕ → Option Form
clock_form w =
    if is_timespan w then Some (f.Item (nk.Longs lk.Timespan))
    else (if is_minute w then Some (f.Item (nk.Integers ik.Minute))
    else (if is_second w then Some (f.Item (nk.Integers ik.Second))
    else (if is_time w then Some (f.Item (nk.Integers ik.Time)) else None)))

-- 0 and 1, then "b": one is an item, more are a vector by themselves
unfoldable pub bits_form : List ℕ → Option Form
bits_form w =
    if (span c.Bit w + 1 == length w) && ((slice_index w (span c.Bit w) == 98) && nat_le 1 (span c.Bit w))
    then (if span c.Bit w == 1 then Some (f.Item nk.Boolean) else Some (f.Row nk.Boolean)) else None

abbrev pub begins_bytes : List ℕ → Bool
begins_bytes w = (slice_index w 0 == 48) && (slice_index w 1 == 120)

abbrev pub is_hex_tail : List ℕ → Bool
is_hex_tail w = (span c.Hex (drop 2 w) + 2 == length w) && (length w % 2 == 0)

-- "0x" and an even number of hexadecimal digits: two are an item, none or more are a vector by themselves
unfoldable pub bytes_form : List ℕ → Option Form
bytes_form w =
    if begins_bytes w && is_hex_tail w
    then (if length w == 4 then Some (f.Item nk.Byte) else Some (f.Row nk.Byte)) else None

-- the number of bytes of the sign
abbrev pub sign : List ℕ → ℕ
sign w = if slice_index w 0 == 45 then 1 else 0

-- a word that begins as an infinity, and one that begins as a null
abbrev pub is_infinite : List ℕ → Bool
is_infinite w = (slice_index w (sign w) == 48) && (slice_index w (sign w + 1) == 87)

abbrev pub is_null : List ℕ → Bool
is_null w = (slice_index w 0 == 48) && (slice_index w 1 == 78)

-- the null and the infinities without a letter
unfoldable pub is_special : List ℕ → Bool
is_special w = bytes_eq w (codes "0N") || (bytes_eq w (codes "0W") || bytes_eq w (codes "-0W"))

-- digits alone, one at least
unfoldable pub is_digits : List ℕ → Bool
is_digits w = nat_le 1 (length w) && (digits w == length w)

-- a whole number without a suffix: digits, perhaps with "-" before them, or one of the special words
unfoldable pub is_plain : List ℕ → Bool
is_plain w = is_special w || is_digits (drop (sign w) w)

-- all but the last byte, and the last
abbrev pub front : List ℕ → List ℕ
front w = take (length w - 1) w

abbrev pub last : List ℕ → ℕ
last w = slice_index w (length w - 1)

-- the suffixes of whole numbers: h, i, j
abbrev pub suffix_form : ℕ → Option Form
suffix_form b =
    if b == 104 then Some (f.Suffixed nk.Short)
    else (if b == 105 then Some (f.Suffixed (nk.Integers ik.Integer))
    else (if b == 106 then Some (f.Suffixed (nk.Longs lk.Long)) else None))

-- the letters of other nulls and infinities: p, m, d, n, u, v, t
abbrev pub letter_form : ℕ → Option Form
letter_form b =
    if b == 112 then Some (f.Special (nk.Longs lk.Timestamp))
    else (if b == 109 then Some (f.Special (nk.Integers ik.Month))
    else (if b == 100 then Some (f.Special (nk.Integers ik.Date))
    else (if b == 110 then Some (f.Special (nk.Longs lk.Timespan))
    else (if b == 117 then Some (f.Special (nk.Integers ik.Minute))
    else (if b == 118 then Some (f.Special (nk.Integers ik.Second))
    else (if b == 116 then Some (f.Special (nk.Integers ik.Time)) else None))))))

abbrev pub lettered_form : Bool → ℕ → Option Form
lettered_form special b = either (suffix_form b) (if special then letter_form b else None)

unfoldable pub number_form : List ℕ → Option Form
number_form w =
    if is_plain w then Some f.Whole
    else (if is_plain (front w) then lettered_form (is_special (front w)) (last w) else None)

-- the form of a word, if it has one; no word has two
unfoldable pub form_of : List ℕ → Option Form
form_of w = either (calendar_form w) (either (clock_form w) (either (bits_form w) (either (bytes_form w) (number_form w))))
