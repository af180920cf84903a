-- From a word to its numbers.
use Rattle.std.specs.Prelude.{ℕ, zero, suc, ◌+◌, ◌-◌, ◌*◌, ◌%◌, ◌==◌, Bool, not, nat_le, if◌then◌else◌, List, [], ◌∷◌, ◌++◌, drop, map, slice_index}
use Rattle.std.specs.Prelude.{Option, Some, None, ℤ, pos, negsuc, neg_ℤ, ◌+ℤ◌, ◌-ℤ◌, ◌*ℤ◌, unsigned_abs}
use Rattle.jiff_core.specs.Calendar.{days_from_civil, IsBetween}
use Rattle.q_values.specs.Column.{integer_atom, long_atom}
use Rattle.q_values.specs.Contents.{Contents}
use Rattle.q_values.specs.declared.kind.Kind.{Kind}
use Rattle.q_values.specs.Time.{day_nanoseconds}
use Rattle.q_values.specs.Tree.{Tree, atom, vector}
use Rattle.q_values.specs.declared.atom.Atom.{Atom}
use Rattle.q_values.specs.declared.atom.Atom.TheVariants as a
use Rattle.q_values.specs.declared.kind.IntegerKind.TheVariants as ik
use Rattle.q_values.specs.declared.kind.LongKind.TheVariants as lk
use Rattle.q_text.specs.declared.kinds.NumberKind.{NumberKind}
use Rattle.q_text.specs.declared.kinds.NumberKind.TheVariants as nk
use Rattle.q_text.specs.Words.{is_digit, word_at, word_end}
use Rattle.q_text.specs.Forms.{digit, pair, digits, year_of, month_of, day_of, is_civil, sign, is_infinite, is_null}
use Rattle.q_text.specs.Kinds.{kind_of}
use Rattle.q_text.specs.Runs.{next_start}
use Rattle.q_text.specs.declared.forms.Form.{Form}
use Rattle.q_text.specs.declared.forms.Form.TheVariants as f

-- the decimal number of the digits at the front, which follow digits with the number n
abbrev pub spelled : ℕ → List ℕ → ℕ
spelled n [] = n
spelled n (b ∷ bs) = if is_digit b then spelled (10 * n + (b - 48)) bs else n

-- the greatest value of a kind; for booleans and bytes, of the byte that stores them
abbrev pub greatest : NumberKind → ℕ
greatest nk.Boolean = 255
greatest nk.Byte = 255
greatest nk.Short = 32767
greatest (nk.Integers kind) = 2147483647
greatest (nk.Longs kind) = 9223372036854775807

-- the null of a kind of numbers is the least value of its width
abbrev pub null_of : NumberKind → ℤ
null_of kind = negsuc (greatest kind)

-- a number above the least value of the kind's width, which is the null, and at most the greatest
unfoldable pub in_range : NumberKind → ℤ → Option ℤ
in_range kind z = if nat_le (unsigned_abs z) (greatest kind) then Some z else None

abbrev pub signed : Bool → ℕ → ℤ
signed negative n = if negative then neg_ℤ (pos n) else pos n

-- the absolute value of a whole number or an infinity
abbrev pub size_of_whole : NumberKind → List ℕ → ℕ
size_of_whole kind w = if is_infinite w then greatest kind else spelled 0 (drop (sign w) w)

-- a whole number, a null or an infinity, as one of the kind
unfoldable pub whole_number : NumberKind → List ℕ → Option ℤ
whole_number kind w =
    if is_null w then Some (null_of kind)
    else in_range kind (signed (slice_index w 0 == 45) (size_of_whole kind w))

-- the seconds of a clock that begins at an offset
unfoldable pub seconds_of : List ℕ → ℕ → ℕ
seconds_of w at = 3600 * pair w at + (60 * pair w (at + 3) + pair w (at + 6))

-- the number of the three digits at an offset
abbrev pub triple : List ℕ → ℕ → ℕ
triple w at = 10 * pair w at + digit w (at + 2)

-- the nanoseconds of a clock that begins at an offset; digits that are missing count as 0
unfoldable pub nanoseconds_of : List ℕ → ℕ → ℕ
nanoseconds_of w at = 1_000_000_000 * seconds_of w at + (1_000_000 * triple w (at + 9) + (1_000 * triple w (at + 12) + triple w (at + 15)))

-- the days from 2000.01.01 to the date at the front; 2000.01.01 is day 10957 of the calendar, which counts from 1970.01.01
unfoldable pub days_of : List ℕ → ℤ
days_of w = days_from_civil (pos (year_of w)) (month_of w) (day_of w) -ℤ pos 10957

-- within more than ten thousand years
abbrev pub IsNearby : ℤ → Type 0
IsNearby z = IsBetween (negsuc 4_999_999) (pos 4_999_999) z

unfoldable pub timestamp_of : List ℕ → ℤ
timestamp_of w = (days_of w *ℤ day_nanoseconds) +ℤ pos (nanoseconds_of w 11)

-- the months from 2000.01 to the month at the front
abbrev pub months_of : List ℕ → ℤ
months_of w = pos (12 * year_of w + month_of w) -ℤ pos 24001

-- the nanoseconds of days, "D" and a clock
abbrev pub timespan_of : List ℕ → ℕ
timespan_of w = unsigned_abs day_nanoseconds * spelled 0 w + nanoseconds_of w (digits w + 1)

-- a number of a day that the civil calendar has
abbrev pub where_civil : List ℕ → ℤ → Option ℤ
where_civil w z = if is_civil w then Some z else None

-- months and dates count from 2000, a timestamp its nanoseconds from there, all others from midnight or from nothing
unfoldable pub temporal : NumberKind → List ℕ → Option ℤ
temporal (nk.Integers ik.Month) w = Some (months_of w)
temporal (nk.Integers ik.Date) w = where_civil w (days_of w)
temporal (nk.Longs lk.Timestamp) w = where_civil w (timestamp_of w)
temporal (nk.Longs lk.Timespan) w = Some (pos (timespan_of w))
temporal (nk.Integers ik.Minute) w = Some (pos (60 * pair w 0 + pair w 3))
temporal (nk.Integers ik.Second) w = Some (pos (seconds_of w 0))
temporal (nk.Integers ik.Time) w = Some (pos (1000 * seconds_of w 0 + triple w 9))
temporal other w = None

abbrev pub ranged : NumberKind → Option ℤ → Option ℤ
ranged kind None = None
ranged kind (Some z) = in_range kind z

abbrev pub one : Option ℤ → Option (List ℤ)
one None = None
one (Some z) = Some (z ∷ [])

-- the bits of "0101b"
abbrev pub bits_of : List ℕ → List ℤ
bits_of [] = []
bits_of (b ∷ bs) = if b == 98 then [] else pos (b - 48) ∷ bits_of bs

-- the value of a hexadecimal digit
abbrev pub hex_value : ℕ → ℕ
hex_value b = if nat_le 97 b then b - 87 else (if nat_le 65 b then b - 55 else b - 48)

-- the bytes that pairs of hexadecimal digits stand for
abbrev pub bytes_of : List ℕ → List ℤ
bytes_of [] = []
bytes_of (high ∷ []) = []
bytes_of (high ∷ low ∷ bs) = pos (16 * hex_value high + hex_value low) ∷ bytes_of bs

abbrev pub items_of : NumberKind → List ℕ → Option (List ℤ)
items_of nk.Boolean w = Some (bits_of w)
items_of nk.Byte w = Some (bytes_of (drop 2 w))
items_of kind w = one (ranged kind (temporal kind w))

-- the numbers that a word of a form stands for, as numbers of the kind
unfoldable pub numbers_as : Form → NumberKind → List ℕ → Option (List ℤ)
numbers_as (f.Item _) kind w = items_of kind w
numbers_as (f.Row _) kind w = items_of kind w
numbers_as form kind w = one (whole_number kind w)

abbrev pub joined : Option (List ℤ) → Option (List ℤ) → Option (List ℤ)
joined None more = None
joined (Some zs) None = None
joined (Some zs) (Some more) = Some (zs ++ more)

-- the numbers of n words from an offset on, with blanks between them
unfoldable pub numbers_from : ℕ → Form → NumberKind → List ℕ → ℕ → Option (List ℤ)
numbers_from zero form kind text at = Some []
numbers_from (suc n) form kind text at = joined (numbers_as form kind (word_at text at)) (numbers_from n form kind text (next_start text (word_end text at)))

-- the atom of a kind of numbers
abbrev pub atom_of : NumberKind → ℤ → Atom
atom_of nk.Boolean z = a.Boolean (not (unsigned_abs z == 0))
atom_of nk.Byte z = a.Byte (unsigned_abs z % 256)
atom_of nk.Short z = a.Short z
atom_of (nk.Integers kind) z = integer_atom kind z
atom_of (nk.Longs kind) z = long_atom kind z

-- a vector of numbers
abbrev pub vector_of : NumberKind → List ℤ → Contents
vector_of kind numbers = record { kind = kind_of kind; atoms = map (atom_of kind) numbers }

-- a single atom stands for itself, and anything else is a vector
abbrev pub valued_atoms : Kind → List Atom → Tree
valued_atoms kind (only ∷ []) = atom only
valued_atoms kind atoms = vector (record { kind = kind; atoms = atoms })

abbrev pub valued : Contents → Tree
valued found = valued_atoms found.kind found.atoms
