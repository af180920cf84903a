-- What a value is worth to a verb, and the atom of a number in a kind.
use Rattle.std.specs.Prelude.{ℕ, ℤ, pos, negsuc, List, [], if◌then◌else◌, Option, Some, None}
use Rattle.std.specs.Int.{Width, w16, w32, w64, int_wrap}
use Rattle.std.specs.Int.RustNames.{int_lt}
use Rattle.std.specs.declared.cmp.Ordering.{Ordering}
use Rattle.std.specs.declared.cmp.Ordering.TheVariants.{Less, Equal, Greater}
use Rattle.std.specs.Ordering.{nat_cmp, int_cmp, ordering_then}
use Rattle.std.specs.Cmp.Lexicographic.{slice_cmp}
use Rattle.q_values.specs.declared.atom.Atom.{Atom}
use Rattle.q_values.specs.declared.atom.Atom.TheVariants as a
use Rattle.q_values.specs.declared.kind.Kind.{Kind}
use Rattle.q_values.specs.declared.kind.Storage.{Storage}
use Rattle.q_values.specs.declared.kind.Storage.TheVariants as st
use Rattle.q_values.specs.Column.{integer_atom, long_atom}
use Rattle.q_values.specs.Kind.{storage_of}

-- the least values of 16, 32 and 64 bits, which are the nulls (KX, Datatypes reference)
abbrev pub least : Width → ℤ
least w16 = negsuc 32767
least w32 = negsuc 2147483647
least w64 = negsuc 9223372036854775807
least _ = pos 0

-- the number that a signed number of this width is: itself, or none where it is the least one, the null
abbrev pub number_in : Width → ℤ → Option ℤ
number_in w z = if int_lt (least w) z then Some z else None

-- a number, or none for the null, and the bytes of a symbol
pub record Worth : Type 0 where
  pub number : Option ℤ
  pub text : List ℕ

abbrev pub numeric : Option ℤ → Worth
numeric n = record { number = n; text = [] }

-- what an atom is worth: a boolean 0 or 1, a byte or a character its number
abbrev pub worth : Atom → Worth
worth (a.Boolean b) = numeric (Some (pos (if b then 1 else 0)))
worth (a.Byte x) = numeric (Some (pos x))
worth (a.Short x) = numeric (number_in w16 x)
worth (a.Integer x) = numeric (number_in w32 x)
worth (a.Long x) = numeric (number_in w64 x)
worth (a.Character x) = numeric (Some (pos x))
worth (a.Symbol text) = record { number = None; text = text }
worth (a.Timestamp x) = numeric (number_in w64 x)
worth (a.Month x) = numeric (number_in w32 x)
worth (a.Date x) = numeric (number_in w32 x)
worth (a.Timespan x) = numeric (number_in w64 x)
worth (a.Minute x) = numeric (number_in w32 x)
worth (a.Second x) = numeric (number_in w32 x)
worth (a.Time x) = numeric (number_in w32 x)

-- a null is equal to a null and below every number
abbrev pub number_cmp : Option ℤ → Option ℤ → Ordering
number_cmp None None = Equal
number_cmp None (Some y) = Less
number_cmp (Some x) None = Greater
number_cmp (Some x) (Some y) = int_cmp x y

-- by number; symbols by their bytes
abbrev pub worth_cmp : Worth → Worth → Ordering
worth_cmp x y = ordering_then (number_cmp x.number y.number) (slice_cmp nat_cmp x.text y.text)

-- the number reduced to this width in two's complement; the null for none
abbrev pub reduced : Width → Option ℤ → ℤ
reduced w None = least w
reduced w (Some z) = int_wrap w z

-- a number, or the null, of what is stored so; in 64 bits where no verb computes in it
abbrev pub stored_number : Storage → Option ℤ → Atom
stored_number st.Short n = a.Short (reduced w16 n)
stored_number (st.Integer kind) n = integer_atom kind (reduced w32 n)
stored_number (st.Long kind) n = long_atom kind (reduced w64 n)
stored_number _ n = a.Long (reduced w64 n)

-- a number, or the null, in a kind that verbs compute in
abbrev pub written : Kind → Option ℤ → Atom
written kind n = stored_number (storage_of kind) n
