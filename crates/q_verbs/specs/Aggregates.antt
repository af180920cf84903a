-- Verbs that make one atom of a list.
use Rattle.std.specs.Prelude.{ℕ, ℤ, pos, negsuc, ◌+ℤ◌, Bool, true, false, if◌then◌else◌}
use Rattle.std.specs.Prelude.{List, [], ◌∷◌, map, length, fold, Option, Some, None, unwrap_or, is_some}
use Rattle.q_values.specs.declared.atom.Atom.{Atom}
use Rattle.q_values.specs.declared.atom.Atom.TheVariants as a
use Rattle.q_values.specs.declared.kind.Kind.{Kind}
use Rattle.q_values.specs.declared.kind.Kind.TheVariants as k
use Rattle.q_values.specs.declared.kind.Storage.{Storage}
use Rattle.q_values.specs.declared.kind.Storage.TheVariants as st
use Rattle.q_values.specs.Column.{byte_atom, integer_atom, long_atom}
use Rattle.q_values.specs.Kind.{is, storage_of}
use Rattle.q_verbs.specs.declared.ends.Ends.{Ends}
use Rattle.q_verbs.specs.declared.verb.Verb.TheVariants as v
use Rattle.q_verbs.specs.declared.verb.Verb1.{Verb1}
use Rattle.q_verbs.specs.declared.verb.Verb1.TheVariants as u
use Rattle.q_verbs.specs.Kinds.{total_kind}
use Rattle.q_verbs.specs.Numbers.{worth, written}
use Rattle.q_verbs.specs.Places.{chosen}

-- the atom with the value of its width, of what is stored so; of a symbol the empty one
abbrev pub stored_atom : Ends → Storage → Atom
stored_atom ends st.Boolean = a.Boolean ends.boolean
stored_atom ends (st.Byte kind) = byte_atom kind ends.byte
stored_atom ends st.Short = a.Short ends.short
stored_atom ends (st.Integer kind) = integer_atom kind ends.integer
stored_atom ends (st.Long kind) = long_atom kind ends.long
stored_atom ends st.Symbol = a.Symbol []

-- the greatest value of each width
abbrev pub greatest_ends : Ends
greatest_ends = record {
  boolean = true;
  byte = 255;
  short = pos 32767;
  integer = pos 2147483647;
  long = pos 9223372036854775807;
}

-- the greatest value of a kind
abbrev pub greatest : Kind → Atom
greatest kind = stored_atom greatest_ends (storage_of kind)

-- the greatest value of each width negated; 0 of 8 bits
abbrev pub lowest_ends : Ends
lowest_ends = record {
  boolean = false;
  byte = 0;
  short = negsuc 32766;
  integer = negsuc 2147483646;
  long = negsuc 9223372036854775806;
}

-- the greatest value negated; 0 for a boolean, a byte or a character
abbrev pub lowest : Kind → Atom
lowest kind = stored_atom lowest_ends (storage_of kind)

-- the null of each width, with this one of 8 bits
abbrev pub null_ends : ℕ → Ends
null_ends byte = record {
  boolean = false;
  byte = byte;
  short = negsuc 32767;
  integer = negsuc 2147483647;
  long = negsuc 9223372036854775807;
}

-- the null of a kind, or the value that is used as one: a blank for a character (KX, Datatypes reference)
abbrev pub null_of : Kind → Atom
null_of kind = stored_atom (null_ends (if is kind k.Character then 32 else 0)) (storage_of kind)

-- the sum of the numbers, without the nulls
abbrev pub total : List (Option ℤ) → ℤ
total [] = pos 0
total (x ∷ xs) = unwrap_or x (pos 0) +ℤ total xs

-- the chosen one of two, where there is a first one
abbrev pub best_of : {X : Type 0} → (X → X → X) → Option X → X → X
best_of pick None x = x
best_of pick (Some best) x = pick best x

-- the chosen one of what was chosen so far and an item, which is skipped where it is a null
abbrev pub choose_present : {X : Type 0} → (X → Option ℤ) → (X → X → X) → Option X → X → Option X
choose_present number pick best x = if is_some (number x) then Some (best_of pick best x) else best

-- the one that is chosen of all items but the nulls
abbrev pub chosen_of : {X : Type 0} → (X → Option ℤ) → (X → X → X) → List X → Option X
chosen_of number pick xs = fold (choose_present number pick) None xs

abbrev pub number_of : Atom → Option ℤ
number_of x = (worth x).number

abbrev pub first_of : List Atom → Option Atom
first_of [] = None
first_of (x ∷ xs) = Some x

abbrev pub last_of : List Atom → Option Atom
last_of [] = None
last_of (x ∷ []) = Some x
last_of (x ∷ y ∷ xs) = last_of (y ∷ xs)

-- the verbs that make one atom
abbrev pub is_aggregate : Verb1 → Bool
is_aggregate u.Not = false
is_aggregate u.Neg = false
is_aggregate u.Distinct = false
is_aggregate _ = true

-- a verb's result for a list of this kind
abbrev pub aggregate_of : Verb1 → Kind → List Atom → Atom
aggregate_of u.Count kind xs = written k.Long (Some (pos (length xs)))
aggregate_of u.Sum kind xs = written (unwrap_or (total_kind kind) kind) (Some (total (map number_of xs)))
aggregate_of u.Min kind xs = unwrap_or (chosen_of number_of (chosen v.Lesser) xs) (greatest kind)
aggregate_of u.Max kind xs = unwrap_or (chosen_of number_of (chosen v.Greater) xs) (lowest kind)
aggregate_of u.First kind xs = unwrap_or (first_of xs) (null_of kind)
aggregate_of u.Last kind xs = unwrap_or (last_of xs) (null_of kind)
aggregate_of _ kind xs = null_of kind
