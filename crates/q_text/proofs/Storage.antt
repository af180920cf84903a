-- The numbers of a run have the width of its kind.
use Rattle.std.proofs.Common.{◌≡◌, ℕ, zero, suc, ◌≤◌, Bool, true, false, cond, nat_le, List, [], ◌∷◌, ◌++◌, Option, Some, None, refl, arith, All, ℤ, unsigned_abs, eqb, get_or, drop}
use Rattle.std.specs.Int.{w16, w32}
use Rattle.std.specs.List.{AllByRecursion}
use Rattle.std.proofs.lemmas.Bool.Decides.{nat_tests}
use Rattle.std.proofs.lemmas.Int.{fits_signed_from_abs}
use Rattle.std.proofs.lemmas.List.Elements.{All-from_recursion}
use Rattle.q_text.specs.Words.{word_at, word_end}
use Rattle.q_text.specs.Forms.{is_null}
use Rattle.q_text.specs.Runs.{next_start}
use Rattle.q_text.specs.Numbers.{greatest, null_of, in_range, whole_number, ranged, temporal, one, items_of, numbers_as, numbers_from, joined, signed, size_of_whole, bits_of, bytes_of}
use Rattle.q_text.specs.Stored.{IsStored}
use Rattle.q_text.specs.declared.forms.Form.{Form}
use Rattle.q_text.specs.declared.forms.Form.TheVariants as f
use Rattle.q_text.specs.declared.kinds.NumberKind.{NumberKind}
use Rattle.q_text.specs.declared.kinds.NumberKind.TheVariants as nk

-- numbers of the kind, if there are any
abbrev pub StoredIf : NumberKind → Option (List ℤ) → Type 0
StoredIf kind None = Unit {0}
StoredIf kind (Some zs) = AllByRecursion (IsStored kind) zs

abbrev pub StoredOne : NumberKind → Option ℤ → Type 0
StoredOne kind None = Unit {0}
StoredOne kind (Some z) = IsStored kind z

stored-small : (kind : NumberKind) (z : ℤ) → unsigned_abs z ≤ greatest kind → IsStored kind z
stored-small nk.Boolean z h = tt
stored-small nk.Byte z h = tt
stored-small nk.Short z h = fits_signed_from_abs w16 z (omega (arith, h))
stored-small (nk.Integers kind) z h = fits_signed_from_abs w32 z (omega (arith, h))
stored-small (nk.Longs kind) z h = tt

stored-null : (kind : NumberKind) → IsStored kind (null_of kind)
stored-null nk.Boolean = tt
stored-null nk.Byte = tt
stored-null nk.Short = record { sfits = omega arith }
stored-null (nk.Integers kind) = record { sfits = omega arith }
stored-null (nk.Longs kind) = tt

at_most : (a b : ℕ) → nat_le a b ≡ true → a ≤ b
at_most a b h = grind (arith, nat_tests)

stored-in_range : (kind : NumberKind) (z : ℤ) → StoredOne kind (in_range kind z)
unfolding in_range
stored-in_range kind z = go (nat_le (unsigned_abs z) (greatest kind)) refl
  where
    go : (t : Bool) → nat_le (unsigned_abs z) (greatest kind) ≡ t → StoredOne kind (cond t (Some z) None)
    go false h = tt
    go true h = stored-small kind z (at_most (unsigned_abs z) (greatest kind) h)

stored-whole : (kind : NumberKind) (w : List ℕ) → StoredOne kind (whole_number kind w)
unfolding whole_number
stored-whole kind w = go (is_null w) (in_range kind (signed (eqb (get_or w 0 0) 45) (size_of_whole kind w))) (stored-in_range kind (signed (eqb (get_or w 0 0) 45) (size_of_whole kind w)))
  where
    go : (t : Bool) (found : Option ℤ) → StoredOne kind found → StoredOne kind (cond t (Some (null_of kind)) found)
    go false found h = h
    go true found h = stored-null kind

stored-ranged : (kind : NumberKind) (found : Option ℤ) → StoredOne kind (ranged kind found)
stored-ranged kind None = tt
stored-ranged kind (Some z) = stored-in_range kind z

stored-one : (kind : NumberKind) (found : Option ℤ) → StoredOne kind found → StoredIf kind (one found)
stored-one kind None h = tt
stored-one kind (Some z) h = (h, tt)

free : (kind : NumberKind) (zs : List ℤ) → ((z : ℤ) → IsStored kind z) → AllByRecursion (IsStored kind) zs
free kind [] h = tt
free kind (z ∷ zs) h = (h z, free kind zs h)

stored-items : (kind : NumberKind) (w : List ℕ) → StoredIf kind (items_of kind w)
stored-items nk.Boolean w = free nk.Boolean (bits_of w) (λ z. tt)
stored-items nk.Byte w = free nk.Byte (bytes_of (drop 2 w)) (λ z. tt)
stored-items nk.Short w = stored-one nk.Short (ranged nk.Short (temporal nk.Short w)) (stored-ranged nk.Short (temporal nk.Short w))
stored-items (nk.Integers kind) w = stored-one (nk.Integers kind) (ranged (nk.Integers kind) (temporal (nk.Integers kind) w)) (stored-ranged (nk.Integers kind) (temporal (nk.Integers kind) w))
stored-items (nk.Longs kind) w = stored-one (nk.Longs kind) (ranged (nk.Longs kind) (temporal (nk.Longs kind) w)) (stored-ranged (nk.Longs kind) (temporal (nk.Longs kind) w))

stored-numbers_as : (form : Form) (kind : NumberKind) (w : List ℕ) → StoredIf kind (numbers_as form kind w)
unfolding numbers_as
stored-numbers_as f.Whole kind w = stored-one kind (whole_number kind w) (stored-whole kind w)
stored-numbers_as (f.Suffixed _) kind w = stored-one kind (whole_number kind w) (stored-whole kind w)
stored-numbers_as (f.Special _) kind w = stored-one kind (whole_number kind w) (stored-whole kind w)
stored-numbers_as (f.Item _) kind w = stored-items kind w
stored-numbers_as (f.Row _) kind w = stored-items kind w

all-append : (kind : NumberKind) (xs ys : List ℤ) → AllByRecursion (IsStored kind) xs → AllByRecursion (IsStored kind) ys → AllByRecursion (IsStored kind) (xs ++ ys)
all-append kind [] ys h k = k
all-append kind (x ∷ xs) ys h k = (h.0, all-append kind xs ys h.1 k)

stored-joined : (kind : NumberKind) (a b : Option (List ℤ)) → StoredIf kind a → StoredIf kind b → StoredIf kind (joined a b)
stored-joined kind None b h k = tt
stored-joined kind (Some xs) None h k = tt
stored-joined kind (Some xs) (Some ys) h k = all-append kind xs ys h k

stored-numbers_from : (count : ℕ) (form : Form) (kind : NumberKind) (text : List ℕ) (at : ℕ) → StoredIf kind (numbers_from count form kind text at)
unfolding numbers_from
stored-numbers_from zero form kind text at = tt
stored-numbers_from (suc n) form kind text at =
    stored-joined kind (numbers_as form kind (word_at text at)) (numbers_from n form kind text (next_start text (word_end text at))) (stored-numbers_as form kind (word_at text at)) (stored-numbers_from n form kind text (next_start text (word_end text at)))

-- so storage holds them
pub stored : (count : ℕ) (form : Form) (kind : NumberKind) (text : List ℕ) (at : ℕ) (zs : List ℤ) → numbers_from count form kind text at ≡ Some zs → All (IsStored kind) zs
stored count form kind text at zs h =
    let by : AllByRecursion (IsStored kind) zs = rw h at (stored-numbers_from count form kind text at) in
    All-from_recursion (IsStored kind) zs by
