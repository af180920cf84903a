-- Long symbols of columns.
use Rattle.std.proofs.Common.{◌≡◌, ℕ, Bool, true, false, List, [], ◌∷◌, length, map, refl, sym, ap, ◌∙◌}
use Rattle.std.specs.Prelude.{nat_lt}
use Rattle.std.specs.List.{list_any}
use Rattle.q_values.specs.Column.{contents, byte_atom, integer_atom, long_atom}
use Rattle.q_values.specs.Contents.{Contents}
use Rattle.q_values.specs.declared.atom.Atom.{Atom}
use Rattle.q_values.specs.declared.atom.Atom.TheVariants as a
use Rattle.q_values.specs.declared.column.Column.{Column}
use Rattle.q_values.specs.declared.column.Column.TheVariants as c
use Rattle.q_values.specs.declared.kind.ByteKind.TheVariants as b
use Rattle.q_values.specs.declared.kind.IntegerKind.TheVariants as n
use Rattle.q_values.specs.declared.kind.LongKind.TheVariants as l
use Rattle.tick_log.specs.Chunk.{is_long}

none : {X : Type 0} (f : X → Atom) → ((x : X) → is_long (f x) ≡ false) → (xs : List X) → list_any is_long (map f xs) ≡ false
none f h [] = refl
none f h (x ∷ xs) = rw (h x) (none f h xs)

abbrev pub are_symbols : Column → Bool
are_symbols (c.Booleans xs) = false
are_symbols (c.Bytes kind xs) = false
are_symbols (c.Shorts xs) = false
are_symbols (c.Integers kind xs) = false
are_symbols (c.Longs kind xs) = false
are_symbols (c.Symbols xs) = true

no_long : (column : Column) → are_symbols column ≡ false → list_any is_long (contents column).atoms ≡ false
no_long (c.Booleans xs) never = none (λ x. a.Boolean x) (λ x. refl) xs.items
no_long (c.Bytes kind xs) never = none (byte_atom kind) (λ x. elim kind as (λ k. is_long (byte_atom k x) ≡ false) [ b.Byte ↦ refl | b.Character ↦ refl ]) xs.items
no_long (c.Shorts xs) never = none (λ x. a.Short x) (λ x. refl) xs.items
no_long (c.Integers kind xs) never =
    none (integer_atom kind) (λ x. elim kind as (λ k. is_long (integer_atom k x) ≡ false) [ n.Integer ↦ refl | n.Month ↦ refl | n.Date ↦ refl | n.Minute ↦ refl | n.Second ↦ refl | n.Time ↦ refl ]) xs.items
no_long (c.Longs kind xs) never =
    none (long_atom kind) (λ x. elim kind as (λ k. is_long (long_atom k x) ≡ false) [ l.Long ↦ refl | l.Timestamp ↦ refl | l.Timespan ↦ refl ]) xs.items
no_long (c.Symbols xs) never = absurd cc

-- a column that isn't of symbols has no long ones
pub none_long : (column : Column) (v : Contents) → contents column ≡ v → are_symbols column ≡ false → false ≡ list_any is_long v.atoms
none_long column v is never = sym (ap (λ (x : Contents). list_any is_long x.atoms) (sym is) ∙ no_long column never)

symbols_any : (xs : List (List ℕ)) → list_any is_long (map (λ x. a.Symbol x) xs) ≡ list_any (λ text. nat_lt 256 (length text)) xs
symbols_any [] = refl
symbols_any (x ∷ xs) = rw (symbols_any xs) refl

-- a column of symbols has a long one where one of them is long
pub any_long : (column : Column) (v : Contents) (xs : List (List ℕ)) (r : Bool) → contents column ≡ v → list_any is_long (contents column).atoms ≡ list_any is_long (map (λ x. a.Symbol x) xs)
    → r ≡ list_any (λ text. nat_lt 256 (length text)) xs → r ≡ list_any is_long v.atoms
any_long column v xs r is symbols e = e ∙ sym (symbols_any xs) ∙ sym symbols ∙ ap (λ (x : Contents). list_any is_long x.atoms) is
