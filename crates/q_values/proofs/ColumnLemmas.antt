-- The atoms of a column are of its kind.
use Rattle.std.proofs.Common.{◌≡◌, ℕ, ℤ, List, [], ◌∷◌, All, map, refl}
use Rattle.std.proofs.lemmas.List.Elements.{All-nil, All-cons}
use Rattle.q_values.specs.Atom.{kind_of}
use Rattle.q_values.specs.Column.{contents, byte_kind, byte_atom, integer_kind, integer_atom, long_kind, long_atom}
use Rattle.q_values.specs.declared.atom.Atom.TheVariants as a
use Rattle.q_values.specs.declared.kind.Kind.TheVariants as k
use Rattle.q_values.specs.declared.kind.ByteKind.{ByteKind}
use Rattle.q_values.specs.declared.kind.ByteKind.TheVariants as b
use Rattle.q_values.specs.declared.kind.IntegerKind.{IntegerKind}
use Rattle.q_values.specs.declared.kind.IntegerKind.TheVariants as i
use Rattle.q_values.specs.declared.kind.LongKind.{LongKind}
use Rattle.q_values.specs.declared.kind.LongKind.TheVariants as l
use Rattle.q_values.specs.declared.column.Column.{Column}
use Rattle.q_values.specs.declared.column.Column.TheVariants as c

all_mapped : {X Y : Type 0} (P : Y → Type 0) (f : X → Y) → ((x : X) → P (f x)) → (xs : List X) → All P (map f xs)
all_mapped P f each [] = All-nil P
all_mapped P f each (x ∷ xs) = All-cons P (f x) (map f xs) (each x) (all_mapped P f each xs)

kind_of-byte_atom : (kind : ByteKind) (x : ℕ) → kind_of (byte_atom kind x) ≡ byte_kind kind
kind_of-byte_atom b.Byte x = refl
kind_of-byte_atom b.Character x = refl

kind_of-integer_atom : (kind : IntegerKind) (x : ℤ) → kind_of (integer_atom kind x) ≡ integer_kind kind
kind_of-integer_atom i.Integer x = refl
kind_of-integer_atom i.Month x = refl
kind_of-integer_atom i.Date x = refl
kind_of-integer_atom i.Minute x = refl
kind_of-integer_atom i.Second x = refl
kind_of-integer_atom i.Time x = refl

kind_of-long_atom : (kind : LongKind) (x : ℤ) → kind_of (long_atom kind x) ≡ long_kind kind
kind_of-long_atom l.Long x = refl
kind_of-long_atom l.Timestamp x = refl
kind_of-long_atom l.Timespan x = refl

pub all_of_kind : (column : Column) → All (λ atom. kind_of atom ≡ (contents column).kind) (contents column).atoms
all_of_kind (c.Booleans xs) = all_mapped (λ x. kind_of x ≡ k.Boolean) (λ x. a.Boolean x) (λ x. refl) xs.items
all_of_kind (c.Bytes kind xs) = all_mapped (λ x. kind_of x ≡ byte_kind kind) (byte_atom kind) (kind_of-byte_atom kind) xs.items
all_of_kind (c.Shorts xs) = all_mapped (λ x. kind_of x ≡ k.Short) (λ x. a.Short x) (λ x. refl) xs.items
all_of_kind (c.Integers kind xs) = all_mapped (λ x. kind_of x ≡ integer_kind kind) (integer_atom kind) (kind_of-integer_atom kind) xs.items
all_of_kind (c.Longs kind xs) = all_mapped (λ x. kind_of x ≡ long_kind kind) (long_atom kind) (kind_of-long_atom kind) xs.items
all_of_kind (c.Symbols xs) = all_mapped (λ x. kind_of x ≡ k.Symbol) (λ x. a.Symbol x) (λ x. refl) xs
