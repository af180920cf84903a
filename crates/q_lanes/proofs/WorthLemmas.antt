-- What the items of a column are worth.
use Rattle.std.proofs.Common.{◌≡◌, ℕ, ℤ, pos, List, [], ◌∷◌, map, Option, Some, refl, sym, ap, ◌∙◌}
use Rattle.std.specs.Int.{w32, w64}
use Rattle.q_values.specs.Column.{byte_atom, integer_atom, integer_kind, long_atom, long_kind}
use Rattle.q_values.specs.declared.atom.Atom.{Atom}
use Rattle.q_values.specs.declared.kind.ByteKind.{ByteKind}
use Rattle.q_values.specs.declared.kind.ByteKind.TheVariants as b
use Rattle.q_values.specs.declared.kind.IntegerKind.{IntegerKind}
use Rattle.q_values.specs.declared.kind.IntegerKind.TheVariants as i
use Rattle.q_values.specs.declared.kind.LongKind.{LongKind}
use Rattle.q_values.specs.declared.kind.LongKind.TheVariants as l
use Rattle.q_verbs.specs.Numbers.{worth, numeric, number_in, reduced, written}
use Rattle.q_lanes.specs.Loops.{worth_in_64}

pub worth-byte : (kind : ByteKind) (x : ℕ) → worth (byte_atom kind x) ≡ numeric (Some (pos x))
worth-byte b.Byte x = refl
worth-byte b.Character x = refl

pub worth-integer : (kind : IntegerKind) (x : ℤ) → worth (integer_atom kind x) ≡ numeric (number_in w32 x)
worth-integer i.Integer x = refl
worth-integer i.Month x = refl
worth-integer i.Date x = refl
worth-integer i.Minute x = refl
worth-integer i.Second x = refl
worth-integer i.Time x = refl

pub worth-long : (kind : LongKind) (x : ℤ) → worth (long_atom kind x) ≡ numeric (number_in w64 x)
worth-long l.Long x = refl
worth-long l.Timestamp x = refl
worth-long l.Timespan x = refl

through_numeric : (v : List ℤ) → map worth_in_64 v ≡ map numeric (map (number_in w64) v)
through_numeric [] = refl
through_numeric (x ∷ v) = ap (λ l. worth_in_64 x ∷ l) (through_numeric v)

of_atoms : {X : Type 0} (number : X → Option ℤ) (atom : X → Atom) (xs : List X) → ((x : X) → worth (atom x) ≡ numeric (number x)) → map numeric (map number xs) ≡ map worth (map atom xs)
of_atoms number atom [] e = refl
of_atoms number atom (x ∷ xs) e = ap (λ h. h ∷ map numeric (map number xs)) (sym (e x)) ∙ ap (λ l. worth (atom x) ∷ l) (of_atoms number atom xs e)

-- numbers of 64 bits that stand for the items' numbers are worth what the atoms are worth
pub worths : {X : Type 0} (number : X → Option ℤ) (atom : X → Atom) (v : List ℤ) (xs : List X) → ((x : X) → worth (atom x) ≡ numeric (number x)) → map (number_in w64) v ≡ map number xs → map worth_in_64 v ≡ map worth (map atom xs)
worths number atom v xs e d = through_numeric v ∙ ap (map numeric) d ∙ of_atoms number atom xs e

-- a number of 32 or 64 bits as an atom
pub integer-written : (kind : IntegerKind) (n : Option ℤ) → integer_atom kind (reduced w32 n) ≡ written (integer_kind kind) n
integer-written i.Integer n = refl
integer-written i.Month n = refl
integer-written i.Date n = refl
integer-written i.Minute n = refl
integer-written i.Second n = refl
integer-written i.Time n = refl

pub long-written : (kind : LongKind) (n : Option ℤ) → long_atom kind (reduced w64 n) ≡ written (long_kind kind) n
long-written l.Long n = refl
long-written l.Timestamp n = refl
long-written l.Timespan n = refl
