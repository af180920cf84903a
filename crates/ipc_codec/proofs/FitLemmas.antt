-- The atoms of every value fit: numbers their width, and symbols have no 0.
use Rattle.std.proofs.Common.{◌≡◌, ℕ, ℤ, zero, suc, ◌+◌, Bool, List, [], ◌∷◌, get_or, take, map, refl, sym, subst, arith, All}
use Rattle.std.specs.Int.{w16, w32, w64}
use Rattle.std.specs.Int.RustNames.{FitsSigned}
use Rattle.std.specs.Prelude.{slice_get, Some}
use Rattle.std.proofs.lemmas.List.Elements.{All-map}
use Rattle.q_values.specs.Atom.{kind_of}
use Rattle.q_values.specs.Bytes.{HasNoNul}
use Rattle.q_values.specs.Column.{byte_atom, byte_kind, integer_atom, integer_kind, long_atom, long_kind}
use Rattle.q_values.specs.Tree.{Tree, items_of}
use Rattle.q_values.specs.declared.atom.Atom.{Atom}
use Rattle.q_values.specs.declared.atom.Atom.TheVariants as a
use Rattle.q_values.specs.declared.kind.Kind.{Kind}
use Rattle.q_values.specs.declared.kind.Kind.TheVariants as k
use Rattle.q_values.specs.declared.kind.ByteKind.{ByteKind}
use Rattle.q_values.specs.declared.kind.ByteKind.TheVariants as b
use Rattle.q_values.specs.declared.kind.IntegerKind.{IntegerKind}
use Rattle.q_values.specs.declared.kind.IntegerKind.TheVariants as i
use Rattle.q_values.specs.declared.kind.LongKind.{LongKind}
use Rattle.q_values.specs.declared.kind.LongKind.TheVariants as l
use Rattle.ipc_codec.specs.Written.{AtomFits, AtomsFit, AllAtomsFit, VectorFits}

-- an atom that fits, of this kind
abbrev pub FitsKind : Kind → Atom → Type 0
FitsKind kind x = (kind_of x ≡ kind) × AtomFits x

each : {X : Type 0} (kind : Kind) (f : X → Atom) (P : X → Type 0) → ((x : X) → P x → FitsKind kind (f x)) → (xs : List X) → All P xs → All (FitsKind kind) (map f xs)
each kind f P fits xs h = All-map (FitsKind kind) f xs (λ i d within. fits (get_or xs i d) (h i d within))

always : {X : Type 0} (kind : Kind) (f : X → Atom) → ((x : X) → FitsKind kind (f x)) → (xs : List X) → All (FitsKind kind) (map f xs)
always kind f fits xs = All-map (FitsKind kind) f xs (λ i d within. fits (get_or xs i d))

pub fit-booleans : (xs : List Bool) → VectorFits (record { kind = k.Boolean; atoms = map (λ x. a.Boolean x) xs })
fit-booleans = always k.Boolean (λ x. a.Boolean x) (λ x. (refl, tt))

pub fit-bytes : (kind : ByteKind) (xs : List ℕ) → VectorFits (record { kind = byte_kind kind; atoms = map (byte_atom kind) xs })
fit-bytes b.Byte = always k.Byte (byte_atom b.Byte) (λ x. (refl, tt))
fit-bytes b.Character = always k.Character (byte_atom b.Character) (λ x. (refl, tt))

pub fit-shorts : (xs : List ℤ) → All (FitsSigned w16) xs → VectorFits (record { kind = k.Short; atoms = map (λ x. a.Short x) xs })
fit-shorts = each k.Short (λ x. a.Short x) (FitsSigned w16) (λ x h. (refl, h))

pub fit-integer : (kind : IntegerKind) (x : ℤ) → FitsSigned w32 x → FitsKind (integer_kind kind) (integer_atom kind x)
fit-integer i.Integer x h = (refl, h)
fit-integer i.Month x h = (refl, h)
fit-integer i.Date x h = (refl, h)
fit-integer i.Minute x h = (refl, h)
fit-integer i.Second x h = (refl, h)
fit-integer i.Time x h = (refl, h)

pub fit-integers : (kind : IntegerKind) (xs : List ℤ) → All (FitsSigned w32) xs → VectorFits (record { kind = integer_kind kind; atoms = map (integer_atom kind) xs })
fit-integers kind = each (integer_kind kind) (integer_atom kind) (FitsSigned w32) (fit-integer kind)

pub fit-long : (kind : LongKind) (x : ℤ) → FitsSigned w64 x → FitsKind (long_kind kind) (long_atom kind x)
fit-long l.Long x h = (refl, h)
fit-long l.Timestamp x h = (refl, h)
fit-long l.Timespan x h = (refl, h)

pub fit-longs : (kind : LongKind) (xs : List ℤ) → All (FitsSigned w64) xs → VectorFits (record { kind = long_kind kind; atoms = map (long_atom kind) xs })
fit-longs kind = each (long_kind kind) (long_atom kind) (FitsSigned w64) (fit-long kind)

pub fit-symbols : (xs : List (List ℕ)) → All HasNoNul xs → VectorFits (record { kind = k.Symbol; atoms = map (λ x. a.Symbol x) xs })
fit-symbols = each k.Symbol (λ x. a.Symbol x) HasNoNul (λ x h. (refl, h))

-- one more item of a list
pub AllAtomsFit-more : (ts : List Tree) (i : ℕ) (t : Tree) → slice_get ts i ≡ Some t → AllAtomsFit (items_of (take i ts)) → AtomsFit t → AllAtomsFit (items_of (take (i + 1) ts))
AllAtomsFit-more [] zero t e h fits = absurd cc
AllAtomsFit-more [] (suc i) t e h fits = absurd cc
AllAtomsFit-more (u ∷ ts) zero t e h fits = let same : u ≡ t = cc in (subst AtomsFit (sym same) fits, tt)
AllAtomsFit-more (u ∷ ts) (suc i) t e h fits =
    let n : suc i + 1 ≡ suc (i + 1) = omega arith in
    rw n (h.0, AllAtomsFit-more ts i t e h.1 fits)

pub ruleset columns = (fit-booleans, fit-bytes, fit-shorts, fit-integers, fit-longs, fit-symbols)
