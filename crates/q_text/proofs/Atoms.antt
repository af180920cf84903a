-- Atoms of numbers.
use Rattle.std.proofs.Common.{◌≡◌, ℕ, ◌%◌, Bool, not, List, [], ◌∷◌, map, eqb, refl, ap, ◌∙◌, ℤ, unsigned_abs}
use Rattle.q_values.specs.Contents.{Contents}
use Rattle.q_values.specs.declared.kind.Kind.TheVariants as k
use Rattle.q_values.specs.declared.atom.Atom.TheVariants as a
use Rattle.q_text.specs.Numbers.{atom_of, vector_of}
use Rattle.q_text.specs.declared.kinds.NumberKind.TheVariants as nk

booleans-atoms : (numbers : List ℤ) → map (λ b. a.Boolean b) (map (λ z. not (eqb (unsigned_abs z) 0)) numbers) ≡ map (atom_of nk.Boolean) numbers
booleans-atoms [] = refl
booleans-atoms (z ∷ zs) = ap (λ l. atom_of nk.Boolean z ∷ l) (booleans-atoms zs)

bytes-atoms : (numbers : List ℤ) → map (λ b. a.Byte b) (map (λ z. unsigned_abs z % 256) numbers) ≡ map (atom_of nk.Byte) numbers
bytes-atoms [] = refl
bytes-atoms (z ∷ zs) = ap (λ l. atom_of nk.Byte z ∷ l) (bytes-atoms zs)

pub booleans-held : (numbers : List ℤ) (items : List Bool) → items ≡ map (λ z. not (eqb (unsigned_abs z) 0)) numbers
    → (let x : Contents = record { kind = k.Boolean; atoms = map (λ b. a.Boolean b) items } in x) ≡ vector_of nk.Boolean numbers
booleans-held numbers items h = ap (λ l. let x : Contents = record { kind = k.Boolean; atoms = l } in x) (ap (λ l. map (λ b. a.Boolean b) l) h ∙ booleans-atoms numbers)

pub bytes-held : (numbers : List ℤ) (items : List ℕ) → items ≡ map (λ z. unsigned_abs z % 256) numbers
    → (let x : Contents = record { kind = k.Byte; atoms = map (λ b. a.Byte b) items } in x) ≡ vector_of nk.Byte numbers
bytes-held numbers items h = ap (λ l. let x : Contents = record { kind = k.Byte; atoms = l } in x) (ap (λ l. map (λ b. a.Byte b) l) h ∙ bytes-atoms numbers)
