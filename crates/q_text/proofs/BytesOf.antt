-- Bytes of pairs of hexadecimal digits.
use Rattle.std.proofs.Common.{◌≡◌, ℕ, suc, ◌-◌, ◌<◌, List, [], ◌++◌, length, drop, refl, sym, ◌∙◌, arith, ℤ}
use Rattle.std.proofs.Math.ListN.{drop_of_length-le}
use Rattle.std.proofs.Math.Seq.{drop-cons}
use Rattle.std.proofs.lemmas.List.{append-nil}
use Rattle.q_text.specs.Numbers.{bytes_of}

-- one digit alone is no byte
pub bytes_of-one : (xs ys : List ℤ) (w : List ℕ) (offset : ℕ) → offset < length w → length w - offset < 2 → xs ++ bytes_of (drop offset w) ≡ ys → xs ≡ ys
bytes_of-one xs ys w offset less one h =
    let e : bytes_of (drop offset w) ≡ [] = rw (drop-cons w offset 0 less, drop_of_length-le w {i = suc offset} (omega arith)) refl in
    sym (append-nil xs) ∙ (rw e at h)
