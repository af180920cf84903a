-- What a writer holds after several writes.
use Rattle.std.proofs.Common.{◌≡◌, ℕ, ◌≤◌, ◌+◌, ◌-◌, List, [], ◌++◌, length, take, drop, Option, refl, sym, ap, subst, ◌∙◌, arith, append_assoc, take-append-drop, length-append, take_at}
use Rattle.std.proofs.lemmas.List.{take_rest}
use Rattle.std.specs.Io.KnownBytes.{Appends, Keeps}
use Rattle.std.proofs.KnownBytes.{Appends-trans, Appends-kept}

-- n bytes more of the rest were taken
moves_front : (all done rest : List ℕ) (n : ℕ) → all ≡ done ++ rest → all ≡ (done ++ take n rest) ++ drop n rest
moves_front all done rest n e = e ∙ ap (λ l. done ++ l) (sym (take-append-drop n rest)) ∙ sym (append_assoc done (take n rest) (drop n rest))

pub moves_slice : (all done rest : List ℕ) (n : ℕ) → all ≡ done ++ rest → all ≡ (done ++ take n rest) ++ take (length rest - n) (drop n rest)
moves_slice all done rest n e = moves_front all done rest n e ∙ ap (λ l. (done ++ take n rest) ++ l) (sym (take_rest rest n))

-- what was appended is a prefix of all bytes
pub prefix_sent : (a b : Option (List ℕ)) (all done rest : List ℕ) → all ≡ done ++ rest → Appends a b done → (n : ℕ) × (n ≤ length all) × Appends a b (take n all)
prefix_sent a b all done rest e h =
    let same : take (length done) all ≡ done = ap (take (length done)) e ∙ take_at done rest (length done) refl in
    (length done, omega (arith, ap length e, length-append done rest), subst (Appends a b) (sym same) h)

-- the same after one more write, which took n bytes
pub prefix_taken : (a b c : Option (List ℕ)) (all done rest : List ℕ) (n : ℕ) → all ≡ done ++ rest → Appends a b done → Appends b c (take n rest) → (k : ℕ) × (k ≤ length all) × Appends a c (take k all)
prefix_taken a b c all done rest n e p q = prefix_sent a c all (done ++ take n rest) (drop n rest) (moves_front all done rest n e) (Appends-trans a b c done (take n rest) p q)

-- the same after one that failed
pub prefix_kept : (a b c : Option (List ℕ)) (all done rest : List ℕ) → all ≡ done ++ rest → Appends a b done → Keeps b c → (k : ℕ) × (k ≤ length all) × Appends a c (take k all)
prefix_kept a b c all done rest e p q = prefix_sent a c all done rest e (Appends-kept a b c done p q)
