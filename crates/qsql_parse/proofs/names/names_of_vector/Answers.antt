use Rattle.std.proofs.Common.{◌≡◌, ℕ, zero, suc, ◌+◌, List, [], ◌∷◌, ◌++◌, map, take, Some, None, ap, add-one}
use Rattle.std.specs.List.{slice_get}
use Rattle.q_values.specs.declared.atom.Atom.{Atom}
use Rattle.qsql_parse.specs.Grammar.{symbol_of}
use Rattle.qsql_parse.proofs.names.names_of_vector.Goals as goal

same-atom : (some other : Atom) → Some some ≡ Some other → some ≡ other
same-atom some other h = cc

no-atom : {X : Type 0} (atom : Atom) → None ≡ Some atom → X
no-atom atom h = absurd (apart h)
  where
    apart : None ≡ Some atom → ⊥
    apart e = cc

names-push : (atoms : List Atom) (i : ℕ) (atom : Atom) → slice_get atoms i ≡ Some atom → map symbol_of (take (suc i) atoms) ≡ map symbol_of (take i atoms) ++ symbol_of atom ∷ []
names-push [] i atom h = no-atom atom h
names-push (x ∷ atoms) zero atom h = ap (λ (a : Atom). symbol_of a ∷ []) (same-atom x atom h)
names-push (x ∷ atoms) (suc i) atom h = ap (λ (names : List (List ℕ)). symbol_of x ∷ names) (names-push atoms i atom h)

pub loop-i-preserved : goal.loop-i-preserved
loop-i-preserved c =
    let more = names-push c.args.vector.now.atoms c.loop-i.i c.in_ok-atom.atom c.in_ok-atom.ensures in
    let next : c.loop-i.i + 1 ≡ suc c.loop-i.i = add-one c.loop-i.i in
    rw next (cc (more, c.loop-i.invariant, c.in_ok-push.ensures.ok, c.in_ok-name_of_atom.ensures))
