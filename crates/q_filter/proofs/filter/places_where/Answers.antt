use Rattle.std.proofs.Common.{◌≡◌, ◌<◌, Bool, List, length, map, All, ap, sym, subst, ◌∙◌, arith}
use Rattle.std.proofs.lemmas.List.{length-map}
use Rattle.q_values.specs.Contents.{Contents}
use Rattle.q_values.specs.Lists.{gathered}
use Rattle.q_values.specs.declared.atom.Atom.{Atom}
use Rattle.q_values.specs.declared.atom.Atom.TheVariants as a
use Rattle.q_filter.specs.Places.{places_from, is_true}
use Rattle.q_filter.proofs.PlaceLemmas.{bits_of, places_within, gathers}
use Rattle.q_filter.proofs.filter.places_where.Goals as goal

-- the booleans of the column are those of its atoms
bits-are : (bits : List Bool) (atoms : List Atom) → map (λ b. a.Boolean b) bits ≡ atoms → bits ≡ map is_true atoms
bits-are bits atoms e = sym (bits_of bits) ∙ ap (map is_true) e

pub returns-clause-places : goal.returns-clause-places
returns-clause-places c =
    let bits = c.in-Booleans.bits.items in
    let atoms : map (λ b. a.Boolean b) bits ≡ c.args.booleans.now.atoms = ap (λ (v : Contents). v.atoms) (rw c.in-Booleans.is at c.column.ensures) in
    c.in_ok-places_in-in-Booleans.ensures ∙ ap (places_from 0) (c.deref.ensures.value ∙ bits-are bits c.args.booleans.now.atoms atoms)

pub returns-clause-within : goal.returns-clause-within
returns-clause-within c =
    let bits = c.in-Booleans.bits.items in
    let atoms : map (λ b. a.Boolean b) bits ≡ c.args.booleans.now.atoms = ap (λ (v : Contents). v.atoms) (rw c.in-Booleans.is at c.column.ensures) in
    let size : length c.deref.result.now ≡ length c.args.booleans.now.atoms = ap length c.deref.ensures.value ∙ sym (length-map bits (λ b. a.Boolean b)) ∙ ap length atoms in
    subst (All (λ i. i < length c.args.booleans.now.atoms)) (sym c.in_ok-places_in-in-Booleans.ensures) (places_within (length c.args.booleans.now.atoms) 0 c.deref.result.now (omega arith))

pub returns-clause-gathers : goal.returns-clause-gathers
returns-clause-gathers c xs size =
    let bits = c.in-Booleans.bits.items in
    let atoms : map (λ b. a.Boolean b) bits ≡ c.args.booleans.now.atoms = ap (λ (v : Contents). v.atoms) (rw c.in-Booleans.is at c.column.ensures) in
    let same : c.deref.result.now ≡ map is_true c.args.booleans.now.atoms = c.deref.ensures.value ∙ bits-are bits c.args.booleans.now.atoms atoms in
    ap (gathered xs) (c.in_ok-places_in-in-Booleans.ensures ∙ ap (places_from 0) same)
    ∙ gathers xs (map is_true c.args.booleans.now.atoms) (size ∙ sym (length-map c.args.booleans.now.atoms is_true))
