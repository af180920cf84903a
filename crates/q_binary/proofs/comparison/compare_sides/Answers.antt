use Rattle.std.proofs.Common.{ℕ, ℤ, pos, Bool, List, Some, refl, if◌then◌else◌, ◌∙◌}
use Rattle.std.specs.Int.{w16, w32}
use Rattle.std.specs.Simd.Lanes.{zip2}
use Rattle.q_values.specs.Column.{byte_atom, integer_atom}
use Rattle.q_values.specs.declared.atom.Atom.TheVariants as a
use Rattle.q_lanes.specs.Lanes.{lane_items, text_items}
use Rattle.q_verbs.specs.Numbers.{Worth, numeric, number_in, worth, worth_cmp}
use Rattle.q_lanes.proofs.SideLemmas.{worth-zip}
use Rattle.q_lanes.proofs.WorthLemmas.{worth-byte, worth-integer}
use Rattle.q_binary.proofs.comparison.compare_sides.Goals as goal

pub returns-in_ok-zip_lanes-in-Booleans-Booleans : goal.returns-in_ok-zip_lanes-in-Booleans-Booleans
returns-in_ok-zip_lanes-in-Booleans-Booleans g c =
    let n = c.args.count in
    let own : Bool → Worth = λ b. numeric (Some (pos (if b then 1 else 0))) in
    let relates : Worth → Worth → Bool = λ x y. g.P.Relation.relates (worth_cmp x y) in
    c.in_ok-zip_lanes-in-Booleans-Booleans.ensures
    ∙ worth-zip relates own (λ b. a.Boolean b) (λ b. a.Boolean b) (lane_items n c.in-Booleans-Booleans.some) (lane_items n c.in-Booleans-Booleans.others) (λ b. refl) (λ b. refl)
    ∙ (λ i. zip2 (λ x y. relates (worth x) (worth y)) (c.in-Booleans-Booleans.ensures.atoms n i) (c.in-Booleans-Booleans.ensures'.atoms n i))

pub returns-in_ok-zip_lanes-in-Bytes-Bytes : goal.returns-in_ok-zip_lanes-in-Bytes-Bytes
returns-in_ok-zip_lanes-in-Bytes-Bytes g c =
    let n = c.args.count in
    let own : ℕ → Worth = λ x. numeric (Some (pos x)) in
    let relates : Worth → Worth → Bool = λ x y. g.P.Relation.relates (worth_cmp x y) in
    c.in_ok-zip_lanes-in-Bytes-Bytes.ensures
    ∙ worth-zip relates own (byte_atom c.in-Bytes-Bytes.field-0-0) (byte_atom c.in-Bytes-Bytes.field-0-1) (lane_items n c.in-Bytes-Bytes.some) (lane_items n c.in-Bytes-Bytes.others) (worth-byte c.in-Bytes-Bytes.field-0-0) (worth-byte c.in-Bytes-Bytes.field-0-1)
    ∙ (λ i. zip2 (λ x y. relates (worth x) (worth y)) (c.in-Bytes-Bytes.ensures.atoms n i) (c.in-Bytes-Bytes.ensures'.atoms n i))

pub returns-in_ok-zip_lanes-in-Shorts-Shorts : goal.returns-in_ok-zip_lanes-in-Shorts-Shorts
returns-in_ok-zip_lanes-in-Shorts-Shorts g c =
    let n = c.args.count in
    let own : ℤ → Worth = λ x. numeric (number_in w16 x) in
    let relates : Worth → Worth → Bool = λ x y. g.P.Relation.relates (worth_cmp x y) in
    c.in_ok-zip_lanes-in-Shorts-Shorts.ensures
    ∙ worth-zip relates own (λ x. a.Short x) (λ x. a.Short x) (lane_items n c.in-Shorts-Shorts.some) (lane_items n c.in-Shorts-Shorts.others) (λ x. refl) (λ x. refl)
    ∙ (λ i. zip2 (λ x y. relates (worth x) (worth y)) (c.in-Shorts-Shorts.ensures.atoms n i) (c.in-Shorts-Shorts.ensures'.atoms n i))

pub returns-in_ok-zip_lanes-in-Integers-Integers : goal.returns-in_ok-zip_lanes-in-Integers-Integers
returns-in_ok-zip_lanes-in-Integers-Integers g c =
    let n = c.args.count in
    let own : ℤ → Worth = λ x. numeric (number_in w32 x) in
    let relates : Worth → Worth → Bool = λ x y. g.P.Relation.relates (worth_cmp x y) in
    c.in_ok-zip_lanes-in-Integers-Integers.ensures
    ∙ worth-zip relates own (integer_atom c.in-Integers-Integers.field-0-0) (integer_atom c.in-Integers-Integers.field-0-1) (lane_items n c.in-Integers-Integers.some) (lane_items n c.in-Integers-Integers.others) (worth-integer c.in-Integers-Integers.field-0-0) (worth-integer c.in-Integers-Integers.field-0-1)
    ∙ (λ i. zip2 (λ x y. relates (worth x) (worth y)) (c.in-Integers-Integers.ensures.atoms n i) (c.in-Integers-Integers.ensures'.atoms n i))

pub returns-in_ok-compare_symbols-in-Symbols-Symbols : goal.returns-in_ok-compare_symbols-in-Symbols-Symbols
returns-in_ok-compare_symbols-in-Symbols-Symbols g c =
    let n = c.args.count in
    let own : List ℕ → Worth = λ s. worth (a.Symbol s) in
    let relates : Worth → Worth → Bool = λ x y. g.P.Relation.relates (worth_cmp x y) in
    c.in_ok-compare_symbols-in-Symbols-Symbols.ensures
    ∙ worth-zip relates own (λ s. a.Symbol s) (λ s. a.Symbol s) (text_items n c.in-Symbols-Symbols.some) (text_items n c.in-Symbols-Symbols.others) (λ s. refl) (λ s. refl)
    ∙ (λ i. zip2 (λ x y. relates (worth x) (worth y)) (c.in-Symbols-Symbols.ensures.atoms n i) (c.in-Symbols-Symbols.ensures'.atoms n i))
