use Rattle.std.proofs.Common.{◌≡◌, ℕ, ℤ, pos, Bool, List, map, Option, Some, refl, sym, ap, ◌∙◌, if◌then◌else◌}
use Rattle.std.specs.Int.{w16, w32, w64}
use Rattle.std.specs.Simd.Lanes.{zip2}
use Rattle.q_values.specs.Contents.{Contents}
use Rattle.q_values.specs.Column.{byte_atom, integer_atom, long_atom, byte_kind, integer_kind, long_kind}
use Rattle.q_values.specs.declared.atom.Atom.{Atom}
use Rattle.q_values.specs.declared.atom.Atom.TheVariants as a
use Rattle.q_values.specs.declared.kind.Kind.{Kind}
use Rattle.q_values.specs.declared.kind.Kind.TheVariants as k
use Rattle.q_lanes.specs.Lanes.{lane_items}
use Rattle.q_verbs.specs.Numbers.{number_in, worth, worth_cmp}
use Rattle.q_verbs.specs.Sides.{spread}
use Rattle.q_binary.proofs.ChoiceLemmas.{chosen_atoms}
use Rattle.q_binary.proofs.KindLemmas.{byte_kind-same, integer_kind-same, long_kind-same}
use Rattle.q_lanes.proofs.WorthLemmas.{worth-byte, worth-integer, worth-long}
use Rattle.q_binary.proofs.choice.choose_sides.Goals as goal

pub returns-in_ok-choose_items-in-Booleans-Booleans : goal.returns-in_ok-choose_items-in-Booleans-Booleans
returns-in_ok-choose_items-in-Booleans-Booleans g c =
    let n = c.args.count in
    let number : Bool → Option ℤ = λ b. Some (pos (if b then 1 else 0)) in
    let of_all : Kind → List Atom → Contents = λ kind atoms. record { kind = kind; atoms = atoms } in
    let choose : Atom → Atom → Atom = λ x y. if g.P.Relation.relates (worth_cmp (worth x) (worth y)) then x else y in
    let second : map (λ b. a.Boolean b) (lane_items n c.in-Booleans-Booleans.others) ≡ spread n c.args.right.now = c.in-Booleans-Booleans.ensures'.atoms n in
    ap (λ l. of_all k.Boolean (map (λ b. a.Boolean b) l)) c.in_ok-choose_items-in-Booleans-Booleans.ensures
    ∙ ap (of_all k.Boolean) (chosen_atoms g.P.Relation.relates number (λ b. a.Boolean b) (lane_items n c.in-Booleans-Booleans.some) (lane_items n c.in-Booleans-Booleans.others) (λ b. refl) ∙ (λ i. zip2 choose (c.in-Booleans-Booleans.ensures.atoms n i) (second i)))
    ∙ ap (λ kind. of_all kind (zip2 choose (spread n c.args.left.now) (spread n c.args.right.now))) c.in-Booleans-Booleans.ensures.kind

pub returns-in_ok-choose_items-in-Bytes-Bytes : goal.returns-in_ok-choose_items-in-Bytes-Bytes
returns-in_ok-choose_items-in-Bytes-Bytes g c =
    let n = c.args.count in
    let number : ℕ → Option ℤ = λ x. Some (pos x) in
    let of_all : Kind → List Atom → Contents = λ kind atoms. record { kind = kind; atoms = atoms } in
    let choose : Atom → Atom → Atom = λ x y. if g.P.Relation.relates (worth_cmp (worth x) (worth y)) then x else y in
    let kinds : byte_kind c.in-Bytes-Bytes.kind ≡ byte_kind c.in-Bytes-Bytes.field-0-1 = c.in-Bytes-Bytes.ensures.kind ∙ c.requires.same ∙ sym c.in-Bytes-Bytes.ensures'.kind in
    let tags = byte_kind-same c.in-Bytes-Bytes.kind c.in-Bytes-Bytes.field-0-1 kinds in
    let second : map (byte_atom c.in-Bytes-Bytes.kind) (lane_items n c.in-Bytes-Bytes.others) ≡ spread n c.args.right.now = ap (λ tag. map (byte_atom tag) (lane_items n c.in-Bytes-Bytes.others)) tags ∙ c.in-Bytes-Bytes.ensures'.atoms n in
    ap (λ l. of_all (byte_kind c.in-Bytes-Bytes.kind) (map (byte_atom c.in-Bytes-Bytes.kind) l)) c.in_ok-choose_items-in-Bytes-Bytes.ensures
    ∙ ap (of_all (byte_kind c.in-Bytes-Bytes.kind)) (chosen_atoms g.P.Relation.relates number (byte_atom c.in-Bytes-Bytes.kind) (lane_items n c.in-Bytes-Bytes.some) (lane_items n c.in-Bytes-Bytes.others) (worth-byte c.in-Bytes-Bytes.kind) ∙ (λ i. zip2 choose (c.in-Bytes-Bytes.ensures.atoms n i) (second i)))
    ∙ ap (λ kind. of_all kind (zip2 choose (spread n c.args.left.now) (spread n c.args.right.now))) c.in-Bytes-Bytes.ensures.kind

pub returns-in_ok-choose_items-in-Shorts-Shorts : goal.returns-in_ok-choose_items-in-Shorts-Shorts
returns-in_ok-choose_items-in-Shorts-Shorts g c =
    let n = c.args.count in
    let number : ℤ → Option ℤ = λ x. number_in w16 x in
    let of_all : Kind → List Atom → Contents = λ kind atoms. record { kind = kind; atoms = atoms } in
    let choose : Atom → Atom → Atom = λ x y. if g.P.Relation.relates (worth_cmp (worth x) (worth y)) then x else y in
    let second : map (λ x. a.Short x) (lane_items n c.in-Shorts-Shorts.others) ≡ spread n c.args.right.now = c.in-Shorts-Shorts.ensures'.atoms n in
    ap (λ l. of_all k.Short (map (λ x. a.Short x) l)) c.in_ok-choose_items-in-Shorts-Shorts.ensures
    ∙ ap (of_all k.Short) (chosen_atoms g.P.Relation.relates number (λ x. a.Short x) (lane_items n c.in-Shorts-Shorts.some) (lane_items n c.in-Shorts-Shorts.others) (λ x. refl) ∙ (λ i. zip2 choose (c.in-Shorts-Shorts.ensures.atoms n i) (second i)))
    ∙ ap (λ kind. of_all kind (zip2 choose (spread n c.args.left.now) (spread n c.args.right.now))) c.in-Shorts-Shorts.ensures.kind

pub returns-in_ok-choose_items-in-Integers-Integers : goal.returns-in_ok-choose_items-in-Integers-Integers
returns-in_ok-choose_items-in-Integers-Integers g c =
    let n = c.args.count in
    let number : ℤ → Option ℤ = λ x. number_in w32 x in
    let of_all : Kind → List Atom → Contents = λ kind atoms. record { kind = kind; atoms = atoms } in
    let choose : Atom → Atom → Atom = λ x y. if g.P.Relation.relates (worth_cmp (worth x) (worth y)) then x else y in
    let kinds : integer_kind c.in-Integers-Integers.kind ≡ integer_kind c.in-Integers-Integers.field-0-1 = c.in-Integers-Integers.ensures.kind ∙ c.requires.same ∙ sym c.in-Integers-Integers.ensures'.kind in
    let tags = integer_kind-same c.in-Integers-Integers.kind c.in-Integers-Integers.field-0-1 kinds in
    let second : map (integer_atom c.in-Integers-Integers.kind) (lane_items n c.in-Integers-Integers.others) ≡ spread n c.args.right.now = ap (λ tag. map (integer_atom tag) (lane_items n c.in-Integers-Integers.others)) tags ∙ c.in-Integers-Integers.ensures'.atoms n in
    ap (λ l. of_all (integer_kind c.in-Integers-Integers.kind) (map (integer_atom c.in-Integers-Integers.kind) l)) c.in_ok-choose_items-in-Integers-Integers.ensures
    ∙ ap (of_all (integer_kind c.in-Integers-Integers.kind)) (chosen_atoms g.P.Relation.relates number (integer_atom c.in-Integers-Integers.kind) (lane_items n c.in-Integers-Integers.some) (lane_items n c.in-Integers-Integers.others) (worth-integer c.in-Integers-Integers.kind) ∙ (λ i. zip2 choose (c.in-Integers-Integers.ensures.atoms n i) (second i)))
    ∙ ap (λ kind. of_all kind (zip2 choose (spread n c.args.left.now) (spread n c.args.right.now))) c.in-Integers-Integers.ensures.kind

pub returns-in_ok-choose_items-in-Longs-Longs : goal.returns-in_ok-choose_items-in-Longs-Longs
returns-in_ok-choose_items-in-Longs-Longs g c =
    let n = c.args.count in
    let number : ℤ → Option ℤ = λ x. number_in w64 x in
    let of_all : Kind → List Atom → Contents = λ kind atoms. record { kind = kind; atoms = atoms } in
    let choose : Atom → Atom → Atom = λ x y. if g.P.Relation.relates (worth_cmp (worth x) (worth y)) then x else y in
    let kinds : long_kind c.in-Longs-Longs.kind ≡ long_kind c.in-Longs-Longs.field-0-1 = c.in-Longs-Longs.ensures.kind ∙ c.requires.same ∙ sym c.in-Longs-Longs.ensures'.kind in
    let tags = long_kind-same c.in-Longs-Longs.kind c.in-Longs-Longs.field-0-1 kinds in
    let second : map (long_atom c.in-Longs-Longs.kind) (lane_items n c.in-Longs-Longs.others) ≡ spread n c.args.right.now = ap (λ tag. map (long_atom tag) (lane_items n c.in-Longs-Longs.others)) tags ∙ c.in-Longs-Longs.ensures'.atoms n in
    ap (λ l. of_all (long_kind c.in-Longs-Longs.kind) (map (long_atom c.in-Longs-Longs.kind) l)) c.in_ok-choose_items-in-Longs-Longs.ensures
    ∙ ap (of_all (long_kind c.in-Longs-Longs.kind)) (chosen_atoms g.P.Relation.relates number (long_atom c.in-Longs-Longs.kind) (lane_items n c.in-Longs-Longs.some) (lane_items n c.in-Longs-Longs.others) (worth-long c.in-Longs-Longs.kind) ∙ (λ i. zip2 choose (c.in-Longs-Longs.ensures.atoms n i) (second i)))
    ∙ ap (λ kind. of_all kind (zip2 choose (spread n c.args.left.now) (spread n c.args.right.now))) c.in-Longs-Longs.ensures.kind
