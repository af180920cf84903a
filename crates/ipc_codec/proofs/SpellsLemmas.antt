-- The bytes that were read are an encoding of the value that was read.
use Rattle.std.proofs.Common.{nat_eq, ◌≡◌, ℕ, zero, suc, ◌-◌, ◌<◌, ◌≤◌, Bool, true, false, List, [], ◌∷◌, ◌++◌, length, Option, Some, None, Result, Ok, refl, sym, ap, subst, ◌∙◌, append_assoc, arith, inl, inr, All}
use Rattle.std.specs.Prelude.{◌⊎◌, ◌&&◌, ◌||◌, nat_lt}
use Rattle.std.proofs.lemmas.Bool.{eqb-true, ltb-true}
use Rattle.std.proofs.lemmas.List.Elements.{All-nil, All-cons}
use Rattle.q_values.specs.Contents.{Contents}
use Rattle.q_values.specs.Table.{IsTable, rows_of}
use Rattle.q_values.specs.Tree.{Tree, Items, Grid, atom, vector, list, dict, table, keyed, identity, wrong, no_items, item}
use Rattle.q_values.specs.declared.kind.Kind.{Kind}
use Rattle.ipc_codec.specs.declared.fault.Fault.{Fault}
use Rattle.ipc_codec.specs.declared.fault.Fault.TheVariants.{BadShape}
use Rattle.ipc_codec.specs.declared.form.Form.{Form}
use Rattle.ipc_codec.specs.declared.form.Form.TheVariants as f
use Rattle.ipc_codec.specs.declared.order.Order.{Order}
use Rattle.q_values.specs.Kind.{kind_at, type_number}
use Rattle.ipc_codec.specs.Types.{form_of}
use Rattle.ipc_codec.specs.Reading.{◌>>=◌, count_at, text_at, texts_at, vector_at, atom_at, part_at, column_by, column_at, columns_at, have_equal_lengths, is_grid, shaped, names_at, list_of_columns_at, grid_at, extent, number_of_items, checked, joined, identity_at, items_at, list_at, dictionary_at, object_by, object_at}
use Rattle.ipc_codec.specs.Written.{depth, deepest}
use Rattle.ipc_codec.specs.Spells.{InTurn, SpellsCount, SpellsVector, IsDictionaryType, SpellsNames, SpellsColumns, SpellsGrid, SpellsTree, SpellsItems}
use Rattle.ipc_codec.proofs.StepLemmas.{Took, bind_ok, held_ok, ok_is}
use Rattle.ipc_codec.proofs.TypeLemmas.{FormCase, KindCase, either_is, form_is, kind_is}
use Rattle.ipc_codec.proofs.ElementLemmas.{atom_took, count_took, in_turn-more, in_turn-none, text_took, texts_took, vector_took}

-- ---- tables

pub record TookPart (this that room : ℕ) (bytes rest : List ℕ) : Type 0 where
  pub type : ℕ
  pub parts : bytes ≡ type ∷ rest
  pub either : (type ≡ this) ⊎ (type ≡ that)
  pub open_here : 1 ≤ room

part_took : (room this that : ℕ) (bytes rest : List ℕ) → part_at room this that bytes ≡ Ok rest → TookPart this that room bytes rest
unfolding part_at
part_took room this that [] rest e = absurd cc
part_took zero this that (b ∷ bytes) rest e = absurd cc
part_took (suc room) this that (b ∷ bytes) rest e =
    let g = held_ok (nat_eq b this || nat_eq b that) (BadShape (length (b ∷ bytes))) (Ok bytes) rest e in
    record { type = b; parts = ap (λ (r : List ℕ). b ∷ r) (ok_is bytes rest g.1); either = either_is b this that g.0; open_here = omega arith }

same_either : (b n : ℕ) → (b ≡ n) ⊎ (b ≡ n) → b ≡ n
same_either b n (inl e) = e
same_either b n (inr e) = e

names_took : (room : ℕ) (order : Order) (bytes : List ℕ) (x : List (List ℕ) × List ℕ) → names_at room order bytes ≡ Ok x → Took (λ b. SpellsNames order b x.0) bytes x.1 × (1 ≤ room)
unfolding names_at
names_took room order bytes x e =
    let zero' = bind_ok (part_at room 11 11 bytes) (λ inner. count_at order inner >>= λ n. texts_at n.0 n.1) x e in
    let one = bind_ok (count_at order zero'.0) (λ n. texts_at n.0 n.1) x zero'.2 in
    let part = part_took room 11 11 bytes zero'.0 zero'.1 in
    let counted = count_took order zero'.0 one.0 one.1 in
    let took = texts_took one.0.0 one.0.1 x one.2 in (
      record {
        front = 11 ∷ counted.attribute ∷ counted.count ++ took.0.front;
        parts = part.parts ∙ ap (λ (t : ℕ). t ∷ zero'.0) (same_either part.type 11 part.either) ∙ ap (λ (r : List ℕ). 11 ∷ r) (counted.parts ∙ ap (λ (r : List ℕ). counted.attribute ∷ counted.count ++ r) took.0.parts ∙ ap (λ (r : List ℕ). counted.attribute ∷ r) (sym (append_assoc counted.count took.0.front x.1)));
        spelled = record {
          attribute = counted.attribute;
          count = counted.count;
          body = took.0.front;
          parts = refl;
          counted = subst (SpellsCount order counted.count) (sym took.1) counted.counted;
          texts = took.0.spelled;
        };
      },
      part.open_here,
    )

column_took : (room : ℕ) (order : Order) (bytes : List ℕ) (x : Contents × List ℕ) → column_at room order bytes ≡ Ok x → Took (λ b. SpellsVector order b x.0) bytes x.1 × (1 ≤ room)
unfolding column_at
column_took room order [] x e = absurd cc
column_took zero order (b ∷ bytes) x e = absurd cc
column_took (suc room) order (b ∷ bytes) x e = by_kind (kind_at b) (kind_is b) e
  where
    by_kind : (kind : Option Kind) → KindCase b kind → column_by order kind (length (b ∷ bytes)) bytes ≡ Ok x → Took (λ b. SpellsVector order b x.0) (b ∷ bytes) x.1 × (1 ≤ suc room)
    by_kind None c d = absurd cc
    by_kind (Some kind) c d = (subst (λ (t : ℕ). Took (λ b. SpellsVector order b x.0) (t ∷ bytes) x.1) (sym c) (vector_took order kind bytes x d), omega arith)

columns_took : (room : ℕ) (order : Order) (n : ℕ) (bytes : List ℕ) (x : List Contents × List ℕ) → columns_at room order n bytes ≡ Ok x → Took (λ b. InTurn (SpellsVector order) b x.0) bytes x.1 × (length x.0 ≡ n) × (0 < n → 1 ≤ room)
unfolding columns_at
columns_took room order zero bytes x e =
    let made : List Contents × List ℕ = ([], bytes) in
    subst (λ (y : List Contents × List ℕ). Took (λ b. InTurn (SpellsVector order) b y.0) bytes y.1 × (length y.0 ≡ 0) × (0 < 0 → 1 ≤ room)) (ok_is made x e) (in_turn-none (SpellsVector order) bytes, refl, λ h. absurd (omega (arith, h)))
columns_took room order (suc n) bytes x e =
    let one = bind_ok (column_at room order bytes) (λ first. columns_at room order n first.1 >>= λ others. Ok (first.0 ∷ others.0, others.1)) x e in
    let two = bind_ok (columns_at room order n one.0.1) (λ others. Ok (one.0.0 ∷ others.0, others.1)) x one.2 in
    let first = column_took room order bytes one.0 one.1 in
    let others = columns_took room order n one.0.1 two.0 two.1 in
    let made : List Contents × List ℕ = (one.0.0 ∷ two.0.0, two.0.1) in
    subst (λ (y : List Contents × List ℕ). Took (λ b. InTurn (SpellsVector order) b y.0) bytes y.1 × (length y.0 ≡ suc n) × (0 < suc n → 1 ≤ room)) (ok_is made x two.2) (in_turn-more (SpellsVector order) one.0.0 two.0.0 bytes one.0.1 two.0.1 first.0 others.0, ap suc others.1, λ _. first.1)

list_took : (room : ℕ) (order : Order) (bytes : List ℕ) (x : List Contents × List ℕ) → list_of_columns_at room order bytes ≡ Ok x → Took (λ b. SpellsColumns order b x.0) bytes x.1 × (0 < length x.0 → 2 ≤ room)
unfolding list_of_columns_at
list_took room order bytes x e =
    let zero' = bind_ok (part_at room 0 0 bytes) (λ inner. count_at order inner >>= λ n. columns_at (room - 1) order n.0 n.1) x e in
    let one = bind_ok (count_at order zero'.0) (λ n. columns_at (room - 1) order n.0 n.1) x zero'.2 in
    let part = part_took room 0 0 bytes zero'.0 zero'.1 in
    let counted = count_took order zero'.0 one.0 one.1 in
    let took = columns_took (room - 1) order one.0.0 one.0.1 x one.2 in (
      record {
        front = 0 ∷ counted.attribute ∷ counted.count ++ took.0.front;
        parts = part.parts ∙ ap (λ (t : ℕ). t ∷ zero'.0) (same_either part.type 0 part.either) ∙ ap (λ (r : List ℕ). 0 ∷ r) (counted.parts ∙ ap (λ (r : List ℕ). counted.attribute ∷ counted.count ++ r) took.0.parts ∙ ap (λ (r : List ℕ). counted.attribute ∷ r) (sym (append_assoc counted.count took.0.front x.1)));
        spelled = record {
          attribute = counted.attribute;
          count = counted.count;
          body = took.0.front;
          parts = refl;
          counted = subst (SpellsCount order counted.count) (sym took.1) counted.counted;
          vectors = took.0.spelled;
        };
      },
      λ some. omega (arith, took.2 (omega (arith, some, took.1))),
    )

pub and_both : (b d : Bool) → (b && d) ≡ true → (b ≡ true) × (d ≡ true)
and_both true d e = (refl, e)
and_both false d e = absurd cc

equal_lengths-all : (rows : ℕ) (columns : List Contents) → have_equal_lengths rows columns ≡ true → All (λ (column : Contents). length column.atoms ≡ rows) columns
equal_lengths-all rows [] e = All-nil (λ (column : Contents). length column.atoms ≡ rows)
equal_lengths-all rows (c ∷ cs) e =
    let both = and_both (nat_eq (length c.atoms) rows) (have_equal_lengths rows cs) e in
    All-cons (λ (column : Contents). length column.atoms ≡ rows) c cs (eqb-true _ _ both.0) (equal_lengths-all rows cs both.1)

grid_shape : (names : List (List ℕ)) (columns : List Contents) → is_grid names columns ≡ true → IsTable names columns
grid_shape names columns e =
    let some = and_both (nat_lt 0 (length columns)) (nat_eq (length names) (length columns) && have_equal_lengths (rows_of columns) columns) e in
    let more = and_both (nat_eq (length names) (length columns)) (have_equal_lengths (rows_of columns) columns) some.1 in
    record { some = ltb-true _ _ some.0; named = eqb-true _ _ more.0; even = equal_lengths-all (rows_of columns) columns more.1 }

shaped_ok : (left : ℕ) (names : List (List ℕ)) (columns : List Contents) (grid : Grid) → shaped left names columns ≡ Ok grid → IsTable names columns × (record { names = names; columns = columns } ≡ grid)
shaped_ok left names columns grid e =
    let made : Grid = record { names = names; columns = columns } in
    let g = held_ok (is_grid names columns) (BadShape left) (Ok made) grid e in
    (grid_shape names columns g.0, ok_is made grid g.1)

grid_took : (left room : ℕ) (order : Order) (bytes : List ℕ) (x : Grid × List ℕ) → grid_at left room order bytes ≡ Ok x → Took (λ b. SpellsGrid order b x.0) (98 ∷ bytes) x.1 × (3 ≤ room)
unfolding grid_at
grid_took left room order [] x e = absurd cc
grid_took left room order (attribute ∷ bytes) x e =
    let zero' = bind_ok (part_at room 99 127 bytes) (λ inner. names_at (room - 1) order inner >>= λ names. list_of_columns_at (room - 1) order names.1 >>= λ columns. shaped left names.0 columns.0 >>= λ grid. Ok (grid, columns.1)) x e in
    let one = bind_ok (names_at (room - 1) order zero'.0) (λ names. list_of_columns_at (room - 1) order names.1 >>= λ columns. shaped left names.0 columns.0 >>= λ grid. Ok (grid, columns.1)) x zero'.2 in
    let two = bind_ok (list_of_columns_at (room - 1) order one.0.1) (λ columns. shaped left one.0.0 columns.0 >>= λ grid. Ok (grid, columns.1)) x one.2 in
    let three = bind_ok (shaped left one.0.0 two.0.0) (λ grid. Ok (grid, two.0.1)) x two.2 in
    let part = part_took room 99 127 bytes zero'.0 zero'.1 in
    let names = names_took (room - 1) order zero'.0 one.0 one.1 in
    let columns = list_took (room - 1) order one.0.1 two.0 two.1 in
    let shape = shaped_ok left one.0.0 two.0.0 three.0 three.1 in
    let made : Grid × List ℕ = (record { names = one.0.0; columns = two.0.0 }, two.0.1) in
    let same : made ≡ x = ap (λ (grid : Grid). (grid, two.0.1)) shape.1 ∙ ok_is (three.0, two.0.1) x three.2 in
    subst (λ (y : Grid × List ℕ). Took (λ b. SpellsGrid order b y.0) (98 ∷ attribute ∷ bytes) y.1 × (3 ≤ room)) same (
      record {
        front = 98 ∷ attribute ∷ part.type ∷ names.0.front ++ columns.0.front;
        parts = ap (λ (r : List ℕ). 98 ∷ attribute ∷ r) (part.parts ∙ ap (λ (r : List ℕ). part.type ∷ r) (names.0.parts ∙ ap (λ (r : List ℕ). names.0.front ++ r) columns.0.parts ∙ sym (append_assoc names.0.front columns.0.front two.0.1)));
        spelled = record {
          attribute = attribute;
          type = part.type;
          names = names.0.front;
          columns = columns.0.front;
          parts = refl;
          dictionary = part.either;
          named = names.0.spelled;
          listed = columns.0.spelled;
          shape = shape.0;
        };
      },
      omega (arith, columns.1 shape.0.some),
    )

-- ---- objects

checked_ok : (b : Bool) (left : ℕ) (t u : Tree) → checked b left t ≡ Ok u → (b ≡ true) × (t ≡ u)
checked_ok true left t u e = (refl, ok_is t u e)
checked_ok false left t u e = absurd cc

abbrev SpellsWithin : Order → ℕ → List ℕ → Tree → Type 0
SpellsWithin order room bytes t = SpellsTree order bytes t × (depth t ≤ room)

joined_spelled : (order : Order) (room type left : ℕ) (first second : List ℕ) (keys values t : Tree) → IsDictionaryType type → SpellsWithin order room first keys → SpellsWithin order room second values → joined left keys values ≡ Ok t → SpellsWithin order (suc room) (type ∷ first ++ second) t
joined_spelled order room type left first second (table keys) (table values) t d p q e =
    let g = checked_ok (nat_eq (rows_of keys.columns) (rows_of values.columns)) left (keyed keys values) t e in
    subst (SpellsWithin order (suc room) (type ∷ first ++ second)) g.1 ((type, first, second, refl, d, p.0, q.0, eqb-true _ _ g.0), omega (arith, p.1))
joined_spelled order room type left first second keys values t d p q e =
    let g = checked_ok (nat_eq (extent keys) (extent values)) left (dict keys values) t e in
    subst (SpellsWithin order (suc room) (type ∷ first ++ second)) g.1 ((type, first, second, refl, d, p.0, q.0, eqb-true _ _ g.0, tt), omega (arith, p.1, q.1))

identity_took : (left : ℕ) (bytes : List ℕ) (x : Tree × List ℕ) → identity_at left bytes ≡ Ok x → (x.0 ≡ identity) × (bytes ≡ 0 ∷ x.1)
unfolding identity_at
identity_took left [] x e = absurd cc
identity_took left (zero ∷ bytes) x e =
    let made : Tree × List ℕ = (identity, bytes) in
    subst (λ (y : Tree × List ℕ). (y.0 ≡ identity) × (0 ∷ bytes ≡ 0 ∷ y.1)) (ok_is made x e) (refl, refl)
identity_took left (suc b ∷ bytes) x e = absurd cc

items_took : (order : Order) (room : ℕ) (object : List ℕ → Result (Tree × List ℕ) Fault) → ((bytes : List ℕ) (x : Tree × List ℕ) → object bytes ≡ Ok x → Took (λ b. SpellsWithin order room b x.0) bytes x.1) → (n : ℕ) (bytes : List ℕ) (x : Items × List ℕ) → items_at object n bytes ≡ Ok x → Took (λ b. SpellsItems order b x.0) bytes x.1 × (number_of_items x.0 ≡ n) × (deepest x.0 ≤ room)
unfolding items_at
items_took order room object took zero bytes x e =
    let made : Items × List ℕ = (no_items, bytes) in
    subst (λ (y : Items × List ℕ). Took (λ b. SpellsItems order b y.0) bytes y.1 × (number_of_items y.0 ≡ 0) × (deepest y.0 ≤ room)) (ok_is made x e) (record { front = []; parts = refl; spelled = refl }, refl, omega arith)
items_took order room object took (suc n) bytes x e =
    let one = bind_ok (object bytes) (λ first. items_at object n first.1 >>= λ others. Ok (item first.0 others.0, others.1)) x e in
    let two = bind_ok (items_at object n one.0.1) (λ others. Ok (item one.0.0 others.0, others.1)) x one.2 in
    let first = took bytes one.0 one.1 in
    let others = items_took order room object took n one.0.1 two.0 two.1 in
    let made : Items × List ℕ = (item one.0.0 two.0.0, two.0.1) in
    subst (λ (y : Items × List ℕ). Took (λ b. SpellsItems order b y.0) bytes y.1 × (number_of_items y.0 ≡ suc n) × (deepest y.0 ≤ room)) (ok_is made x two.2) (
      record {
        front = first.front ++ others.0.front;
        parts = first.parts ∙ ap (λ (t : List ℕ). first.front ++ t) others.0.parts ∙ sym (append_assoc first.front others.0.front two.0.1);
        spelled = (first.front, others.0.front, refl, first.spelled.0, others.0.spelled);
      },
      ap suc others.1,
      omega (arith, first.spelled.1, others.2),
    )

by_took : (order : Order) (room : ℕ) (object : List ℕ → Result (Tree × List ℕ) Fault) → ((bytes : List ℕ) (x : Tree × List ℕ) → object bytes ≡ Ok x → Took (λ b. SpellsWithin order room b x.0) bytes x.1) → (b : ℕ) (form : Form) → FormCase b form → (left : ℕ) (bytes : List ℕ) (x : Tree × List ℕ) → object_by object room order form left bytes ≡ Ok x → Took (λ b. SpellsWithin order (suc room) b x.0) (b ∷ bytes) x.1
unfolding object_by list_at dictionary_at
by_took order room object took b (f.Atom kind) c left bytes x e =
    let one = bind_ok (atom_at order kind bytes) (λ x. Ok (atom x.0, x.1)) x e in
    let first = atom_took order kind bytes one.0 one.1 in
    let made : Tree × List ℕ = (atom one.0.0, one.0.1) in
    subst (λ (y : Tree × List ℕ). Took (λ b. SpellsWithin order (suc room) b y.0) (b ∷ bytes) y.1) (ok_is made x one.2) (record {
      front = b ∷ first.front;
      parts = ap (λ (r : List ℕ). b ∷ r) first.parts;
      spelled = ((first.front, ap (λ (t : ℕ). t ∷ first.front) (c ∙ ap (λ (own : Kind). 256 - type_number own) (sym first.spelled.of_kind)), first.spelled.spelled), omega arith);
    })
by_took order room object took b (f.Vector kind) c left bytes x e =
    let one = bind_ok (vector_at order kind bytes) (λ x. Ok (vector x.0, x.1)) x e in
    let first = vector_took order kind bytes one.0 one.1 in
    let made : Tree × List ℕ = (vector one.0.0, one.0.1) in
    subst (λ (y : Tree × List ℕ). Took (λ b. SpellsWithin order (suc room) b y.0) (b ∷ bytes) y.1) (ok_is made x one.2) (record {
      front = first.front;
      parts = ap (λ (t : ℕ). t ∷ bytes) c ∙ first.parts;
      spelled = (first.spelled, omega arith);
    })
by_took order room object took b f.List c left bytes x e =
    let one = bind_ok (count_at order bytes) (λ n. items_at object n.0 n.1 >>= λ items. Ok (list items.0, items.1)) x e in
    let two = bind_ok (items_at object one.0.0 one.0.1) (λ items. Ok (list items.0, items.1)) x one.2 in
    let counted = count_took order bytes one.0 one.1 in
    let items = items_took order room object took one.0.0 one.0.1 two.0 two.1 in
    let made : Tree × List ℕ = (list two.0.0, two.0.1) in
    subst (λ (y : Tree × List ℕ). Took (λ b. SpellsWithin order (suc room) b y.0) (b ∷ bytes) y.1) (ok_is made x two.2) (record {
      front = 0 ∷ counted.attribute ∷ counted.count ++ items.0.front;
      parts = ap (λ (t : ℕ). t ∷ bytes) c ∙ ap (λ (r : List ℕ). 0 ∷ r) (counted.parts ∙ ap (λ (r : List ℕ). counted.attribute ∷ counted.count ++ r) items.0.parts ∙ ap (λ (r : List ℕ). counted.attribute ∷ r) (sym (append_assoc counted.count items.0.front two.0.1)));
      spelled = ((counted.attribute, counted.count, items.0.front, refl, subst (SpellsCount order counted.count) (sym items.1) counted.counted, items.0.spelled), omega (arith, items.2));
    })
by_took order room object took b f.Dictionary c left bytes x e =
    let one = bind_ok (object bytes) (λ keys. object keys.1 >>= λ values. joined left keys.0 values.0 >>= λ both. Ok (both, values.1)) x e in
    let two = bind_ok (object one.0.1) (λ values. joined left one.0.0 values.0 >>= λ both. Ok (both, values.1)) x one.2 in
    let three = bind_ok (joined left one.0.0 two.0.0) (λ both. Ok (both, two.0.1)) x two.2 in
    let keys = took bytes one.0 one.1 in
    let values = took one.0.1 two.0 two.1 in
    let made : Tree × List ℕ = (three.0, two.0.1) in
    subst (λ (y : Tree × List ℕ). Took (λ b. SpellsWithin order (suc room) b y.0) (b ∷ bytes) y.1) (ok_is made x three.2) (record {
      front = b ∷ keys.front ++ values.front;
      parts = ap (λ (r : List ℕ). b ∷ r) (keys.parts ∙ ap (λ (t : List ℕ). keys.front ++ t) values.parts ∙ sym (append_assoc keys.front values.front two.0.1));
      spelled = joined_spelled order room b left keys.front values.front one.0.0 two.0.0 three.0 c keys.spelled values.spelled three.1;
    })
by_took order room object took b f.Table c left bytes x e =
    let one = bind_ok (grid_at left room order bytes) (λ x. Ok (table x.0, x.1)) x e in
    let first = grid_took left room order bytes one.0 one.1 in
    let made : Tree × List ℕ = (table one.0.0, one.0.1) in
    subst (λ (y : Tree × List ℕ). Took (λ b. SpellsWithin order (suc room) b y.0) (b ∷ bytes) y.1) (ok_is made x one.2) (record {
      front = first.0.front;
      parts = ap (λ (t : ℕ). t ∷ bytes) c ∙ first.0.parts;
      spelled = (first.0.spelled, omega (arith, first.1));
    })
by_took order room object took b f.Identity c left bytes x e =
    let first = identity_took left bytes x e in
    record {
      front = 101 ∷ 0 ∷ [];
      parts = ap (λ (t : ℕ). t ∷ bytes) c ∙ ap (λ (r : List ℕ). 101 ∷ r) first.1;
      spelled = subst (SpellsWithin order (suc room) (101 ∷ 0 ∷ [])) (sym first.0) (refl, omega arith);
    }
by_took order room object took b f.Wrong c left bytes x e =
    let one = bind_ok (text_at bytes) (λ x. Ok (wrong x.0, x.1)) x e in
    let first = text_took bytes one.0 one.1 in
    let made : Tree × List ℕ = (wrong one.0.0, one.0.1) in
    subst (λ (y : Tree × List ℕ). Took (λ b. SpellsWithin order (suc room) b y.0) (b ∷ bytes) y.1) (ok_is made x one.2) (record {
      front = 128 ∷ first.front;
      parts = ap (λ (t : ℕ). t ∷ bytes) c ∙ ap (λ (r : List ℕ). 128 ∷ r) first.parts;
      spelled = ((first.front, refl, first.spelled), omega arith);
    })
by_took order room object took b f.Unbuilt c left bytes x e = absurd cc
by_took order room object took b f.Unknown c left bytes x e = absurd cc

pub object_took : (room : ℕ) (order : Order) (bytes : List ℕ) (x : Tree × List ℕ) → object_at room order bytes ≡ Ok x → Took (λ b. SpellsWithin order room b x.0) bytes x.1
unfolding object_at
object_took room order [] x e = absurd cc
object_took zero order (b ∷ bytes) x e = absurd cc
object_took (suc room) order (b ∷ bytes) x e = by_took order room (object_at room order) (object_took room order) b (form_of b) (form_is b) (length (b ∷ bytes)) bytes x e
