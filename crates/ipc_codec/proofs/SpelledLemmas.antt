-- Each encoding of a value is read as that value, whatever follows.
use Rattle.std.proofs.Common.{nat_eq, ◌≡◌, ℕ, zero, suc, ◌+◌, ◌-◌, ◌<◌, ◌≤◌, ◌*◌, Bool, true, false, cond, ltb, List, [], ◌∷◌, ◌++◌, length, drop, map, Some, Result, Ok, Err, refl, sym, ap, subst, ◌∙◌, append_assoc, arith, inl, inr, All}
use Rattle.std.specs.Prelude.{◌⊎◌, ◌||◌}
use Rattle.std.proofs.lemmas.Bool.{le-ltb, lt-ltb}
use Rattle.std.proofs.lemmas.List.{drop_at, length-append, length-map}
use Rattle.std.proofs.lemmas.List.Elements.{All-head, All-tail}
use Rattle.ipc_codec.proofs.ExtentLemmas.{same_number}
use Rattle.ipc_codec.proofs.ElementLemmas.{number-front, element-front}
use Rattle.q_values.specs.Atom.{kind_of}
use Rattle.q_values.specs.Bytes.{HasNoNul}
use Rattle.q_values.specs.Contents.{Contents}
use Rattle.q_values.specs.Table.{IsTable, rows_of}
use Rattle.q_values.specs.Tree.{Tree, Items, Grid, atom, vector, list, dict, table, keyed, identity, wrong, no_items, item}
use Rattle.q_values.specs.declared.atom.Atom.{Atom}
use Rattle.q_values.specs.declared.atom.Atom.TheVariants as a
use Rattle.q_values.specs.declared.kind.Kind.{Kind}
use Rattle.q_values.specs.declared.kind.Kind.TheVariants as k
use Rattle.ipc_codec.specs.declared.fault.Fault.{Fault}
use Rattle.ipc_codec.specs.declared.fault.Fault.TheVariants.{Truncated}
use Rattle.ipc_codec.specs.declared.form.Form.TheVariants as f
use Rattle.ipc_codec.specs.declared.order.Order.{Order}
use Rattle.q_values.specs.Kind.{kind_at, type_number, width}
use Rattle.ipc_codec.specs.Types.{other_form, form_of}
use Rattle.ipc_codec.specs.Numbers.{number, element, cells}
use Rattle.ipc_codec.specs.Reading.{count_at, text_at, texts_at, cells_at, symbols_at, is_symbol, elements_at, vector_at, atom_at, part_at, column_at, columns_at, have_equal_lengths, is_grid, names_at, list_of_columns_at, grid_at, extent, number_of_items, checked, joined, identity_at, items_at, list_at, dictionary_at, object_by, object_at}
use Rattle.ipc_codec.specs.Written.{depth, deepest, AreNotBothTables}
use Rattle.ipc_codec.specs.Spells.{InTurn, SpellsCount, SpellsText, SpellsElement, SpellsElementOf, SpellsVector, IsDictionaryType, SpellsNames, SpellsColumns, SpellsGrid, SpellsTree, SpellsItems}

-- ---- types

form_of-vector : (kind : Kind) → form_of (type_number kind) ≡ f.Vector kind
unfolding form_of
form_of-vector k.Boolean = refl
form_of-vector k.Byte = refl
form_of-vector k.Short = refl
form_of-vector k.Integer = refl
form_of-vector k.Long = refl
form_of-vector k.Character = refl
form_of-vector k.Symbol = refl
form_of-vector k.Timestamp = refl
form_of-vector k.Month = refl
form_of-vector k.Date = refl
form_of-vector k.Timespan = refl
form_of-vector k.Minute = refl
form_of-vector k.Second = refl
form_of-vector k.Time = refl

form_of-atom : (kind : Kind) → form_of (256 - type_number kind) ≡ f.Atom kind
unfolding form_of
form_of-atom k.Boolean = refl
form_of-atom k.Byte = refl
form_of-atom k.Short = refl
form_of-atom k.Integer = refl
form_of-atom k.Long = refl
form_of-atom k.Character = refl
form_of-atom k.Symbol = refl
form_of-atom k.Timestamp = refl
form_of-atom k.Month = refl
form_of-atom k.Date = refl
form_of-atom k.Timespan = refl
form_of-atom k.Minute = refl
form_of-atom k.Second = refl
form_of-atom k.Time = refl

pub kind_at-number : (kind : Kind) → kind_at (type_number kind) ≡ Some kind
kind_at-number k.Boolean = refl
kind_at-number k.Byte = refl
kind_at-number k.Short = refl
kind_at-number k.Integer = refl
kind_at-number k.Long = refl
kind_at-number k.Character = refl
kind_at-number k.Symbol = refl
kind_at-number k.Timestamp = refl
kind_at-number k.Month = refl
kind_at-number k.Date = refl
kind_at-number k.Timespan = refl
kind_at-number k.Minute = refl
kind_at-number k.Second = refl
kind_at-number k.Time = refl

form_of-list : form_of 0 ≡ f.List
unfolding form_of other_form
form_of-list = refl

form_of-table : form_of 98 ≡ f.Table
unfolding form_of other_form
form_of-table = refl

form_of-identity : form_of 101 ≡ f.Identity
unfolding form_of other_form
form_of-identity = refl

form_of-wrong : form_of 128 ≡ f.Wrong
unfolding form_of other_form
form_of-wrong = refl

form_of-99 : form_of 99 ≡ f.Dictionary
unfolding form_of other_form
form_of-99 = refl

form_of-127 : form_of 127 ≡ f.Dictionary
unfolding form_of other_form
form_of-127 = refl

form_of-dictionary : (type : ℕ) → IsDictionaryType type → form_of type ≡ f.Dictionary
form_of-dictionary type (inl e) = ap form_of e ∙ form_of-99
form_of-dictionary type (inr e) = ap form_of e ∙ form_of-127

-- ---- counts and texts

pub count_again : (order : Order) (attribute : ℕ) (count rest : List ℕ) (n : ℕ) → SpellsCount order count n → count_at order (attribute ∷ count ++ rest) ≡ Ok (n, rest)
unfolding count_at
count_again order attribute count rest n h =
    let long : ltb (length (count ++ rest)) 4 ≡ false = le-ltb _ _ (omega (arith, h.four, length-append count rest)) in
    let value : number order 4 (count ++ rest) ≡ n = number-front order 4 count rest (omega (arith, h.four)) ∙ h.value in
    let low : ltb 2147483647 n ≡ false = le-ltb _ _ h.within in
    rw (long, value, low, drop_at count rest 4 h.four) refl

text_at-again : (text rest : List ℕ) → HasNoNul text → text_at ((text ++ 0 ∷ []) ++ rest) ≡ Ok (text, rest)
unfolding text_at
text_at-again [] rest h = refl
text_at-again (zero ∷ text) rest h = absurd (omega (arith, All-head (λ b. 0 < b) 0 text h))
text_at-again (suc b ∷ text) rest h = rw (text_at-again text rest (All-tail (λ b. 0 < b) (suc b) text h)) refl

pub text_again : (bytes text rest : List ℕ) → SpellsText bytes text → text_at (bytes ++ rest) ≡ Ok (text, rest)
text_again bytes text rest h = ap (λ (r : List ℕ). text_at (r ++ rest)) h.ended ∙ text_at-again text rest h.no_nul

pub texts_again : (ts : List (List ℕ)) (bytes rest : List ℕ) → InTurn SpellsText bytes ts → texts_at (length ts) (bytes ++ rest) ≡ Ok (ts, rest)
unfolding texts_at
texts_again [] bytes rest h = rw h refl
texts_again (t ∷ ts) bytes rest h =
    let regrouped : bytes ++ rest ≡ h.0 ++ (h.1 ++ rest) = ap (λ (r : List ℕ). r ++ rest) h.2 ∙ append_assoc h.0 h.1 rest in
    ap (texts_at (suc (length ts))) regrouped ∙ rw (text_again h.0 t (h.1 ++ rest) h.3, texts_again ts h.1 rest h.4) refl

-- ---- elements

fixed_again : (order : Order) (kind : Kind) (bytes : List ℕ) (x : Atom) → is_symbol kind ≡ false → SpellsElementOf order kind bytes x → (length bytes ≡ width kind) × (element order kind bytes ≡ x)
fixed_again order kind bytes (a.Symbol text) s h = absurd (not_symbol kind h.of_kind s)
  where
    not_symbol : (kind : Kind) → k.Symbol ≡ kind → is_symbol kind ≡ false → ⊥
    not_symbol k.Symbol e d = absurd cc
    not_symbol _ e d = absurd cc
fixed_again order kind bytes x s h = subst (λ (own : Kind). (length bytes ≡ width own) × (element order own bytes ≡ x)) h.of_kind h.spelled

cells_length : (order : Order) (kind : Kind) (xs : List Atom) (bytes : List ℕ) → is_symbol kind ≡ false → InTurn (SpellsElementOf order kind) bytes xs → length bytes ≡ length xs * width kind
cells_length order kind [] bytes s h = rw h (omega arith)
cells_length order kind (x ∷ xs) bytes s h =
    let first = fixed_again order kind h.0 x s h.3 in
    let rest = cells_length order kind xs h.1 s h.4 in
    let product : suc (length xs) * width kind ≡ width kind + length xs * width kind = omega arith in
    rw product (ap length h.2 ∙ length-append h.0 h.1 ∙ rw (first.0, rest) refl)

cells_again : (order : Order) (kind : Kind) (xs : List Atom) (bytes rest : List ℕ) → is_symbol kind ≡ false → InTurn (SpellsElementOf order kind) bytes xs → cells (element order kind) (width kind) (length xs) (bytes ++ rest) ≡ xs
unfolding cells
cells_again order kind [] bytes rest s h = refl
cells_again order kind (x ∷ xs) bytes rest s h =
    let first = fixed_again order kind h.0 x s h.3 in
    let regrouped : bytes ++ rest ≡ h.0 ++ (h.1 ++ rest) = ap (λ (r : List ℕ). r ++ rest) h.2 ∙ append_assoc h.0 h.1 rest in
    let here : element order kind (h.0 ++ (h.1 ++ rest)) ≡ x = element-front order kind h.0 (h.1 ++ rest) (omega (arith, first.0)) ∙ first.1 in
    ap (cells (element order kind) (width kind) (suc (length xs))) regrouped ∙ rw (here, drop_at h.0 (h.1 ++ rest) (width kind) first.0, cells_again order kind xs h.1 rest s h.4) refl

cells_at-again : (order : Order) (kind : Kind) (xs : List Atom) (bytes rest : List ℕ) → is_symbol kind ≡ false → InTurn (SpellsElementOf order kind) bytes xs → cells_at order kind (length xs) (bytes ++ rest) ≡ Ok (xs, rest)
unfolding cells_at
cells_at-again order kind xs bytes rest s h =
    let len = cells_length order kind xs bytes s h in
    let long : ltb (length (bytes ++ rest)) (length xs * width kind) ≡ false = le-ltb _ _ (omega (arith, len, length-append bytes rest)) in
    rw (long, cells_again order kind xs bytes rest s h, drop_at bytes rest (length xs * width kind) len) refl

symbol_from : (x : Atom) → kind_of x ≡ k.Symbol → (text : List ℕ) × (x ≡ a.Symbol text)
symbol_from (a.Symbol text) e = (text, refl)
symbol_from _ e = absurd cc

symbols_at-again : (order : Order) (xs : List Atom) (bytes rest : List ℕ) → InTurn (SpellsElementOf order k.Symbol) bytes xs → symbols_at (length xs) (bytes ++ rest) ≡ Ok (xs, rest)
unfolding symbols_at
symbols_at-again order xs bytes rest h =
    let found = texts_of xs bytes h in
    let len : length xs ≡ length found.0 = ap length found.2 ∙ length-map found.0 (λ (text : List ℕ). a.Symbol text) in
    rw (len, texts_again found.0 bytes rest found.1) (ap (λ (ys : List Atom). Ok (ys, rest)) (sym found.2))
  where
    texts_of : (xs : List Atom) (bytes : List ℕ) → InTurn (SpellsElementOf order k.Symbol) bytes xs → (ts : List (List ℕ)) × InTurn SpellsText bytes ts × (xs ≡ map (λ text. a.Symbol text) ts)
    texts_of [] bytes h = ([], h, refl)
    texts_of (x ∷ xs) bytes h =
        let own = symbol_from x h.3.of_kind in
        let spelled : SpellsText h.0 own.0 = subst (SpellsElement order h.0) own.1 h.3.spelled in
        let more = texts_of xs h.1 h.4 in
        (own.0 ∷ more.0, (h.0, h.1, h.2, spelled, more.1), ap (λ (ys : List Atom). x ∷ ys) more.2 ∙ ap (λ (y : Atom). y ∷ map (λ text. a.Symbol text) more.0) own.1)

elements_again : (order : Order) (kind : Kind) (xs : List Atom) (bytes rest : List ℕ) → InTurn (SpellsElementOf order kind) bytes xs → elements_at order kind (length xs) (bytes ++ rest) ≡ Ok (xs, rest)
unfolding elements_at
elements_again order k.Symbol xs bytes rest h = symbols_at-again order xs bytes rest h
elements_again order k.Boolean xs bytes rest h = cells_at-again order k.Boolean xs bytes rest refl h
elements_again order k.Byte xs bytes rest h = cells_at-again order k.Byte xs bytes rest refl h
elements_again order k.Short xs bytes rest h = cells_at-again order k.Short xs bytes rest refl h
elements_again order k.Integer xs bytes rest h = cells_at-again order k.Integer xs bytes rest refl h
elements_again order k.Long xs bytes rest h = cells_at-again order k.Long xs bytes rest refl h
elements_again order k.Character xs bytes rest h = cells_at-again order k.Character xs bytes rest refl h
elements_again order k.Timestamp xs bytes rest h = cells_at-again order k.Timestamp xs bytes rest refl h
elements_again order k.Month xs bytes rest h = cells_at-again order k.Month xs bytes rest refl h
elements_again order k.Date xs bytes rest h = cells_at-again order k.Date xs bytes rest refl h
elements_again order k.Timespan xs bytes rest h = cells_at-again order k.Timespan xs bytes rest refl h
elements_again order k.Minute xs bytes rest h = cells_at-again order k.Minute xs bytes rest refl h
elements_again order k.Second xs bytes rest h = cells_at-again order k.Second xs bytes rest refl h
elements_again order k.Time xs bytes rest h = cells_at-again order k.Time xs bytes rest refl h

-- a vector, after its type byte
pub vector_again : (order : Order) (attribute : ℕ) (count body rest : List ℕ) (v : Contents) → SpellsCount order count (length v.atoms) → InTurn (SpellsElementOf order v.kind) body v.atoms → vector_at order v.kind (attribute ∷ (count ++ body) ++ rest) ≡ Ok (v, rest)
unfolding vector_at
vector_again order attribute count body rest v counted elements =
    let regrouped : (count ++ body) ++ rest ≡ count ++ (body ++ rest) = append_assoc count body rest in
    rw (regrouped, count_again order attribute count (body ++ rest) (length v.atoms) counted, elements_again order v.kind v.atoms body rest elements) refl

abbrev atom_and : Atom → List ℕ → Result (Atom × List ℕ) Fault
atom_and x rest = Ok (x, rest)

-- an element of a fixed width, after a test for its bytes
sized : (order : Order) (kind : Kind) (x : Atom) (bytes rest : List ℕ) → length bytes ≡ width kind → element order kind bytes ≡ x → cond (ltb (length (bytes ++ rest)) (width kind)) (Err Truncated) (atom_and (element order kind (bytes ++ rest)) (drop (width kind) (bytes ++ rest))) ≡ atom_and x rest
sized order kind x bytes rest len value =
    let long : ltb (length (bytes ++ rest)) (width kind) ≡ false = le-ltb _ _ (omega (arith, len, length-append bytes rest)) in
    rw (long, element-front order kind bytes rest (omega (arith, len)), value, drop_at bytes rest (width kind) len) refl

element_again : (order : Order) (x : Atom) (bytes rest : List ℕ) → SpellsElement order bytes x → atom_at order (kind_of x) (bytes ++ rest) ≡ Ok (x, rest)
unfolding atom_at
element_again order (a.Symbol text) bytes rest h = rw (text_again bytes text rest h) refl
element_again order (a.Boolean x) bytes rest h = sized order k.Boolean (a.Boolean x) bytes rest h.0 h.1
element_again order (a.Byte x) bytes rest h = sized order k.Byte (a.Byte x) bytes rest h.0 h.1
element_again order (a.Short x) bytes rest h = sized order k.Short (a.Short x) bytes rest h.0 h.1
element_again order (a.Integer x) bytes rest h = sized order k.Integer (a.Integer x) bytes rest h.0 h.1
element_again order (a.Long x) bytes rest h = sized order k.Long (a.Long x) bytes rest h.0 h.1
element_again order (a.Character x) bytes rest h = sized order k.Character (a.Character x) bytes rest h.0 h.1
element_again order (a.Timestamp x) bytes rest h = sized order k.Timestamp (a.Timestamp x) bytes rest h.0 h.1
element_again order (a.Month x) bytes rest h = sized order k.Month (a.Month x) bytes rest h.0 h.1
element_again order (a.Date x) bytes rest h = sized order k.Date (a.Date x) bytes rest h.0 h.1
element_again order (a.Timespan x) bytes rest h = sized order k.Timespan (a.Timespan x) bytes rest h.0 h.1
element_again order (a.Minute x) bytes rest h = sized order k.Minute (a.Minute x) bytes rest h.0 h.1
element_again order (a.Second x) bytes rest h = sized order k.Second (a.Second x) bytes rest h.0 h.1
element_again order (a.Time x) bytes rest h = sized order k.Time (a.Time x) bytes rest h.0 h.1

-- ---- tables

either-test : (b p q : ℕ) → (b ≡ p) ⊎ (b ≡ q) → (nat_eq b p || nat_eq b q) ≡ true
either-test b p q (inl e) = rw (e, same_number p) refl
either-test b p q (inr e) = rw (e, same_number q) (or-true (nat_eq q p))
  where
    or-true : (x : Bool) → (x || true) ≡ true
    or-true true = refl
    or-true false = refl

part_again : (room this that type : ℕ) (rest : List ℕ) → 1 ≤ room → (type ≡ this) ⊎ (type ≡ that) → part_at room this that (type ∷ rest) ≡ Ok rest
unfolding part_at
part_again zero this that type rest h e = absurd (omega (arith, h))
part_again (suc room) this that type rest h e = rw (either-test type this that e) refl

names_again : (room : ℕ) (order : Order) (bytes rest : List ℕ) (names : List (List ℕ)) → 1 ≤ room → SpellsNames order bytes names → names_at room order (bytes ++ rest) ≡ Ok (names, rest)
unfolding names_at
names_again room order bytes rest names open_here h =
    let regrouped : bytes ++ rest ≡ 11 ∷ h.attribute ∷ h.count ++ (h.body ++ rest) = ap (λ (r : List ℕ). r ++ rest) h.parts ∙ ap (λ (r : List ℕ). 11 ∷ h.attribute ∷ r) (append_assoc h.count h.body rest) in
    ap (names_at room order) regrouped ∙ rw (part_again room 11 11 11 (h.attribute ∷ h.count ++ (h.body ++ rest)) open_here (inl refl), count_again order h.attribute h.count (h.body ++ rest) (length names) h.counted) (texts_again names h.body rest h.texts)

column_again : (room : ℕ) (order : Order) (bytes rest : List ℕ) (column : Contents) → 1 ≤ room → SpellsVector order bytes column → column_at room order (bytes ++ rest) ≡ Ok (column, rest)
unfolding column_at
column_again zero order bytes rest column open_here h = absurd (omega (arith, open_here))
column_again (suc room) order bytes rest column open_here h =
    ap (λ (r : List ℕ). column_at (suc room) order (r ++ rest)) h.parts ∙ rw (kind_at-number column.kind) (vector_again order h.attribute h.count h.body rest column h.counted h.elements)

columns_again : (room : ℕ) (order : Order) (columns : List Contents) (bytes rest : List ℕ) → (0 < length columns → 1 ≤ room) → InTurn (SpellsVector order) bytes columns → columns_at room order (length columns) (bytes ++ rest) ≡ Ok (columns, rest)
unfolding columns_at
columns_again room order [] bytes rest open_here h = rw h refl
columns_again room order (c ∷ cs) bytes rest open_here h =
    let room_is : 1 ≤ room = open_here (omega arith) in
    let regrouped : bytes ++ rest ≡ h.0 ++ (h.1 ++ rest) = ap (λ (r : List ℕ). r ++ rest) h.2 ∙ append_assoc h.0 h.1 rest in
    ap (columns_at room order (suc (length cs))) regrouped ∙ rw (column_again room order h.0 (h.1 ++ rest) c room_is h.3, columns_again room order cs h.1 rest (λ _. room_is) h.4) refl

list_again : (room : ℕ) (order : Order) (bytes rest : List ℕ) (columns : List Contents) → 2 ≤ room → SpellsColumns order bytes columns → list_of_columns_at room order (bytes ++ rest) ≡ Ok (columns, rest)
unfolding list_of_columns_at
list_again room order bytes rest columns open_here h =
    let regrouped : bytes ++ rest ≡ 0 ∷ h.attribute ∷ h.count ++ (h.body ++ rest) = ap (λ (r : List ℕ). r ++ rest) h.parts ∙ ap (λ (r : List ℕ). 0 ∷ h.attribute ∷ r) (append_assoc h.count h.body rest) in
    ap (list_of_columns_at room order) regrouped ∙ rw (part_again room 0 0 0 (h.attribute ∷ h.count ++ (h.body ++ rest)) (omega arith) (inl refl), count_again order h.attribute h.count (h.body ++ rest) (length columns) h.counted) (columns_again (room - 1) order columns h.body rest (λ _. omega arith) h.vectors)

equal_lengths-test : (rows : ℕ) (columns : List Contents) → All (λ (column : Contents). length column.atoms ≡ rows) columns → have_equal_lengths rows columns ≡ true
equal_lengths-test rows [] h = refl
equal_lengths-test rows (c ∷ cs) h =
    let first : length c.atoms ≡ rows = All-head (λ (column : Contents). length column.atoms ≡ rows) c cs h in
    rw (first, same_number rows) (equal_lengths-test rows cs (All-tail (λ (column : Contents). length column.atoms ≡ rows) c cs h))

grid-test : (names : List (List ℕ)) (columns : List Contents) → IsTable names columns → is_grid names columns ≡ true
grid-test names columns h =
    let some : ltb 0 (length columns) ≡ true = lt-ltb _ _ h.some in
    rw (some, h.named, same_number (length columns), equal_lengths-test (rows_of columns) columns h.even) refl

grid_again : (left room : ℕ) (order : Order) (bytes rest : List ℕ) (grid : Grid) → 3 ≤ room → (h : SpellsGrid order bytes grid) → grid_at left room order (h.attribute ∷ h.type ∷ (h.names ++ h.columns) ++ rest) ≡ Ok (grid, rest)
unfolding grid_at
grid_again left room order bytes rest grid open_here h =
    let regrouped : (h.names ++ h.columns) ++ rest ≡ h.names ++ (h.columns ++ rest) = append_assoc h.names h.columns rest in
    rw (regrouped, part_again room 99 127 h.type (h.names ++ (h.columns ++ rest)) (omega arith) h.dictionary, names_again (room - 1) order h.names (h.columns ++ rest) grid.names (omega arith) h.named, list_again (room - 1) order h.columns rest grid.columns (omega arith) h.listed, grid-test grid.names grid.columns h.shape) refl

-- ---- objects

abbrev grid_and : Grid → List ℕ → Result (Tree × List ℕ) Fault
grid_and grid rest = Ok (table grid, rest)

table_again : (room : ℕ) (order : Order) (bytes rest : List ℕ) (grid : Grid) → 4 ≤ room → SpellsGrid order bytes grid → object_at room order (bytes ++ rest) ≡ Ok (table grid, rest)
unfolding object_at object_by
table_again zero order bytes rest grid open_here h = absurd (omega (arith, open_here))
table_again (suc room) order bytes rest grid open_here h =
    ap (λ (r : List ℕ). object_at (suc room) order (r ++ rest)) h.parts ∙ rw (form_of-table, grid_again (length (98 ∷ h.attribute ∷ h.type ∷ (h.names ++ h.columns) ++ rest)) room order bytes rest grid (omega (arith, open_here)) h) refl

tested : (m n : ℕ) → m ≡ n → nat_eq m n ≡ true
tested m n e = rw e (same_number n)

joined-dict : (left : ℕ) (keys values : Tree) → extent keys ≡ extent values → AreNotBothTables keys values → joined left keys values ≡ Ok (dict keys values)
joined-dict left (table x) (table y) e h = absurd h
joined-dict left keys values e h = ap (λ (b : Bool). checked b left (dict keys values)) (tested (extent keys) (extent values) e)

mutual
  unfolding object_at object_by list_at dictionary_at identity_at items_at

  pub object_again : (t : Tree) (room : ℕ) (order : Order) (bytes rest : List ℕ) → depth t ≤ room → SpellsTree order bytes t → object_at room order (bytes ++ rest) ≡ Ok (t, rest)
  object_again (atom x) zero order bytes rest d h = absurd (omega (arith, d))
  object_again (atom x) (suc room) order bytes rest d h =
      ap (λ (r : List ℕ). object_at (suc room) order (r ++ rest)) h.1 ∙ rw (form_of-atom (kind_of x), element_again order x h.0 rest h.2) refl
  object_again (vector v) zero order bytes rest d h = absurd (omega (arith, d))
  object_again (vector v) (suc room) order bytes rest d h =
      ap (λ (r : List ℕ). object_at (suc room) order (r ++ rest)) h.parts ∙ rw (form_of-vector v.kind, vector_again order h.attribute h.count h.body rest v h.counted h.elements) refl
  object_again (list items) zero order bytes rest d h = absurd (omega (arith, d))
  object_again (list items) (suc room) order bytes rest d h =
      let regrouped : bytes ++ rest ≡ 0 ∷ h.0 ∷ h.1 ++ (h.2 ++ rest) = ap (λ (r : List ℕ). r ++ rest) h.3 ∙ ap (λ (r : List ℕ). 0 ∷ h.0 ∷ r) (append_assoc h.1 h.2 rest) in
      ap (object_at (suc room) order) regrouped ∙ rw (form_of-list, count_again order h.0 h.1 (h.2 ++ rest) (number_of_items items) h.4, items_again items room order h.2 rest (omega (arith, d)) h.5) refl
  object_again (dict keys values) zero order bytes rest d h = absurd (omega (arith, d))
  object_again (dict keys values) (suc room) order bytes rest d h =
      let regrouped : bytes ++ rest ≡ h.0 ∷ h.1 ++ (h.2 ++ rest) = ap (λ (r : List ℕ). r ++ rest) h.3 ∙ ap (λ (r : List ℕ). h.0 ∷ r) (append_assoc h.1 h.2 rest) in
      ap (object_at (suc room) order) regrouped ∙ rw (form_of-dictionary h.0 h.4, object_again keys room order h.1 (h.2 ++ rest) (omega (arith, d)) h.5, object_again values room order h.2 rest (omega (arith, d)) h.6, joined-dict (length (h.0 ∷ h.1 ++ (h.2 ++ rest))) keys values h.7 h.8) refl
  object_again (table grid) room order bytes rest d h = table_again room order bytes rest grid d h
  object_again (keyed keys values) zero order bytes rest d h = absurd (omega (arith, d))
  object_again (keyed keys values) (suc room) order bytes rest d h =
      let regrouped : bytes ++ rest ≡ h.0 ∷ h.1 ++ (h.2 ++ rest) = ap (λ (r : List ℕ). r ++ rest) h.3 ∙ ap (λ (r : List ℕ). h.0 ∷ r) (append_assoc h.1 h.2 rest) in
      ap (object_at (suc room) order) regrouped ∙ rw (form_of-dictionary h.0 h.4, table_again room order h.1 (h.2 ++ rest) keys (omega (arith, d)) h.5, table_again room order h.2 rest values (omega (arith, d)) h.6, h.7, same_number (rows_of values.columns)) refl
  object_again identity zero order bytes rest d h = absurd (omega (arith, d))
  object_again identity (suc room) order bytes rest d h = ap (λ (r : List ℕ). object_at (suc room) order (r ++ rest)) h ∙ rw form_of-identity refl
  object_again (wrong text) zero order bytes rest d h = absurd (omega (arith, d))
  object_again (wrong text) (suc room) order bytes rest d h =
      ap (λ (r : List ℕ). object_at (suc room) order (r ++ rest)) h.1 ∙ rw (form_of-wrong, text_again h.0 text rest h.2) refl

  items_again : (items : Items) (room : ℕ) (order : Order) (bytes rest : List ℕ) → deepest items ≤ room → SpellsItems order bytes items → items_at (object_at room order) (number_of_items items) (bytes ++ rest) ≡ Ok (items, rest)
  items_again no_items room order bytes rest d h = rw h refl
  items_again (item t items) room order bytes rest d h =
      let regrouped : bytes ++ rest ≡ h.0 ++ (h.1 ++ rest) = ap (λ (r : List ℕ). r ++ rest) h.2 ∙ append_assoc h.0 h.1 rest in
      ap (items_at (object_at room order) (suc (number_of_items items))) regrouped ∙ rw (object_again t room order h.0 (h.1 ++ rest) (omega (arith, d)) h.3, items_again items room order h.1 rest (omega (arith, d)) h.4) refl
