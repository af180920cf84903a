-- What messages ask for.
use Rattle.std.proofs.Common.{◌≡◌, ℕ, ◌+◌, ◌++◌, take, true, false, List, [], ◌∷◌, length, map, refl, ap, sym, ◌∙◌, Vec, Global, Some, arith, codes}
use Rattle.std.specs.Prelude.{slice_get}
use Rattle.std.specs.Str.{bytes_eq}
use Rattle.std.specs.List.{filter_map}
use Rattle.q_values.specs.Column.{contents}
use Rattle.q_values.specs.Contents.{Contents}
use Rattle.q_values.specs.Tree.{Tree, atom, items_of, list_of, list, tree, trees, value_step, pair_step, values_step}
use Rattle.q_values.specs.declared.atom.Atom.TheVariants as a
use Rattle.q_values.specs.declared.column.Column.{Column}
use Rattle.q_values.specs.declared.column.Column.TheVariants as c
use Rattle.q_values.specs.declared.kind.ByteKind.{ByteKind}
use Rattle.q_values.specs.declared.kind.ByteKind.TheVariants as b
use Rattle.q_values.specs.declared.value.Value.{fold-roll-Value}
use Rattle.q_values.specs.declared.value.Value.TheOpen.{Value-F}
use Rattle.q_values.specs.declared.value.Value.{Value}
use Rattle.q_values.specs.declared.value.Value.TheVariants.{rolls-List, rolls-Atom}
use Rattle.q_values.specs.declared.atom.Atom.{Atom}
use Rattle.std.proofs.lemmas.List.{map_push, take-map, take_more}
use Rattle.std.proofs.lemmas.Option.{slice_get_within, get_or_from_slice_get}
use Rattle.day_rows.proofs.DayLemmas.{take_more_mapped}
use Rattle.q_values.specs.declared.value.Value.TheVariants as v
use Rattle.q_values.specs.declared.value.Values.{Values}
use Rattle.pubsub.specs.declared.request.Wanted.TheVariants as w
use Rattle.session_requests.specs.Request.{character_of, characters_of, name_of, parts_request, subscription_of, vector_request, wanted_among, wanted_of, mistyped, text, other}

pub characters : (bytes : List ℕ) → filter_map character_of (map (λ x. a.Character x) bytes) ≡ bytes
characters [] = refl
characters (b ∷ bytes) = ap (λ l. b ∷ l) (characters bytes)

pub list_of-items_of : (ts : List Tree) → list_of (items_of ts) ≡ ts
list_of-items_of [] = refl
list_of-items_of (t ∷ ts) = ap (λ l. t ∷ l) (list_of-items_of ts)

-- a list that hasn't three parts is no request
pub no_parts : (ts : List Tree) → (length ts ≡ 3 → ⊥) → parts_request ts ≡ other
no_parts [] h = refl
no_parts (x ∷ []) h = refl
no_parts (x ∷ y ∷ []) h = refl
no_parts (x ∷ y ∷ z ∷ []) h = absurd (h refl)
no_parts (x ∷ y ∷ z ∷ w ∷ ts) h = refl

-- the tree of a list
pub tree-list : (x : Values) → tree (v.List x) ≡ list (items_of (trees x))
tree-list x = ap tree (sym (rolls-List x)) ∙ fold-roll-Value Tree (Tree × Tree) (List Tree) value_step pair_step values_step (Value-F.List x)

-- a column of characters is their text
pub characters_are : (kind : ByteKind) (bytes : Vec ℕ Global) (column : Column) (found : List ℕ) (v : Contents) → contents column ≡ v → column ≡ c.Bytes kind bytes → kind ≡ b.Character → found ≡ bytes.items → characters_of v.kind v.atoms ≡ Some found
characters_are kind bytes column found v is_contents is_bytes is_characters same = rw (← is_contents, is_bytes, is_characters, same) (ap Some (characters bytes.items))

-- symbols, each a value
abbrev pub symbol_values : List (List ℕ) → List Tree
symbol_values symbols = map atom (map (λ s. a.Symbol s) symbols)

pub no_symbols : (ss : List (List ℕ)) → (length ss ≡ 3 → ⊥) → parts_request (symbol_values ss) ≡ other
no_symbols [] h = refl
no_symbols (x ∷ []) h = refl
no_symbols (x ∷ y ∷ []) h = refl
no_symbols (x ∷ y ∷ z ∷ []) h = absurd (h refl)
no_symbols (x ∷ y ∷ z ∷ w ∷ ss) h = refl

pub mistyped_symbols : (ss : List (List ℕ)) (first : List ℕ) → length ss ≡ 3 → slice_get ss 0 ≡ Some first → bytes_eq first (codes ".u.upd") ≡ true → parts_request (symbol_values ss) ≡ mistyped
mistyped_symbols [] first n at e = absurd cc
mistyped_symbols (x ∷ []) first n at e = absurd cc
mistyped_symbols (x ∷ y ∷ []) first n at e = absurd cc
mistyped_symbols (x ∷ y ∷ z ∷ []) first n at e = let same : x ≡ first = cc in rw (same, e) refl
mistyped_symbols (x ∷ y ∷ z ∷ w ∷ ss) first n at e = absurd (omega arith)

pub other_symbols : (ss : List (List ℕ)) (first : List ℕ) → slice_get ss 0 ≡ Some first → bytes_eq first (codes ".u.upd") ≡ false → bytes_eq first (codes ".u.sub") ≡ false → parts_request (symbol_values ss) ≡ other
other_symbols [] first at e f = absurd cc
other_symbols (x ∷ []) first at e f = refl
other_symbols (x ∷ y ∷ []) first at e f = refl
other_symbols (x ∷ y ∷ z ∷ []) first at e f = let same : x ≡ first = cc in rw (same, e, f) refl
other_symbols (x ∷ y ∷ z ∷ w ∷ ss) first at e f = refl

pub sub_symbols : (ss : List (List ℕ)) (first tables symbol : List ℕ) → length ss ≡ 3 → slice_get ss 0 ≡ Some first → slice_get ss 1 ≡ Some tables → slice_get ss 2 ≡ Some symbol
    → bytes_eq first (codes ".u.upd") ≡ false → bytes_eq first (codes ".u.sub") ≡ true
    → parts_request (symbol_values ss) ≡ subscription_of (Some tables) (Some (wanted_of symbol))
sub_symbols [] first tables symbol n at one two e f = absurd cc
sub_symbols (x ∷ []) first tables symbol n at one two e f = absurd cc
sub_symbols (x ∷ y ∷ []) first tables symbol n at one two e f = absurd cc
sub_symbols (x ∷ y ∷ z ∷ []) first tables symbol n at one two e f =
    let same : x ≡ first = cc in
    let second : y ≡ tables = cc in
    let third : z ≡ symbol = cc in
    rw (same, e, f, second, third) refl
sub_symbols (x ∷ y ∷ z ∷ w ∷ ss) first tables symbol n at one two e f = absurd (omega arith)

pub names : (symbols : List (List ℕ)) → filter_map name_of (map (λ s. a.Symbol s) symbols) ≡ symbols
names [] = refl
names (s ∷ symbols) = ap (λ l. s ∷ l) (names symbols)

-- the rows that a column of symbols asks for
pub symbols_wanted : (column : Column) (symbols copied : List (List ℕ)) (v : Contents) → contents column ≡ v → column ≡ c.Symbols symbols → copied ≡ symbols → Some (w.Symbols copied) ≡ wanted_among v.kind v.atoms
symbols_wanted column symbols copied v is_contents is_symbols same = rw (← is_contents, is_symbols, same) (ap (λ l. Some (w.Symbols l)) (sym (names symbols)))

-- the tree of an atom
pub tree-atom : (x : Atom) → tree (v.Atom x) ≡ atom x
tree-atom x = ap tree (sym (rolls-Atom x)) ∙ fold-roll-Value Tree (Tree × Tree) (List Tree) value_step pair_step values_step (Value-F.Atom x)

-- one atom more
pub atoms_step : (items : List Value) (x : Atom) (atoms : List Atom) (i : ℕ) → map tree items ≡ map atom (take i atoms) → slice_get atoms i ≡ Some x → map tree (items ++ v.Atom x ∷ []) ≡ map atom (take (i + 1) atoms)
atoms_step items x atoms i so_far at =
    map_push tree items (v.Atom x) ∙ ap (λ l. l ++ tree (v.Atom x) ∷ []) so_far ∙ ap (λ t. map atom (take i atoms) ++ t ∷ []) (tree-atom x)
    ∙ ap (λ l. l ++ atom x ∷ []) (sym (take-map atom i atoms)) ∙ sym (take_more_mapped atom atoms i x at) ∙ take-map atom (i + 1) atoms

-- a column of characters is a text
pub text_is : (kind : ByteKind) (bytes : Vec ℕ Global) (column : Column) (found : List ℕ) (v : Contents) → contents column ≡ v → column ≡ c.Bytes kind bytes → kind ≡ b.Character → found ≡ bytes.items → vector_request v.kind v.atoms ≡ text found
text_is kind bytes column found v is_contents is_bytes is_characters same = rw (← is_contents, is_bytes, is_characters, same) (ap text (characters bytes.items))

-- one name more
pub name_taken : (names symbols pushed : List (List ℕ)) (i : ℕ) (name bytes : List ℕ) → symbols ≡ take i names → slice_get names i ≡ Some name → bytes ≡ name
    → pushed ≡ symbols ++ bytes ∷ [] → pushed ≡ take (i + 1) names
name_taken names symbols pushed i name bytes so_far at same is =
    is ∙ ap (λ l. l ++ bytes ∷ []) so_far ∙ ap (λ b. take i names ++ b ∷ []) (same ∙ sym (get_or_from_slice_get names i name name at))
    ∙ sym (take_more names i name (slice_get_within names i name at))
