-- The parts of a chunk, and that they are read in one way.
use Rattle.std.proofs.Common.{◌≡◌, ℕ, suc, ◌+◌, ◌<◌, ◌≤◌, List, [], ◌∷◌, ◌++◌, length, drop, map, Some, refl, sym, ap, ◌∙◌, subst, append_assoc, arith}
use Rattle.std.specs.Prelude.{slice_get}
use Rattle.std.specs.List.{AllByRecursion, flat_map}
use Rattle.std.proofs.lemmas.List.{append-nil, append_cancel_left, drop_at, length-map}
use Rattle.std.proofs.lemmas.Grind.{flat_map-append}
use Rattle.byteorder.specs.Endian.{little_bytes, little_number}
use Rattle.byteorder.specs.Numbers.{little_number-reads_back, length-bytes_low_first}
use Rattle.q_values.specs.Contents.{Contents}
use Rattle.q_values.specs.Table.{rows_of}
use Rattle.q_values.specs.Tree.{vector, list, items_of}
use Rattle.q_values.specs.declared.kind.Kind.{Kind}
use Rattle.day_rows.specs.Day.{AreColumns}
use Rattle.day_rows.specs.Schema.{IsSchema}
use Rattle.day_rows.specs.declared.entry.Entry.{Entry}
use Rattle.day_rows.specs.declared.entry.Entry.TheVariants as e
use Rattle.day_rows.specs.declared.schema.Shape.{Shape}
use Rattle.ipc_codec.specs.Canonical.{IsWritable, BeginsWith, BeginsWithNone}
use Rattle.ipc_codec.specs.Reading.{number_of_items}
use Rattle.ipc_codec.specs.Written.{written, written_items, head, vector_bytes}
use Rattle.ipc_codec.proofs.CanonicalLemmas.{begins_once}
use Rattle.tick_log.specs.Chunk.{chunk_bytes, update_tree, most_rows, no_pass, SpellsChunk, IsChunk}
use Rattle.tick_log.specs.Reading.{BeginsWithPass, BeginsWithTable, AreVectors, AreLogged, opening}
use Rattle.tick_log.proofs.Tables.{name_once, table_once, word_no_nul, shape_at}

-- ---- vectors

begins : (v : Contents) (rest bytes : List ℕ) → bytes ≡ vector_bytes v ++ rest → IsWritable v → BeginsWith bytes v rest
unfolding written
begins v rest bytes e w = record { split = e; writable = w }

begun : (v : Contents) (rest bytes : List ℕ) → BeginsWith bytes v rest → bytes ≡ vector_bytes v ++ rest
unfolding written
begun v rest bytes h = h.split

first_once : (c d : Contents) (r s : List ℕ) → IsWritable c → IsWritable d → vector_bytes c ++ r ≡ vector_bytes d ++ s → (c ≡ d) × (r ≡ s)
first_once c d r s p q e = begins_once (vector_bytes c ++ r) c d r s (begins c r (vector_bytes c ++ r) refl p) (begins d s (vector_bytes c ++ r) e q)

module _ where
  regroup : (c : Contents) (cs : List Contents) (r : List ℕ) → flat_map vector_bytes (c ∷ cs) ++ r ≡ vector_bytes c ++ (flat_map vector_bytes cs ++ r)
  regroup c cs r = append_assoc (vector_bytes c) (flat_map vector_bytes cs) r

-- bytes are one list of vectors
pub vectors_once : (cs ds : List Contents) (r s : List ℕ) → AllByRecursion IsWritable cs → AllByRecursion IsWritable ds → length cs ≡ length ds
    → flat_map vector_bytes cs ++ r ≡ flat_map vector_bytes ds ++ s → (cs ≡ ds) × (r ≡ s)
vectors_once [] [] r s p q n e = (refl, e)
vectors_once [] (d ∷ ds) r s p q n e = absurd (omega (arith, n))
vectors_once (c ∷ cs) [] r s p q n e = absurd (omega (arith, n))
vectors_once (c ∷ cs) (d ∷ ds) r s p q n e =
    let one = first_once c d (flat_map vector_bytes cs ++ r) (flat_map vector_bytes ds ++ s) p.0 q.0 (sym (regroup c cs r) ∙ e ∙ regroup d ds s) in
    let more = vectors_once cs ds r s p.1 q.1 (omega (arith, n)) one.1 in
    (ap (λ (x : Contents). x ∷ cs) one.0 ∙ ap (λ (xs : List Contents). d ∷ xs) more.0, more.1)

-- after the first vectors comes the next one
no_more : (front cs : List Contents) (rest : List ℕ) → AllByRecursion IsWritable front → AllByRecursion IsWritable cs → length front < length cs
    → flat_map vector_bytes front ++ rest ≡ flat_map vector_bytes cs → BeginsWithNone rest → ⊥
no_more front [] rest p q n e none = omega (arith, n)
no_more [] (d ∷ ds) rest p q n e none = none d (flat_map vector_bytes ds) (begins d (flat_map vector_bytes ds) rest e q.0)
no_more (c ∷ front) (d ∷ ds) rest p q n e none =
    let one = first_once c d (flat_map vector_bytes front ++ rest) (flat_map vector_bytes ds) p.0 q.0 (sym (regroup c front rest) ∙ e) in
    no_more front ds rest p.1 q.1 (omega (arith, n)) one.1 none

pub vectors_end : (front : List Contents) (bytes rest : List ℕ) (count : ℕ) → AllByRecursion IsWritable front → length front < count → bytes ≡ flat_map vector_bytes front ++ rest
    → BeginsWithNone rest → (columns : List Contents) → AreVectors count bytes columns → ⊥
vectors_end front bytes rest count p n e none columns h = no_more front columns rest p h.writable (omega (arith, n, h.counted)) (sym e ∙ h.spelled) none

pub vectors_left : (front : List Contents) (bytes rest : List ℕ) (count : ℕ) → AllByRecursion IsWritable front → length front ≡ count → bytes ≡ flat_map vector_bytes front ++ rest
    → (length rest ≡ 0 → ⊥) → (columns : List Contents) → AreVectors count bytes columns → ⊥
vectors_left front bytes rest count p n e some columns h =
    let both : flat_map vector_bytes front ++ rest ≡ flat_map vector_bytes columns ++ [] = sym e ∙ h.spelled ∙ sym (append-nil (flat_map vector_bytes columns)) in
    some (ap length (vectors_once front columns rest [] p h.writable (omega (arith, n, h.counted)) both).1)

pub vectors_more : (front : List Contents) (bytes rest after : List ℕ) (v : Contents) → bytes ≡ flat_map vector_bytes front ++ rest → BeginsWith rest v after
    → bytes ≡ flat_map vector_bytes (front ++ v ∷ []) ++ after
vectors_more front bytes rest after v e h =
    e ∙ ap (λ (r : List ℕ). flat_map vector_bytes front ++ r) (begun v after rest h) ∙ sym (append_assoc (flat_map vector_bytes front) (vector_bytes v) after)
    ∙ ap (λ (r : List ℕ). (flat_map vector_bytes front ++ r) ++ after) (sym (append-nil (vector_bytes v)))
    ∙ ap (λ (r : List ℕ). r ++ after) (sym (flat_map-append vector_bytes front (v ∷ [])))

pub all_more : {X : Type 0} (P : X → Type 0) (xs : List X) (x : X) → AllByRecursion P xs → P x → AllByRecursion P (xs ++ x ∷ [])
all_more P [] x h p = (p, tt)
all_more P (y ∷ ys) x h p = (h.0, all_more P ys x h.1 p)

-- ---- the parts

number_of-columns : (cs : List Contents) → number_of_items (items_of (map vector cs)) ≡ length cs
number_of-columns [] = refl
number_of-columns (c ∷ cs) = ap suc (number_of-columns cs)

items-columns : (cs : List Contents) → written_items (items_of (map vector cs)) ≡ flat_map vector_bytes cs
unfolding written
items-columns [] = refl
items-columns (c ∷ cs) = ap (λ (r : List ℕ). vector_bytes c ++ r) (items-columns cs)

-- the bytes after a table's name
abbrev pub after_name : List Contents → List ℕ
after_name cs = head 0 (length cs) ++ flat_map vector_bytes cs

-- the bytes after the pass
abbrev pub after_pass : List ℕ → List Contents → List ℕ
after_pass name cs = opening ++ (name ++ 0 ∷ after_name cs)

list-columns : (cs : List Contents) → written (list (items_of (map vector cs))) ++ [] ≡ after_name cs
unfolding written
list-columns cs =
    append-nil (head 0 (number_of_items (items_of (map vector cs))) ++ written_items (items_of (map vector cs)))
    ∙ ap (λ (n : ℕ). head 0 n ++ written_items (items_of (map vector cs))) (number_of-columns cs) ∙ ap (λ (r : List ℕ). head 0 (length cs) ++ r) (items-columns cs)

update-parts : (name : List ℕ) (cs : List Contents) → written (update_tree name cs) ≡ after_pass name cs
unfolding written
update-parts name cs =
    let last : List ℕ = written (list (items_of (map vector cs))) ++ [] in
    ap (λ (r : List ℕ). opening ++ r) (append_assoc name (0 ∷ []) last ∙ ap (λ (r : List ℕ). name ++ 0 ∷ r) (list-columns cs))

pub chunk-parts : (by : ℕ) (name : List ℕ) (cs : List Contents) → chunk_bytes by name cs ≡ little_bytes 8 by ++ after_pass name cs
chunk-parts by name cs = ap (λ (r : List ℕ). little_bytes 8 by ++ r) (update-parts name cs)

pub columns_of_kinds : (kinds : List Kind) (cs : List Contents) → AreColumns kinds cs → length cs ≡ length kinds
columns_of_kinds kinds cs h = sym (length-map cs (λ (c : Contents). c.kind)) ∙ ap length h.of_kinds

-- ---- built from its parts

pub built : (before : ℕ) (bytes rest last : List ℕ) (by : ℕ) (shape : Shape) (cs : List Contents) → BeginsWithPass bytes by rest → BeginsWithTable rest shape.table last → AreLogged shape.kinds last cs
    → before + rows_of cs ≤ most_rows → SpellsChunk before bytes by shape cs
built before bytes rest last by shape cs pass table logged rows = record {
  pass = pass.pass;
  loggable = logged.loggable;
  writable = logged.writable;
  rows = rows;
  spelled =
      pass.split ∙ ap (λ (r : List ℕ). little_bytes 8 by ++ r) (table ∙ ap (λ (r : List ℕ). opening ++ (shape.table ++ 0 ∷ r)) (logged.spelled
      ∙ ap (λ (n : ℕ). head 0 n ++ flat_map vector_bytes cs) (sym (columns_of_kinds shape.kinds cs logged.loggable.fitting)))) ∙ sym (chunk-parts by shape.table cs);
}

-- ---- read in one way

pass_once : (by other : ℕ) (r s : List ℕ) → by < no_pass → other < no_pass → little_bytes 8 by ++ r ≡ little_bytes 8 other ++ s → (by ≡ other) × (r ≡ s)
pass_once by other r s p q e =
    let long : (n : ℕ) → length (little_bytes 8 n) ≡ 8 = λ n. length-bytes_low_first 0 8 n in
    let one : by ≡ other = sym (little_number-reads_back 8 by r (omega (arith, p))) ∙ ap (little_number 8) e ∙ little_number-reads_back 8 other s (omega (arith, q)) in
    (one, sym (drop_at (little_bytes 8 by) r 8 (long by)) ∙ ap (drop 8) e ∙ drop_at (little_bytes 8 other) s 8 (long other))

-- what is known of an entry whose chunk begins with a pass
pub pass_of_chunk : (before : ℕ) (bytes : List ℕ) (by : ℕ) (shape : Shape) (cs : List Contents) → SpellsChunk before bytes by shape cs → BeginsWithPass bytes by (after_pass shape.table cs)
pass_of_chunk before bytes by shape cs h = record { pass = h.pass; split = h.spelled ∙ chunk-parts by shape.table cs }

logged_of_chunk : (before : ℕ) (bytes : List ℕ) (by : ℕ) (shape : Shape) (cs : List Contents) → SpellsChunk before bytes by shape cs → AreLogged shape.kinds (after_name cs) cs
logged_of_chunk before bytes by shape cs h = record {
  loggable = h.loggable;
  writable = h.writable;
  spelled = ap (λ (n : ℕ). head 0 n ++ flat_map vector_bytes cs) (columns_of_kinds shape.kinds cs h.loggable.fitting);
}

pub logged_once : (kinds : List Kind) (bytes : List ℕ) (cs ds : List Contents) → AreLogged kinds bytes cs → AreLogged kinds bytes ds → cs ≡ ds
logged_once kinds bytes cs ds h i =
    let both : flat_map vector_bytes cs ++ [] ≡ flat_map vector_bytes ds ++ [] =
    ap (λ (r : List ℕ). r ++ []) (append_cancel_left (head 0 (length kinds)) (flat_map vector_bytes cs) (flat_map vector_bytes ds) (sym h.spelled ∙ i.spelled)) in
    (vectors_once cs ds [] [] h.writable i.writable (columns_of_kinds kinds cs h.loggable.fitting ∙ sym (columns_of_kinds kinds ds i.loggable.fitting)) both).0

-- no table, so no chunk
pub no_pass_no_chunk : (schema : List Shape) (before : ℕ) (bytes : List ℕ) → ((by : ℕ) (rest : List ℕ) → BeginsWithPass bytes by rest → ⊥) → (x : Entry) → IsChunk schema before bytes x → ⊥
no_pass_no_chunk schema before bytes none (e.Upd by table cs) h = none by (after_pass h.0.table cs) (pass_of_chunk before bytes by h.0 cs h.2)
no_pass_no_chunk schema before bytes none (e.Roll by date) h = h
no_pass_no_chunk schema before bytes none (e.Fault by) h = h

rest_is : (before : ℕ) (bytes rest : List ℕ) (by other : ℕ) (shape : Shape) (cs : List Contents) → BeginsWithPass bytes by rest → SpellsChunk before bytes other shape cs → (by ≡ other) × (rest ≡ after_pass shape.table cs)
rest_is before bytes rest by other shape cs pass h =
    let own = pass_of_chunk before bytes other shape cs h in
    pass_once by other rest (after_pass shape.table cs) pass.pass own.pass (sym pass.split ∙ own.split)

pub no_table_no_chunk : (schema : List Shape) (before : ℕ) (bytes rest : List ℕ) (by : ℕ) → BeginsWithPass bytes by rest
    → ((i : ℕ) (shape : Shape) (last : List ℕ) → slice_get schema i ≡ Some shape → BeginsWithTable rest shape.table last → ⊥) → (x : Entry) → IsChunk schema before bytes x → ⊥
no_table_no_chunk schema before bytes rest by pass none (e.Upd other table cs) h =
    none table h.0 (after_name cs) h.1 (rest_is before bytes rest by other h.0 cs pass h.2).1
no_table_no_chunk schema before bytes rest by pass none (e.Roll other date) h = h
no_table_no_chunk schema before bytes rest by pass none (e.Fault other) h = h

-- the pass and the table of bytes leave the columns
pub record LeavesColumns (before : ℕ) (last : List ℕ) (by table : ℕ) (shape : Shape) (x : Entry) : Type 0 where
  pub columns : List Contents
  pub logged : AreLogged shape.kinds last columns
  pub rows : before + rows_of columns ≤ most_rows
  pub same : x ≡ e.Upd by table columns

pub leaves_columns : (schema : List Shape) (before : ℕ) (bytes rest last : List ℕ) (by table : ℕ) (shape : Shape) → IsSchema schema → BeginsWithPass bytes by rest → slice_get schema table ≡ Some shape
    → BeginsWithTable rest shape.table last → (x : Entry) → IsChunk schema before bytes x → LeavesColumns before last by table shape x
leaves_columns schema before bytes rest last by table shape lawful pass at begins (e.Upd other place cs) h =
    let passes = rest_is before bytes rest by other h.0 cs pass h.2 in
    let own_name = word_no_nul shape.table (shape_at schema table shape lawful at).table.word in
    let other_name = word_no_nul h.0.table (shape_at schema place h.0 lawful h.1).table.word in
    let names : shape.table ++ 0 ∷ last ≡ h.0.table ++ 0 ∷ after_name cs = append_cancel_left opening (shape.table ++ 0 ∷ last) (h.0.table ++ 0 ∷ after_name cs) (sym begins ∙ passes.1) in
    let one = name_once shape.table h.0.table last (after_name cs) own_name other_name names in
    let places : table ≡ place = table_once schema table place shape h.0 lawful.ascends at h.1 one.0 in
    let shapes : Some shape ≡ Some h.0 = sym at ∙ ap (slice_get schema) places ∙ h.1 in
    let shape_is : h.0 ≡ shape = cc in
    record {
      columns = cs;
      logged = subst (λ (l : List ℕ). AreLogged shape.kinds l cs) (sym one.1) (subst (λ (s : Shape). AreLogged s.kinds (after_name cs) cs) shape_is (logged_of_chunk before bytes other h.0 cs h.2));
      rows = h.2.rows;
      same = ap (λ (n : ℕ). e.Upd n place cs) (sym passes.0) ∙ ap (λ (n : ℕ). e.Upd by n cs) (sym places);
    }
leaves_columns schema before bytes rest last by table shape lawful pass at begins (e.Roll other date) h = absurd h
leaves_columns schema before bytes rest last by table shape lawful pass at begins (e.Fault other) h = absurd h

-- bytes are the chunk of one entry at most
pub chunk_once : (schema : List Shape) (before : ℕ) (bytes : List ℕ) (x y : Entry) → IsSchema schema → IsChunk schema before bytes x → IsChunk schema before bytes y → x ≡ y
chunk_once schema before bytes (e.Upd by table cs) y lawful h i =
    let left = leaves_columns schema before bytes (after_pass h.0.table cs) (after_name cs) by table h.0 lawful (pass_of_chunk before bytes by h.0 cs h.2) h.1 refl y i in
    let same = logged_once h.0.kinds (after_name cs) cs left.columns (logged_of_chunk before bytes by h.0 cs h.2) left.logged in
    ap (λ (ds : List Contents). e.Upd by table ds) same ∙ sym left.same
chunk_once schema before bytes (e.Roll by date) y lawful h i = absurd h
chunk_once schema before bytes (e.Fault by) y lawful h i = absurd h
