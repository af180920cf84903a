-- The chunk that is made of an update: its bytes and their number.
use Rattle.std.proofs.Common.{◌≡◌, ℕ, zero, suc, ◌+◌, ◌<◌, ◌≤◌, List, [], ◌∷◌, ◌++◌, length, get_or, drop, Some, sym, ap, ◌∙◌, subst, append_assoc, arith, All}
use Rattle.std.specs.Prelude.{slice_get, nat_le, true}
use Rattle.std.proofs.lemmas.Bool.{leb-true, le-leb}
use Rattle.ipc_codec.specs.Lengths.{saturated}
use Rattle.std.specs.List.{AllByRecursion, flat_map}
use Rattle.std.proofs.lemmas.List.{length-append, drop_at}
use Rattle.std.proofs.lemmas.List.Elements.{All-head, All-tail}
use Rattle.byteorder.specs.Endian.{little_bytes}
use Rattle.q_values.specs.Contents.{Contents}
use Rattle.q_values.specs.Tree.{atom}
use Rattle.q_values.specs.declared.atom.Atom.{Atom}
use Rattle.q_values.specs.declared.atom.Atom.TheVariants as a
use Rattle.day_rows.specs.Day.{entry_rows}
use Rattle.day_rows.specs.declared.entry.Entry.{Entry}
use Rattle.day_rows.specs.declared.entry.Entry.TheVariants as e
use Rattle.day_rows.specs.declared.schema.Shape.{Shape}
use Rattle.ipc_codec.specs.Canonical.{IsWritable}
use Rattle.ipc_codec.specs.Written.{element_bytes, written, head, vector_bytes, VectorFits}
use Rattle.tick_log.specs.Chunk.{update_word, chunk_bytes, no_pass, AreLoggable, FitsLog, IsChunk, IsLoggable}
use Rattle.tick_log.specs.Reading.{opening}
use Rattle.tick_log.proofs.Chunks.{after_name, chunk-parts}

pub length-chunk : (by : ℕ) (name : List ℕ) (cs : List Contents) → length (chunk_bytes by name cs) ≡ length (flat_map vector_bytes cs) + length name + 27
length-chunk by name cs = ap length (chunk-parts by name cs) ∙ omega (arith, length-append name (0 ∷ after_name cs))

element_some : (x : Atom) → 1 ≤ length (element_bytes x)
element_some (a.Boolean x) = omega arith
element_some (a.Byte x) = omega arith
element_some (a.Short x) = omega arith
element_some (a.Integer x) = omega arith
element_some (a.Long x) = omega arith
element_some (a.Character x) = omega arith
element_some (a.Symbol text) = omega (arith, length-append text (0 ∷ []))
element_some (a.Timestamp x) = omega arith
element_some (a.Month x) = omega arith
element_some (a.Date x) = omega arith
element_some (a.Timespan x) = omega arith
element_some (a.Minute x) = omega arith
element_some (a.Second x) = omega arith
element_some (a.Time x) = omega arith

atoms_few : (xs : List Atom) → length xs ≤ length (flat_map element_bytes xs)
atoms_few [] = omega arith
atoms_few (x ∷ xs) = omega (arith, element_some x, atoms_few xs, length-append (element_bytes x) (flat_map element_bytes xs))

vector_few : (v : Contents) → length v.atoms + 1 ≤ length (vector_bytes v)
unfolding vector_bytes
vector_few v = omega (arith, atoms_few v.atoms)

flat_first : (c : Contents) (cs : List Contents) → length (flat_map vector_bytes (c ∷ cs)) ≡ length (vector_bytes c) + length (flat_map vector_bytes cs)
flat_first c cs = length-append (vector_bytes c) (flat_map vector_bytes cs)

pub columns_few : (cs : List Contents) → length cs ≤ length (flat_map vector_bytes cs)
columns_few [] = omega arith
columns_few (c ∷ cs) = omega (arith, vector_few c, columns_few cs, flat_first c cs)

pub atoms_within : (n : ℕ) (cs : List Contents) → length (flat_map vector_bytes cs) ≤ n → (k : ℕ) (d : Contents) → k < length cs → length (get_or cs k d).atoms ≤ n
atoms_within n [] h k d low = absurd (omega (arith, low))
atoms_within n (c ∷ cs) h zero d low = omega (arith, h, vector_few c, flat_first c cs)
atoms_within n (c ∷ cs) h (suc k) d low = atoms_within n cs (omega (arith, h, flat_first c cs)) k d (omega (arith, low))

writable_from : (cs : List Contents) → All VectorFits cs → length (flat_map vector_bytes cs) ≤ 2147483647 → AllByRecursion IsWritable cs
writable_from [] fits h = tt
writable_from (c ∷ cs) fits h = (
  record { few = omega (arith, h, vector_few c, flat_first c cs); fits = All-head VectorFits c cs fits },
  writable_from cs (All-tail VectorFits c cs fits) (omega (arith, h, flat_first c cs)),
)

join : (out p q x y : List ℕ) → x ≡ out ++ p → y ≡ x ++ q → y ≡ out ++ (p ++ q)
join out p q x y e f = f ∙ ap (λ (r : List ℕ). r ++ q) e ∙ append_assoc out p q

regroup : (by : ℕ) (name h f : List ℕ) → (((((little_bytes 8 by ++ head 0 3) ++ written (atom (a.Symbol update_word))) ++ written (atom (a.Symbol name))) ++ h) ++ f)
    ≡ little_bytes 8 by ++ (opening ++ (name ++ 0 ∷ (h ++ f)))
unfolding written
regroup by name h f = ap (λ (r : List ℕ). little_bytes 8 by ++ (opening ++ r)) (append_assoc (name ++ 0 ∷ []) h f ∙ append_assoc name (0 ∷ []) (h ++ f))

-- the six pieces of a chunk, appended one after another
pub pieces : (out s1 s2 s3 s4 s5 s6 : List ℕ) (by : ℕ) (name : List ℕ) (cs : List Contents) → s1 ≡ out ++ little_bytes 8 by → s2 ≡ s1 ++ head 0 3
    → s3 ≡ s2 ++ written (atom (a.Symbol update_word)) → s4 ≡ s3 ++ written (atom (a.Symbol name)) → s5 ≡ s4 ++ head 0 (length cs) → s6 ≡ s5 ++ flat_map vector_bytes cs
    → s6 ≡ out ++ chunk_bytes by name cs
pieces out s1 s2 s3 s4 s5 s6 by name cs e1 e2 e3 e4 e5 e6 =
    let word : List ℕ = written (atom (a.Symbol update_word)) in
    let symbol : List ℕ = written (atom (a.Symbol name)) in
    let flat : List ℕ = flat_map vector_bytes cs in
    let two = join out (little_bytes 8 by) (head 0 3) s1 s2 e1 e2 in
    let three = join out (little_bytes 8 by ++ head 0 3) word s2 s3 two e3 in
    let four = join out ((little_bytes 8 by ++ head 0 3) ++ word) symbol s3 s4 three e4 in
    let five = join out (((little_bytes 8 by ++ head 0 3) ++ word) ++ symbol) (head 0 (length cs)) s4 s5 four e5 in
    let six = join out ((((little_bytes 8 by ++ head 0 3) ++ word) ++ symbol) ++ head 0 (length cs)) flat s5 s6 five e6 in
    six ∙ ap (λ (r : List ℕ). out ++ r) (regroup by name (head 0 (length cs)) flat ∙ sym (chunk-parts by name cs))

-- what was appended to four bytes is the chunk of the entry
pub made : (schema : List Shape) (entry : Entry) (by table : ℕ) (cs : List Contents) (shape : Shape) (bytes front all : List ℕ) → entry ≡ e.Upd by table cs → IsLoggable schema entry
    → slice_get schema table ≡ Some shape → All VectorFits cs → length front ≡ 4 → all ≡ front ++ chunk_bytes by shape.table cs → bytes ≡ drop 4 all
    → (before : ℕ) → before + entry_rows entry ≤ 4294967295 → IsChunk schema before bytes entry
made schema entry by table cs shape bytes front all is loggable at fits four appended dropped before rows =
    let own : IsLoggable schema (e.Upd by table cs) = subst (IsLoggable schema) is loggable in
    let shapes : Some shape ≡ Some own.0 = sym at ∙ own.1 in
    let same : shape ≡ own.0 = cc in
    let chunk : bytes ≡ chunk_bytes by own.0.table cs =
    dropped ∙ ap (drop 4) appended ∙ drop_at front (chunk_bytes by shape.table cs) 4 four ∙ ap (λ (s : Shape). chunk_bytes by s.table cs) same in
    let low : length (flat_map vector_bytes cs) ≤ 2147483647 = omega (arith, own.2.short, length-chunk by own.0.table cs) in
    let limit : before + entry_rows (e.Upd by table cs) ≤ 4294967295 = subst (λ (x : Entry). before + entry_rows x ≤ 4294967295) is rows in
    subst (IsChunk schema before bytes) (sym is) (
      own.0,
      own.1,
      record {
        pass = own.2.pass;
        loggable = own.2.loggable;
        writable = writable_from cs fits low;
        rows = limit;
        spelled = chunk;
      },
    )

-- what the number of bytes says
pub fits_both : (n by : ℕ) (shape : Shape) (cs : List Contents) → n ≡ saturated (length (chunk_bytes by shape.table cs)) → by < no_pass → AreLoggable shape.kinds cs
    → (nat_le n 2147483647 ≡ true → FitsLog by shape cs) × (FitsLog by shape cs → nat_le n 2147483647 ≡ true)
fits_both n by shape cs is pass loggable = (
  λ low. record { pass = pass; loggable = loggable; short = omega (arith, is, leb-true n 2147483647 low) },
  λ h. le-leb n 2147483647 (omega (arith, is, h.short)),
)
