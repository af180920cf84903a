-- The bytes of counts, texts and elements that were read are encodings of them.
use Rattle.std.proofs.Common.{◌≡◌, ℕ, zero, suc, ◌+◌, ◌<◌, ◌≤◌, ◌*◌, Bool, true, false, cond, ltb, List, [], ◌∷◌, ◌++◌, length, take, drop, map, Ok, Err, refl, sym, ap, subst, ◌∙◌, append_assoc, arith}
use Rattle.std.proofs.lemmas.Bool.{ltb-false}
use Rattle.std.proofs.lemmas.List.{take-append-drop, length-take, length-drop, length-map}
use Rattle.std.proofs.lemmas.List.Elements.{All-nil, All-cons}
use Rattle.std.proofs.Math.Seq.{take-add}
use Rattle.ipc_codec.proofs.ExtentLemmas.{length-cells}
use Rattle.byteorder.specs.Numbers.{little_from-append, big_from-append}
use Rattle.q_values.specs.Atom.{kind_of}
use Rattle.q_values.specs.Contents.{Contents}
use Rattle.q_values.specs.declared.atom.Atom.{Atom}
use Rattle.q_values.specs.declared.atom.Atom.TheVariants as a
use Rattle.q_values.specs.declared.kind.Kind.{Kind}
use Rattle.q_values.specs.declared.kind.Kind.TheVariants as k
use Rattle.q_values.specs.declared.kind.Storage.{Storage}
use Rattle.q_values.specs.declared.kind.Storage.TheVariants as st
use Rattle.ipc_codec.specs.declared.fault.Fault.TheVariants.{Truncated, BadShape}
use Rattle.ipc_codec.specs.declared.order.Order.{Order}
use Rattle.ipc_codec.specs.declared.order.Order.TheVariants as o
use Rattle.q_values.specs.Kind.{type_number, width, storage_of, storage_width}
use Rattle.ipc_codec.specs.Numbers.{number, stored_element, element, cells}
use Rattle.ipc_codec.specs.Reading.{◌>>=◌, count_at, text_at, texts_at, cells_at, symbols_at, is_symbol, elements_at, vector_at, atom_at}
use Rattle.ipc_codec.specs.Spells.{InTurn, SpellsCount, SpellsText, SpellsElement, SpellsElementOf, SpellsVector}
use Rattle.ipc_codec.proofs.StepLemmas.{Took, bind_ok, guard_ok, ok_is}

-- ---- numbers and elements

pub number-front : (order : Order) (n : ℕ) (xs ys : List ℕ) → n ≤ length xs → number order n (xs ++ ys) ≡ number order n xs
number-front o.Little n xs ys h = little_from-append n xs ys h
number-front o.Big n xs ys h = big_from-append n xs ys h

stored_element-front : (order : Order) (storage : Storage) (xs ys : List ℕ) → storage_width storage ≤ length xs → stored_element (number order) storage (xs ++ ys) ≡ stored_element (number order) storage xs
stored_element-front order st.Boolean [] ys h = absurd (omega (arith, h))
stored_element-front order st.Boolean (x ∷ xs) ys h = refl
stored_element-front order (st.Byte kind) [] ys h = absurd (omega (arith, h))
stored_element-front order (st.Byte kind) (x ∷ xs) ys h = refl
stored_element-front order st.Short xs ys h = rw (number-front order 2 xs ys h) refl
stored_element-front order (st.Integer kind) xs ys h = rw (number-front order 4 xs ys h) refl
stored_element-front order (st.Long kind) xs ys h = rw (number-front order 8 xs ys h) refl
stored_element-front order st.Symbol xs ys h = refl

pub element-front : (order : Order) (kind : Kind) (xs ys : List ℕ) → width kind ≤ length xs → element order kind (xs ++ ys) ≡ element order kind xs
element-front order kind xs ys h = stored_element-front order (storage_of kind) xs ys h

pub kind_of-element : (order : Order) (kind : Kind) (bytes : List ℕ) → kind_of (element order kind bytes) ≡ kind
kind_of-element order k.Boolean bytes = refl
kind_of-element order k.Byte bytes = refl
kind_of-element order k.Short bytes = refl
kind_of-element order k.Integer bytes = refl
kind_of-element order k.Long bytes = refl
kind_of-element order k.Character bytes = refl
kind_of-element order k.Symbol bytes = refl
kind_of-element order k.Timestamp bytes = refl
kind_of-element order k.Month bytes = refl
kind_of-element order k.Date bytes = refl
kind_of-element order k.Timespan bytes = refl
kind_of-element order k.Minute bytes = refl
kind_of-element order k.Second bytes = refl
kind_of-element order k.Time bytes = refl

-- the bytes of an element of a fixed width are an encoding of it
pub fixed_spelled : (order : Order) (kind : Kind) (bytes : List ℕ) → is_symbol kind ≡ false → length bytes ≡ width kind → SpellsElement order bytes (element order kind bytes)
fixed_spelled order k.Boolean bytes s h = (h, refl)
fixed_spelled order k.Byte bytes s h = (h, refl)
fixed_spelled order k.Short bytes s h = (h, refl)
fixed_spelled order k.Integer bytes s h = (h, refl)
fixed_spelled order k.Long bytes s h = (h, refl)
fixed_spelled order k.Character bytes s h = (h, refl)
fixed_spelled order k.Symbol bytes s h = absurd cc
fixed_spelled order k.Timestamp bytes s h = (h, refl)
fixed_spelled order k.Month bytes s h = (h, refl)
fixed_spelled order k.Date bytes s h = (h, refl)
fixed_spelled order k.Timespan bytes s h = (h, refl)
fixed_spelled order k.Minute bytes s h = (h, refl)
fixed_spelled order k.Second bytes s h = (h, refl)
fixed_spelled order k.Time bytes s h = (h, refl)

-- the bytes at the front are an encoding of the element that is read there
front_spelled : (order : Order) (kind : Kind) (bytes : List ℕ) → is_symbol kind ≡ false → width kind ≤ length bytes → SpellsElement order (take (width kind) bytes) (element order kind bytes)
front_spelled order kind bytes s h =
    let len : length (take (width kind) bytes) ≡ width kind = omega (arith, length-take (width kind) bytes) in
    let same : element order kind bytes ≡ element order kind (take (width kind) bytes) =
    ap (element order kind) (sym (take-append-drop (width kind) bytes)) ∙ element-front order kind (take (width kind) bytes) (drop (width kind) bytes) (omega arith) in
    subst (SpellsElement order (take (width kind) bytes)) (sym same) (fixed_spelled order kind (take (width kind) bytes) s len)

-- ---- counts and texts

pub record TookCount (order : Order) (bytes rest : List ℕ) (n : ℕ) : Type 0 where
  pub attribute : ℕ
  pub count : List ℕ
  pub parts : bytes ≡ attribute ∷ count ++ rest
  pub counted : SpellsCount order count n

pub count_took : (order : Order) (bytes : List ℕ) (x : ℕ × List ℕ) → count_at order bytes ≡ Ok x → TookCount order bytes x.1 x.0
unfolding count_at
count_took order [] x e = absurd cc
count_took order (b ∷ bytes) x e =
    let g = guard_ok (ltb (length bytes) 4) Truncated (cond (ltb 2147483647 (number order 4 bytes)) (Err (BadShape (length bytes))) (Ok (number order 4 bytes, drop 4 bytes))) x e in
    let h = guard_ok (ltb 2147483647 (number order 4 bytes)) (BadShape (length bytes)) (Ok (number order 4 bytes, drop 4 bytes)) x g.1 in
    let long : 4 ≤ length bytes = ltb-false _ _ g.0 in
    let low : number order 4 bytes ≤ 2147483647 = ltb-false _ _ h.0 in
    let len : length (take 4 bytes) ≡ 4 = omega (arith, length-take 4 bytes) in
    let same : number order 4 bytes ≡ number order 4 (take 4 bytes) = ap (number order 4) (sym (take-append-drop 4 bytes)) ∙ number-front order 4 (take 4 bytes) (drop 4 bytes) (omega arith) in
    let made : ℕ × List ℕ = (number order 4 bytes, drop 4 bytes) in
    let took : TookCount order (b ∷ bytes) made.1 made.0 = record {
      attribute = b;
      count = take 4 bytes;
      parts = ap (λ (r : List ℕ). b ∷ r) (sym (take-append-drop 4 bytes));
      counted = record { four = len; value = sym same; within = low };
    } in
    subst (λ (y : ℕ × List ℕ). TookCount order (b ∷ bytes) y.1 y.0) (ok_is made x h.1) took

pub text_took : (bytes : List ℕ) (x : List ℕ × List ℕ) → text_at bytes ≡ Ok x → Took (λ b. SpellsText b x.0) bytes x.1
unfolding text_at
text_took [] x e = absurd cc
text_took (zero ∷ bytes) x e =
    let made : List ℕ × List ℕ = ([], bytes) in
    subst (λ (y : List ℕ × List ℕ). Took (λ b. SpellsText b y.0) (0 ∷ bytes) y.1) (ok_is made x e) (record { front = 0 ∷ []; parts = refl; spelled = record { ended = refl; no_nul = All-nil (λ b. 0 < b) } })
text_took (suc b ∷ bytes) x e =
    let step = bind_ok (text_at bytes) (λ text. Ok (suc b ∷ text.0, text.1)) x e in
    let more = text_took bytes step.0 step.1 in
    let made : List ℕ × List ℕ = (suc b ∷ step.0.0, step.0.1) in
    subst (λ (y : List ℕ × List ℕ). Took (λ b. SpellsText b y.0) (suc b ∷ bytes) y.1) (ok_is made x step.2) (record {
      front = suc b ∷ more.front;
      parts = ap (λ (r : List ℕ). suc b ∷ r) more.parts;
      spelled = record { ended = ap (λ (r : List ℕ). suc b ∷ r) more.spelled.ended; no_nul = All-cons (λ b. 0 < b) (suc b) step.0.0 (omega arith) more.spelled.no_nul };
    })

-- one part, and then others in order
pub in_turn-more : {X : Type 0} (P : List ℕ → X → Type 0) (x : X) (xs : List X) (a b c : List ℕ) → Took (λ t. P t x) a b → Took (λ t. InTurn P t xs) b c → Took (λ t. InTurn P t (x ∷ xs)) a c
in_turn-more P x xs a b c p q = record {
  front = p.front ++ q.front;
  parts = p.parts ∙ ap (λ (t : List ℕ). p.front ++ t) q.parts ∙ sym (append_assoc p.front q.front c);
  spelled = (p.front, q.front, refl, p.spelled, q.spelled);
}

pub in_turn-none : {X : Type 0} (P : List ℕ → X → Type 0) (a : List ℕ) → Took (λ t. InTurn P t []) a a
in_turn-none P a = record { front = []; parts = refl; spelled = refl }

pub texts_took : (n : ℕ) (bytes : List ℕ) (x : List (List ℕ) × List ℕ) → texts_at n bytes ≡ Ok x → Took (λ b. InTurn SpellsText b x.0) bytes x.1 × (length x.0 ≡ n)
unfolding texts_at
texts_took zero bytes x e =
    let made : List (List ℕ) × List ℕ = ([], bytes) in
    subst (λ (y : List (List ℕ) × List ℕ). Took (λ b. InTurn SpellsText b y.0) bytes y.1 × (length y.0 ≡ 0)) (ok_is made x e) (in_turn-none SpellsText bytes, refl)
texts_took (suc n) bytes x e =
    let one = bind_ok (text_at bytes) (λ first. texts_at n first.1 >>= λ others. Ok (first.0 ∷ others.0, others.1)) x e in
    let two = bind_ok (texts_at n one.0.1) (λ others. Ok (one.0.0 ∷ others.0, others.1)) x one.2 in
    let first = text_took bytes one.0 one.1 in
    let others = texts_took n one.0.1 two.0 two.1 in
    let made : List (List ℕ) × List ℕ = (one.0.0 ∷ two.0.0, two.0.1) in
    subst (λ (y : List (List ℕ) × List ℕ). Took (λ b. InTurn SpellsText b y.0) bytes y.1 × (length y.0 ≡ suc n)) (ok_is made x two.2) (in_turn-more SpellsText one.0.0 two.0.0 bytes one.0.1 two.0.1 first others.0, ap suc others.1)

-- ---- elements

cells_turn : (order : Order) (kind : Kind) (n : ℕ) (bytes : List ℕ) → is_symbol kind ≡ false → n * width kind ≤ length bytes → InTurn (SpellsElementOf order kind) (take (n * width kind) bytes) (cells (element order kind) (width kind) n bytes)
unfolding cells
cells_turn order kind zero bytes s h = let none : zero * width kind ≡ 0 = omega arith in rw none refl
cells_turn order kind (suc n) bytes s h =
    let w = width kind in
    let size : suc n * w ≡ w + n * w = omega arith in
    let rest = cells_turn order kind n (drop w bytes) s (omega (arith, h, length-drop w bytes)) in
    (take w bytes, take (n * w) (drop w bytes), ap (λ m. take m bytes) size ∙ take-add w (n * w) bytes, record { of_kind = kind_of-element order kind bytes; spelled = front_spelled order kind bytes s (omega (arith, h)) }, rest)

cells_took : (order : Order) (kind : Kind) (n : ℕ) (bytes : List ℕ) (x : List Atom × List ℕ) → is_symbol kind ≡ false → cells_at order kind n bytes ≡ Ok x → Took (λ b. InTurn (SpellsElementOf order kind) b x.0) bytes x.1 × (length x.0 ≡ n)
unfolding cells_at
cells_took order kind n bytes x s e =
    let g = guard_ok (ltb (length bytes) (n * width kind)) Truncated (Ok (cells (element order kind) (width kind) n bytes, drop (n * width kind) bytes)) x e in
    let long : n * width kind ≤ length bytes = ltb-false _ _ g.0 in
    let made : List Atom × List ℕ = (cells (element order kind) (width kind) n bytes, drop (n * width kind) bytes) in
    subst (λ (y : List Atom × List ℕ). Took (λ b. InTurn (SpellsElementOf order kind) b y.0) bytes y.1 × (length y.0 ≡ n)) (ok_is made x g.1) (
      record {
        front = take (n * width kind) bytes;
        parts = sym (take-append-drop (n * width kind) bytes);
        spelled = cells_turn order kind n bytes s long;
      },
      length-cells (element order kind) (width kind) n bytes,
    )

symbols_turn : (order : Order) (bytes : List ℕ) (ts : List (List ℕ)) → InTurn SpellsText bytes ts → InTurn (SpellsElementOf order k.Symbol) bytes (map (λ text. a.Symbol text) ts)
symbols_turn order bytes [] h = h
symbols_turn order bytes (t ∷ ts) h = (h.0, h.1, h.2, record { of_kind = refl; spelled = h.3 }, symbols_turn order h.1 ts h.4)

symbols_took : (order : Order) (n : ℕ) (bytes : List ℕ) (x : List Atom × List ℕ) → symbols_at n bytes ≡ Ok x → Took (λ b. InTurn (SpellsElementOf order k.Symbol) b x.0) bytes x.1 × (length x.0 ≡ n)
unfolding symbols_at
symbols_took order n bytes x e =
    let step = bind_ok (texts_at n bytes) (λ texts. Ok (map (λ text. a.Symbol text) texts.0, texts.1)) x e in
    let took = texts_took n bytes step.0 step.1 in
    let made : List Atom × List ℕ = (map (λ text. a.Symbol text) step.0.0, step.0.1) in
    subst (λ (y : List Atom × List ℕ). Took (λ b. InTurn (SpellsElementOf order k.Symbol) b y.0) bytes y.1 × (length y.0 ≡ n)) (ok_is made x step.2) (
      record {
        front = took.0.front;
        parts = took.0.parts;
        spelled = symbols_turn order took.0.front step.0.0 took.0.spelled;
      },
      length-map step.0.0 (λ (text : List ℕ). a.Symbol text) ∙ took.1,
    )

symbol_kind : (kind : Kind) → is_symbol kind ≡ true → kind ≡ k.Symbol
symbol_kind k.Symbol e = refl
symbol_kind _ e = absurd cc

elements_took : (order : Order) (kind : Kind) (n : ℕ) (bytes : List ℕ) (x : List Atom × List ℕ) → elements_at order kind n bytes ≡ Ok x → Took (λ b. InTurn (SpellsElementOf order kind) b x.0) bytes x.1 × (length x.0 ≡ n)
unfolding elements_at
elements_took order kind n bytes x e = by_kind (is_symbol kind) refl e
  where
    by_kind : (b : Bool) → is_symbol kind ≡ b → cond b (symbols_at n bytes) (cells_at order kind n bytes) ≡ Ok x → Took (λ b. InTurn (SpellsElementOf order kind) b x.0) bytes x.1 × (length x.0 ≡ n)
    by_kind true s d = subst (λ (own : Kind). Took (λ b. InTurn (SpellsElementOf order own) b x.0) bytes x.1 × (length x.0 ≡ n)) (sym (symbol_kind kind s)) (symbols_took order n bytes x d)
    by_kind false s d = cells_took order kind n bytes x s d

-- a vector, with its type byte
pub vector_took : (order : Order) (kind : Kind) (bytes : List ℕ) (x : Contents × List ℕ) → vector_at order kind bytes ≡ Ok x → Took (λ b. SpellsVector order b x.0) (type_number kind ∷ bytes) x.1
unfolding vector_at
vector_took order kind bytes x e =
    let one = bind_ok (count_at order bytes) (λ n. elements_at order kind n.0 n.1 >>= λ atoms. Ok (record { kind = kind; atoms = atoms.0 }, atoms.1)) x e in
    let two = bind_ok (elements_at order kind one.0.0 one.0.1) (λ atoms. Ok (record { kind = kind; atoms = atoms.0 }, atoms.1)) x one.2 in
    let counted = count_took order bytes one.0 one.1 in
    let took = elements_took order kind one.0.0 one.0.1 two.0 two.1 in
    let made : Contents × List ℕ = (record { kind = kind; atoms = two.0.0 }, two.0.1) in
    subst (λ (y : Contents × List ℕ). Took (λ b. SpellsVector order b y.0) (type_number kind ∷ bytes) y.1) (ok_is made x two.2) (record {
      front = type_number kind ∷ counted.attribute ∷ counted.count ++ took.0.front;
      parts = ap (λ (r : List ℕ). type_number kind ∷ r) (counted.parts ∙ ap (λ (r : List ℕ). counted.attribute ∷ counted.count ++ r) took.0.parts ∙ ap (λ (r : List ℕ). counted.attribute ∷ r) (sym (append_assoc counted.count took.0.front two.0.1)));
      spelled = record {
        attribute = counted.attribute;
        count = counted.count;
        body = took.0.front;
        parts = refl;
        counted = subst (SpellsCount order counted.count) (sym took.1) counted.counted;
        elements = took.0.spelled;
      };
    })

pub atom_took : (order : Order) (kind : Kind) (bytes : List ℕ) (x : Atom × List ℕ) → atom_at order kind bytes ≡ Ok x → Took (λ b. SpellsElementOf order kind b x.0) bytes x.1
unfolding atom_at
atom_took order kind bytes x e = by_kind (is_symbol kind) refl e
  where
    by_text : is_symbol kind ≡ true → (text_at bytes >>= λ text. Ok (a.Symbol text.0, text.1)) ≡ Ok x → Took (λ b. SpellsElementOf order kind b x.0) bytes x.1
    by_text s d =
        let step = bind_ok (text_at bytes) (λ text. Ok (a.Symbol text.0, text.1)) x d in
        let took = text_took bytes step.0 step.1 in
        let made : Atom × List ℕ = (a.Symbol step.0.0, step.0.1) in
        subst (λ (y : Atom × List ℕ). Took (λ b. SpellsElementOf order kind b y.0) bytes y.1) (ok_is made x step.2) (record {
          front = took.front;
          parts = took.parts;
          spelled = record { of_kind = sym (symbol_kind kind s); spelled = took.spelled };
        })

    by_size : is_symbol kind ≡ false → cond (ltb (length bytes) (width kind)) (Err Truncated) (Ok (element order kind bytes, drop (width kind) bytes)) ≡ Ok x → Took (λ b. SpellsElementOf order kind b x.0) bytes x.1
    by_size s d =
        let g = guard_ok (ltb (length bytes) (width kind)) Truncated (Ok (element order kind bytes, drop (width kind) bytes)) x d in
        let long : width kind ≤ length bytes = ltb-false _ _ g.0 in
        let made : Atom × List ℕ = (element order kind bytes, drop (width kind) bytes) in
        subst (λ (y : Atom × List ℕ). Took (λ b. SpellsElementOf order kind b y.0) bytes y.1) (ok_is made x g.1) (record {
          front = take (width kind) bytes;
          parts = sym (take-append-drop (width kind) bytes);
          spelled = record { of_kind = kind_of-element order kind bytes; spelled = front_spelled order kind bytes s long };
        })

    by_kind : (b : Bool) → is_symbol kind ≡ b → cond b (text_at bytes >>= λ text. Ok (a.Symbol text.0, text.1)) (cond (ltb (length bytes) (width kind)) (Err Truncated) (Ok (element order kind bytes, drop (width kind) bytes))) ≡ Ok x → Took (λ b. SpellsElementOf order kind b x.0) bytes x.1
    by_kind true s d = by_text s d
    by_kind false s d = by_size s d
