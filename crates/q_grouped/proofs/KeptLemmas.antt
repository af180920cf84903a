-- The least and the greatest of a list, one item after another, from the end of the kind.
use Rattle.std.proofs.Common.{◌≡◌, ◌<ℤ◌, ℕ, ℤ, pos, negsuc, Bool, true, false, if◌then◌else◌, List, [], ◌∷◌, map, All, Option, Some, None, refl, sym, ap, ◌∙◌, arith, unwrap_or, option_map}
use Rattle.std.specs.Prelude.{fold, is_some, nat_lt, IsTrue}
use Rattle.std.specs.Int.{w16, w32, w64}
use Rattle.std.specs.Int.RustNames.{int_lt}
use Rattle.std.specs.declared.cmp.Ordering.{Ordering}
use Rattle.std.specs.declared.cmp.Ordering.TheVariants.{Less, Equal, Greater}
use Rattle.std.specs.Ordering.{MatchOrdering, int_cmp, is_le, is_ge}
use Rattle.std.specs.Cmp.{int_ranks}
use Rattle.std.proofs.lemmas.Int.{ints}
use Rattle.std.proofs.lemmas.List.Elements.{All-nil, All-cons, All-head, All-tail}
use Rattle.q_values.specs.declared.atom.Atom.{Atom}
use Rattle.q_values.specs.declared.kind.Kind.{Kind}
use Rattle.q_values.specs.Column.{byte_kind, byte_atom, integer_kind, integer_atom, long_kind, long_atom}
use Rattle.q_values.specs.declared.kind.ByteKind.{ByteKind}
use Rattle.q_values.specs.declared.kind.ByteKind.TheVariants as b
use Rattle.q_values.specs.declared.kind.IntegerKind.{IntegerKind}
use Rattle.q_values.specs.declared.kind.IntegerKind.TheVariants as i
use Rattle.q_values.specs.declared.kind.LongKind.{LongKind}
use Rattle.q_values.specs.declared.kind.LongKind.TheVariants as l
use Rattle.q_verbs.specs.Numbers.{numeric, worth, worth_cmp, number_in}
use Rattle.q_verbs.specs.Aggregates.{best_of, choose_present, chosen_of, number_of, aggregate_of, greatest, lowest}
use Rattle.q_verbs.specs.declared.verb.Verb1.TheVariants as u
use Rattle.q_grouped.proofs.ChosenLemmas.{chosen_atom, pick_atom}
use Rattle.q_lanes.proofs.OrderLemmas.{worth_cmp-some}
use Rattle.q_grouped.specs.Grouped.{group_of, by_group}
use Rattle.q_grouped.specs.Steps.{picked, kept}
use Rattle.q_grouped.proofs.GroupLemmas.{group-All, by_group-through}

-- what is picked of this one and an item that is no null is the item
abbrev pub Yields : {X : Type 0} → (Ordering → Bool) → (X → Option ℤ) → X → X → Type 0
Yields relates number start x = (z : ℤ) → number x ≡ Some z → picked relates number start x ≡ x

kept_step : {X : Type 0} (relates : Ordering → Bool) (number : X → Option ℤ) (start : X) (o : Option X) (x : X) → Yields relates number start x → kept relates number (unwrap_or o start) x ≡ unwrap_or (choose_present number (picked relates number) o x) start
kept_step {X = X} relates number start o x yields = go (number x) refl
  where
    best : (o : Option X) (z : ℤ) → number x ≡ Some z → picked relates number (unwrap_or o start) x ≡ best_of (picked relates number) o x
    best None z p = yields z p
    best (Some y) z p = refl

    go : (n : Option ℤ) → number x ≡ n → kept relates number (unwrap_or o start) x ≡ unwrap_or (choose_present number (picked relates number) o x) start
    go None p =
        ap (λ m. if is_some m then picked relates number (unwrap_or o start) x else unwrap_or o start) p
        ∙ ap (λ m. unwrap_or (if is_some m then Some (best_of (picked relates number) o x) else o) start) (sym p)
    go (Some z) p =
        ap (λ m. if is_some m then picked relates number (unwrap_or o start) x else unwrap_or o start) p
        ∙ best o z p
        ∙ ap (λ m. unwrap_or (if is_some m then Some (best_of (picked relates number) o x) else o) start) (sym p)

kept_from : {X : Type 0} (relates : Ordering → Bool) (number : X → Option ℤ) (start : X) (o : Option X) (xs : List X) → All (Yields relates number start) xs → fold (kept relates number) (unwrap_or o start) xs ≡ unwrap_or (fold (choose_present number (picked relates number)) o xs) start
kept_from relates number start o [] all = refl
kept_from relates number start o (x ∷ xs) all =
    ap (λ s. fold (kept relates number) s xs) (kept_step relates number start o x (All-head (Yields relates number start) x xs all))
    ∙ kept_from relates number start (choose_present number (picked relates number) o x) xs (All-tail (Yields relates number start) x xs all)

atom_or : {X : Type 0} (atom : X → Atom) (o : Option X) (start : X) → atom (unwrap_or o start) ≡ unwrap_or (option_map atom o) (atom start)
atom_or atom None start = refl
atom_or atom (Some x) start = refl

-- the loop's item is the one that is chosen, or the end
kept_all : {X : Type 0} (relates : Ordering → Bool) (number : X → Option ℤ) (atom : X → Atom) (start : X) (xs : List X) → ((x : X) → worth (atom x) ≡ numeric (number x)) → All (Yields relates number start) xs → atom (fold (kept relates number) start xs) ≡ unwrap_or (chosen_of number_of (pick_atom relates) (map atom xs)) (atom start)
kept_all relates number atom start xs e all =
    ap atom (kept_from relates number start None xs all)
    ∙ atom_or atom (chosen_of number (picked relates number) xs) start
    ∙ ap (λ o. unwrap_or o (atom start)) (chosen_atom relates number atom xs xs (chosen_of number (picked relates number) xs) e refl refl)

pub min_all : {X : Type 0} (kind : Kind) (number : X → Option ℤ) (atom : X → Atom) (start : X) (xs : List X) → ((x : X) → worth (atom x) ≡ numeric (number x)) → atom start ≡ greatest kind → All (Yields is_le number start) xs → atom (fold (kept is_le number) start xs) ≡ aggregate_of u.Min kind (map atom xs)
min_all kind number atom start xs e end all =
    kept_all is_le number atom start xs e all ∙ ap (λ a. unwrap_or (chosen_of number_of (pick_atom is_le) (map atom xs)) a) end

pub max_all : {X : Type 0} (kind : Kind) (number : X → Option ℤ) (atom : X → Atom) (start : X) (xs : List X) → ((x : X) → worth (atom x) ≡ numeric (number x)) → atom start ≡ lowest kind → All (Yields is_ge number start) xs → atom (fold (kept is_ge number) start xs) ≡ aggregate_of u.Max kind (map atom xs)
max_all kind number atom start xs e end all =
    kept_all is_ge number atom start xs e all ∙ ap (λ a. unwrap_or (chosen_of number_of (pick_atom is_ge) (map atom xs)) a) end

each_of : {X : Type 0} (P Q : X → Type 0) → ((x : X) → P x → Q x) → (xs : List X) → All P xs → All Q xs
each_of P Q through [] all = All-nil Q
each_of P Q through (x ∷ xs) all = All-cons Q x xs (through x (All-head P x xs all)) (each_of P Q through xs (All-tail P x xs all))

-- the loop's items are those of the verb, in a column whose items these atoms are
pub min_column : {X : Type 0} (kind : Kind) (number : X → Option ℤ) (atom : X → Atom) (start : X) (fits : X → Bool) (groups : ℕ) (codes : List ℕ) (xs ys found : List X) → ((x : X) → worth (atom x) ≡ numeric (number x)) → atom start ≡ greatest kind → ((x : X) → IsTrue (fits x) → Yields is_le number start x) → ys ≡ xs → found ≡ by_group (fold (kept is_le number) start) groups codes ys → All (λ x. IsTrue (fits x)) ys → map atom found ≡ by_group (aggregate_of u.Min kind) groups codes (map atom xs)
min_column kind number atom start fits groups codes xs ys found e end yields same is all =
    ap (map atom) is
    ∙ by_group-through (fold (kept is_le number) start) (aggregate_of u.Min kind) atom atom groups codes ys
    (λ g. min_all kind number atom start (group_of g codes ys) e end (each_of (λ x. IsTrue (fits x)) (Yields is_le number start) yields (group_of g codes ys) (group-All (λ x. IsTrue (fits x)) g codes ys all)))
    ∙ ap (λ l. by_group (aggregate_of u.Min kind) groups codes (map atom l)) same

pub max_column : {X : Type 0} (kind : Kind) (number : X → Option ℤ) (atom : X → Atom) (start : X) (fits : X → Bool) (groups : ℕ) (codes : List ℕ) (xs ys found : List X) → ((x : X) → worth (atom x) ≡ numeric (number x)) → atom start ≡ lowest kind → ((x : X) → IsTrue (fits x) → Yields is_ge number start x) → ys ≡ xs → found ≡ by_group (fold (kept is_ge number) start) groups codes ys → All (λ x. IsTrue (fits x)) ys → map atom found ≡ by_group (aggregate_of u.Max kind) groups codes (map atom xs)
max_column kind number atom start fits groups codes xs ys found e end yields same is all =
    ap (map atom) is
    ∙ by_group-through (fold (kept is_ge number) start) (aggregate_of u.Max kind) atom atom groups codes ys
    (λ g. max_all kind number atom start (group_of g codes ys) e end (each_of (λ x. IsTrue (fits x)) (Yields is_ge number start) yields (group_of g codes ys) (group-All (λ x. IsTrue (fits x)) g codes ys all)))
    ∙ ap (λ l. by_group (aggregate_of u.Max kind) groups codes (map atom l)) same

pub greatest-byte : (kind : ByteKind) → byte_atom kind 255 ≡ greatest (byte_kind kind)
greatest-byte b.Byte = refl
greatest-byte b.Character = refl

pub lowest-byte : (kind : ByteKind) → byte_atom kind 0 ≡ lowest (byte_kind kind)
lowest-byte b.Byte = refl
lowest-byte b.Character = refl

pub greatest-integer : (kind : IntegerKind) → integer_atom kind (pos 2147483647) ≡ greatest (integer_kind kind)
greatest-integer i.Integer = refl
greatest-integer i.Month = refl
greatest-integer i.Date = refl
greatest-integer i.Minute = refl
greatest-integer i.Second = refl
greatest-integer i.Time = refl

pub lowest-integer : (kind : IntegerKind) → integer_atom kind (negsuc 2147483646) ≡ lowest (integer_kind kind)
lowest-integer i.Integer = refl
lowest-integer i.Month = refl
lowest-integer i.Date = refl
lowest-integer i.Minute = refl
lowest-integer i.Second = refl
lowest-integer i.Time = refl

pub greatest-long : (kind : LongKind) → long_atom kind (pos 9223372036854775807) ≡ greatest (long_kind kind)
greatest-long l.Long = refl
greatest-long l.Timestamp = refl
greatest-long l.Timespan = refl

pub lowest-long : (kind : LongKind) → long_atom kind (negsuc 9223372036854775806) ≡ lowest (long_kind kind)
lowest-long l.Long = refl
lowest-long l.Timestamp = refl
lowest-long l.Timespan = refl

-- what is picked of two numbers
le_by : {X : Type 0} (o : Ordering) (m x : ℤ) (p q : X) → MatchOrdering o (m <ℤ x) (m ≡ x) (x <ℤ m) → (m <ℤ x → ⊥) → (m ≡ x → p ≡ q) → (if is_le o then p else q) ≡ q
le_by Less m x p q h never same = absurd (never h)
le_by Equal m x p q h never same = same h
le_by Greater m x p q h never same = refl

ge_by : {X : Type 0} (o : Ordering) (m x : ℤ) (p q : X) → MatchOrdering o (m <ℤ x) (m ≡ x) (x <ℤ m) → (x <ℤ m → ⊥) → (m ≡ x → p ≡ q) → (if is_ge o then p else q) ≡ q
ge_by Less m x p q h never same = refl
ge_by Equal m x p q h never same = same h
ge_by Greater m x p q h never same = absurd (never h)

le_picks : {X : Type 0} (number : X → Option ℤ) (m x : X) (low z : ℤ) → number m ≡ Some low → number x ≡ Some z → (low <ℤ z → ⊥) → (low ≡ z → m ≡ x) → picked is_le number m x ≡ x
le_picks number m x low z p q never same =
    (λ i. if is_le (worth_cmp (numeric (p i)) (numeric (q i))) then m else x)
    ∙ ap (λ o. if is_le o then m else x) (sym (worth_cmp-some low z))
    ∙ le_by (int_cmp low z) low z m x (int_ranks low z) never same

ge_picks : {X : Type 0} (number : X → Option ℤ) (m x : X) (high z : ℤ) → number m ≡ Some high → number x ≡ Some z → (z <ℤ high → ⊥) → (high ≡ z → m ≡ x) → picked is_ge number m x ≡ x
ge_picks number m x high z p q never same =
    (λ i. if is_ge (worth_cmp (numeric (p i)) (numeric (q i))) then m else x)
    ∙ ap (λ o. if is_ge o then m else x) (sym (worth_cmp-some high z))
    ∙ ge_by (int_cmp high z) high z m x (int_ranks high z) never same

if_some : (b : Bool) (x z : ℤ) → (if b then Some x else None) ≡ Some z → (b ≡ true) × (x ≡ z)
if_some true x z e = (refl, cc)
if_some false x z e = cc

below-16 : (x z : ℤ) → int_lt x (pos 32768) ≡ true → x ≡ z → pos 32767 <ℤ z → ⊥
below-16 x z f e h = grind (arith, ints)

below-32 : (x z : ℤ) → int_lt x (pos 2147483648) ≡ true → x ≡ z → pos 2147483647 <ℤ z → ⊥
below-32 x z f e h = grind (arith, ints)

below-64 : (x z : ℤ) → int_lt x (pos 9223372036854775808) ≡ true → x ≡ z → pos 9223372036854775807 <ℤ z → ⊥
below-64 x z f e h = grind (arith, ints)

pub least-16 : (x : ℤ) → IsTrue (int_lt x (pos 32768)) → Yields is_le (number_in w16) (pos 32767) x
least-16 x f z p =
    let is = if_some (int_lt (negsuc 32767) x) x z p in
    le_picks (number_in w16) (pos 32767) x (pos 32767) z refl p (below-16 x z f is.1) (λ e. e ∙ sym is.1)

pub least-32 : (x : ℤ) → IsTrue (int_lt x (pos 2147483648)) → Yields is_le (number_in w32) (pos 2147483647) x
least-32 x f z p =
    let is = if_some (int_lt (negsuc 2147483647) x) x z p in
    le_picks (number_in w32) (pos 2147483647) x (pos 2147483647) z refl p (below-32 x z f is.1) (λ e. e ∙ sym is.1)

pub least-64 : (x : ℤ) → IsTrue (int_lt x (pos 9223372036854775808)) → Yields is_le (number_in w64) (pos 9223372036854775807) x
least-64 x f z p =
    let is = if_some (int_lt (negsuc 9223372036854775807) x) x z p in
    le_picks (number_in w64) (pos 9223372036854775807) x (pos 9223372036854775807) z refl p (below-64 x z f is.1) (λ e. e ∙ sym is.1)

above-16 : (x z : ℤ) → int_lt (negsuc 32767) x ≡ true → x ≡ z → z <ℤ negsuc 32766 → ⊥
above-16 x z f e h = grind (arith, ints)

above-32 : (x z : ℤ) → int_lt (negsuc 2147483647) x ≡ true → x ≡ z → z <ℤ negsuc 2147483646 → ⊥
above-32 x z f e h = grind (arith, ints)

above-64 : (x z : ℤ) → int_lt (negsuc 9223372036854775807) x ≡ true → x ≡ z → z <ℤ negsuc 9223372036854775806 → ⊥
above-64 x z f e h = grind (arith, ints)

pub greatest-16 : (x : ℤ) → Yields is_ge (number_in w16) (negsuc 32766) x
greatest-16 x z p =
    let is = if_some (int_lt (negsuc 32767) x) x z p in
    ge_picks (number_in w16) (negsuc 32766) x (negsuc 32766) z refl p (above-16 x z is.0 is.1) (λ e. e ∙ sym is.1)

pub greatest-32 : (x : ℤ) → Yields is_ge (number_in w32) (negsuc 2147483646) x
greatest-32 x z p =
    let is = if_some (int_lt (negsuc 2147483647) x) x z p in
    ge_picks (number_in w32) (negsuc 2147483646) x (negsuc 2147483646) z refl p (above-32 x z is.0 is.1) (λ e. e ∙ sym is.1)

pub greatest-64 : (x : ℤ) → Yields is_ge (number_in w64) (negsuc 9223372036854775806) x
greatest-64 x z p =
    let is = if_some (int_lt (negsuc 9223372036854775807) x) x z p in
    ge_picks (number_in w64) (negsuc 9223372036854775806) x (negsuc 9223372036854775806) z refl p (above-64 x z is.0 is.1) (λ e. e ∙ sym is.1)

abbrev pub byte_number : ℕ → Option ℤ
byte_number x = Some (pos x)

same_some : (x z : ℤ) → Some x ≡ Some z → x ≡ z
same_some x z e = cc

byte_below : (x : ℕ) (z : ℤ) → nat_lt x 256 ≡ true → pos x ≡ z → pos 255 <ℤ z → ⊥
byte_below x z f e h = grind (arith, ints)

byte_above : (x : ℕ) (z : ℤ) → pos x ≡ z → z <ℤ pos 0 → ⊥
byte_above x z e h = omega (arith, ints)

same_byte : (m x : ℕ) (z : ℤ) → pos x ≡ z → pos m ≡ z → m ≡ x
same_byte m x z e d = omega (arith, ints)

pub least-8 : (x : ℕ) → IsTrue (nat_lt x 256) → Yields is_le byte_number 255 x
least-8 x f z p =
    let is = same_some (pos x) z p in
    le_picks byte_number 255 x (pos 255) z refl p (byte_below x z f is) (same_byte 255 x z is)

pub greatest-8 : (x : ℕ) → Yields is_ge byte_number 0 x
greatest-8 x z p =
    let is = same_some (pos x) z p in
    ge_picks byte_number 0 x (pos 0) z refl p (byte_above x z is) (same_byte 0 x z is)

abbrev pub bit_number : Bool → Option ℤ
bit_number b = Some (pos (if b then 1 else 0))

pub least-bit : (b : Bool) → Yields is_le bit_number true b
least-bit true z p = refl
least-bit false z p = refl

pub greatest-1 : (b : Bool) → Yields is_ge bit_number false b
greatest-1 true z p = refl
greatest-1 false z p = refl
