-- The least and the greatest, item by item, and of the atoms that the items are.
use Rattle.std.proofs.Common.{◌≡◌, ◌<◌, ◌+◌, ◌≤◌, ◌≤ℤ◌, FitsSigned, pos, negsuc, min, ℕ, ℤ, Bool, true, false, if◌then◌else◌, List, [], ◌∷◌, length, take, get_or, map, Option, Some, None, unwrap_or, refl, sym, ap, ◌∙◌, option_map, arith}
use Rattle.std.specs.Prelude.{is_some, fold}
use Rattle.std.specs.Int.{Width, w16, w32, w64, int_min, int_max}
use Rattle.std.specs.Int.RustNames.{int_lt}
use Rattle.std.specs.Ordering.{int_cmp, is_ge, is_le}
use Rattle.std.specs.declared.cmp.Ordering.{Ordering}
use Rattle.std.proofs.lemmas.Int.{ints}
use Rattle.std.proofs.lemmas.List.{take_more}
use Rattle.std.proofs.lemmas.List.Sums.{fold-append}
use Rattle.q_values.specs.declared.atom.Atom.{Atom}
use Rattle.q_lanes.proofs.OrderLemmas.{worth_cmp-some}
use Rattle.q_values.specs.Column.{byte_atom, byte_kind, integer_atom, integer_kind, long_atom, long_kind}
use Rattle.q_values.specs.declared.kind.ByteKind.{ByteKind}
use Rattle.q_values.specs.declared.kind.ByteKind.TheVariants as b
use Rattle.q_values.specs.declared.kind.IntegerKind.{IntegerKind}
use Rattle.q_values.specs.declared.kind.IntegerKind.TheVariants as i
use Rattle.q_values.specs.declared.kind.LongKind.{LongKind}
use Rattle.q_values.specs.declared.kind.LongKind.TheVariants as l
use Rattle.q_unary.specs.Extremes.{Picks, extreme, picked, raised}
use Rattle.q_verbs.specs.Numbers.{least, number_in, numeric, worth, worth_cmp}
use Rattle.q_verbs.specs.Aggregates.{best_of, choose_present, chosen_of, greatest, lowest, number_of}

min_is : (c x : ℤ) → int_min c x ≡ (if is_le (int_cmp c x) then c else x)
min_is c x = grind (arith, ints)

max_is : (c x : ℤ) → int_max c x ≡ (if is_ge (int_cmp c x) then c else x)
max_is c x = grind (arith, ints)

under_top : (best top x : ℤ) → best ≡ top → x ≤ℤ top → int_min best x ≡ x
under_top best top x e h = grind (arith, ints)

over_bottom : (best bottom x : ℤ) → best ≡ bottom → bottom ≤ℤ x → int_max best x ≡ x
over_bottom best bottom x e h = grind (arith, ints)

stays_least : (best top : ℤ) → best ≤ℤ top → int_min best top ≡ best
stays_least best top h = grind (arith, ints)

stays_greatest : (best x : ℤ) → x ≤ℤ best → int_max best x ≡ best
stays_greatest best x h = grind (arith, ints)

least_by : (b : Bool) (f : ℤ → ℤ → ℤ) (chosen : Option ℤ) (top best x : ℤ) → best ≡ unwrap_or chosen top → int_min best x ≡ best_of f chosen x → int_min best top ≡ best → int_min best (unwrap_or (if b then Some x else None) top) ≡ unwrap_or (if is_some (if b then Some x else None) then Some (best_of f chosen x) else chosen) top
least_by true f chosen top best x e d u = d
least_by false f chosen top best x e d u = u ∙ e

greatest_by : (b : Bool) (f : ℤ → ℤ → ℤ) (chosen : Option ℤ) (bottom best x : ℤ) → best ≡ unwrap_or chosen bottom → (b ≡ true → int_max best x ≡ best_of f chosen x) → (b ≡ false → int_max best x ≡ best) → int_max best x ≡ unwrap_or (if is_some (if b then Some x else None) then Some (best_of f chosen x) else chosen) bottom
greatest_by true f chosen bottom best x e d u = d refl
greatest_by false f chosen bottom best x e d u = u refl ∙ e

picks_least : (w : Width) (best x c : ℤ) → int_cmp best x ≡ worth_cmp (numeric (number_in w best)) (numeric (number_in w x)) → best ≡ c → int_min best x ≡ picked is_le (number_in w) c x
picks_least w best x c order e =
    min_is best x
    ∙ ap (λ o. if is_le o then best else x) order
    ∙ (λ i. if is_le (worth_cmp (numeric (number_in w (e i))) (numeric (number_in w x))) then e i else x)

picks_greatest : (w : Width) (best x c : ℤ) → int_cmp best x ≡ worth_cmp (numeric (number_in w best)) (numeric (number_in w x)) → best ≡ c → int_max best x ≡ picked is_ge (number_in w) c x
picks_greatest w best x c order e =
    max_is best x
    ∙ ap (λ o. if is_ge o then best else x) order
    ∙ (λ i. if is_ge (worth_cmp (numeric (number_in w (e i))) (numeric (number_in w x))) then e i else x)

-- the lesser of the least so far and one more number, where the greatest value stands for the null
pub least_step : (w : Width) (top best x : ℤ) → int_cmp best x ≡ worth_cmp (numeric (number_in w best)) (numeric (number_in w x)) → x ≤ℤ top → best ≤ℤ top → (chosen : Option ℤ) → best ≡ unwrap_or chosen top → int_min best (unwrap_or (number_in w x) top) ≡ unwrap_or (choose_present (number_in w) (picked is_le (number_in w)) chosen x) top
least_step w top best x order below under None e = least_by (int_lt (least w) x) (picked is_le (number_in w)) None top best x e (under_top best top x e below) (stays_least best top under)
least_step w top best x order below under (Some c) e = least_by (int_lt (least w) x) (picked is_le (number_in w)) (Some c) top best x e (picks_least w best x c order e) (stays_least best top under)

-- the greater of the greatest so far and one more number, of which the null is below all others
pub greatest_step : (w : Width) (bottom best x : ℤ) → int_cmp best x ≡ worth_cmp (numeric (number_in w best)) (numeric (number_in w x)) → (int_lt (least w) x ≡ true → bottom ≤ℤ x) → (int_lt (least w) x ≡ false → x ≤ℤ best) → (chosen : Option ℤ) → best ≡ unwrap_or chosen bottom → int_max best x ≡ unwrap_or (choose_present (number_in w) (picked is_ge (number_in w)) chosen x) bottom
greatest_step w bottom best x order above under None e = greatest_by (int_lt (least w) x) (picked is_ge (number_in w)) None bottom best x e (λ t. over_bottom best bottom x e (above t)) (λ f. stays_greatest best x (under f))
greatest_step w bottom best x order above under (Some c) e = greatest_by (int_lt (least w) x) (picked is_ge (number_in w)) (Some c) bottom best x e (λ t. picks_greatest w best x c order e) (λ f. stays_greatest best x (under f))

byte_min : (c x : ℕ) → min c x ≡ (if is_le (int_cmp (pos c) (pos x)) then c else x)
byte_min c x = grind (arith, ints)

byte_under : (best x : ℕ) → best ≡ 255 → x ≤ 255 → min best x ≡ x
byte_under best x e h = grind arith

-- the same of bytes, of which none is a null
pub least_byte : (best x : ℕ) → x ≤ 255 → (chosen : Option ℕ) → best ≡ unwrap_or chosen 255 → min best x ≡ unwrap_or (choose_present (λ n. Some (pos n)) (picked is_le (λ n. Some (pos n))) chosen x) 255
least_byte best x h None e = byte_under best x e h
least_byte best x h (Some c) e = ap (λ b. min b x) e ∙ byte_min c x ∙ ap (λ o. if is_le o then c else x) (worth_cmp-some (pos c) (pos x))

-- the state of the search for the least, one less than it
pub raised_min : (top m n : ℤ) → raised top (int_min m n) ≡ int_min (raised top m) (raised top n)
raised_min top m n = grind (arith, ints)

pub raised_under : (top m : ℤ) → raised top m ≤ℤ top
raised_under top m = grind (arith, ints)

-- the ends of each width
pub top-16 : (x : ℤ) → FitsSigned w16 x → x ≤ℤ pos 32767
top-16 x fits = grind (arith, ints)

pub raised-16 : (m : ℤ) → FitsSigned w16 m → FitsSigned w16 (raised (pos 32767) m)
raised-16 m fits = grind (arith, ints)

pub bottom-16 : (x : ℤ) → int_lt (least w16) x ≡ true → negsuc 32766 ≤ℤ x
bottom-16 x e = grind (arith, ints)

pub null-16 : (best x : ℤ) → FitsSigned w16 best → FitsSigned w16 x → int_lt (least w16) x ≡ false → x ≤ℤ best
null-16 best x f g e = grind (arith, ints)

pub top-32 : (x : ℤ) → FitsSigned w32 x → x ≤ℤ pos 2147483647
top-32 x fits = grind (arith, ints)

pub raised-32 : (m : ℤ) → FitsSigned w32 m → FitsSigned w32 (raised (pos 2147483647) m)
raised-32 m fits = grind (arith, ints)

pub bottom-32 : (x : ℤ) → int_lt (least w32) x ≡ true → negsuc 2147483646 ≤ℤ x
bottom-32 x e = grind (arith, ints)

pub null-32 : (best x : ℤ) → FitsSigned w32 best → FitsSigned w32 x → int_lt (least w32) x ≡ false → x ≤ℤ best
null-32 best x f g e = grind (arith, ints)

pub top-64 : (x : ℤ) → FitsSigned w64 x → x ≤ℤ pos 9223372036854775807
top-64 x fits = grind (arith, ints)

pub raised-64 : (m : ℤ) → FitsSigned w64 m → FitsSigned w64 (raised (pos 9223372036854775807) m)
raised-64 m fits = grind (arith, ints)

pub bottom-64 : (x : ℤ) → int_lt (least w64) x ≡ true → negsuc 9223372036854775806 ≤ℤ x
bottom-64 x e = grind (arith, ints)

pub null-64 : (best x : ℤ) → FitsSigned w64 best → FitsSigned w64 x → int_lt (least w64) x ≡ false → x ≤ℤ best
null-64 best x f g e = grind (arith, ints)

-- one more item of the list
pub extreme_more : {X : Type 0} (picks : Ordering → Bool) (number : X → Option ℤ) (end best x result : X) (xs : List X) (i : ℕ) → i < length xs → x ≡ get_or xs i x → best ≡ extreme picks number end (take i xs) → Picks picks number end best x result → result ≡ extreme picks number end (take (i + 1) xs)
extreme_more {X} picks number end best x result xs i h at before next =
    next (chosen_of number (picked picks number) (take i xs)) before
    ∙ ap (λ o. unwrap_or o end) (sym more)
  where
    step : Option X → X → Option X
    step = choose_present number (picked picks number)

    more : fold step None (take (i + 1) xs) ≡ step (fold step None (take i xs)) x
    more =
        ap (fold step None) (take_more xs i x h)
        ∙ fold-append step None (take i xs) (get_or xs i x ∷ [])
        ∙ ap (step (fold step None (take i xs))) (sym at)

abbrev pick_atom : (Ordering → Bool) → Atom → Atom → Atom
pick_atom picks x y = if picks (worth_cmp (worth x) (worth y)) then x else y

chosen_through : {X Y : Type 0} (f : X → Y) (b : Bool) (x y : X) → f (if b then x else y) ≡ (if b then f x else f y)
chosen_through f true x y = refl
chosen_through f false x y = refl

best_through : {X : Type 0} (picks : Ordering → Bool) (number : X → Option ℤ) (atom : X → Atom) → ((x : X) → worth (atom x) ≡ numeric (number x)) → (best : Option X) (x : X) → atom (best_of (picked picks number) best x) ≡ best_of (pick_atom picks) (option_map atom best) (atom x)
best_through picks number atom e None x = refl
best_through picks number atom e (Some y) x = chosen_through atom (picks (worth_cmp (numeric (number y)) (numeric (number x)))) y x ∙ (λ i. if picks (worth_cmp (sym (e y) i) (sym (e x) i)) then atom y else atom x)

step_if : {X Y : Type 0} (f : X → Y) (b : Bool) (x : X) (best : Option X) → option_map f (if b then Some x else best) ≡ (if b then Some (f x) else option_map f best)
step_if f true x best = refl
step_if f false x best = refl

step_through : {X : Type 0} (picks : Ordering → Bool) (number : X → Option ℤ) (atom : X → Atom) → ((x : X) → worth (atom x) ≡ numeric (number x)) → (best : Option X) (x : X) → option_map atom (choose_present number (picked picks number) best x) ≡ choose_present number_of (pick_atom picks) (option_map atom best) (atom x)
step_through picks number atom e best x =
    step_if atom (is_some (number x)) (best_of (picked picks number) best x) best
    ∙ (λ i. if is_some (sym (e x) i).number then Some (best_through picks number atom e best x i) else option_map atom best)

folded_through : {X : Type 0} (picks : Ordering → Bool) (number : X → Option ℤ) (atom : X → Atom) → ((x : X) → worth (atom x) ≡ numeric (number x)) → (best : Option X) (xs : List X) → option_map atom (fold (choose_present number (picked picks number)) best xs) ≡ fold (choose_present number_of (pick_atom picks)) (option_map atom best) (map atom xs)
folded_through picks number atom e best [] = refl
folded_through picks number atom e best (x ∷ xs) =
    folded_through picks number atom e (choose_present number (picked picks number) best x) xs
    ∙ ap (λ b. fold (choose_present number_of (pick_atom picks)) b (map atom xs)) (step_through picks number atom e best x)

unwrapped : {X Y : Type 0} (f : X → Y) (o : Option X) (x : X) → f (unwrap_or o x) ≡ unwrap_or (option_map f o) (f x)
unwrapped f None x = refl
unwrapped f (Some y) x = refl

-- the atom of what was picked of the items is what is picked of the atoms
pub extreme_atom : {X : Type 0} (picks : Ordering → Bool) (number : X → Option ℤ) (atom : X → Atom) (end : X) (xs ps : List X) (result : X) (last : Atom) → ((x : X) → worth (atom x) ≡ numeric (number x)) → xs ≡ ps → result ≡ extreme picks number end xs → atom end ≡ last → atom result ≡ unwrap_or (chosen_of number_of (pick_atom picks) (map atom ps)) last
extreme_atom picks number atom end xs ps result last e same is at =
    ap atom (is ∙ ap (extreme picks number end) same)
    ∙ unwrapped atom (chosen_of number (picked picks number) ps) end
    ∙ (λ i. unwrap_or (folded_through picks number atom e None ps i) (at i))

-- the ends of the kinds
pub greatest-byte : (kind : ByteKind) → byte_atom kind 255 ≡ greatest (byte_kind kind)
greatest-byte b.Byte = refl
greatest-byte b.Character = refl

pub lowest-byte : (kind : ByteKind) → byte_atom kind 0 ≡ lowest (byte_kind kind)
lowest-byte b.Byte = refl
lowest-byte b.Character = refl

pub greatest-integer : (kind : IntegerKind) → integer_atom kind (pos 2147483647) ≡ greatest (integer_kind kind)
greatest-integer i.Integer = refl
greatest-integer i.Month = refl
greatest-integer i.Date = refl
greatest-integer i.Minute = refl
greatest-integer i.Second = refl
greatest-integer i.Time = refl

pub lowest-integer : (kind : IntegerKind) → integer_atom kind (negsuc 2147483646) ≡ lowest (integer_kind kind)
lowest-integer i.Integer = refl
lowest-integer i.Month = refl
lowest-integer i.Date = refl
lowest-integer i.Minute = refl
lowest-integer i.Second = refl
lowest-integer i.Time = refl

pub greatest-long : (kind : LongKind) → long_atom kind (pos 9223372036854775807) ≡ greatest (long_kind kind)
greatest-long l.Long = refl
greatest-long l.Timestamp = refl
greatest-long l.Timespan = refl

pub lowest-long : (kind : LongKind) → long_atom kind (negsuc 9223372036854775806) ≡ lowest (long_kind kind)
lowest-long l.Long = refl
lowest-long l.Timestamp = refl
lowest-long l.Timespan = refl
