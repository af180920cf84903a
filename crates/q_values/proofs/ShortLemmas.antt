use Rattle.std.proofs.Common.{◌≡◌, ℕ, ◌+◌, ◌*◌, ◌<◌, ◌≤◌, ◌++◌, List, [], ◌∷◌, zero, suc, length, take, drop, get_or, cond, Fits, w8, Option, Some, None, position, nat_lt, refl, sym, ap, ◌∙◌, arith, All, Bool, true, false, ◌==◌}
use Rattle.std.specs.declared.cmp.Ordering.{Ordering}
use Rattle.std.specs.declared.cmp.Ordering.TheVariants.{Less, Equal, Greater}
use Rattle.std.specs.Int.{w64, from_be_bytes}
use Rattle.std.specs.Ordering.{nat_cmp, ordering_then, MatchOrdering, is_eq}
use Rattle.std.specs.List.{position_or_len}
use Rattle.std.proofs.lemmas.Option.{none-some}
use Rattle.std.proofs.lemmas.Bool.Decides.{nat_tests}
use Rattle.std.specs.Cmp.{nat_cmp_is, ranks, unsigned_ties}
use Rattle.std.specs.Cmp.Lexicographic.{slice_cmp, pointwise, lists_ties}
use Rattle.std.proofs.lemmas.List.Elements.{All-nil, All-cons, All-head, All-tail}
use Rattle.q_values.specs.Bytes.{HasNoNul}
use Rattle.std.specs.Simd.Lanes.{mask_l, top, zip2, sel_l}
use Rattle.std.specs.Int.Count.{count_trailing_zeros}
use Rattle.std.specs.List.{prefix_len, range_with_len}
use Rattle.std.proofs.lemmas.Simd.{bitmask_splat, first_set_mask_l, tops_compared, trailing_mask_l}
use Rattle.std.proofs.Common.{eqb, ltb, not, map, replicate, ◌%◌}
use Rattle.q_values.specs.Short.{IsShort, IsFilled, text_of, filled, number_above, number_of}

pub length-filled : (n : ℕ) (text : List ℕ) → length (filled n text) ≡ n
length-filled zero text = refl
length-filled (suc n) [] = ap suc (length-filled n [])
length-filled (suc n) (b ∷ text) = ap suc (length-filled n text)

-- a text is found again in the bytes that it was put in
pub text_of-filled : (n : ℕ) (text : List ℕ) → HasNoNul text → length text ≤ n → text_of (filled n text) ≡ text
text_of-filled zero [] no_nul short = refl
text_of-filled zero (b ∷ text) no_nul short = absurd (omega arith)
text_of-filled (suc n) [] no_nul short = refl
text_of-filled (suc n) (zero ∷ text) no_nul short = absurd (omega (arith, All-head (λ b. 0 < b) zero text no_nul))
text_of-filled (suc n) (suc b ∷ text) no_nul short =
    ap (λ l. suc b ∷ l) (text_of-filled n text (All-tail (λ b. 0 < b) (suc b) text no_nul) (omega (arith, short)))

pub no_nul-text_of : (bytes : List ℕ) → HasNoNul (text_of bytes)
no_nul-text_of [] = All-nil (λ b. 0 < b)
no_nul-text_of (zero ∷ bytes) = All-nil (λ b. 0 < b)
no_nul-text_of (suc b ∷ bytes) = All-cons (λ b. 0 < b) (suc b) (text_of bytes) (omega arith) (no_nul-text_of bytes)

pub length-text_of : (bytes : List ℕ) → length (text_of bytes) ≤ length bytes
length-text_of [] = omega arith
length-text_of (zero ∷ bytes) = omega arith
length-text_of (suc b ∷ bytes) = omega (arith, length-text_of bytes)

pub take-text_of : (bytes : List ℕ) → take (length (text_of bytes)) bytes ≡ text_of bytes
take-text_of [] = refl
take-text_of (zero ∷ bytes) = refl
take-text_of (suc b ∷ bytes) = ap (λ l. suc b ∷ l) (take-text_of bytes)

-- the number that the machine reads
pub number_of-eight : (bytes : List ℕ) → length bytes ≡ 8 → from_be_bytes w64 bytes ≡ number_above 0 bytes
number_of-eight [] l = absurd (omega arith)
number_of-eight (a ∷ []) l = absurd (omega arith)
number_of-eight (a ∷ b ∷ []) l = absurd (omega arith)
number_of-eight (a ∷ b ∷ c ∷ []) l = absurd (omega arith)
number_of-eight (a ∷ b ∷ c ∷ d ∷ []) l = absurd (omega arith)
number_of-eight (a ∷ b ∷ c ∷ d ∷ e ∷ []) l = absurd (omega arith)
number_of-eight (a ∷ b ∷ c ∷ d ∷ e ∷ f ∷ []) l = absurd (omega arith)
number_of-eight (a ∷ b ∷ c ∷ d ∷ e ∷ f ∷ g ∷ []) l = absurd (omega arith)
number_of-eight (a ∷ b ∷ c ∷ d ∷ e ∷ f ∷ g ∷ h ∷ []) l = omega arith
number_of-eight (a ∷ b ∷ c ∷ d ∷ e ∷ f ∷ g ∷ h ∷ x ∷ bytes) l = absurd (omega arith)

abbrev pub AreBytes : List ℕ → Type 0
AreBytes = All (λ b. b < 256)

-- the digits above decide
less-above : (m n : ℕ) (xs ys : List ℕ) → m < n → length xs ≡ length ys → AreBytes xs → number_above m xs < number_above n ys
less-above m n [] [] low same bytes = low
less-above m n [] (y ∷ ys) low same bytes = absurd (omega arith)
less-above m n (x ∷ xs) [] low same bytes = absurd (omega arith)
less-above m n (x ∷ xs) (y ∷ ys) low same bytes =
    less-above (m * 256 + x) (n * 256 + y) xs ys (omega (arith, low, All-head (λ b. b < 256) x xs bytes)) (omega (arith, same)) (All-tail (λ b. b < 256) x xs bytes)

first-digit : (m x y : ℕ) (xs ys : List ℕ) → length xs ≡ length ys → AreBytes xs → AreBytes ys
    → MatchOrdering (slice_cmp nat_cmp xs ys) (number_above (m * 256 + y) xs < number_above (m * 256 + y) ys) (number_above (m * 256 + y) xs ≡ number_above (m * 256 + y) ys) (number_above (m * 256 + y) ys < number_above (m * 256 + y) xs)
    → (o : Ordering) → MatchOrdering o (x < y) (x ≡ y) (y < x)
    → MatchOrdering (ordering_then o (slice_cmp nat_cmp xs ys)) (number_above (m * 256 + x) xs < number_above (m * 256 + y) ys) (number_above (m * 256 + x) xs ≡ number_above (m * 256 + y) ys) (number_above (m * 256 + y) ys < number_above (m * 256 + x) xs)
first-digit m x y xs ys size of_x of_y rest Less low = less-above (m * 256 + x) (m * 256 + y) xs ys (omega (arith, low)) size of_x
first-digit m x y xs ys size of_x of_y rest Equal is = rw is rest
first-digit m x y xs ys size of_x of_y rest Greater high = less-above (m * 256 + y) (m * 256 + x) ys xs (omega (arith, high)) (sym size) of_y

-- how two numbers of equally many digits stand to each other, as the digits do
ranks-digits : (m : ℕ) (xs ys : List ℕ) → length xs ≡ length ys → AreBytes xs → AreBytes ys
    → MatchOrdering (slice_cmp nat_cmp xs ys) (number_above m xs < number_above m ys) (number_above m xs ≡ number_above m ys) (number_above m ys < number_above m xs)
ranks-digits m [] [] same of_x of_y = refl
ranks-digits m [] (y ∷ ys) same of_x of_y = absurd (omega arith)
ranks-digits m (x ∷ xs) [] same of_x of_y = absurd (omega arith)
ranks-digits m (x ∷ xs) (y ∷ ys) same of_x of_y =
    let size : length xs ≡ length ys = omega (arith, same) in
    let rest_x = All-tail (λ b. b < 256) x xs of_x in
    let rest_y = All-tail (λ b. b < 256) y ys of_y in
    first-digit m x y xs ys size rest_x rest_y (ranks-digits (m * 256 + y) xs ys size rest_x rest_y) (nat_cmp x y) (ranks x y)

-- numbers of equally many digits compare as the digits do
pub number_cmp : (m : ℕ) (xs ys : List ℕ) → length xs ≡ length ys → AreBytes xs → AreBytes ys
    → slice_cmp nat_cmp xs ys ≡ nat_cmp (number_above m xs) (number_above m ys)
number_cmp m xs ys same of_x of_y = nat_cmp_is (number_above m xs) (number_above m ys) (slice_cmp nat_cmp xs ys) (ranks-digits m xs ys same of_x of_y)

-- texts compare as the bytes that they are put in
pub filled_cmp : (n : ℕ) (s t : List ℕ) → HasNoNul s → HasNoNul t → length s ≤ n → length t ≤ n
    → slice_cmp nat_cmp (filled n s) (filled n t) ≡ slice_cmp nat_cmp s t
filled_cmp zero [] [] of_s of_t short_s short_t = refl
filled_cmp zero (a ∷ s) t of_s of_t short_s short_t = absurd (omega arith)
filled_cmp zero [] (b ∷ t) of_s of_t short_s short_t = absurd (omega arith)
filled_cmp (suc n) [] [] of_s of_t short_s short_t = filled_cmp n [] [] of_s of_t (omega arith) (omega arith)
filled_cmp (suc n) [] (zero ∷ t) of_s of_t short_s short_t = absurd (omega (arith, All-head (λ b. 0 < b) zero t of_t))
filled_cmp (suc n) [] (suc b ∷ t) of_s of_t short_s short_t =
    ap (λ o. ordering_then o (slice_cmp nat_cmp (filled n []) (filled n t))) (sym (nat_cmp_is 0 (suc b) Less (omega arith)))
filled_cmp (suc n) (zero ∷ s) t of_s of_t short_s short_t = absurd (omega (arith, All-head (λ b. 0 < b) zero s of_s))
filled_cmp (suc n) (suc a ∷ s) [] of_s of_t short_s short_t =
    ap (λ o. ordering_then o (slice_cmp nat_cmp (filled n s) (filled n []))) (sym (nat_cmp_is (suc a) 0 Greater (omega arith)))
filled_cmp (suc n) (suc a ∷ s) (b ∷ t) of_s of_t short_s short_t =
    ap (ordering_then (nat_cmp (suc a) b)) (filled_cmp n s t (All-tail (λ b. 0 < b) (suc a) s of_s) (All-tail (λ b. 0 < b) b t of_t) (omega (arith, short_s)) (omega (arith, short_t)))

bytes-filled : (n : ℕ) (text : List ℕ) → AreBytes text → AreBytes (filled n text)
bytes-filled zero text bytes = All-nil (λ b. b < 256)
bytes-filled (suc n) [] bytes = All-cons (λ b. b < 256) 0 (filled n []) (omega arith) (bytes-filled n [] bytes)
bytes-filled (suc n) (b ∷ text) bytes =
    All-cons (λ b. b < 256) b (filled n text) (All-head (λ b. b < 256) b text bytes) (bytes-filled n text (All-tail (λ b. b < 256) b text bytes))

-- symbols of at most eight bytes compare as their numbers do
pub number_of_cmp : (s t : List ℕ) → IsShort s → IsShort t → slice_cmp nat_cmp s t ≡ nat_cmp (number_of s) (number_of t)
number_of_cmp s t of_s of_t =
    sym (filled_cmp 8 s t of_s.no_nul of_t.no_nul of_s.short of_t.short)
    ∙ number_cmp 0 (filled 8 s) (filled 8 t) (length-filled 8 s ∙ sym (length-filled 8 t)) (bytes-filled 8 s of_s.bytes) (bytes-filled 8 t of_t.bytes)

-- equal symbols have equal numbers, and no others have
pub number_of_eq : (s t : List ℕ) → IsShort s → IsShort t → pointwise ◌==◌ s t ≡ (number_of s == number_of t)
number_of_eq s t of_s of_t =
    lists_ties nat_cmp unsigned_ties s t
    ∙ ap is_eq (number_of_cmp s t of_s of_t)
    ∙ sym (unsigned_ties (number_of s) (number_of t))

-- the text ends at the first 0
position-text_of : (bytes : List ℕ) → position_or_len (λ b. b == 0) bytes ≡ length (text_of bytes)
position-text_of [] = refl
position-text_of (zero ∷ bytes) = refl
position-text_of (suc b ∷ bytes) =
    let other : (suc b == 0) ≡ false = grind (arith, nat_tests) in
    rw other (omega (arith, position-text_of bytes))

option_or : ℕ → Option ℕ → ℕ
option_or x None = x
option_or x (Some y) = y

if_some : (b : Bool) (x n : ℕ) → cond b (Some x) None ≡ Some n → x ≡ n
unfolding option_or
if_some true x n e = ap (option_or x) e
if_some false x n e = absurd (none-some n e)

pub length-to_nul : (bytes : List ℕ) (n : ℕ) → position (λ b. b == 0) bytes ≡ Some n → n ≡ length (text_of bytes)
length-to_nul bytes n e =
    sym (if_some (nat_lt (position_or_len (λ b. b == 0) bytes) (length bytes)) (position_or_len (λ b. b == 0) bytes) n e) ∙ position-text_of bytes

pub text_of-no_nul : (bytes : List ℕ) → HasNoNul bytes → text_of bytes ≡ bytes
text_of-no_nul [] no_nul = refl
text_of-no_nul (zero ∷ bytes) no_nul = absurd (omega (arith, All-head (λ b. 0 < b) zero bytes no_nul))
text_of-no_nul (suc b ∷ bytes) no_nul = ap (λ l. suc b ∷ l) (text_of-no_nul bytes (All-tail (λ b. 0 < b) (suc b) bytes no_nul))

-- a text written over zeros
pub filled_over : (n : ℕ) (text : List ℕ) → length text ≤ n → text ++ drop (length text) (filled n []) ≡ filled n text
filled_over n [] short = refl
filled_over zero (b ∷ text) short = absurd (omega arith)
filled_over (suc n) (b ∷ text) short = ap (λ l. b ∷ l) (filled_over n text (omega (arith, short)))

pub bytes-text_of : (bytes : List ℕ) → AreBytes bytes → AreBytes (text_of bytes)
bytes-text_of [] of_bytes = All-nil (λ b. b < 256)
bytes-text_of (zero ∷ bytes) of_bytes = All-nil (λ b. b < 256)
bytes-text_of (suc b ∷ bytes) of_bytes =
    All-cons (λ b. b < 256) (suc b) (text_of bytes) (All-head (λ b. b < 256) (suc b) bytes of_bytes) (bytes-text_of bytes (All-tail (λ b. b < 256) (suc b) bytes of_bytes))

pub IsShort-text_of : (bytes : List ℕ) → IsFilled bytes → IsShort (text_of bytes)
IsShort-text_of bytes filled_up = record {
  no_nul = no_nul-text_of bytes;
  bytes = bytes-text_of bytes filled_up.digits;
  short = omega (arith, length-text_of bytes, ap length filled_up.full, length-filled 8 (text_of bytes));
}

pub bytes_fit : (bytes : List ℕ) → ((i : ℕ) → Fits w8 (get_or bytes i 0)) → AreBytes bytes
bytes_fit [] fits = All-nil (λ b. b < 256)
bytes_fit (b ∷ bytes) fits = All-cons (λ b. b < 256) b bytes (omega (arith, fits 0)) (bytes_fit bytes (λ i. fits (suc i)))

pub IsFilled-filled : (text : List ℕ) → HasNoNul text → length text ≤ 8 → AreBytes text → IsFilled (filled 8 text)
IsFilled-filled text no_nul short of_bytes = record {
  full = ap (filled 8) (sym (text_of-filled 8 text no_nul short));
  digits = bytes-filled 8 text of_bytes;
}

prefix-text_of : (bytes : List ℕ) → prefix_len (λ b. not (eqb b 0)) bytes ≡ length (text_of bytes)
prefix-text_of [] = refl
prefix-text_of (zero ∷ bytes) = refl
prefix-text_of (suc b ∷ bytes) =
    let other : eqb (suc b) 0 ≡ false = grind (arith, nat_tests) in
    rw other (omega (arith, prefix-text_of bytes))

-- what a comparison of eight bytes with 0 sets
abbrev pub nul_bits : List ℕ → ℕ
nul_bits bytes = mask_l (map (top 7) (zip2 (λ a b. cond (eqb a b) 255 0) bytes (replicate 8 0))) % 18446744073709551616

-- no bit is set where no byte is 0
pub none_set : (bytes : List ℕ) (m : ℕ) → length bytes ≡ 8 → m ≡ nul_bits bytes → m ≡ 0 → 8 ≡ length (text_of bytes)
none_set bytes m long is none =
    let mask : mask_l (map (λ b. eqb b 0) bytes) ≡ 0 = sym (bitmask_splat w8 eqb bytes 8 0 long (omega arith)) ∙ sym is ∙ none in
    (rw mask at (first_set_mask_l (λ b. eqb b 0) bytes 8 long (omega arith))) ∙ prefix-text_of bytes

-- the lowest bit that is set shows the first 0
pub lowest_set : (bytes : List ℕ) (m : ℕ) → length bytes ≡ 8 → m ≡ nul_bits bytes → (m ≡ 0 → ⊥) → count_trailing_zeros 64 m ≡ length (text_of bytes)
lowest_set bytes m long is some =
    let mask : m ≡ mask_l (map (λ b. eqb b 0) bytes) = is ∙ bitmask_splat w8 eqb bytes 8 0 long (omega arith) in
    let set : 0 < mask_l (map (λ b. eqb b 0) bytes) = omega (arith, mask, some) in
    ap (count_trailing_zeros 64) mask ∙ trailing_mask_l (λ b. eqb b 0) 64 bytes (omega (arith, long)) set ∙ prefix-text_of bytes

-- a lane that the text does not reach is 0
unkept : (i n : ℕ) (bytes : List ℕ) → n ≤ i → sel_l (zip2 ltb (range_with_len i (length bytes)) (replicate (length bytes) n)) bytes (replicate (length bytes) 0) ≡ filled (length bytes) []
unkept i n [] above = refl
unkept i n (b ∷ bytes) above =
    let not_below : ltb i n ≡ false = grind (arith, nat_tests) in
    rw not_below (ap (λ l. 0 ∷ l) (unkept (i + 1) n bytes (omega (arith, above))))

-- the lanes before the first 0 are kept
kept : (i n : ℕ) (bytes : List ℕ) → n ≡ i + length (text_of bytes) → sel_l (zip2 ltb (range_with_len i (length bytes)) (replicate (length bytes) n)) bytes (replicate (length bytes) 0) ≡ filled (length bytes) (text_of bytes)
kept i n [] is = refl
kept i n (zero ∷ bytes) is = unkept i n (zero ∷ bytes) (omega (arith, is))
kept i n (suc b ∷ bytes) is =
    let below : ltb i n ≡ true = grind (arith, nat_tests) in
    rw below (ap (λ l. suc b ∷ l) (kept (i + 1) n bytes (omega (arith, is))))

-- eight bytes of which the lanes before the first 0 are kept
pub before : (bytes : List ℕ) (n : ℕ) → length bytes ≡ 8 → n ≡ length (text_of bytes)
    → sel_l (map (top 7) (zip2 (λ a b. cond (ltb a b) 255 0) (range_with_len 0 8) (replicate 8 n))) bytes (replicate 8 0) ≡ filled 8 (text_of bytes)
before bytes n long is =
    ap (λ lanes. sel_l lanes bytes (replicate 8 0)) (tops_compared w8 ltb (range_with_len 0 8) (replicate 8 n)) ∙ (rw long at (kept 0 n bytes (omega (arith, is))))
