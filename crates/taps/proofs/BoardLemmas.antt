-- Taps that are given messages, one after the other.
use Rattle.std.proofs.Common.{◌≡◌, ◌≢◌, inl, inr, ℕ, suc, ◌+◌, ◌<◌, ◌≤◌, ◌++◌, All, true, false, List, [], ◌∷◌, length, map, take, drop, get_or, refl, sym, ap, ◌∙◌, subst, arith, Option, Some, None, Result, Ok, Err, is_err, append-nil, append_assoc}
use Rattle.std.specs.List.{AllPairs, remove}
use Rattle.std.proofs.Math.ListN.{get_or-append}
use Rattle.std.proofs.Math.Seq.{get_or-append_seam, drop-cons}
use Rattle.std.proofs.lemmas.List.{take_more, map-append, length-append, length-drop, get_or-drop, take-append-drop, take_all}
use Rattle.std.proofs.lemmas.Option.{slice_get_read}
use Rattle.std.proofs.lemmas.List.Elements.{All-append, All-more, All-push, All-same}
use Rattle.std.proofs.lemmas.List.Quantifiers.{all_pairs_push, all_pairs_remove}
use Rattle.outside_api.specs.Counts.{counted}
use Rattle.outside_api.specs.Tap.{TapView, Takes}
use Rattle.outside_api.specs.Told.{told, Tells}
use Rattle.outside_api.specs.declared.tap.TapFault.{TapFault}
use Rattle.outside_api.specs.declared.tap.TapMessage.{TapMessage}
use Rattle.taps.specs.Board.{SeatView, living, Lives, Fails, Driven, TakenOff}

told_nothing : {X : Type 0} (before : Option (List X)) → Tells before before []
told_nothing None all is = is
told_nothing (Some b) all is = ap (λ l. Some l) (append-nil b) ∙ is

same_some : {X : Type 0} (x y : X) → Some x ≡ Some y → x ≡ y
same_some x y e = cc

tells_then : {X : Type 0} (a b c : Option (List X)) (xs ys : List X) → Tells a b xs → Tells b c ys → Tells a c (xs ++ ys)
tells_then {X = X} a b c xs ys first second all is = through a b first (second all is)
  where
    told_then : (a : Option (List X)) (l : List X) → told a xs ≡ Some l → told a (xs ++ ys) ≡ Some (l ++ ys)
    told_then None l e = cc
    told_then (Some m) l e = ap (λ k. Some k) (sym (append_assoc m xs ys) ∙ ap (λ k. k ++ ys) (same_some (m ++ xs) l e))

    through : (a b : Option (List X)) → Tells a b xs → told b ys ≡ Some all → told a (xs ++ ys) ≡ Some all
    through a None first e = cc
    through a (Some l) first e = told_then a l (first l refl) ∙ e

pub lives_yet : (view : TapView) → Lives [] view view
lives_yet view = record { taken = told_nothing view.taken; faults = refl }

took : {T : Type 0} (old new : TapView) (message : TapMessage) (result : Result T TapFault) → is_err result ≡ false → Takes old new message result → Lives (message ∷ []) old new
took old new message (Ok x) ok takes = record { taken = takes.0; faults = takes.1 }
took old new message (Err e) ok takes = cc

failed : {T : Type 0} (old new : TapView) (message : TapMessage) (result : Result T TapFault) → is_err result ≡ true → Takes old new message result → Tells old.taken new.taken [] × (new.faults ≡ counted old.faults 1)
failed old new message (Ok x) ok takes = cc
failed old new message (Err e) ok takes = takes

-- one more message
pub lives_more : {T : Type 0} (messages : List TapMessage) (i : ℕ) (message : TapMessage) (first old new : TapView) (result : Result T TapFault) → i < length messages → message ≡ get_or messages i message → is_err result ≡ false
    → Lives (take i messages) first old → Takes old new message result → Lives (take (i + 1) messages) first new
lives_more messages i message first old new result i_in is ok lives takes =
    let one = took old new message result ok takes in
    let more : take i messages ++ message ∷ [] ≡ take (i + 1) messages = sym (take_more messages i message i_in ∙ ap (λ (m : TapMessage). take i messages ++ m ∷ []) (sym is)) in
    record {
      taken = subst (Tells first.taken new.taken) more (tells_then first.taken old.taken new.taken (take i messages) (message ∷ []) lives.taken one.taken);
      faults = one.faults ∙ lives.faults;
    }

-- the first fault
pub fails_here : {T : Type 0} (messages : List TapMessage) (i : ℕ) (message : TapMessage) (first old new : TapView) (result : Result T TapFault) → i < length messages → is_err result ≡ true → Lives (take i messages) first old → Takes old new message result → Fails messages first new
fails_here messages i message first old new result i_in err lives takes =
    let fault = failed old new message result err takes in
    record {
      count = i;
      within = i_in;
      taken = subst (Tells first.taken new.taken) (append-nil (take i messages)) (tells_then first.taken old.taken new.taken (take i messages) [] lives.taken fault.0);
      faults = fault.1 ∙ ap (λ n. counted n 1) lives.faults;
    }

-- one more tap, which stays
driven_stays : (messages : List TapMessage) (old new : List SeatView) (dropped : List ℕ) (number : ℕ) (first last : TapView) → Driven messages old new dropped → Lives messages first last
    → Driven messages (old ++ record { number = number; shown = first } ∷ []) (new ++ record { number = number; shown = last } ∷ []) dropped
driven_stays messages [] new dropped number first last driven lives =
    inl (last, [], ap (λ (l : List SeatView). l ++ record { number = number; shown = last } ∷ []) driven.0, lives, (refl, driven.1))
driven_stays messages (seat ∷ old) new dropped number first last (inl w) lives = inl (
  w.0,
  w.1 ++ record { number = number; shown = last } ∷ [],
  ap (λ (l : List SeatView). l ++ record { number = number; shown = last } ∷ []) w.2,
  w.3,
  driven_stays messages old w.1 dropped number first last w.4 lives,
)
driven_stays messages (seat ∷ old) new dropped number first last (inr w) lives = inr (w.0, w.1, w.2, w.3, driven_stays messages old new w.1 number first last w.4 lives)

-- one more tap, which is dropped
driven_falls : (messages : List TapMessage) (old new : List SeatView) (dropped : List ℕ) (number : ℕ) (first last : TapView) → Driven messages old new dropped → Fails messages first last
    → Driven messages (old ++ record { number = number; shown = first } ∷ []) new (dropped ++ number ∷ [])
driven_falls messages [] new dropped number first last driven fails = inr (last, [], ap (λ (l : List ℕ). l ++ number ∷ []) driven.1, fails, (driven.0, refl))
driven_falls messages (seat ∷ old) new dropped number first last (inl w) fails = inl (w.0, w.1, w.2, w.3, driven_falls messages old w.1 dropped number first last w.4 fails)
driven_falls messages (seat ∷ old) new dropped number first last (inr w) fails = inr (
  w.0,
  w.1 ++ number ∷ [],
  ap (λ (l : List ℕ). l ++ number ∷ []) w.2,
  w.3,
  driven_falls messages old new w.1 number first last w.4 fails,
)

stays_more : {S : Type 0} (number : S → ℕ) (shown : S → TapView) (messages : List TapMessage) (old new : List S) (dropped : List ℕ) (before after : S) → number after ≡ number before → Driven messages (living number shown old) (living number shown new) dropped
    → Lives messages (shown before) (shown after) → Driven messages (living number shown (old ++ before ∷ [])) (living number shown (new ++ after ∷ [])) dropped
stays_more {S} number shown messages old new dropped before after same driven lives =
    let seen : S → SeatView = λ s. record { number = number s; shown = shown s } in
    rw (map-append seen old (before ∷ []), map-append seen new (after ∷ []), same) (driven_stays messages (map seen old) (map seen new) dropped (number before) (shown before) (shown after) driven lives)

falls_more : {S : Type 0} (number : S → ℕ) (shown : S → TapView) (messages : List TapMessage) (old new : List S) (dropped : List ℕ) (before after : S) → number after ≡ number before → Driven messages (living number shown old) (living number shown new) dropped
    → Fails messages (shown before) (shown after) → Driven messages (living number shown (old ++ before ∷ [])) (living number shown new) (dropped ++ number after ∷ [])
falls_more {S} number shown messages old new dropped before after same driven fails =
    let seen : S → SeatView = λ s. record { number = number s; shown = shown s } in
    rw (map-append seen old (before ∷ []), same) (driven_falls messages (map seen old) (map seen new) dropped (number before) (shown before) (shown after) driven fails)

-- ---- numbers

-- the numbers before one are below it
below_it : {S : Type 0} (number : S → ℕ) (xs : List S) (y : S) (ys : List S) → AllPairs (λ a b. number a < number b) (xs ++ y ∷ ys) → All (λ s. number s < number y) xs
below_it number xs y ys ascend k d k_in =
    let size : length xs < length (xs ++ y ∷ ys) = omega (arith, length-append xs (y ∷ ys)) in
    let low = ascend k (length xs) d k_in size in
    rw (get_or-append xs (y ∷ ys) d k k_in, get_or-append_seam xs y ys d) at low

all_before : {X : Type 0} (P : X → Type 0) (xs ys : List X) → All P (xs ++ ys) → All P xs
all_before P xs ys all k d k_in = subst P (get_or-append xs ys d k k_in) (all k d (omega (arith, length-append xs ys, k_in)))

all_last : {X : Type 0} (P : X → Type 0) (xs : List X) (x : X) → All P (xs ++ x ∷ []) → P x
all_last P xs x all = subst P (get_or-append_seam xs x [] x) (all (length xs) x (omega (arith, length-append xs (x ∷ []))))

-- a bound on all numbers is a bound on those of the taps that stay
bound_more : {S : Type 0} (number : S → ℕ) (xs staying : List S) (x after : S) → number after ≡ number x → ((j : ℕ) → All (λ s. number s < j) xs → All (λ s. number s < j) staying) → (j : ℕ) → All (λ s. number s < j) (xs ++ x ∷ []) → All (λ s. number s < j) (staying ++ after ∷ [])
bound_more number xs staying x after same bound j all =
    All-push (λ s. number s < j) staying after (bound j (all_before (λ s. number s < j) xs (x ∷ []) all)) (rw same (all_last (λ s. number s < j) xs x all))

bound_less : {S : Type 0} (number : S → ℕ) (xs staying : List S) (x : S) → ((j : ℕ) → All (λ s. number s < j) xs → All (λ s. number s < j) staying) → (j : ℕ) → All (λ s. number s < j) (xs ++ x ∷ []) → All (λ s. number s < j) staying
bound_less number xs staying x bound j all = bound j (all_before (λ s. number s < j) xs (x ∷ []) all)

-- the numbers of the taps that stay ascend
ascend_more : {S : Type 0} (number : S → ℕ) (xs rest staying : List S) (x after : S) → number after ≡ number x → AllPairs (λ a b. number a < number b) (xs ++ x ∷ rest) → ((j : ℕ) → All (λ s. number s < j) xs → All (λ s. number s < j) staying)
    → AllPairs (λ a b. number a < number b) staying → AllPairs (λ a b. number a < number b) (staying ++ after ∷ [])
ascend_more number xs rest staying x after same ascend bound so_far =
    all_pairs_push (λ a b. number a < number b) staying after so_far (rw same (bound (number x) (below_it number xs x rest ascend)))

-- ---- a board is gone through

-- of all taps these were given the messages; some of them stay, and the numbers of the others were put down
pub record Goes {S : Type 0} (number : S → ℕ) (shown : S → TapView) (messages : List TapMessage) (taps given rest staying : List S) (dropped : List ℕ) : Type 0 where
  pub parts : given ++ rest ≡ taps
  pub driven : Driven messages (living number shown given) (living number shown staying) dropped
  pub bound : (j : ℕ) → All (λ s. number s < j) given → All (λ s. number s < j) staying
  pub ascend : AllPairs (λ a b. number a < number b) staying
  pub few : length staying ≤ length given
  pub fewer : length dropped ≤ length given

next_part : {S : Type 0} (taps given rest next : List S) (tap : S) → given ++ rest ≡ taps → rest ≡ tap ∷ next → (given ++ tap ∷ []) ++ next ≡ taps
next_part taps given rest next tap parts is = append_assoc given (tap ∷ []) next ∙ ap (λ l. given ++ l) (sym is) ∙ parts

pub goes_none : {S : Type 0} (number : S → ℕ) (shown : S → TapView) (messages : List TapMessage) (taps : List S) → Goes number shown messages taps [] taps [] []
goes_none number shown messages taps = record {
  parts = refl;
  driven = (refl, refl);
  bound = λ j all. all;
  ascend = λ i j d low j_in. absurd (omega (arith, j_in));
  few = omega arith;
  fewer = omega arith;
}

pub goes_on : {S : Type 0} (number : S → ℕ) (shown : S → TapView) (messages : List TapMessage) (taps given rest staying : List S) (dropped : List ℕ) (tap after : S) (next more : List S) → AllPairs (λ a b. number a < number b) taps
    → Goes number shown messages taps given rest staying dropped → rest ≡ tap ∷ next → number after ≡ number tap → Lives messages (shown tap) (shown after) → more ≡ staying ++ after ∷ []
    → Goes number shown messages taps (given ++ tap ∷ []) next more dropped
goes_on number shown messages taps given rest staying dropped tap after next more ordered goes is same lives put =
    let whole : given ++ tap ∷ next ≡ taps = ap (λ l. given ++ l) (sym is) ∙ goes.parts in
    let order : AllPairs (λ a b. number a < number b) (given ++ tap ∷ next) = subst (AllPairs (λ a b. number a < number b)) (sym whole) ordered in
    subst (λ l. Goes number shown messages taps (given ++ tap ∷ []) next l dropped) (sym put) (record {
      parts = next_part taps given rest next tap goes.parts is;
      driven = stays_more number shown messages given staying dropped tap after same goes.driven lives;
      bound = bound_more number given staying tap after same goes.bound;
      ascend = ascend_more number given next staying tap after same order goes.bound goes.ascend;
      few = omega (arith, goes.few, length-append staying (after ∷ []), length-append given (tap ∷ []));
      fewer = omega (arith, goes.fewer, length-append given (tap ∷ []));
    })

pub goes_without : {S : Type 0} (number : S → ℕ) (shown : S → TapView) (messages : List TapMessage) (taps given rest staying : List S) (dropped : List ℕ) (tap after : S) (next : List S) (more : List ℕ) → Goes number shown messages taps given rest staying dropped → rest ≡ tap ∷ next
    → number after ≡ number tap → Fails messages (shown tap) (shown after) → more ≡ dropped ++ number after ∷ [] → Goes number shown messages taps (given ++ tap ∷ []) next staying more
goes_without number shown messages taps given rest staying dropped tap after next more goes is same fails put =
    subst (λ l. Goes number shown messages taps (given ++ tap ∷ []) next staying l) (sym put) (record {
      parts = next_part taps given rest next tap goes.parts is;
      driven = falls_more number shown messages given staying dropped tap after same goes.driven fails;
      bound = bound_less number given staying tap goes.bound;
      ascend = goes.ascend;
      few = omega (arith, goes.few, length-append given (tap ∷ []));
      fewer = omega (arith, goes.fewer, length-append dropped (number after ∷ []), length-append given (tap ∷ []));
    })

-- the numbers of the taps that stay are below the next one
pub goes_below : {S : Type 0} (number : S → ℕ) (shown : S → TapView) (messages : List TapMessage) (taps given rest staying : List S) (dropped : List ℕ) (next : ℕ) → Goes number shown messages taps given rest staying dropped → All (λ s. number s < next) taps → All (λ s. number s < next) staying
goes_below number shown messages taps given rest staying dropped next goes all =
    goes.bound next (all_before (λ s. number s < next) given rest (subst (All (λ s. number s < next)) (sym goes.parts) all))

-- ---- a tap is taken off

same_at : {X : Type 0} (xs : List X) (i : ℕ) (x y : X) → i < length xs → x ≡ get_or xs i x → y ≡ get_or xs i y → x ≡ y
same_at xs i x y i_in is so = same_some x y (sym (slice_get_read xs (length xs) i x refl i_in is) ∙ slice_get_read xs (length xs) i y refl i_in so)

pub taken_off : {S : Type 0} (number : S → ℕ) (shown : S → TapView) (seats loop new : List S) (i : ℕ) (seat read : S) (id : ℕ) → loop ≡ seats → i < length loop → seat ≡ get_or loop i seat → read ≡ get_or loop i read → number read ≡ id → new ≡ remove loop i
    → TakenOff id (shown seat) (living number shown seats) (living number shown new)
taken_off {S} number shown seats loop new i seat read id still i_in is so found left =
    let seen : S → SeatView = λ s. record { number = number s; shown = shown s } in
    let here : drop i loop ≡ seat ∷ drop (suc i) loop = drop-cons loop i seat i_in ∙ ap (λ s. s ∷ drop (suc i) loop) (sym is) in
    let same : number seat ≡ id = ap number (same_at loop i seat read i_in is so) ∙ found in
    record {
      before = map seen (take i loop);
      after = map seen (drop (suc i) loop);
      was = ap (map seen) (sym still ∙ sym (take-append-drop i loop) ∙ ap (λ l. take i loop ++ l) here)
          ∙ map-append seen (take i loop) (seat ∷ drop (suc i) loop)
          ∙ ap (λ n. map seen (take i loop) ++ record { number = n; shown = shown seat } ∷ map seen (drop (suc i) loop)) same;
      left = ap (map seen) left ∙ map-append seen (take i loop) (drop (suc i) loop);
    }

-- no tap has the number
pub none_has : {S : Type 0} (number : S → ℕ) (seats loop : List S) (i : ℕ) (id : ℕ) → loop ≡ seats → length loop ≤ i → All (λ s. number s ≢ id) (take i loop) → All (λ s. number s ≢ id) seats
none_has number seats loop i id still end all = All-same (λ s. number s ≢ id) seats (take i loop) (sym still ∙ sym (take_all i loop end)) all

all_removed : {X : Type 0} (P : X → Type 0) (xs : List X) (i : ℕ) → i < length xs → All P xs → All P (remove xs i)
all_removed {X = X} P xs i i_in all =
    All-append P (take i xs) (drop (suc i) xs) (all_before P (take i xs) (drop i xs) (subst (All P) (sym (take-append-drop i xs)) all)) (all_after (suc i) xs all)
  where
    all_after : (n : ℕ) (ys : List X) → All P ys → All P (drop n ys)
    all_after n ys h k d k_in = rw get_or-drop (h (n + k) d (omega (arith, k_in, length-drop n ys)))

-- the numbers that are left when a tap is taken off
pub left_numbers : {S : Type 0} (number : S → ℕ) (loop new : List S) (i next : ℕ) → i < length loop → new ≡ remove loop i → All (λ s. number s < next) loop → AllPairs (λ a b. number a < number b) loop
    → All (λ s. number s < next) new × AllPairs (λ a b. number a < number b) new
left_numbers number loop new i next i_in left given ascend = (
  subst (All (λ s. number s < next)) (sym left) (all_removed (λ s. number s < next) loop i i_in given),
  subst (AllPairs (λ a b. number a < number b)) (sym left) (all_pairs_remove (λ a b. number a < number b) loop i i_in ascend),
)

-- one more tap, which has another number
pub others_more : {S : Type 0} (number : S → ℕ) (loop : List S) (i : ℕ) (read : S) (id : ℕ) → i < length loop → read ≡ get_or loop i read → number read ≢ id → All (λ s. number s ≢ id) (take i loop) → All (λ s. number s ≢ id) (take (i + 1) loop)
others_more number loop i read id i_in is other all = All-more (λ s. number s ≢ id) loop i read i_in all (subst (λ s. number s ≢ id) is other)
