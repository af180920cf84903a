-- Each step keeps the rule of the table.
use Rattle.std.proofs.Common.{◌≡◌, ◌≢◌, ℕ, zero, suc, ◌+◌, ◌-◌, ◌%◌, ◌^◌, ◌<◌, ◌≤◌, Bool, true, false, eqb, List, [], ◌∷◌, ◌++◌, get_or, drop, set, length, All, sym, refl, ap, ◌∙◌, subst, arith, append-nil, length-append, ⊎_elim, true≢false, mod-eq_of_lt, Option, Some, unwrap_or}
use mathlib.Core.Logic.{dite}
use mathlib.Core.List.{IsPrefix}
use mathlib.Core.Option.{none, some, some-injective, some-ne-none}
use mathlib.Core.Option as maybe
use native.Mathlib.Decide.{ℕ_discrete}
use Rattle.std.proofs.Math.Nat.{max-le}
use Rattle.std.proofs.lemmas.List.Elements.{All-append}
use lib.ListN.{get_elem?}
use lib.Seq.{set-get_or, drop-append_seam}
use prog.Atomic.{either}
use Rattle.atomic_table.specs.Table.{State, Me, step, Act, keeps, takes, gives, stepped, Valid, carried_after, rest, Allows, Splits, Joins, opening, Final, Seen}
use Rattle.atomic_table.proofs.Lists.{at_set, at_snoc, at_longer, set_again, exchanged}
use Rattle.plant_lock.specs.declared.view.View.{View}
use Rattle.plant_lock.specs.declared.view.Stage.{Stage}
use Rattle.plant_lock.specs.declared.view.Stage.TheVariants.{Idle, Waits, Turns, Holds}
use Rattle.plant_lock.specs.Entries.{own, longer}
use Rattle.plant_lock.specs.Law.{Ledger, Stands, Knows, Home, Kept, starting, daughter, joined, spent, ticketed, looked, took, counted, served, numbered, settled}
use Rattle.plant_lock.proofs.ListLemmas.{put, put_here, put_else, set_at, prefix_refl, prefix_nil, prefix_trans, prefix_shorter, longer_cases, own-append, own_all, own_between, own_fresh, below_raised, below_same, below_prefix}
use Rattle.plant_lock.proofs.SeatLemmas.{holds_slot, ticket_or, not_held, after_ticket, after_take, after_serve, after_count, after_number, knows_ticket, knows_take, knows_serve, knows_count, stands_number, knows_number, home_stays, home_found}

at_one : {A : Type 0} (a : A) (i : ℕ) (b : A) → get_elem? (a ∷ []) i ≡ some b → (i ≡ 0) × (a ≡ b)
at_one a zero b e = (refl, some-injective a b e)
at_one a (suc i) b e = absurd (some-ne-none b (sym e))

abbrev state_or : {S : Type 0} → S → List (ℕ × Option S) → S
state_or d [] = d
state_or d (x ∷ xs) = unwrap_or x.1 d

module _ {S E F : Type 0} (entries : S → List E) (by : E → ℕ) (frame : S → F) (f : F) where
  abbrev V : Type 0
  V = View E

  abbrev St : Type 0
  St = State (Option S) V

  abbrev M : Type 0
  M = Me (Option S) V

  abbrev Homes : Type 0
  Homes = List (maybe.Option (Option S))

  abbrev Rule : St → Type 0
  Rule = Kept entries by frame f

  seats_stay : (K K' : ℕ → V → Type 0) (vs : List V) (id : ℕ) (w : V) → K' id w → ((j : ℕ) (d : V) → j ≢ id → K j d → K' j d) → ((j : ℕ) (d : V) → get_elem? vs j ≡ some d → K j d)
      → (j : ℕ) (d : V) → get_elem? (set vs id w) j ≡ some d → K' j d
  seats_stay K K' vs id w mine others all j d e = ⊎_elim (λ (t : (j ≡ id) × (w ≡ d)). subst (λ (x : ℕ × V). K' x.0 x.1) (λ i. (sym t.0 i, t.1 i)) mine)
      (λ (t : (j ≢ id) × (get_elem? vs j ≡ some d)). others j d t.0 (all j d t.1)) (at_set vs id j w d e)

  moved : (s : St) (r : Rule s) (l : Ledger E) (words' : List ℕ) (homes' : Homes) (id : ℕ) (w : V) → words' ≡ l.tickets ∷ l.serving ∷ length l.history ∷ l.next ∷ []
      → (l.serving ≤ l.tickets) × (l.tickets < 18446744073709551616) → 0 < l.next → Home entries frame f l homes' (set s.views id w) l.out → Knows by l id w
      → ((j : ℕ) (d : V) → j ≢ id → Knows by r.ledger j d → Knows by l j d) → All (λ e. by e < l.next) l.history
      → Rule record { words = words'; homes = homes'; views = set s.views id w }
  moved s r l words' homes' id w words_are in_order positive home mine others undrawn = record {
    ledger = l;
    words_are = words_are;
    in_order = in_order;
    positive = positive;
    home = home;
    seats = seats_stay (Knows by r.ledger) (Knows by l) s.views id w mine others r.seats;
    undrawn = undrawn;
  }

  -- a load after which the seat has the view w
  loads : (s : St) (r : Rule s) (i id : ℕ) (v w : V) → get_elem? s.views id ≡ some v → (v.stage ≡ Holds → w.stage ≡ Holds) → Knows by r.ledger id w
      → Rule record { words = set s.words i (get_or s.words i 0); homes = s.homes; views = set s.views id w }
  loads s r i id v w at held known = moved s r r.ledger (set s.words i (get_or s.words i 0)) s.homes id w (set-get_or s.words i 0 ∙ r.words_are) r.in_order r.positive
      (home_stays entries frame f r.ledger s.homes s.views id v w at held r.ledger.out r.home) known (λ j d _ k. k) r.undrawn

  still : (s : St) (r : Rule s) (i id : ℕ) (v : V) → get_elem? s.views id ≡ some v → Rule record { words = set s.words i (get_or s.words i 0); homes = s.homes; views = set s.views id v }
  still s r i id v at = loads s r i id v v at (λ h. h) (r.seats id v at)

  stands : (s : St) (r : Rule s) (id : ℕ) (v : V) (st : Stage) → get_elem? s.views id ≡ some v → v.stage ≡ st → Stands r.ledger id v.seen st
  stands s r id v st at is = subst (Stands r.ledger id v.seen) is (r.seats id v at).stands

  ticket_home : (s : St) (r : Rule s) (id : ℕ) (b : Bool) → Home entries frame f r.ledger s.homes s.views b → Home entries frame f (after_ticket r.ledger id) s.homes s.views b
  ticket_home s r id false h = h
  ticket_home s r id true h = let l : Ledger E = r.ledger in let st = stands s r (l.owner l.serving) h.1.0 Holds h.1.1 h.1.2 in let a = st.0 in
      (h.0, (h.1.0, ap (get_elem? s.views) (put_else l.owner l.tickets id l.serving (λ e. omega arith)) ∙ h.1.1, h.1.2))

  pub draws_ticket : (slots id : ℕ) (me : M) (old : ℕ) → me.0.stage ≡ Idle → old + 1 < 18446744073709551616
      → Allows Rule slots id me 0 (λ n. either (eqb n old) (old + 1) n) (ticketed (step slots 0 old (old + 1) none) me)
  draws_ticket slots id me old idle fits s r deep at _ = let l : Ledger E = r.ledger in let k : ℕ = get_or s.words 0 0 in let k_is : k ≡ l.tickets = ap (λ (ws : List ℕ). get_or ws 0 0) r.words_are in
      exchanged k old (old + 1)
      (λ x. (w : V) × (a : Act (Option S)) × Valid s.homes me.1 a × Rule (stepped s 0 x id me.1 w a) × ticketed (step slots 0 old (old + 1) none) me k (w, carried_after me.1 a))
      (λ hit. let w : V = record me.0 { stage = Waits old } in let e : l.tickets ≡ old = sym k_is ∙ hit in let le = r.in_order.0 in let known = r.seats id me.0 at in (
        w,
        keeps,
        tt,
        moved s r (after_ticket l id) (set s.words 0 (old + 1)) s.homes id w
            (ap (λ (ws : List ℕ). set ws 0 (old + 1)) r.words_are ∙ ap (λ (z : ℕ). (z + 1) ∷ l.serving ∷ length l.history ∷ l.next ∷ []) (sym e)) (omega arith, omega arith) r.positive
            (home_stays entries frame f (after_ticket l id) s.homes s.views id me.0 w at (λ h. absurd (not_held me.0.stage (ap holds_slot idle) h)) l.out (ticket_home s r id l.out r.home))
            record {
              sees = known.sees;
              saw = known.saw;
              heard = known.heard;
              below = known.below;
              makes = known.makes;
              stands = (omega arith, omega arith, ap (put l.owner l.tickets id) (sym e) ∙ put_here l.owner l.tickets id);
            }
            (λ j d _ k'. knows_ticket by l id j d le k') r.undrawn,
        ((λ _. refl), λ miss. absurd (miss hit)),
      ))
      (λ miss. (me.0, keeps, tt, still s r 0 id me.0 at, ((λ hit. absurd (miss hit)), λ _. refl)))

  pub looks : (slots id : ℕ) (me : M) (t : ℕ) → me.0.stage ≡ Waits t → Allows Rule slots id me 1 (λ n. n) (looked by (step slots 1 0 0 none) me)
  looks slots id me t waits s r deep at _ = let l : Ledger E = r.ledger in let k : ℕ = get_or s.words 1 0 in let k_is : k ≡ l.serving = ap (λ (ws : List ℕ). get_or ws 1 0) r.words_are in
      dite (ℕ_discrete k t)
      (λ hit. let w : V = record me.0 { seen = l.history; stage = Turns } in let e : l.serving ≡ t = sym k_is ∙ hit in let known = r.seats id me.0 at in
      let st : Stands l id me.0.seen (Waits t) = stands s r id me.0 (Waits t) at waits in let lt = st.1 in (
        w,
        keeps,
        tt,
        loads s r 1 id me.0 w at (λ h. absurd (not_held me.0.stage (ap holds_slot waits) h)) record {
          sees = prefix_refl l.history;
          saw = known.saw;
          heard = known.heard;
          below = known.below;
          makes = λ d. let m = known.makes d in (m.0, m.2, m.2);
          stands = (omega arith, ap l.owner e ∙ st.2, refl);
        },
        (refl, λ t' is. ((λ _. (l.history, refl, known.sees, λ d. (known.makes d).2)), λ miss. absurd (miss (hit ∙ ap (ticket_or t) (sym waits ∙ is))))),
      ))
      (λ miss. (me.0, keeps, tt, still s r 1 id me.0 at, (refl, λ t' is. ((λ hit. absurd (miss (hit ∙ sym (ap (ticket_or t) (sym waits ∙ is))))), λ _. refl))))

  pub takes_slot : (slots id : ℕ) (me : M) (g : Option F) → g ≡ Some f → me.0.stage ≡ Turns → Allows Rule slots id me 1 (λ n. n) (took entries frame g (step slots 1 0 0 none) me)
  takes_slot slots id me g is_f turns s r deep at _ = let l : Ledger E = r.ledger in let w : V = record me.0 { stage = Holds } in let known = r.seats id me.0 at in let st : Stands l id me.0.seen Turns = stands s r id me.0 Turns at turns in
      let found = home_found entries frame f l s.homes s.views id me.0 at st.1 (not_held me.0.stage (ap holds_slot turns)) l.out r.home in let x : S = found.0 in (
        w,
        takes 0 (Some x),
        ap (λ (hs : Homes). get_elem? hs 0) found.1,
        moved s r (after_take l) (set s.words 1 (get_or s.words 1 0)) (set s.homes 0 none) id w (set-get_or s.words 1 0 ∙ r.words_are) r.in_order r.positive
            (ap (λ (hs : Homes). set hs 0 none) found.1, (w, ap (get_elem? (set s.views id w)) st.1 ∙ set_at s.views id me.0 w at, refl))
            record {
              sees = known.sees;
              saw = known.saw;
              heard = known.heard;
              below = known.below;
              makes = known.makes;
              stands = (st.0, st.1, st.2, refl);
            }
            (λ j d other k'. knows_take by l id j d other st.1 k') r.undrawn,
        (x, refl, found.2 ∙ sym st.2, is_f ∙ ap Some (sym found.3)),
      )

  pub counts : (slots id : ℕ) (me : M) (x : S) (new : List E) (added : ℕ) → me.0.stage ≡ Holds → me.0.drawn ≡ true → me.1 ≡ (0, Some x) ∷ [] → entries x ≡ me.0.seen ++ new → All (λ e. by e ≡ me.0.number) new
      → length new ≡ added → length (entries x) < 18446744073709551616 → Allows Rule slots id me 2 (λ n. (n + added) % 2 ^ 64) (counted entries by (step slots 2 added 0 none) me)
  counts slots id me x new added holds drawn carried longer_by all long fits s r deep at _ = let l : Ledger E = r.ledger in let k : ℕ = get_or s.words 2 0 in
      let k_is : k ≡ length l.history = ap (λ (ws : List ℕ). get_or ws 2 0) r.words_are in let known = r.seats id me.0 at in let st : Stands l id me.0.seen Holds = stands s r id me.0 Holds at holds in
      let m = known.makes drawn in let whole : entries x ≡ l.history ++ new = longer_by ∙ ap (λ (xs : List E). xs ++ new) st.2 in let sum' = length-append l.history new in
      let size : length (entries x) ≡ length l.history + length new = ap length whole ∙ sum' in let fits' : k + added < 18446744073709551616 = omega arith in
      let sum_is : k + added ≡ length (l.history ++ new) = omega arith in let now : (k + added) % 2 ^ 64 ≡ length (l.history ++ new) = mod-eq_of_lt fits' ∙ sum_is in let rest_is : drop (length me.0.seen) (entries x) ≡ new = ap (drop (length me.0.seen)) longer_by ∙ drop-append_seam me.0.seen new in
      let own_new : own by me.0.number (l.history ++ new) ≡ me.0.mine ++ new = own-append by me.0.number l.history new ∙ ap₂' (λ (xs ys : List E). xs ++ ys) m.2 (own_all by me.0.number new all) in
      let own_is : own by me.0.number (entries x) ≡ me.0.mine ++ drop (length me.0.seen) (entries x) = ap (own by me.0.number) whole ∙ (own_new ∙ ap (λ (ys : List E). me.0.mine ++ ys) (sym rest_is)) in
      let w : V = record me.0 { seen = entries x; mine = me.0.mine ++ drop (length me.0.seen) (entries x) } in
      let Tells : S → Type 0 = λ z. ((w, me.1) ≡ (record me.0 { seen = entries z; mine = me.0.mine ++ drop (length me.0.seen) (entries z) }, me.1))
      × (own by me.0.number (entries z) ≡ me.0.mine ++ drop (length me.0.seen) (entries z)) in
      let h : Home entries frame f l s.homes s.views true = subst (Home entries frame f l s.homes s.views) st.3 r.home in (
        w,
        keeps,
        tt,
        moved s r (after_count l new) (set s.words 2 ((k + added) % 2 ^ 64)) s.homes id w
            (ap (λ (ws : List ℕ). set ws 2 ((k + added) % 2 ^ 64)) r.words_are ∙ ap (λ (z : ℕ). l.tickets ∷ l.serving ∷ z ∷ l.next ∷ []) now) r.in_order r.positive
            (subst (Home entries frame f (after_count l new) s.homes (set s.views id w)) (sym st.3) (h.0, (w, ap (get_elem? (set s.views id w)) st.1 ∙ set_at s.views id me.0 w at, holds)))
            record {
              sees = ([], append-nil (entries x) ∙ whole);
              saw = prefix_trans me.0.before l.history (l.history ++ new) known.saw (new, refl);
              heard = prefix_trans me.0.told l.history (l.history ++ new) known.heard (new, refl);
              below = known.below;
              makes = λ _. (m.0, own_is, ap (own by me.0.number) (sym whole) ∙ own_is);
              stands = subst (Stands (after_count l new) id (entries x)) (sym holds) (st.0, st.1, whole, st.3);
            }
            (λ j d other k'. knows_count by l new me.0.number id j d all m.0 other st.1 k')
            (All-append (λ e. by e < l.next) l.history new r.undrawn (below_same by me.0.number l.next new all known.below.0)),
        λ x' carried'. subst Tells (ap (state_or x) (sym carried ∙ carried')) (refl {a = (w, me.1)}, own_is),
      )
    where
      ap₂' : (g : List E → List E → List E) {a b c d : List E} → a ≡ b → c ≡ d → g a c ≡ g b d
      ap₂' g p q = λ i. g (p i) (q i)

  pub serves : (slots id : ℕ) (me : M) (x : S) → me.0.stage ≡ Holds → me.1 ≡ (0, Some x) ∷ [] → entries x ≡ me.0.seen → frame x ≡ f
      → Allows Rule slots id me 1 (λ n. (n + 1) % 2 ^ 64) (served (step slots 1 1 0 none) me)
  serves slots id me x holds carried has is_f s r deep at _ = let l : Ledger E = r.ledger in let k : ℕ = get_or s.words 1 0 in let k_is : k ≡ l.serving = ap (λ (ws : List ℕ). get_or ws 1 0) r.words_are in
      let known = r.seats id me.0 at in let st : Stands l id me.0.seen Holds = stands s r id me.0 Holds at holds in let lt = st.0 in let most = r.in_order.1 in let fits : k + 1 < 18446744073709551616 = omega arith in
      let now : (k + 1) % 2 ^ 64 ≡ l.serving + 1 = mod-eq_of_lt fits ∙ ap (λ (z : ℕ). z + 1) k_is in let w : V = record me.0 { stage = Idle } in let y : ℕ = (k + 1) % 2 ^ 64 in
      let h : Home entries frame f l s.homes s.views true = subst (Home entries frame f l s.homes s.views) st.3 r.home in (
        w,
        gives,
        tt,
        subst (λ (cs : List (ℕ × Option S)). Rule (stepped s 1 y id cs w gives)) (sym carried)
            (moved s r (after_serve l) (set s.words 1 y) (set s.homes 0 (some (Some x))) id w
            (ap (λ (ws : List ℕ). set ws 1 y) r.words_are ∙ ap (λ (z : ℕ). l.tickets ∷ z ∷ length l.history ∷ l.next ∷ []) now) (omega arith, most) r.positive
            (x, ap (λ (hs : Homes). set hs 0 (some (Some x))) h.0, has ∙ st.2, is_f)
            record {
              sees = known.sees;
              saw = known.saw;
              heard = known.heard;
              below = known.below;
              makes = known.makes;
              stands = tt;
            }
            (λ j d other k'. knows_serve by l id j d other st.1 k') r.undrawn),
        λ c. (w, rest (carried c)),
      )

  pub draws_number : (slots id : ℕ) (me : M) (old : ℕ) → me.0.drawn ≡ false → me.0.mine ≡ []
      → Allows Rule slots id me 3 (λ n. either (eqb n old) (old + 1) n) (numbered by (step slots 3 old (old + 1) none) me)
  draws_number slots id me old undrawn none_yet s r deep at _ = let l : Ledger E = r.ledger in let k : ℕ = get_or s.words 3 0 in let k_is : k ≡ l.next = ap (λ (ws : List ℕ). get_or ws 3 0) r.words_are in
      exchanged k old (old + 1)
      (λ x. (w : V) × (a : Act (Option S)) × Valid s.homes me.1 a × Rule (stepped s 3 x id me.1 w a) × numbered by (step slots 3 old (old + 1) none) me k (w, carried_after me.1 a))
      (λ hit. let w : V = record me.0 { drawn = true; number = old; latest = old } in let e : l.next ≡ old = sym k_is ∙ hit in let known = r.seats id me.0 at in let low = known.below.0 in let low' = known.below.1 in
      let all : All (λ d. by d < old) l.history = subst (λ (z : ℕ). All (λ d. by d < z) l.history) e r.undrawn in let all' = below_prefix by old me.0.seen l.history known.sees all in
      let free = own_fresh by old old l.history all (omega arith) in let free' = own_fresh by old old me.0.seen all' (omega arith) in (
        w,
        keeps,
        tt,
        moved s r (after_number l id) (set s.words 3 (old + 1)) s.homes id w
            (ap (λ (ws : List ℕ). set ws 3 (old + 1)) r.words_are ∙ ap (λ (z : ℕ). l.tickets ∷ l.serving ∷ length l.history ∷ (z + 1) ∷ []) (sym e)) r.in_order (omega arith)
            (number_home s r id (set s.views id w) l.out (home_stays entries frame f l s.homes s.views id me.0 w at (λ h. h) l.out r.home))
            record {
              sees = known.sees;
              saw = known.saw;
              heard = known.heard;
              below = (omega arith, omega arith);
              makes = λ _. (ap (put l.drawer l.next id) (sym e) ∙ put_here l.drawer l.next id, free' ∙ sym none_yet, free ∙ sym none_yet);
              stands = stands_number by l id id me.0.seen me.0.stage known.stands;
            }
            (λ j d _ k'. knows_number by l id j d k') (below_raised by l.next (l.next + 1) l.history r.undrawn (omega arith)),
        ((λ _. (refl, omega arith, all')), λ miss. absurd (miss hit)),
      ))
      (λ miss. (me.0, keeps, tt, still s r 3 id me.0 at, ((λ hit. absurd (miss hit)), λ _. refl)))
    where
      number_home : (s : St) (r : Rule s) (id : ℕ) (views : List V) (b : Bool) → Home entries frame f r.ledger s.homes views b → Home entries frame f (after_number r.ledger id) s.homes views b
      number_home s r id views false h = h
      number_home s r id views true h = h

  pub settles : (slots id : ℕ) (me : M) → length me.0.before ≤ length me.0.seen → length me.0.told ≤ length me.0.seen → Allows Rule slots id me 2 (λ n. n) (settled by (step slots 2 0 0 none) me)
  settles slots id me one other s r deep at _ = let l : Ledger E = r.ledger in let w : V = record me.0 { before = []; told = [] } in let known = r.seats id me.0 at in (
    w,
    keeps,
    tt,
    loads s r 2 id me.0 w at (λ h. h) record {
      sees = known.sees;
      saw = prefix_nil l.history;
      heard = prefix_nil l.history;
      below = known.below;
      makes = known.makes;
      stands = known.stands;
    },
    (refl, prefix_shorter me.0.before me.0.seen l.history known.saw known.sees one, prefix_shorter me.0.told me.0.seen l.history known.heard known.sees other, λ d. (known.makes d).1),
  )

  fresh : (l : Ledger E) (id j : ℕ) (v : V) → Knows by l id v → Knows by l j (daughter v)
  fresh l id j v k = let low = k.below.0 in record {
    sees = k.sees;
    saw = prefix_nil l.history;
    heard = prefix_nil l.history;
    below = (omega arith, k.below.1);
    makes = λ d. absurd (true≢false (sym d));
    stands = tt;
  }

  home_grows : (l : Ledger E) (homes : Homes) (views more : List V) (b : Bool) → Home entries frame f l homes views b → Home entries frame f l homes (views ++ more) b
  home_grows l homes views more false h = h
  home_grows l homes views more true h = (h.0, (h.1.0, at_longer views more (l.owner l.serving) h.1.0 h.1.1, h.1.2))

  pub splits : (id : ℕ) (v : V) → Splits Rule id v v (daughter v)
  splits id v s r at = let l : Ledger E = r.ledger in let same : set s.views id v ≡ s.views = set_again s.views id v at in record {
    ledger = l;
    words_are = r.words_are;
    in_order = r.in_order;
    positive = r.positive;
    home = home_grows l s.homes (set s.views id v) (daughter v ∷ []) l.out (subst (λ (vs : List V). Home entries frame f l s.homes vs l.out) (sym same) r.home);
    seats = λ j d e. ⊎_elim (λ (t : get_elem? (set s.views id v) j ≡ some d). r.seats j d (sym (ap (λ (vs : List V). get_elem? vs j) same) ∙ t))
        (λ (t : daughter v ≡ d). subst (Knows by l j) t (fresh l id j v (r.seats id v at))) (at_snoc (set s.views id v) (daughter v) d j e);
    undrawn = r.undrawn;
  }

  none_left : (l : Ledger E) (j : ℕ) → 0 < l.next → Knows by l j spent
  none_left l j positive = record {
    sees = prefix_nil l.history;
    saw = prefix_nil l.history;
    heard = prefix_nil l.history;
    below = (positive, positive);
    makes = λ d. absurd (true≢false (sym d));
    stands = tt;
  }

  both_known : (l : Ledger E) (id other : ℕ) (v w : V) → v.stage ≡ Idle → Knows by l id v → Knows by l other w → Knows by l id (joined v w)
  both_known l id other v w idle k k' = let a = k.below.1 in let b = k'.below.1 in let most = max-le {a = v.latest} {b = w.latest} {k = l.next - 1} (omega arith) (omega arith) in record {
    sees = longer_cases v.seen w.seen (λ (xs : List E). IsPrefix xs l.history) (λ _. k.sees) (λ _. k'.sees);
    saw = k.sees;
    heard = k'.sees;
    below = (k.below.0, omega arith);
    makes = λ d. let m = k.makes d in (
      m.0,
      longer_cases v.seen w.seen (λ (xs : List E). own by v.number xs ≡ v.mine) (λ _. m.1)
          (λ lt. own_between by v.number v.mine v.seen w.seen l.history (prefix_shorter v.seen w.seen l.history k.sees k'.sees (omega arith)) k'.sees m.1 m.2),
      m.2,
    );
    stands = subst (Stands l id (longer v.seen w.seen)) (sym idle) tt;
  }

  pub joins : (id : ℕ) (v : V) (other : ℕ) (w : V) → v.stage ≡ Idle → w.stage ≡ Idle → Joins Rule id v other w (joined v w) spent
  joins id v other w idle idle' s r at apart there = let l : Ledger E = r.ledger in let b : V = joined v w in
      let there' : get_elem? s.views other ≡ some w = ⊎_elim (λ (t : (other ≡ id) × (b ≡ w)). absurd (apart t.0)) (λ (t : (other ≢ id) × (get_elem? s.views other ≡ some w)). t.1) (at_set s.views id other b w there) in record {
        ledger = l;
        words_are = r.words_are;
        in_order = r.in_order;
        positive = r.positive;
        home = home_stays entries frame f l s.homes (set s.views id b) other w spent there (λ h. absurd (not_held w.stage (ap holds_slot idle') h)) l.out
            (home_stays entries frame f l s.homes s.views id v b at (λ h. h) l.out r.home);
        seats = seats_stay (Knows by l) (Knows by l) (set s.views id b) other spent (none_left l other r.positive) (λ j d _ k. k)
            (seats_stay (Knows by l) (Knows by l) s.views id b (both_known l id other v w idle (r.seats id v at) (r.seats other w there')) (λ j d _ k. k) r.seats);
        undrawn = r.undrawn;
      }

  pub starts : (x : S) (first count next : ℕ) → frame x ≡ f → count ≡ length (entries x) → next ≡ first + 1 → All (λ e. by e < first) (entries x)
      → Rule (opening (0 ∷ 0 ∷ count ∷ next ∷ []) (Some x ∷ []) (starting first (entries x)))
  starts x first count next of_f long after all = let h : List E = entries x in let v : V = starting first h in
      let l : Ledger E = record { history = h; tickets = 0; serving = 0; next = next; owner = λ _. 0; drawer = λ _. 0; out = false } in record {
        ledger = l;
        words_are = ap (λ (z : ℕ). 0 ∷ 0 ∷ z ∷ next ∷ []) long;
        in_order = (omega arith, omega arith);
        positive = omega arith;
        home = (x, refl, refl, of_f);
        seats = λ j d e. let t = at_one v j d e in subst (λ (z : ℕ × V). Knows by l z.0 z.1) (λ i. (sym t.0 i, t.1 i)) record {
          sees = prefix_refl h;
          saw = prefix_nil h;
          heard = prefix_nil h;
          below = (omega arith, omega arith);
          makes = λ _. (refl, own_fresh by first first h all (omega arith), own_fresh by first first h all (omega arith));
          stands = tt;
        };
        undrawn = below_raised by first next h all (omega arith);
      }

  -- what is left of a table that is closed by the seat whose turn it is
  pub ends : (id : ℕ) (v : V) (words : List ℕ) (slots : List (Option S)) (got : Option S) → v.stage ≡ Turns → Final (Seen Rule id v) words slots → get_elem? slots 0 ≡ some got
      → (x : S) × (got ≡ Some x) × (entries x ≡ v.seen) × (frame x ≡ f)
  ends id v words slots got turns done there = let s : St = done.0 in let r : Rule s = done.1.0 in let at = done.1.1 in let l : Ledger E = r.ledger in let st : Stands l id v.seen Turns = stands s r id v Turns at turns in
      let found = home_found entries frame f l s.homes s.views id v at st.1 (not_held v.stage (ap holds_slot turns)) l.out r.home in
      let here : get_elem? slots 0 ≡ some (Some found.0) = done.4 0 (Some found.0) (ap (λ (hs : Homes). get_elem? hs 0) found.1) in
      (found.0, some-injective got (Some found.0) (sym there ∙ here), found.2 ∙ sym st.2, found.3)
