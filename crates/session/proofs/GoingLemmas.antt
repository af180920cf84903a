-- How an access goes on.
use Rattle.std.proofs.Common.{◌≡◌, ◌≤◌, ◌+◌, ℕ, List, [], ◌∷◌, ◌++◌, length, refl, sym, ap, ◌∙◌, arith, append_assoc}
use Rattle.std.proofs.lemmas.List.{append-nil, length-append}
use Rattle.day_rows.specs.declared.entry.Entry.{Entry}
use Rattle.plant_core.specs.Access.{AccessView, SeesMore}
use Rattle.q_values.specs.declared.turn.Turn.{Turn}
use Rattle.q_values.specs.declared.turn.Turn.TheVariants.{Logged, Rolled, Refused, Failed, Quiet, Answered, Subscribed, Told, TooLong}
use Rattle.session.specs.Lawful.{AllGoOn, GoesOn, length_after, last_length}
use Rattle.session.specs.Run.{Advances, advanced}

abbrev pub at_most : ℕ → ℕ → Type 0
at_most a b = a ≤ b

abbrev pub just : ℕ → ℕ → Type 0
just a b = a ≡ b

lower_one : (n m : ℕ) (t : Turn) → n ≤ m → GoesOn at_most m t → GoesOn at_most n t × (length_after n t ≤ length_after m t)
lower_one n m (Logged place now) le h = (omega arith, omega arith)
lower_one n m (Rolled place now) le h = (omega arith, omega arith)
lower_one n m (Refused count now) le h = (omega arith, omega arith)
lower_one n m (Failed place now) le h = (omega arith, omega arith)
lower_one n m (Quiet count now) le h = (omega arith, omega arith)
lower_one n m (Answered count) le h = (omega arith, omega arith)
lower_one n m (Subscribed count) le h = (omega arith, omega arith)
lower_one n m (Told from to) le h = (omega arith, omega arith)
lower_one n m (TooLong from to) le h = (omega arith, omega arith)
lower_one n m t le h = (tt, le)

-- lengths that begin lower
pub go_on-lower : (n m : ℕ) (ts : List Turn) → n ≤ m → AllGoOn at_most m ts → AllGoOn at_most n ts × (last_length n ts ≤ last_length m ts)
go_on-lower n m [] le h = (tt, le)
go_on-lower n m (t ∷ ts) le h =
    let one = lower_one n m t le h.0 in
    let rest = go_on-lower (length_after n t) (length_after m t) ts one.1 h.1 in
    ((one.0, rest.0), rest.1)

weaker_one : (n : ℕ) (t : Turn) → GoesOn just n t → GoesOn at_most n t
weaker_one n (Logged place now) h = omega (arith, h)
weaker_one n (Rolled place now) h = omega (arith, h)
weaker_one n (Refused count now) h = omega (arith, h)
weaker_one n (Failed place now) h = omega (arith, h)
weaker_one n (Quiet count now) h = omega (arith, h)
weaker_one n (Answered count) h = omega (arith, h)
weaker_one n (Subscribed count) h = omega (arith, h)
weaker_one n (Told from to) h = omega (arith, h)
weaker_one n (TooLong from to) h = omega (arith, h)
weaker_one n t h = h

-- lengths that go on exactly never fall
pub go_on-weaker : (n : ℕ) (ts : List Turn) → AllGoOn just n ts → AllGoOn at_most n ts
go_on-weaker n [] h = tt
go_on-weaker n (t ∷ ts) h = (weaker_one n t h.0, go_on-weaker (length_after n t) ts h.1)

-- an access that saw what others made, and then made entries whose turns tell each length
pub advances : (a b : AccessView) (others made : List Entry) (turns : List Turn) (asked ticked : ℕ)
    → SeesMore a others
    → b ≡ advanced a (others ++ made) made asked ticked
    → AllGoOn just (length (a.seen ++ others)) turns
    → last_length (length (a.seen ++ others)) turns ≡ length ((a.seen ++ others) ++ made)
    → Advances a b turns made asked ticked
advances a b others made turns asked ticked saw after each last =
    let seen : b.seen ≡ (a.seen ++ others) ++ made = ap (λ (v : AccessView). v.seen) after ∙ sym (append_assoc a.seen others made) in
    let size : length b.seen ≡ length ((a.seen ++ others) ++ made) = ap length seen in
    let front : length (a.seen ++ others) ≡ length a.seen + length others = rw length-append refl in
    let lower = go_on-lower (length a.seen) (length (a.seen ++ others)) turns (omega arith) (go_on-weaker (length (a.seen ++ others)) turns each) in
    record {
      gained = others ++ made;
      after = after;
      lengths = record { rising = lower.0; within = let l = lower.1 in omega arith };
      alone = λ only.
          let none : a.seen ++ others ≡ a.seen = ap (λ o. a.seen ++ o) (saw.alone only) ∙ append-nil a.seen in
          record { each = rw none at each; last = (rw none at last) ∙ ap (λ l. length (l ++ made)) (sym none) ∙ sym size };
    }

rises_one : (n : ℕ) (t : Turn) → GoesOn at_most n t → n ≤ length_after n t
rises_one n (Logged place now) h = omega (arith, h)
rises_one n (Rolled place now) h = omega (arith, h)
rises_one n (Refused count now) h = omega (arith, h)
rises_one n (Failed place now) h = omega (arith, h)
rises_one n (Quiet count now) h = omega (arith, h)
rises_one n (Answered count) h = omega (arith, h)
rises_one n (Subscribed count) h = omega (arith, h)
rises_one n (Told from to) h = omega (arith, h)
rises_one n (TooLong from to) h = omega (arith, h)
rises_one n t h = omega arith

-- lengths that never fall end no lower than they begin
pub go_on-rises : (n : ℕ) (ts : List Turn) → AllGoOn at_most n ts → n ≤ last_length n ts
go_on-rises n [] h = omega arith
go_on-rises n (t ∷ ts) h = omega (arith, rises_one n t h.0, go_on-rises (length_after n t) ts h.1)
