-- What serving a read timeout gives.
use Rattle.std.proofs.Common.{◌≡◌, ◌+◌, ℕ, ℤ, List, [], ◌∷◌, ◌++◌, length, refl, sym, ap, ◌∙◌, arith, append_assoc, Option, None, inl, inr}
use Rattle.std.proofs.lemmas.List.{append-nil, length-append}
use Rattle.day_rows.specs.declared.entry.Entry.{Entry}
use Rattle.day_rows.specs.declared.entry.Entry.TheVariants as e
use Rattle.outside_api.specs.Told.{told}
use Rattle.plant_core.specs.Access.{AccessView, Waits, Rolls, FailsRoll, Wants, next_count}
use Rattle.plant_memory.specs.Memory.{next_roll}
use Rattle.q_values.specs.declared.turn.Turn.TheVariants as t
use Rattle.session.specs.Answering.{Does, turns_by, sent_by}
use Rattle.session.specs.Lawful.{AllGoOn, last_length}
use Rattle.session.specs.Run.{advanced}
use Rattle.session.specs.Served.{ServesIdle}
use Rattle.session.specs.State.{State}
use Rattle.session.specs.declared.answer.Answer.{Answer}
use Rattle.session.proofs.GoingLemmas.{advances, just}
use Rattle.session.proofs.ServedLemmas.{advances_idle, tells_short}

-- what a read timeout leaves
idle_after : (a b : AccessView) (others : List Entry) → b ≡ record a { seen = a.seen ++ others; ticks = next_count a.ticks } → b ≡ advanced a others [] 0 1
idle_after a b others after = after ∙ ap (λ m. record a { seen = a.seen ++ others; mine = m; ticks = next_count a.ticks }) (sym (append-nil a.mine))

pub does_quiet : (a b : AccessView) (before : State) (k k' : Option (List ℤ)) (now : ℤ) (count : ℕ) (answer : Answer) → k' ≡ told k (now ∷ []) → Waits a b now count → answer.roll ≡ None → answer.turn ≡ t.Quiet count now → sent_by answer.reply ≡ [] → Does (ServesIdle a.frame a.by b.seen before) k k' a b answer
does_quiet a b before k k' now count answer read l roll turn unsent =
    let turns : turns_by answer.roll answer.turn ≡ t.Quiet count now ∷ [] = rw (roll, turn) refl in
    let seen : b.seen ≡ a.seen ++ l.others = ap (λ (v : AccessView). v.seen) l.after in
    record {
      readings = now ∷ [];
      made = [];
      asked = 0;
      ticked = 1;
      clock = read;
      access = advances_idle a b l.others (turns_by answer.roll answer.turn) 0 1 l.saw (idle_after a b l.others l.after) (rw turns (record { each = (sym l.length, tt); last = l.length }));
      done = record {
        unsent = unsent;
        done = inl (record { count = count; front = a.seen ++ l.others; is_front = record { count = l.length; more = []; whole = seen ∙ sym (append-nil (a.seen ++ l.others)) }; now = now; same = l.early; noted = turns; read = refl; unmade = refl; asked = (refl, refl) });
      };
    }

pub does_short_idle : (a b : AccessView) (before : State) (k k' : Option (List ℤ)) (now : ℤ) (answer : Answer) → before.known ≡ length a.seen → k' ≡ told k (now ∷ []) → Wants a b now → answer.roll ≡ None → answer.turn ≡ t.Short → sent_by answer.reply ≡ [] → Does (ServesIdle a.frame a.by b.seen before) k k' a b answer
does_short_idle a b before k k' now answer knows read l roll turn unsent =
    let turns : turns_by answer.roll answer.turn ≡ t.Short ∷ [] = rw (roll, turn) refl in
    let seen : b.seen ≡ a.seen ++ l.others = ap (λ (v : AccessView). v.seen) l.after in
    record {
      readings = now ∷ [];
      made = [];
      asked = 0;
      ticked = 1;
      clock = read;
      access = advances_idle a b l.others (turns_by answer.roll answer.turn) 0 1 l.saw (idle_after a b l.others l.after) (rw turns (tells_short (length (a.seen ++ l.others))));
      done = record {
        unsent = unsent;
        done = inr (inr (inr (record {
          count = length (a.seen ++ l.others);
          front = a.seen ++ l.others;
          is_front = record { count = refl; more = []; whole = seen ∙ sym (append-nil (a.seen ++ l.others)) };
          known = omega (arith, knows, length-append a.seen l.others);
          now = now;
          next = l.due;
          noted = turns;
          read = refl;
          unmade = refl;
          asked = (refl, refl);
        })));
      };
    }

pub does_rolled : (a b : AccessView) (before : State) (k k' : Option (List ℤ)) (now : ℤ) (place : ℕ) (answer : Answer) → k' ≡ told k (now ∷ []) → Rolls a b now place → answer.roll ≡ None → answer.turn ≡ t.Rolled place now → sent_by answer.reply ≡ [] → Does (ServesIdle a.frame a.by b.seen before) k k' a b answer
does_rolled a b before k k' now place answer read l roll turn unsent =
    let n = length (a.seen ++ l.others) in
    let entry = next_roll a.frame.first (a.seen ++ l.others) a.by in
    let turns : turns_by answer.roll answer.turn ≡ t.Rolled n now ∷ [] = rw (roll, turn, l.at_end) refl in
    let seen : b.seen ≡ (a.seen ++ l.others) ++ entry ∷ [] = ap (λ (v : AccessView). v.seen) l.after in
    let each : AllGoOn just n (turns_by answer.roll answer.turn) = rw turns (refl, tt) in
    let size : n + 1 ≡ length ((a.seen ++ l.others) ++ entry ∷ []) = sym (length-append (a.seen ++ l.others) (entry ∷ [])) in
    let last : last_length n (turns_by answer.roll answer.turn) ≡ length ((a.seen ++ l.others) ++ entry ∷ []) = ap (λ ts. last_length n ts) turns ∙ size in
    let after = l.after ∙ ap (λ s. record a { seen = s; mine = a.mine ++ entry ∷ []; ticks = next_count a.ticks }) (append_assoc a.seen l.others (entry ∷ [])) in
    record {
      readings = now ∷ [];
      made = entry ∷ [];
      asked = 0;
      ticked = 1;
      clock = read;
      access = advances a b l.others (entry ∷ []) (turns_by answer.roll answer.turn) 0 1 l.saw after each last;
      done = record {
        unsent = unsent;
        done = inr (inl (record {
          front = a.seen ++ l.others;
          now = now;
          next = l.due;
          rolled = refl;
          stands = record { more = []; whole = seen ∙ sym (append-nil ((a.seen ++ l.others) ++ entry ∷ [])) };
          noted = turns;
          read = refl;
          asked = (refl, refl);
        }));
      };
    }

pub does_failed_idle : (a b : AccessView) (before : State) (k k' : Option (List ℤ)) (now : ℤ) (place : ℕ) (answer : Answer) → k' ≡ told k (now ∷ []) → FailsRoll a b now place → answer.roll ≡ None → answer.turn ≡ t.Failed place now → sent_by answer.reply ≡ [] → Does (ServesIdle a.frame a.by b.seen before) k k' a b answer
does_failed_idle a b before k k' now place answer read l roll turn unsent =
    let n = length (a.seen ++ l.others) in
    let entry = e.Fault a.by in
    let turns : turns_by answer.roll answer.turn ≡ t.Failed n now ∷ [] = rw (roll, turn, l.at_end) refl in
    let seen : b.seen ≡ (a.seen ++ l.others) ++ entry ∷ [] = ap (λ (v : AccessView). v.seen) l.after in
    let each : AllGoOn just n (turns_by answer.roll answer.turn) = rw turns (refl, tt) in
    let size : n + 1 ≡ length ((a.seen ++ l.others) ++ entry ∷ []) = sym (length-append (a.seen ++ l.others) (entry ∷ [])) in
    let last : last_length n (turns_by answer.roll answer.turn) ≡ length ((a.seen ++ l.others) ++ entry ∷ []) = ap (λ ts. last_length n ts) turns ∙ size in
    let after = l.after ∙ ap (λ s. record a { seen = s; mine = a.mine ++ entry ∷ []; ticks = next_count a.ticks }) (append_assoc a.seen l.others (entry ∷ [])) in
    record {
      readings = now ∷ [];
      made = entry ∷ [];
      asked = 0;
      ticked = 1;
      clock = read;
      access = advances a b l.others (entry ∷ []) (turns_by answer.roll answer.turn) 0 1 l.saw after each last;
      done = record {
        unsent = unsent;
        done = inr (inr (inl (record {
          front = a.seen ++ l.others;
          now = now;
          next = l.due;
          failed = refl;
          stands = record { more = []; whole = seen ∙ sym (append-nil ((a.seen ++ l.others) ++ entry ∷ [])) };
          noted = turns;
          read = refl;
          asked = (refl, refl);
        })));
      };
    }
