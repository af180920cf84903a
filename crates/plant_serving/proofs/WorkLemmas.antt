-- The steps of a server.
use Rattle.std.proofs.Common.{◌≡◌, ◌≢◌, ◌∙◌, ℕ, ◌+◌, ◌<◌, ◌≤◌, ◌^◌, Bool, true, false, ◌||◌, List, [], ◌∷◌, ◌++◌, length, Option, Some, None, refl, sym, ap, subst, append_assoc, append-nil, arith, length-append, true≢false}
use Rattle.std.specs.Prelude.{map, All, IsPermutation}
use Rattle.std.proofs.lemmas.List.{map-append, length-map}
use Rattle.std.proofs.lemmas.List.Elements.{All-head, All-tail, All-nil, All-push, All-weaker}
use Rattle.std.proofs.lemmas.List.Sorted.{IsPermutation-refl, IsPermutation-sym, IsPermutation-trans, IsPermutation-map, IsPermutation-append_left, IsPermutation-append_right, All-permutation, length_permutation}
use mathlib.Core.List.{IsPrefix}
use Rattle.atomic_table.specs.Seated.{TableId}
use Rattle.day_rows.specs.declared.entry.Entry.{Entry}
use Rattle.outside_api.specs.Counts.{counted}
use Rattle.outside_api.specs.Disk.{DiskView}
use Rattle.outside_api.specs.Told.{told}
use Rattle.plant_core.specs.Plant.{PlantView}
use Rattle.plant_lock.proofs.ListLemmas.{prefix_refl, prefix_trans}
use Rattle.plant_lock.specs.Entries.{own}
use Rattle.plant_lock.specs.Told.{Lock, Told}
use Rattle.plant_memory.specs.Chronicle.{by_of}
use Rattle.plant_memory.specs.Memory.{MemoryView}
use Rattle.plant_serving.specs.declared.end.Progress.{Progress}
use Rattle.plant_serving.specs.declared.end.ServeEnd.{ServeEnd}
use Rattle.plant_serving.specs.declared.end.ServeEnd.TheVariants as v
use Rattle.plant_serving.specs.Serving.{Setting, Accepted, Session, Begins, WasServed, IsEnded, NumbersRise, Ends, Serves, back_of, served_of, setting_at, setting_of}
use Rattle.plant_serving.specs.Working.{Promised, IsAwaited, IsStop, IsDone, Works, Finishes, faults_of, is_short_end, end_of}
use Rattle.program_outside.specs.Outside.{OutsideView, IsListening, linked_of, handed_back, with_listen_fault}
use Rattle.program_outside.specs.declared.fault.Cause.{Cause}
use Rattle.q_values.specs.declared.limits.Limits.{Limits}
use Rattle.session.specs.declared.end.End.{End}
use Rattle.session.specs.declared.end.End.TheVariants as e
use Rattle.shared_sessions.specs.Sessions.{Line, IsUnused}

module _ {X : Type 0} where
  told_twice : (before : Option (List X)) (xs ys : List X) → told (told before xs) ys ≡ told before (xs ++ ys)
  told_twice None xs ys = refl
  told_twice (Some all) xs ys = ap Some (append_assoc all xs ys)

  told_nothing : (before : Option (List X)) → told before [] ≡ before
  told_nothing None = refl
  told_nothing (Some all) = ap Some (append-nil all)

  -- what stood before an element and after it
  inserted : (xs ys : List X) (x : X) → (xs ++ x ∷ []) ++ ys ≡ xs ++ (x ∷ ys)
  inserted xs ys x = append_assoc xs (x ∷ []) ys

-- a session whose number is above those before it
rise_snoc : (above : ℕ) (xs : List Accepted) (x : Accepted) → above < x.began.number → All (λ a. a.began.number < x.began.number) xs
    → NumbersRise above xs → NumbersRise above (xs ++ x ∷ [])
rise_snoc above [] x more all h = (more, tt)
rise_snoc above (y ∷ ys) x more all h =
    let P : Accepted → Type 0 = λ a. a.began.number < x.began.number in
    (h.0, rise_snoc y.began.number ys x (All-head P y ys all) (All-tail P y ys all) h.1)

-- a session that ended so was out of memory, or it wasn't
not_short : (end : End) → is_short_end end ≡ false → end ≢ e.NoMemory
not_short end lasts is = true≢false (sym (ap is_short_end is) ∙ lasts)

or_false : (a b : Bool) → (a || b) ≡ false → (a ≡ false) × (b ≡ false)
or_false true b h = absurd (true≢false h)
or_false false b h = (refl, h)

module _ {D : Type 0} (shown : D → DiskView) (setting : Setting D) (count : ℕ) (old : OutsideView) where
  -- a server at its start
  pub begun : (first : Told Entry) → first.lock ≡ setting.lock → first.seen ≡ setting.loaded
      → Works shown setting count old first [] (record { accepted = 0; is_short = false; stopped = None }) old
  begun first of_lock knows = record {
    accepted = [];
    handed = [];
    number_is = refl;
    of_lock = of_lock;
    knows = subst (λ xs. IsPrefix setting.loaded xs) (sym knows) (prefix_refl setting.loaded);
    once = IsPermutation-refl [];
    each = All-nil (WasServed shown setting);
    awaited = All-nil (IsAwaited setting);
    rise = tt;
    drawn = All-nil (λ a. a.began.number ≤ first.latest);
    seen = All-nil (λ s. IsPrefix s.pass.seen first.seen);
    told_is = (λ i. record old { links = sym (told_nothing old.links) i; backs = sym (told_nothing old.backs) i });
    short_is = λ none. All-nil (λ s. s.end ≢ e.NoMemory);
    stop = omega arith;
  }

  -- the sessions that run may be kept in any order
  pub permuted : (first : Told Entry) (xs ys : List (Promised D)) (progress : Progress) (now : OutsideView) → IsPermutation xs ys
      → Works shown setting count old first xs progress now → Works shown setting count old first ys progress now
  permuted first xs ys progress now p w =
      let f : Promised D → Accepted = λ p. p.accepted in
      let g : List Accepted = map (λ s. s.accepted) w.handed in
      record {
        accepted = w.accepted;
        handed = w.handed;
        number_is = w.number_is;
        of_lock = w.of_lock;
        knows = w.knows;
        once = IsPermutation-trans (g ++ map f ys) (g ++ map f xs) w.accepted
            (IsPermutation-append_right g (map f ys) (map f xs) (IsPermutation-map f ys xs (IsPermutation-sym xs ys p))) w.once;
        each = w.each;
        awaited = All-permutation (IsAwaited setting) xs ys p w.awaited;
        rise = w.rise;
        drawn = w.drawn;
        seen = w.seen;
        told_is = w.told_is;
        short_is = w.short_is;
        stop = w.stop;
      }

  -- the pass of a session that has ended is of the lock
  pub pass_of_lock : (first : Told Entry) (promised : Promised D) (running : List (Promised D)) (progress : Progress) (now : OutsideView) (after : Line)
      (pass : Told Entry) (end : End) → Works shown setting count old first (promised ∷ running) progress now
      → IsEnded shown promised.setting promised.accepted after pass end → pass.lock ≡ setting.lock
  pass_of_lock first promised running progress now after pass end w ended =
      ended.leaves.lock ∙ (All-head (IsAwaited setting) promised running w.awaited).begins.pass_is.of_lock

  -- a pass that was drawn begins a session
  pub drawn_begins : (first : Told Entry) (running : List (Promised D)) (progress : Progress) (now : OutsideView) (before : Line) (pass : Told Entry)
      → Works shown setting count old first running progress now → IsUnused before
      → pass ≡ record first { number = pass.number; latest = pass.number; mine = [] } → pass.number + 1 < 2 ^ 64
      → own by_of pass.number pass.seen ≡ pass.mine → Begins setting (record { before = before; began = pass })
  drawn_begins first running progress now before pass w unused is few own_is = record {
    unused = unused;
    pass_is = record { of_lock = ap (λ (t : Told Entry). t.lock) is ∙ w.of_lock; few = few; own_is = own_is };
    unmade = ap (λ (t : Told Entry). t.mine) is;
    knows = subst (λ xs. IsPrefix setting.loaded xs) (sym (ap (λ (t : Told Entry). t.seen) is)) w.knows;
  }

  -- it still listens
  pub still_listens : (first : Told Entry) (running : List (Promised D)) (progress : Progress) (now : OutsideView)
      → Works shown setting count old first running progress now → IsListening old → IsListening now
  still_listens first running progress now w on = (on.0, ap (λ (s : OutsideView). s.listening) w.told_is ∙ on.1)

  -- no more are accepted, since memory ran out
  pub starved : (first : Told Entry) (running : List (Promised D)) (progress : Progress) (now : OutsideView) → progress.stopped ≡ None
      → Works shown setting count old first running progress now
      → Works shown setting count old first running (record progress { stopped = Some v.NoMemory }) now
  starved first running progress now goes_on w =
      record {
        accepted = w.accepted;
        handed = w.handed;
        number_is = w.number_is;
        of_lock = w.of_lock;
        knows = w.knows;
        once = w.once;
        each = w.each;
        awaited = w.awaited;
        rise = w.rise;
        drawn = w.drawn;
        seen = w.seen;
        told_is = subst (λ o. now ≡ served_of old w.accepted w.handed (faults_of o)) goes_on w.told_is;
        short_is = w.short_is;
        stop = subst (λ o. IsStop progress.accepted count o) goes_on w.stop;
      }

  -- no more are accepted, since an accept failed
  pub refused : (first : Told Entry) (running : List (Promised D)) (progress : Progress) (now : OutsideView) (cause : Cause) → progress.stopped ≡ None
      → progress.accepted ≢ count → Works shown setting count old first running progress now
      → Works shown setting count old first running (record progress { stopped = Some (v.NotAccepted cause) }) (with_listen_fault now)
  refused first running progress now cause goes_on few w =
      let stop : progress.accepted ≤ count = subst (λ o. IsStop progress.accepted count o) goes_on w.stop in
      record {
        accepted = w.accepted;
        handed = w.handed;
        number_is = w.number_is;
        of_lock = w.of_lock;
        knows = w.knows;
        once = w.once;
        each = w.each;
        awaited = w.awaited;
        rise = w.rise;
        drawn = w.drawn;
        seen = w.seen;
        told_is = ap with_listen_fault (subst (λ o. now ≡ served_of old w.accepted w.handed (faults_of o)) goes_on w.told_is);
        short_is = w.short_is;
        stop = omega (arith, few, stop);
      }

  -- one more was accepted, with a pass drawn for it
  pub accepts : (first : Told Entry) (running : List (Promised D)) (progress : Progress) (now : OutsideView) (given : Accepted)
      → progress.stopped ≡ None → progress.accepted ≢ count → first.latest < given.began.number → Begins setting given
      → Works shown setting count old first running progress now
      → Works shown setting count old (record first { latest = given.began.number }) (running ++ record { setting = setting; accepted = given } ∷ [])
      (record progress { accepted = progress.accepted + 1 }) (linked_of now given.before.link)
  accepts first running progress now given goes_on few later begins w =
      let f : Promised D → Accepted = λ p. p.accepted in
      let g : List Accepted = map (λ s. s.accepted) w.handed in
      let one : Promised D = record { setting = setting; accepted = given } in
      let stop : progress.accepted ≤ count = subst (λ o. IsStop progress.accepted count o) goes_on w.stop in
      let whole : g ++ map f (running ++ one ∷ []) ≡ g ++ map f running ++ given ∷ [] =
      ap (λ xs. g ++ xs) (map-append f running (one ∷ [])) ∙ sym (append_assoc g (map f running) (given ∷ [])) in
      let links : told (told old.links (map (λ (a : Accepted). a.before.link) w.accepted)) (given.before.link ∷ [])
      ≡ told old.links (map (λ (a : Accepted). a.before.link) (w.accepted ++ given ∷ [])) =
      told_twice old.links (map (λ (a : Accepted). a.before.link) w.accepted) (given.before.link ∷ [])
      ∙ ap (λ ls. told old.links ls) (sym (map-append (λ (a : Accepted). a.before.link) w.accepted (given ∷ []))) in
      record {
        accepted = w.accepted ++ given ∷ [];
        handed = w.handed;
        number_is = length-append w.accepted (given ∷ []) ∙ ap (λ n. n + 1) w.number_is;
        of_lock = w.of_lock;
        knows = w.knows;
        once = subst (λ xs. IsPermutation xs (w.accepted ++ given ∷ [])) (sym whole)
            (IsPermutation-append_left (given ∷ []) (g ++ map f running) w.accepted w.once);
        each = w.each;
        awaited = All-push (IsAwaited setting) running one w.awaited (record { setting_is = refl; begins = begins });
        rise = rise_snoc 0 w.accepted given (omega (arith, later))
            (All-weaker (λ a. a.began.number ≤ first.latest) (λ a. a.began.number < given.began.number) (λ a le. omega (arith, le, later)) w.accepted w.drawn)
            w.rise;
        drawn = All-push (λ a. a.began.number ≤ given.began.number) w.accepted given
            (All-weaker (λ a. a.began.number ≤ first.latest) (λ a. a.began.number ≤ given.began.number) (λ a le. omega (arith, le, later)) w.accepted w.drawn)
            (omega arith);
        seen = w.seen;
        told_is = ap (λ s. linked_of s given.before.link) w.told_is
            ∙ ap (λ ls. record (served_of old w.accepted w.handed (faults_of progress.stopped)) { links = ls }) links;
        short_is = w.short_is;
        stop = subst (λ o. IsStop (progress.accepted + 1) count o) (sym goes_on) (omega (arith, few, stop));
      }

  -- one that was waited for has ended, its devices were handed back, and what its pass had seen was learnt
  pub settled : (first after_first : Told Entry) (promised : Promised D) (running : List (Promised D)) (progress : Progress) (now : OutsideView) (after : Line)
      (pass : Told Entry) (end : End) → after_first.lock ≡ first.lock → first.latest ≤ after_first.latest → IsPrefix first.seen after_first.seen
      → IsPrefix pass.seen after_first.seen → IsEnded shown promised.setting promised.accepted after pass end
      → Works shown setting count old first (promised ∷ running) progress now
      → Works shown setting count old after_first running (record progress { is_short = progress.is_short || is_short_end end })
      (handed_back now (Some after.link) (Some after.clock) (Some after.notes))
  settled first after_first promised running progress now after pass end lock later more learnt ended w =
      let f : Promised D → Accepted = λ p. p.accepted in
      let g : Session → Accepted = λ s. s.accepted in
      let one : Session = record { accepted = promised.accepted; after = after; pass = pass; end = end } in
      let awaited : IsAwaited setting promised = All-head (IsAwaited setting) promised running w.awaited in
      let whole : map g (w.handed ++ one ∷ []) ++ map f running ≡ map g w.handed ++ map f (promised ∷ running) =
      ap (λ xs. xs ++ map f running) (map-append g w.handed (one ∷ [])) ∙ inserted (map g w.handed) (map f running) promised.accepted in
      let backs : told (told old.backs (map back_of w.handed)) (back_of one ∷ []) ≡ told old.backs (map back_of (w.handed ++ one ∷ [])) =
      told_twice old.backs (map back_of w.handed) (back_of one ∷ [])
      ∙ ap (λ bs. told old.backs bs) (sym (map-append back_of w.handed (one ∷ []))) in
      record {
        accepted = w.accepted;
        handed = w.handed ++ one ∷ [];
        number_is = w.number_is;
        of_lock = lock ∙ w.of_lock;
        knows = prefix_trans setting.loaded first.seen after_first.seen w.knows more;
        once = subst (λ xs. IsPermutation xs w.accepted) (sym whole) w.once;
        each = All-push (WasServed shown setting) w.handed one w.each
            (record { begins = awaited.begins; served = subst (λ s. IsEnded shown s promised.accepted after pass end) awaited.setting_is ended });
        awaited = All-tail (IsAwaited setting) promised running w.awaited;
        rise = w.rise;
        drawn = All-weaker (λ a. a.began.number ≤ first.latest) (λ a. a.began.number ≤ after_first.latest) (λ a le. omega (arith, le, later)) w.accepted w.drawn;
        seen = All-push (λ s. IsPrefix s.pass.seen after_first.seen) w.handed one
            (All-weaker (λ s. IsPrefix s.pass.seen first.seen) (λ s. IsPrefix s.pass.seen after_first.seen)
            (λ s p. prefix_trans s.pass.seen first.seen after_first.seen p more) w.handed w.seen) learnt;
        told_is = ap (λ s. handed_back s (Some after.link) (Some after.clock) (Some after.notes)) w.told_is
            ∙ ap (λ bs. record (served_of old w.accepted w.handed (faults_of progress.stopped)) { backs = bs }) backs;
        short_is = λ none. let both = or_false progress.is_short (is_short_end end) none in
            All-push (λ s. s.end ≢ e.NoMemory) w.handed one (w.short_is both.0) (not_short end both.1);
        stop = w.stop;
      }

  -- the same, by what the calls say that make the step
  pub accepts_as : (first after_first : Told Entry) (running : List (Promised D)) (progress : Progress) (now after_now : OutsideView) (given : Accepted)
      (one : Promised D) → after_first ≡ record first { latest = given.began.number } → one ≡ record { setting = setting; accepted = given }
      → after_now ≡ linked_of now given.before.link → progress.stopped ≡ None → progress.accepted ≢ count → first.latest < given.began.number
      → Begins setting given → Works shown setting count old first running progress now
      → Works shown setting count old after_first (running ++ one ∷ []) (record progress { accepted = progress.accepted + 1 }) after_now
  accepts_as first after_first running progress now after_now given one first_is one_is now_is goes_on few later begins w =
      rw (first_is, one_is, now_is) (accepts first running progress now given goes_on few later begins w)

  pub settled_as : (first after_first : Told Entry) (promised : Promised D) (running : List (Promised D)) (progress after_progress : Progress)
      (now after_now : OutsideView) (after : Line) (pass : Told Entry) (end : End)
      → after_progress ≡ record progress { is_short = progress.is_short || is_short_end end }
      → after_now ≡ handed_back now (Some after.link) (Some after.clock) (Some after.notes) → after_first.lock ≡ first.lock
      → first.latest ≤ after_first.latest → IsPrefix first.seen after_first.seen → IsPrefix pass.seen after_first.seen
      → IsEnded shown promised.setting promised.accepted after pass end → Works shown setting count old first (promised ∷ running) progress now
      → Works shown setting count old after_first running after_progress after_now
  settled_as first after_first promised running progress after_progress now after_now after pass end progress_is now_is lock later more learnt ended w =
      rw (progress_is, now_is) (settled first after_first promised running progress now after pass end lock later more learnt ended w)

  -- all have been handed back
  pub finished : (first : Told Entry) (running : List (Promised D)) (progress : Progress) (now : OutsideView) (end : ServeEnd) → length running ≡ 0
      → IsDone progress count → end ≡ end_of progress.stopped progress.is_short → Works shown setting count old first running progress now
      → Finishes shown setting count old first end now
  finished first [] progress now end none done end_is w = record { progress = progress; works = w; done = done; end_is = end_is }
  finished first (x ∷ xs) progress now end none done end_is w = absurd (omega (arith, none))

  -- how many were handed back, once none is waited for
  handed_are : (first : Told Entry) (progress : Progress) (now : OutsideView) (w : Works shown setting count old first [] progress now)
      → length w.handed ≡ progress.accepted
  handed_are first progress now w =
      let g : Session → Accepted = λ s. s.accepted in
      let same : length w.accepted ≡ length (map g w.handed) =
      length_permutation (map g w.handed ++ []) w.accepted w.once ∙ ap length (append-nil (map g w.handed)) in
      sym (length-map w.handed g) ∙ sym same ∙ w.number_is

-- how a server ends that has handed back all that it accepted
ends_so : (stopped : Option ServeEnd) (short : Bool) (accepted count : ℕ) (handed : List Session) → length handed ≡ accepted
    → IsStop accepted count stopped → (stopped ≡ None → accepted ≡ count) → (short ≡ false → All (λ s. s.end ≢ e.NoMemory) handed)
    → Ends count handed (faults_of stopped) (end_of stopped short)
ends_so None true accepted count handed same stop done short_is = refl
ends_so None false accepted count handed same stop done short_is = (same ∙ done refl, short_is refl, refl)
ends_so (Some v.Served) short accepted count handed same stop done short_is = absurd stop
ends_so (Some (v.NotAccepted cause)) short accepted count handed same stop done short_is = (subst (λ n. n < count) (sym same) stop, refl)
ends_so (Some v.NoMemory) short accepted count handed same stop done short_is = refl

-- a server that was out of memory at its start
pub serves_none : (limits : Limits) (count : ℕ) (origin : DiskView) (memory : MemoryView) (old : OutsideView)
    → Serves limits count origin memory memory old old v.NoMemory
serves_none limits count origin memory old =
    let lock : TableId = record { words = 0; slots = 0; views_name = 0; atom = 0; block = 0; offset = 0; slot_names = [] } in
    record {
      lock = lock;
      accepted = [];
      handed = [];
      once = IsPermutation-refl [];
      each = All-nil (WasServed (λ disk. disk) (setting_at origin memory lock limits));
      rise = tt;
      seen = All-nil (λ s. IsPrefix s.pass.seen memory.entries);
      begins = prefix_refl memory.entries;
      frame = refl;
      faults = 0;
      told_is = (λ i. record old { links = sym (told_nothing old.links) i; backs = sym (told_nothing old.backs) i });
      ends = refl;
    }

module _ {D : Type 0} (shown : D → DiskView) (limits : Limits) (count : ℕ) (old : OutsideView) (lock : Lock (PlantView D)) where
  shown_served : (s : Session) → WasServed shown (setting_of lock limits) s
      → WasServed (λ disk. disk) (setting_at (shown lock.made.origin) lock.made.memory lock.id limits) s
  shown_served s w = record {
    begins = record { unused = w.begins.unused; pass_is = w.begins.pass_is; unmade = w.begins.unmade; knows = w.begins.knows };
    served = w.served;
  }

  -- a server whose lock was closed
  pub serves : (plant : PlantView D) (first : Told Entry) (after : MemoryView) (new : OutsideView) (end : ServeEnd) → lock.made ≡ plant
      → IsPrefix first.seen after.entries → after.frame ≡ lock.made.memory.frame → Finishes shown (setting_of lock limits) count old first end new
      → Serves limits count (shown plant.origin) plant.memory after old new end
  serves plant first after new end made within frame f =
      let w = f.works in
      let g : List Accepted = map (λ (s : Session). s.accepted) w.handed in
      let all : Serves limits count (shown lock.made.origin) lock.made.memory after old new end = record {
        lock = lock.id;
        accepted = w.accepted;
        handed = w.handed;
        once = subst (λ xs. IsPermutation xs w.accepted) (append-nil g) w.once;
        each = All-weaker (WasServed shown (setting_of lock limits))
            (WasServed (λ disk. disk) (setting_at (shown lock.made.origin) lock.made.memory lock.id limits)) shown_served w.handed w.each;
        rise = w.rise;
        seen = All-weaker (λ s. IsPrefix s.pass.seen first.seen) (λ s. IsPrefix s.pass.seen after.entries)
            (λ s p. prefix_trans s.pass.seen first.seen after.entries p within) w.handed w.seen;
        begins = prefix_trans lock.made.memory.entries first.seen after.entries w.knows within;
        frame = frame;
        faults = faults_of f.progress.stopped;
        told_is = w.told_is;
        ends = subst (λ x. Ends count w.handed (faults_of f.progress.stopped) x) (sym f.end_is)
            (ends_so f.progress.stopped f.progress.is_short f.progress.accepted count w.handed
            (handed_are shown (setting_of lock limits) count old first f.progress new w) w.stop f.done w.short_is);
      } in
      subst (λ (p : PlantView D). Serves limits count (shown p.origin) p.memory after old new end) made all
