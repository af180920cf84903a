-- What stays true of the other seats when one seat makes a step.
use Rattle.std.proofs.Common.{◌≡◌, ◌≢◌, ℕ, ◌+◌, ◌≤◌, Bool, true, false, List, ◌++◌, set, All, sym, refl, ap, ◌∙◌, arith, append-nil, lt_of_not-le, true≢false, Option}
use mathlib.Core.Logic.{dite}
use mathlib.Core.Option.{some, some-injective}
use mathlib.Core.Option as maybe
use native.Mathlib.Decide.{ℕ_discrete, dec_le}
use lib.ListN.{get_elem?}
use Rattle.atomic_table.proofs.Lists.{set_else}
use Rattle.plant_lock.specs.declared.view.View.{View}
use Rattle.plant_lock.specs.declared.view.Stage.{Stage}
use Rattle.plant_lock.specs.declared.view.Stage.TheVariants.{Idle, Waits, Turns, Holds}
use Rattle.plant_lock.specs.Entries.{own}
use Rattle.plant_lock.specs.Law.{Ledger, Stands, Knows, Home}
use Rattle.plant_lock.proofs.ListLemmas.{put, put_else, set_at, prefix_trans, own-append, own_none}

abbrev pub holds_slot : Stage → Bool
holds_slot Holds = true
holds_slot Idle = false
holds_slot (Waits t) = false
holds_slot Turns = false

abbrev pub ticket_or : ℕ → Stage → ℕ
ticket_or d Idle = d
ticket_or d (Waits t) = t
ticket_or d Turns = d
ticket_or d Holds = d

pub not_held : (st : Stage) → holds_slot st ≡ false → st ≡ Holds → ⊥
not_held st free yes' = true≢false (sym (ap holds_slot yes') ∙ free)

module _ {E : Type 0} where
  abbrev pub after_ticket : Ledger E → ℕ → Ledger E
  after_ticket l id = record l { tickets = l.tickets + 1; owner = put l.owner l.tickets id }

  abbrev pub after_take : Ledger E → Ledger E
  after_take l = record l { out = true }

  abbrev pub after_serve : Ledger E → Ledger E
  after_serve l = record l { serving = l.serving + 1; out = false }

  abbrev pub after_count : Ledger E → List E → Ledger E
  after_count l new = record l { history = l.history ++ new }

  abbrev pub after_number : Ledger E → ℕ → Ledger E
  after_number l id = record l { next = l.next + 1; drawer = put l.drawer l.next id }

module _ {E : Type 0} (by : E → ℕ) (l : Ledger E) where
  stands_ticket : (id j : ℕ) (seen : List E) (st : Stage) → l.serving ≤ l.tickets → Stands l j seen st → Stands (after_ticket l id) j seen st
  stands_ticket id j seen Idle le h = tt
  stands_ticket id j seen (Waits t) le h = let a = h.1 in (h.0, omega arith, put_else l.owner l.tickets id t (λ e. omega arith) ∙ h.2)
  stands_ticket id j seen Turns le h = let a = h.0 in (omega arith, put_else l.owner l.tickets id l.serving (λ e. omega arith) ∙ h.1, h.2)
  stands_ticket id j seen Holds le h = let a = h.0 in (omega arith, put_else l.owner l.tickets id l.serving (λ e. omega arith) ∙ h.1, h.2, h.3)

  pub knows_ticket : (id j : ℕ) (v : View E) → l.serving ≤ l.tickets → Knows by l j v → Knows by (after_ticket l id) j v
  knows_ticket id j v le k = record {
    sees = k.sees;
    saw = k.saw;
    heard = k.heard;
    below = k.below;
    makes = k.makes;
    stands = stands_ticket id j v.seen v.stage le k.stands;
  }

  stands_take : (id j : ℕ) (seen : List E) (st : Stage) → j ≢ id → l.owner l.serving ≡ id → Stands l j seen st → Stands (after_take l) j seen st
  stands_take id j seen Idle other own_it h = tt
  stands_take id j seen (Waits t) other own_it h = h
  stands_take id j seen Turns other own_it h = h
  stands_take id j seen Holds other own_it h = absurd (other (sym h.1 ∙ own_it))

  pub knows_take : (id j : ℕ) (v : View E) → j ≢ id → l.owner l.serving ≡ id → Knows by l j v → Knows by (after_take l) j v
  knows_take id j v other own_it k = record {
    sees = k.sees;
    saw = k.saw;
    heard = k.heard;
    below = k.below;
    makes = k.makes;
    stands = stands_take id j v.seen v.stage other own_it k.stands;
  }

  later : (id j t : ℕ) → j ≢ id → l.owner l.serving ≡ id → l.serving ≤ t → l.owner t ≡ j → l.serving + 1 ≤ t
  later id j t other own_it le theirs = dite (dec_le (l.serving + 1) t) (λ d. d)
      (λ d. let lt = lt_of_not-le d in let e : t ≡ l.serving = omega arith in absurd (other (sym theirs ∙ (ap l.owner e ∙ own_it))))

  stands_serve : (id j : ℕ) (seen : List E) (st : Stage) → j ≢ id → l.owner l.serving ≡ id → Stands l j seen st → Stands (after_serve l) j seen st
  stands_serve id j seen Idle other own_it h = tt
  stands_serve id j seen (Waits t) other own_it h = (later id j t other own_it h.0 h.2, h.1, h.2)
  stands_serve id j seen Turns other own_it h = absurd (other (sym h.1 ∙ own_it))
  stands_serve id j seen Holds other own_it h = absurd (other (sym h.1 ∙ own_it))

  pub knows_serve : (id j : ℕ) (v : View E) → j ≢ id → l.owner l.serving ≡ id → Knows by l j v → Knows by (after_serve l) j v
  knows_serve id j v other own_it k = record {
    sees = k.sees;
    saw = k.saw;
    heard = k.heard;
    below = k.below;
    makes = k.makes;
    stands = stands_serve id j v.seen v.stage other own_it k.stands;
  }

  stands_count : (new : List E) (id j : ℕ) (seen : List E) (st : Stage) → j ≢ id → l.owner l.serving ≡ id → Stands l j seen st → Stands (after_count l new) j seen st
  stands_count new id j seen Idle other own_it h = tt
  stands_count new id j seen (Waits t) other own_it h = h
  stands_count new id j seen Turns other own_it h = absurd (other (sym h.1 ∙ own_it))
  stands_count new id j seen Holds other own_it h = absurd (other (sym h.1 ∙ own_it))

  -- the seat id adds entries of its number n
  pub knows_count : (new : List E) (n id j : ℕ) (v : View E) → All (λ e. by e ≡ n) new → l.drawer n ≡ id → j ≢ id → l.owner l.serving ≡ id → Knows by l j v
      → Knows by (after_count l new) j v
  knows_count new n id j v all drew other own_it k = record {
    sees = prefix_trans v.seen l.history (l.history ++ new) k.sees (new, refl);
    saw = prefix_trans v.before l.history (l.history ++ new) k.saw (new, refl);
    heard = prefix_trans v.told l.history (l.history ++ new) k.heard (new, refl);
    below = k.below;
    makes = λ d. let m = k.makes d in (
      m.0,
      m.1,
      own-append by v.number l.history new
          ∙ (ap (λ (x : List E). own by v.number l.history ++ x) (own_none by n v.number new all (λ e. other (sym m.0 ∙ (ap l.drawer e ∙ drew))))
          ∙ (append-nil (own by v.number l.history) ∙ m.2)),
    );
    stands = stands_count new id j v.seen v.stage other own_it k.stands;
  }

  pub stands_number : (id j : ℕ) (seen : List E) (st : Stage) → Stands l j seen st → Stands (after_number l id) j seen st
  stands_number id j seen Idle h = tt
  stands_number id j seen (Waits t) h = h
  stands_number id j seen Turns h = h
  stands_number id j seen Holds h = h

  pub knows_number : (id j : ℕ) (v : View E) → Knows by l j v → Knows by (after_number l id) j v
  knows_number id j v k = let b = k.below.0 in let c = k.below.1 in record {
    sees = k.sees;
    saw = k.saw;
    heard = k.heard;
    below = (omega arith, omega arith);
    makes = λ d. let m = k.makes d in (put_else l.drawer l.next id v.number (λ e. omega arith) ∙ m.0, m.1, m.2);
    stands = stands_number id j v.seen v.stage k.stands;
  }

module _ {S E F : Type 0} (entries : S → List E) (frame : S → F) (f : F) where
  abbrev Homes : Type 0
  Homes = List (maybe.Option (Option S))

  -- the slot stays where it is, and whoever holds it still does
  pub home_stays : (l : Ledger E) (homes : Homes) (views : List (View E)) (id : ℕ) (v w : View E) → get_elem? views id ≡ some v → (v.stage ≡ Holds → w.stage ≡ Holds) → (b : Bool)
      → Home entries frame f l homes views b → Home entries frame f l homes (set views id w) b
  home_stays l homes views id v w at still false h = h
  home_stays l homes views id v w at still true h = dite (ℕ_discrete (l.owner l.serving) id)
      (λ e. let u_is : h.1.0 ≡ v = some-injective h.1.0 v (sym h.1.1 ∙ (ap (get_elem? views) e ∙ at)) in
      (h.0, (w, ap (get_elem? (set views id w)) e ∙ set_at views id v w at, still (sym (ap (λ (x : View E). x.stage) u_is) ∙ h.1.2))))
      (λ ne. (h.0, (h.1.0, set_else views id (l.owner l.serving) w ne ∙ h.1.1, h.1.2)))

  -- the seat whose turn it is finds the slot at home, where it does not hold it
  pub home_found : (l : Ledger E) (homes : Homes) (views : List (View E)) (id : ℕ) (v : View E) → get_elem? views id ≡ some v → l.owner l.serving ≡ id → (v.stage ≡ Holds → ⊥) → (b : Bool)
      → Home entries frame f l homes views b → Home entries frame f l homes views false
  home_found l homes views id v at mine free false h = h
  home_found l homes views id v at mine free true h = absurd (free (sym (ap (λ (x : View E). x.stage) (some-injective h.1.0 v (sym h.1.1 ∙ (ap (get_elem? views) mine ∙ at)))) ∙ h.1.2))
