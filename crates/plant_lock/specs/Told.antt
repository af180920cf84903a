-- What contracts see of a lock, a pass, a note and a held state.
use Rattle.std.specs.Prelude.{ℕ, List, refl}
use Rattle.std.specs.Coded.{Coded, code_by, coded×, coded_ℕ, coded_list}
use Rattle.atomic_table.specs.Seated.{TableId, table_id_coded}

-- which lock it is, and the state that it was made with, whose frame is the lock's
pub record Lock (S : Type 0) : Type 0 where
  pub id : TableId
  pub made : S

abbrev pub lock_code : {S : Type 0} → Coded S → Coded (Lock S)
lock_code {S} s = code_by (TableId × S) (coded× table_id_coded s) (λ l. (l.id, l.made)) (λ p. record { id = p.0; made = p.1 }) (λ _. refl)

-- which lock a pass is of, its number, the greatest number that it knows to be drawn, what it has seen, and the entries that it made
pub record Told (E : Type 0) : Type 0 where
  pub lock : TableId
  pub number : ℕ
  pub latest : ℕ
  pub seen : List E
  pub mine : List E

abbrev pub told_code : {E : Type 0} → Coded E → Coded (Told E)
told_code {E} e =
    code_by (TableId × (ℕ × (ℕ × (List E × List E)))) (coded× table_id_coded (coded× coded_ℕ (coded× coded_ℕ (coded× (coded_list e) (coded_list e)))))
    (λ t. (t.lock, (t.number, (t.latest, (t.seen, t.mine)))))
    (λ p. record { lock = p.0; number = p.1.0; latest = p.1.1.0; seen = p.1.1.1.0; mine = p.1.1.1.1 }) (λ _. refl)

-- which lock a note is of, the greatest number that its pass knew to be drawn, and what its pass had seen
pub record Noted (E : Type 0) : Type 0 where
  pub lock : TableId
  pub latest : ℕ
  pub seen : List E

abbrev pub noted_code : {E : Type 0} → Coded E → Coded (Noted E)
noted_code {E} e =
    code_by (TableId × (ℕ × List E)) (coded× table_id_coded (coded× coded_ℕ (coded_list e))) (λ t. (t.lock, (t.latest, t.seen)))
    (λ p. record { lock = p.0; latest = p.1.0; seen = p.1.1 }) (λ _. refl)

-- the lock that was taken, the pass that took it, which has seen what was taken, and the state
pub record Taken (S E : Type 0) : Type 0 where
  pub lock : Lock S
  pub pass : Told E
  pub state : S

abbrev pub taken_code : {S E : Type 0} → Coded S → Coded E → Coded (Taken S E)
taken_code {S} {E} s e =
    code_by (Lock S × (Told E × S)) (coded× (lock_code s) (coded× (told_code e) s)) (λ t. (t.lock, (t.pass, t.state)))
    (λ p. record { lock = p.0; pass = p.1.0; state = p.1.1 }) (λ _. refl)
