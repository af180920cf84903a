-- What `reading` finds is a request of the grammar, or the place of the first token that none goes on with.
use Rattle.std.proofs.Common.{◌≡◌, ℕ, List, [], ◌∷◌, ◌++◌, Option, Some, None, Result, Ok, Err, refl, sym, ap, ◌∙◌, append_assoc}
use Rattle.qsql_request.specs.Forms.{RequestForm}
use Rattle.qsql_tokens.specs.Tokens.{Token, Placed, only_tokens}
use Rattle.qsql_parse.specs.Grammar.{IsRequest, GoesOn, IsStuck, IsFault, offset_of}
use Rattle.qsql_parse.specs.Machine.{StateForm, start, step, whole, then_read, after, run}
use Rattle.qsql_parse.specs.Reading.{reading, ended_at, goes_from}
use Rattle.qsql_parse.proofs.Complete.{request-read}
use Rattle.qsql_parse.proofs.Sound.{request-sound}
use Rattle.qsql_parse.proofs.Live.{Live, live}

no-fault : {X : Type 0} (found : Result RequestForm ℕ) (r : RequestForm) (offset : ℕ) → found ≡ Err offset → found ≡ Ok r → X
no-fault found r offset h more = absurd (apart h more)
  where
    apart : found ≡ Err offset → found ≡ Ok r → ⊥
    apart e f = cc

same-request : (found : Result RequestForm ℕ) (r other : RequestForm) → found ≡ Ok r → found ≡ Ok other → Some r ≡ Some other
same-request found r other h more = cc

same-offset : (found : Result RequestForm ℕ) (offset other : ℕ) → found ≡ Err offset → found ≡ Err other → other ≡ offset
same-offset found offset other h more = cc

reading-ok : (placed : List Placed) (s : StateForm) (end : ℕ) (r : RequestForm) → reading s placed end ≡ Ok r → run s (only_tokens placed) ≡ Some r
reading-ok [] s end r h = ended (whole s) h
  where
    ended : (found : Option RequestForm) → ended_at end found ≡ Ok r → found ≡ Some r
    ended None e = no-fault (Err end) r end refl e
    ended (Some other) e = same-request (Ok other) other r refl e
reading-ok (p ∷ placed) s end r h = on (λ (next : StateForm) (e : reading next placed end ≡ Ok r). reading-ok placed next end r e) (step s p.token) h
  where
    on : ((next : StateForm) → reading next placed end ≡ Ok r → run next (only_tokens placed) ≡ Some r)
        → (found : Option StateForm) → goes_from p.place found (λ next. reading next placed end) ≡ Ok r → then_read found (λ next. run next (only_tokens placed)) ≡ Some r
    on more None e = no-fault (Err p.place) r p.place refl e
    on more (Some next) e = more next e

abbrev StuckAt : StateForm → List Token → Type 0
StuckAt s [] = whole s ≡ None
StuckAt s (t ∷ ts) = step s t ≡ None

-- where reading stops
record Stuck (s : StateForm) (placed : List Placed) (end offset : ℕ) : Type 0 where
  before : List Placed
  left : List Placed
  next : StateForm
  parts : placed ≡ before ++ left
  stands : offset ≡ offset_of left end
  reached : after s (only_tokens before) ≡ Some next
  stuck : StuckAt next (only_tokens left)

reading-err : (placed : List Placed) (s : StateForm) (end offset : ℕ) → reading s placed end ≡ Err offset → Stuck s placed end offset
reading-err [] s end offset h = ended (whole s) refl h
  where
    ended : (found : Option RequestForm) → whole s ≡ found → ended_at end found ≡ Err offset → Stuck s [] end offset
    ended None is e = record { before = []; left = []; next = s; parts = refl; stands = same-offset (Err end) end offset refl e; reached = refl; stuck = is }
    ended (Some other) is e = no-fault (Ok other) other offset e refl
reading-err (p ∷ placed) s end offset h = on (λ (next : StateForm) (e : reading next placed end ≡ Err offset). reading-err placed next end offset e) (step s p.token) refl h
  where
    further : (next : StateForm) → step s p.token ≡ Some next → Stuck next placed end offset → Stuck s (p ∷ placed) end offset
    further next is found = record {
      before = p ∷ found.before;
      left = found.left;
      next = found.next;
      parts = ap (λ ps. p ∷ ps) found.parts;
      stands = found.stands;
      reached = rw is found.reached;
      stuck = found.stuck;
    }

    on : ((next : StateForm) → reading next placed end ≡ Err offset → Stuck next placed end offset)
        → (found : Option StateForm) → step s p.token ≡ found → goes_from p.place found (λ next. reading next placed end) ≡ Err offset → Stuck s (p ∷ placed) end offset
    on more None is e = record { before = []; left = p ∷ placed; next = s; parts = refl; stands = same-offset (Err p.place) p.place offset refl e; reached = refl; stuck = is }
    on more (Some next) is e = further next is (more next e)

some-state : (s other : StateForm) → Some s ≡ Some other → s ≡ other
some-state s other h = cc

none-state : {X : Type 0} (s : StateForm) → None ≡ Some s → X
none-state s h = absurd (apart h)
  where
    apart : None ≡ Some s → ⊥
    apart e = cc

run-after : (ts : List Token) (s next : StateForm) (rest : List Token) → after s ts ≡ Some next → run s (ts ++ rest) ≡ run next rest
run-after [] s next rest h = ap (λ x. run x rest) (some-state s next h)
run-after (t ∷ ts) s next rest h = on (λ (x : StateForm) (e : after x ts ≡ Some next). run-after ts x next rest e) (step s t) h
  where
    on : ((x : StateForm) → after x ts ≡ Some next → run x (ts ++ rest) ≡ run next rest)
        → (found : Option StateForm) → then_read found (λ x. after x ts) ≡ Some next → then_read found (λ x. run x (ts ++ rest)) ≡ run next rest
    on more None e = none-state next e
    on more (Some x) e = more x e

none-request : (r : RequestForm) → None ≡ Some r → ⊥
none-request r h = cc

append-nil : {X : Type 0} (xs : List X) → xs ++ [] ≡ xs
append-nil [] = refl
append-nil (x ∷ xs) = ap (λ ys. x ∷ ys) (append-nil xs)

goes-on : (ts : List Token) (next : StateForm) → after start ts ≡ Some next → GoesOn ts
goes-on ts next h = found (live next)
  where
    found : Live next → GoesOn ts
    found (rest, r, more) = (rest, r, request-sound (ts ++ rest) r (run-after ts start next rest h ∙ more))

is-stuck : (before left : List Token) (next : StateForm) → after start before ≡ Some next → StuckAt next left → IsStuck before left
is-stuck before [] next h stuck = refused
  where
    refused : (r : RequestForm) → IsRequest before r → ⊥
    refused r request = none-request r (sym stuck ∙ (sym (run-after before start next [] h) ∙ (ap (λ ts. run start ts) (append-nil before) ∙ request-read request)))
is-stuck before (t ∷ left) next h stuck = refused
  where
    none : (rest : List Token) → run next (t ∷ rest) ≡ None
    none rest = rw stuck refl

    refused : GoesOn (before ++ t ∷ []) → ⊥
    refused (rest, r, request) =
        none-request r (sym (none rest) ∙ (sym (run-after before start next (t ∷ rest) h) ∙ (ap (λ ts. run start ts) (sym (append_assoc before (t ∷ []) rest)) ∙ request-read request)))

-- what is read is a request
pub reading-request : (placed : List Placed) (end : ℕ) (r : RequestForm) → reading start placed end ≡ Ok r → IsRequest (only_tokens placed) r
reading-request placed end r h = request-sound (only_tokens placed) r (reading-ok placed start end r h)

-- where reading stops no request goes on
pub reading-fault : (placed : List Placed) (end offset : ℕ) → reading start placed end ≡ Err offset → IsFault placed end offset
reading-fault placed end offset h = let s = reading-err placed start end offset h in
    (s.before, s.left, s.parts, s.stands, goes-on (only_tokens s.before) s.next s.reached, is-stuck (only_tokens s.before) (only_tokens s.left) s.next s.reached s.stuck)
