use Rattle.std.proofs.Common.{◌≡◌, ◌∷◌, [], List, ℕ, Bool, IsTrue, length, arith, subst, sym, ap, ◌∙◌, inl, inr, Result, Ok, Err}
use Rattle.outside_api.specs.Disk.{FileState, DiskView, Changes, Writing, Cutting, Syncing, put, written, cut_to, synced}
use Rattle.outside_api.specs.declared.disk.DiskFault.{DiskFault}
use Rattle.gated_journal.specs.Calls.{fresh_calls}
use Rattle.gated_journal.specs.Journal.{fresh_bytes}
use Rattle.gated_journal.proofs.Calls.{makes_failed, nine_bytes}
use Rattle.gated_journal.proofs.Moments.{passes_one, passes_on}
use Rattle.gated_journal.proofs.Appends.{held_fresh, put_fresh, length-fresh_bytes}
use Rattle.gated_journal.proofs.Durable.{wrote_bytes, wrote_settled}
use Rattle.gated_journal.proofs.journal.Journal.fresh.Goals as goal

pub returns-in_err-cut-clause-any_moment : goal.returns-in_err-cut-clause-any_moment
returns-in_err-cut-clause-any_moment g c tells = passes_one _ _ _ _ (λ (image : List ℕ). Unit {0}) (c.cut.ensures.changes tells) (λ image is. tt)

pub returns-in_err-write_at-clause-any_moment : goal.returns-in_err-write_at-clause-any_moment
returns-in_err-write_at-clause-any_moment g c tells =
    let one = passes_one _ _ _ _ (λ (image : List ℕ). Unit {0}) (c.cut.ensures.changes tells) (λ image is. tt) in
    let tells' : IsTrue (g.D.Disk.shown c.cut.new.self).tells = subst (λ (b : Bool). IsTrue b) (sym c.in_ok-cut.ensures.counts.1) tells in
    passes_on _ _ _ _ (λ (image : List ℕ). Unit {0}) one (passes_one _ _ _ _ (λ (image : List ℕ). Unit {0}) (c.write_at.ensures.changes tells') (λ image is. tt))

pub returns-in_err-sync-clause-any_moment : goal.returns-in_err-sync-clause-any_moment
returns-in_err-sync-clause-any_moment g c tells =
    let one = passes_one _ _ _ _ (λ (image : List ℕ). Unit {0}) (c.cut.ensures.changes tells) (λ image is. tt) in
    let tells' : IsTrue (g.D.Disk.shown c.cut.new.self).tells = subst (λ (b : Bool). IsTrue b) (sym c.in_ok-cut.ensures.counts.1) tells in
    let two = passes_on _ _ _ _ (λ (image : List ℕ). Unit {0}) one (passes_one _ _ _ _ (λ (image : List ℕ). Unit {0}) (c.write_at.ensures.changes tells') (λ image is. tt)) in
    let tells'' : IsTrue (g.D.Disk.shown c.write_at.new.self).tells = subst (λ (b : Bool). IsTrue b) (sym c.in_ok-write_at.ensures.counts.1) tells' in
    passes_on _ _ _ _ (λ (image : List ℕ). Unit {0}) two (passes_one _ _ _ _ (λ (image : List ℕ). Unit {0}) (c.sync.ensures.changes tells'') (λ image is. tt))

pub returns-clause-any_moment : goal.returns-clause-any_moment
returns-clause-any_moment g c tells =
    let one = passes_one _ _ _ _ (λ (image : List ℕ). Unit {0}) (c.cut.ensures.changes tells) (λ image is. tt) in
    let tells' : IsTrue (g.D.Disk.shown c.cut.new.self).tells = subst (λ (b : Bool). IsTrue b) (sym c.in_ok-cut.ensures.counts.1) tells in
    let two = passes_on _ _ _ _ (λ (image : List ℕ). Unit {0}) one (passes_one _ _ _ _ (λ (image : List ℕ). Unit {0}) (c.write_at.ensures.changes tells') (λ image is. tt)) in
    let tells'' : IsTrue (g.D.Disk.shown c.write_at.new.self).tells = subst (λ (b : Bool). IsTrue b) (sym c.in_ok-write_at.ensures.counts.1) tells' in
    passes_on _ _ _ _ (λ (image : List ℕ). Unit {0}) two (passes_one _ _ _ _ (λ (image : List ℕ). Unit {0}) (c.sync.ensures.changes tells'') (λ image is. tt))

wrote_fresh : (result : Result (Unit {0}) DiskFault) (file : ℕ) (old new : DiskView) → Changes old new file (Writing 0 (0x71 ∷ 0x74 ∷ 0x70 ∷ 0x6c ∷ 0x61 ∷ 0x6e ∷ 0x74 ∷ 0x31 ∷ 0 ∷ []) result) → Changes old new file (Writing 0 fresh_bytes result)
wrote_fresh result file old new c = subst (λ (l : List ℕ). Changes old new file (Writing 0 l result)) nine_bytes c

pub returns-in_err-write_at-clause-calls : goal.returns-in_err-write_at-clause-calls
returns-in_err-write_at-clause-calls g c =
    let old = g.D.Disk.shown c.args.disk.now in
    let one = g.D.Disk.shown c.cut.new.self in
    let new = g.D.Disk.shown c.write_at.new.self in
    let fault = c.in_err-write_at.field-0.0 in
    makes_failed _ c.from_residual-in_err-write_at.result old new c.args.file fresh_calls c.from_residual-in_err-write_at.ensures.0 (λ tells.
    let tells' : IsTrue one.tells = subst (λ (b : Bool). IsTrue b) (sym c.in_ok-cut.ensures.counts.1) tells in
    inr (one, c.in_ok-cut.ensures.changes tells, inl (fault, wrote_fresh (Err fault) c.args.file one new (c.in_err-write_at.ensures.changes tells'))))

pub returns-in_err-sync-clause-calls : goal.returns-in_err-sync-clause-calls
returns-in_err-sync-clause-calls g c =
    let old = g.D.Disk.shown c.args.disk.now in
    let one = g.D.Disk.shown c.cut.new.self in
    let two = g.D.Disk.shown c.write_at.new.self in
    let new = g.D.Disk.shown c.sync.new.self in
    makes_failed _ c.from_residual-in_err-sync.result old new c.args.file fresh_calls c.from_residual-in_err-sync.ensures.0 (λ tells.
    let tells' : IsTrue one.tells = subst (λ (b : Bool). IsTrue b) (sym c.in_ok-cut.ensures.counts.1) tells in
    let tells'' : IsTrue two.tells = subst (λ (b : Bool). IsTrue b) (sym c.in_ok-write_at.ensures.counts.1) tells' in
    inr (
      one,
      c.in_ok-cut.ensures.changes tells,
      inr (
        two,
        wrote_fresh (Ok (tt {0})) c.args.file one two (c.in_ok-write_at.ensures.changes tells'),
        inl (c.in_err-sync.field-0.0, c.in_err-sync.ensures.changes tells''),
      ),
    ))

pub returns-clause-calls : goal.returns-clause-calls
returns-clause-calls g c tells =
    let one = g.D.Disk.shown c.cut.new.self in
    let two = g.D.Disk.shown c.write_at.new.self in
    let new = g.D.Disk.shown c.sync.new.self in
    let tells' : IsTrue one.tells = subst (λ (b : Bool). IsTrue b) (sym c.in_ok-cut.ensures.counts.1) tells in
    let tells'' : IsTrue two.tells = subst (λ (b : Bool). IsTrue b) (sym c.in_ok-write_at.ensures.counts.1) tells' in (
      one,
      c.in_ok-cut.ensures.changes tells,
      (
        two,
        wrote_fresh (Ok (tt {0})) c.args.file one two (c.in_ok-write_at.ensures.changes tells'),
        (new, c.in_ok-sync.ensures.changes tells'', (λ i. new.now, λ i. new.past)),
      ),
    )

abbrev nine : List ℕ
nine = 0x71 ∷ 0x74 ∷ 0x70 ∷ 0x6c ∷ 0x61 ∷ 0x6e ∷ 0x74 ∷ 0x31 ∷ 0 ∷ []

-- the file after the three calls
fresh_by : (old one two new : DiskView) (file : ℕ) → Changes old one file (Cutting {T = Unit {0}} 0 (Ok tt)) → Changes one two file (Writing {T = Unit {0}} 0 nine (Ok tt)) → Changes two new file (Syncing {T = Unit {0}} (Ok tt))
    → new.now file ≡ synced (written (cut_to 0 (old.now file)) 0 9 fresh_bytes)
fresh_by old one two new file cut wrote sync =
    sync.changed ∙ ap synced (wrote.changed ∙ ap (λ (f : FileState). written f 0 9 (put f.bytes 0 nine)) cut.changed ∙ ap (written (cut_to 0 (old.now file)) 0 9) put_fresh)

pub returns-clause-bytes : goal.returns-clause-bytes
returns-clause-bytes g c tells =
    let tells' : IsTrue (g.D.Disk.shown c.cut.new.self).tells = subst (λ (b : Bool). IsTrue b) (sym c.in_ok-cut.ensures.counts.1) tells in
    let tells'' : IsTrue (g.D.Disk.shown c.write_at.new.self).tells = subst (λ (b : Bool). IsTrue b) (sym c.in_ok-write_at.ensures.counts.1) tells' in
    let is = fresh_by _ _ _ _ c.args.file (c.in_ok-cut.ensures.changes tells) (c.in_ok-write_at.ensures.changes tells') (c.in_ok-sync.ensures.changes tells'') in
    wrote_bytes (cut_to 0 ((g.D.Disk.shown c.args.disk.now).now c.args.file)) _ 0 9 fresh_bytes is

pub returns-clause-durable : goal.returns-clause-durable
returns-clause-durable g c tells settled =
    let tells' : IsTrue (g.D.Disk.shown c.cut.new.self).tells = subst (λ (b : Bool). IsTrue b) (sym c.in_ok-cut.ensures.counts.1) tells in
    let tells'' : IsTrue (g.D.Disk.shown c.write_at.new.self).tells = subst (λ (b : Bool). IsTrue b) (sym c.in_ok-write_at.ensures.counts.1) tells' in
    let is = fresh_by _ _ _ _ c.args.file (c.in_ok-cut.ensures.changes tells) (c.in_ok-write_at.ensures.changes tells') (c.in_ok-sync.ensures.changes tells'') in
    wrote_settled (cut_to 0 ((g.D.Disk.shown c.args.disk.now).now c.args.file)) _ 0 9 fresh_bytes is settled

pub returns-clause-keeps : goal.returns-clause-keeps
returns-clause-keeps g c tells''' =
    let tells'' : IsTrue (g.D.Disk.shown c.write_at.new.self).tells = subst (λ (b : Bool). IsTrue b) c.in_ok-sync.ensures.counts.1 tells''' in
    let tells' : IsTrue (g.D.Disk.shown c.cut.new.self).tells = subst (λ (b : Bool). IsTrue b) c.in_ok-write_at.ensures.counts.1 tells'' in
    let tells : IsTrue (g.D.Disk.shown c.args.disk.now).tells = subst (λ (b : Bool). IsTrue b) c.in_ok-cut.ensures.counts.1 tells' in
    held_fresh c.args.file ((g.D.Disk.shown c.args.disk.now).now c.args.file) _ (fresh_by _ _ _ _ c.args.file (c.in_ok-cut.ensures.changes tells) (c.in_ok-write_at.ensures.changes tells') (c.in_ok-sync.ensures.changes tells''))

pub returns-clause-has_gate : goal.returns-clause-has_gate
returns-clause-has_gate g c tells =
    let old = g.D.Disk.shown c.args.disk.now in
    let told : IsTrue old.tells = subst (λ (b : Bool). IsTrue b) (c.in_ok-sync.ensures.counts.1 ∙ c.in_ok-write_at.ensures.counts.1 ∙ c.in_ok-cut.ensures.counts.1) tells in
    omega (arith, ap length (returns-clause-bytes g c told), length-fresh_bytes)
