use Rattle.std.proofs.Common.{arith, ap, ◌≡◌, ◌↔◌, true, List, ◌≤◌, ◌<◌, ◌+◌, ◌∙◌, ◌++◌, ◌∷◌, [], sym, subst, take, append_assoc}
use Rattle.std.proofs.lemmas.List.{take_more}
use Rattle.day_rows.specs.Blocks.{updates_in}
use Rattle.day_rows.specs.Day.{total_rows}
use Rattle.day_rows.specs.declared.entry.Entry.{Entry}
use Rattle.day_rows.proofs.FilledLemmas.{not-full}
use Rattle.day_rows.proofs.StoreLemmas.{store-appended, store-sealed, grew-appended, grew-sealed, updates-appended, updates-filled}
use Rattle.day_rows.proofs.store.Store.extend.Goals.{then-is_full+in_ok-seal, else-is_full}
use Rattle.day_rows.proofs.store.Store.extend.Goals as goal

pub loop-entry-preserved : goal.loop-entry-preserved
loop-entry-preserved c =
    let blocks = c.loop-entry.self.blocks in
    let last = c.loop-entry.self.last in
    let entry = c.entry-item.result in
    let i = c.loop-entry.entry-index in
    let entries = c.args.entries.now in
    let was = updates_in c.args.self.now.blocks c.args.self.now.last in
    let now = c.loop-entry.invariant in
    let more : take (i + 1) entries ≡ take i entries ++ entry ∷ [] = take_more entries i entry c.loop-entry-test.true ∙ ap (λ y. take i entries ++ y ∷ []) (sym c.entry-item.is) in
    let so_far : updates_in blocks last ++ entry ∷ [] ≡ was ++ take (i + 1) entries =
    ap (λ l. l ++ entry ∷ []) now.so_far ∙ append_assoc was (take i entries) (entry ∷ []) ∙ ap (λ l. was ++ l) (sym more) in
    let counted : c.loop-entry.self.held + 1 ≡ c.args.self.now.held + (i + 1) = omega (arith, now.counted) in
    elim c.if-is_full.branch [
      | then-is_full+in_ok-seal w ↦ rw (w.self-is, w.in_ok-seal.ensures.ok, w.in_ok-seal.ensures.fresh, w.in_ok-seal.ensures.held, c.in_ok-append.ensures.ok) (record {
        store = store-sealed blocks last c.loop-entry.self.held entry now.store now.grows (subst (λ (l : List Entry). 1024 ≤ total_rows l) c.in_ok-append.ensures.ok (c.is_full.ensures.0 w.if-is_full.true));
        grew = grew-sealed _ _ blocks last entry now.grew;
        so_far = updates-filled blocks last entry ∙ so_far;
        grows = omega arith;
        counted = counted;
      })
      | else-is_full w ↦
          let few : total_rows (last ++ entry ∷ []) < 1024 = not-full c.is_full.result (total_rows (last ++ entry ∷ [])) w.if-is_full.false (subst (λ (l : List Entry). (c.is_full.result ≡ true) ↔ (1024 ≤ total_rows l)) c.in_ok-append.ensures.ok c.is_full.ensures) in
          rw (w.self-is, c.in_ok-append.ensures.ok) (record {
            store = store-appended blocks last c.loop-entry.self.held entry now.store;
            grew = grew-appended _ _ blocks last entry now.grew;
            so_far = updates-appended blocks last entry ∙ so_far;
            grows = few;
            counted = counted;
          })
    ]
