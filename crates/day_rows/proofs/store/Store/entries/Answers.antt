use Rattle.std.proofs.Common.{arith, List, ap, sym, ◌≡◌, ◌∙◌, ◌+◌, ◌-◌, ◌<◌, ◌++◌, length, take, drop, get_or}
use Rattle.std.specs.List.{flat_map}
use Rattle.std.proofs.lemmas.List.{take_all}
use Rattle.std.proofs.lemmas.List.Sums.{sum_by-append}
use Rattle.day_rows.specs.Day.{IsUpdate, entry_rows}
use Rattle.day_rows.specs.declared.entry.Entry.{Entry}
use Rattle.day_rows.proofs.BlockLemmas.{all-left, all-right}
use Rattle.day_rows.proofs.Lists.{drop-append}
use Rattle.day_rows.proofs.StoreLemmas.{cat-more, from-more, one-all, one-total}
use Rattle.day_rows.proofs.store.Store.entries.Goals as goal

pub split-requires-clause-updates : goal.split-requires-clause-updates
split-requires-clause-updates c =
    let blocks = c.args.self.now.blocks in
    let last = c.args.self.now.last in
    let whole : take c.len.result c.next-block.result.now ≡ get_or blocks c.loop-i.i last = take_all _ _ (omega (arith, c.len.ensures)) ∙ c.next-block.ensures in
    let first = all-left (IsUpdate c.args.kinds.now) (flat_map (λ (b : List Entry). b) (take c.args.sealed blocks)) (take c.args.n (get_or blocks c.args.sealed last)) c.requires.updates in
    rw whole (one-all (IsUpdate c.args.kinds.now) blocks c.loop-i.i c.args.sealed last c.loop-i-test.true c.requires.sealed first)

pub split-requires-clause-bounded : goal.split-requires-clause-bounded
split-requires-clause-bounded c =
    let blocks = c.args.self.now.blocks in
    let last = c.args.self.now.last in
    let whole : take c.len.result c.next-block.result.now ≡ get_or blocks c.loop-i.i last = take_all _ _ (omega (arith, c.len.ensures)) ∙ c.next-block.ensures in
    let sum = sum_by-append entry_rows (flat_map (λ (b : List Entry). b) (take c.args.sealed blocks)) (take c.args.n (get_or blocks c.args.sealed last)) in
    rw whole (omega (arith, one-total blocks c.loop-i.i c.args.sealed last c.loop-i-test.true c.requires.sealed, sum, c.requires.bounded))

pub loop-i-preserved : goal.loop-i-preserved
loop-i-preserved c =
    let blocks = c.args.self.now.blocks in
    let last = c.args.self.now.last in
    let i = c.loop-i.i in
    let i_in : i < length blocks = omega (arith, c.loop-i-test.true, c.requires.sealed) in
    let whole : take c.len.result c.next-block.result.now ≡ get_or blocks i last = take_all _ _ (omega (arith, c.len.ensures)) ∙ c.next-block.ensures in
    let now = c.loop-i.invariant in
    record {
      so_far = c.in_ok-entries-2.ensures ∙ (λ j. now.so_far j ++ drop (now.skip j) (whole j)) ∙ sym (from-more blocks i c.args.from last i_in);
      skip = omega (arith, now.within c.loop-i-test.true);
      within = λ more. omega (arith, now.within c.loop-i-test.true, cat-more blocks (i + 1) last (omega (arith, more, c.requires.sealed)));
    }

pub split-requires-2-clause-updates : goal.split-requires-2-clause-updates
split-requires-2-clause-updates c =
    rw c.next.ensures (all-right (IsUpdate c.args.kinds.now) (flat_map (λ (b : List Entry). b) (take c.args.sealed c.args.self.now.blocks)) (take c.args.n (get_or c.args.self.now.blocks c.args.sealed c.args.self.now.last)) c.requires.updates)

pub returns : goal.returns
returns c =
    let blocks = c.args.self.now.blocks in
    let from = c.args.from in
    let first = flat_map (λ (b : List Entry). b) (take c.args.sealed blocks) in
    let rest = take c.args.n (get_or blocks c.args.sealed c.args.self.now.last) in
    let now = c.loop-i.invariant in
    let done : c.loop-i.i ≡ c.args.sealed = omega (arith, c.loop-i-test.false, c.loop-i.auto.i-end, c.place_of-first.ensures.block) in
    let all : c.loop-i.entries.items ++ drop c.loop-i.skip (take c.args.n c.next.result.now) ≡ drop from (first ++ rest) =
    (λ j. now.so_far j ++ drop (now.skip j) (take c.args.n (c.next.ensures j)))
    ∙ ap (λ k. drop from (flat_map (λ (b : List Entry). b) (take k blocks)) ++ drop (from - length (flat_map (λ (b : List Entry). b) (take k blocks))) rest) done
    ∙ sym (drop-append from first rest) in
    rw all at c.split-2.ensures
