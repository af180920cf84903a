use Rattle.std.proofs.Common.{◌≡◌, ℕ, rules, arith, ◌≤◌, ◌+◌}
use Rattle.day_rows.specs.Day.{entry_rows}
use Rattle.tick_log.specs.Chunk.{IsChunk}
use Rattle.plant_memory.proofs.MemoryLemmas.{chunk-some, fresh-opened, fresh-rolls}
use Rattle.plant_memory.proofs.memory.Memory.make_room.Goals as goal

pub invariant_of-result : goal.invariant_of-result
invariant_of-result c =
    let same : c.entry_of.result ≡ c.args.judged.update = search rules in
    let entries : c.of-of.result.value.entries ≡ c.args.self.now.entries = search rules in
    let chunk : (before : ℕ) → before + entry_rows c.entry_of.result ≤ 4294967295 → IsChunk c.of-of.result.value.frame.schema before c.in_ok-chunk.chunk.bytes c.entry_of.result = rw (c.of-of.ensures, same) (rw c.deref.ensures at c.in_ok-chunk.ensures) in
    let rolls = fresh-rolls _ _ c.in_ok-fresh.fresh c.in_ok-fresh.ensures.fresh in
    let few : 0 + entry_rows c.entry_of.result ≤ 4294967295 = rw same (omega (arith, c.requires.bounded)) in
    record {
      few = search rules;
      own = search rules;
      by_few = search rules;
      update = search rules;
      bounded = rw (rolls, same, entries) c.requires.bounded;
      some = chunk-some _ 0 _ _ (chunk 0 few);
      chunk_is = chunk;
      fresh_is = λ opened is. rw (c.of-of.ensures, ← c.entry_of.ensures) (fresh-opened _ _ c.in_ok-fresh.fresh opened c.in_ok-fresh.ensures.fresh is);
    }
