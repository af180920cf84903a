use Rattle.std.proofs.Common.{nat_eq, false, true, ◌≡◌, ◌++◌, ◌∷◌, [], List, ℕ, length, subst, sym, ap, ◌∙◌, arith}
use Rattle.std.specs.List.{AllByRecursion, flat_map}
use Rattle.std.proofs.lemmas.Result.{err_from_is_err_and}
use Rattle.std.proofs.lemmas.List.{length-append}
use Rattle.q_values.specs.Contents.{Contents}
use Rattle.ipc_codec.specs.Canonical.{IsWritable, BeginsWithNone}
use Rattle.ipc_codec.specs.Written.{vector_bytes}
use Rattle.tick_log.specs.Reading.{AreVectors}
use Rattle.tick_log.proofs.Chunks.{vectors_end, vectors_left, vectors_more, all_more}
use Rattle.tick_log.proofs.Steps.{vector_refuses}
use Rattle.tick_log.proofs.reading.vectors_of.Goals as goal

pub returns-in_err-column-clause-none : goal.returns-in_err-column-clause-none
returns-in_err-column-clause-none c =
    let p = err_from_is_err_and c.from_residual-in_err-column.result c.from_residual-in_err-column.ensures.1 in
    let i = c.loop.invariant in
    vector_refuses c.from_residual-in_err-column.result p.0 c.in_err-column.field-0.0 (BeginsWithNone c.loop.rest.now) ((columns : List Contents) → AreVectors c.args.count c.args.bytes.now columns → ⊥) p.1 p.2 c.in_err-column.ensures.refused
    (vectors_end c.loop.columns c.args.bytes.now c.loop.rest.now c.args.count i.writable (omega (arith, i.counted, c.loop-test.true)) i.spelled)

pub loop-preserved : goal.loop-preserved
loop-preserved c =
    let i = c.loop.invariant in
    let column = c.in_ok-column.column in
    let pushed = c.in_ok-push.ensures.ok in
    record {
      spelled = vectors_more c.loop.columns c.args.bytes.now c.loop.rest.now c.in_ok-column.after.now column i.spelled c.in_ok-column.ensures.found ∙ ap (λ (cs : List Contents). flat_map vector_bytes cs ++ c.in_ok-column.after.now) (sym pushed);
      counted = omega (arith, ap length pushed, length-append c.loop.columns (column ∷ []), i.counted);
      writable = subst (AllByRecursion IsWritable) (sym pushed) (all_more IsWritable c.loop.columns column i.writable c.in_ok-column.ensures.found.writable);
    }

pub returns-then-not-is_empty-clause-none : goal.returns-then-not-is_empty-clause-none
returns-then-not-is_empty-clause-none c =
    let i = c.loop.invariant in
    vectors_left c.loop.columns c.args.bytes.now c.loop.rest.now c.args.count i.writable (omega (arith, i.counted, c.loop-test.false, c.loop.auto)) i.spelled
    (λ e. let both : false ≡ true = c.if-not-is_empty.ensures ∙ ap (λ (n : ℕ). nat_eq n 0) e in absurd cc)
