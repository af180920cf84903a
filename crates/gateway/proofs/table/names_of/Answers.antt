use Rattle.std.proofs.Common.{arith, ap, sym, ◌∙◌, ◌∷◌, [], Some, ℕ, List}
use Rattle.std.specs.Prelude.{codes}
use Rattle.gateway.specs.Needs.{is_wanted}
use Rattle.gateway.proofs.ChosenLemmas.{names_next, names_all}
use Rattle.gateway.proofs.table.names_of.Goals as goal

pub loop-i-preserved : goal.loop-i-preserved
loop-i-preserved c =
    names_next (is_wanted c.args.wanted.now) (codes "date" ∷ codes "i" ∷ []) c.args.table.now.names c.loop-i.i c.bytes.result.now c.loop-i.names c.push_name-in-loop-i.new.names
    c.loop-i.invariant (c.at.ensures ∙ ap (λ (n : List ℕ). Some n) (sym c.bytes.ensures.value)) c.in_ok-push_name-3.ensures

pub returns : goal.returns
returns c =
    c.loop-i.invariant ∙ names_all (is_wanted c.args.wanted.now) (codes "date" ∷ codes "i" ∷ []) c.args.table.now.names c.loop-i.i (omega (arith, c.loop-i-test.false, c.len-i-end.ensures))
