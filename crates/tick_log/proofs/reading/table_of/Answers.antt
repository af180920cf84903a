use Rattle.std.proofs.Common.{◌∷◌, ◌++◌, List, ℕ, sym, ap, ◌∙◌}
use Rattle.std.proofs.lemmas.List.{append_cancel_left}
use Rattle.tick_log.specs.Reading.{opening}
use Rattle.tick_log.proofs.Steps.{some_then, none_then}
use Rattle.tick_log.proofs.reading.table_of.Goals as goal

pub returns-in_err-after-clause-none : goal.returns-in_err-after-clause-none
returns-in_err-after-clause-none c = rw c.from_residual.ensures (λ i shape rest at e. c.in_err-after.ensures.none (shape.table ++ 0 ∷ rest) e)

pub returns-clause-some : goal.returns-clause-some
returns-clause-some c = some_then c.name_of.result (λ x h. (h.0, h.1, c.in_ok-after.ensures.some ∙ ap (λ (r : List ℕ). opening ++ r) h.2)) c.name_of.ensures.some

pub returns-clause-none : goal.returns-clause-none
returns-clause-none c =
    none_then c.name_of.result
    (λ none i shape rest at e. none i shape rest at (append_cancel_left opening c.in_ok-after.field-0.now (shape.table ++ 0 ∷ rest) (sym c.in_ok-after.ensures.some ∙ e))) c.name_of.ensures.none
