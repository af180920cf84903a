use Rattle.std.proofs.Common.{◌∷◌, sym, ◌∙◌}
use Rattle.std.proofs.lemmas.List.{append_cancel_left}
use Rattle.tick_log.proofs.Steps.{none_then}
use Rattle.tick_log.proofs.reading.after_name.Goals as goal

pub returns-clause-none : goal.returns-clause-none
returns-clause-none c =
    none_then c.after-2.result (λ none rest e. none rest (append_cancel_left c.args.name.now c.in_ok-after.field-0.now (0 ∷ rest) (sym c.in_ok-after.ensures.some ∙ e))) c.after-2.ensures.none
