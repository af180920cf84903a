use Rattle.std.proofs.Common.{map, take, flat_map, ap, sym, ◌∙◌}
use Rattle.std.proofs.lemmas.List.{take-map}
use Rattle.q_groups.proofs.AtomLemmas.{groups_of_texts}
use Rattle.q_groups.proofs.column.grouped_texts.Goals as goal

pub returns : goal.returns
returns c =
    groups_of_texts c.deref.result.now (take c.args.rows (flat_map (λ part. part.now) c.args.parts.now)) c.in_ok-groups.groups
    (ap (map (λ t. t.now)) (c.deref.ensures.value ∙ c.truncate.ensures.items) ∙ sym (take-map (λ t. t.now) c.args.rows c.in_ok-texts.texts.items) ∙ ap (take c.args.rows) c.in_ok-texts.ensures)
    c.in_ok-groups.ensures
