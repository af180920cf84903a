use Rattle.std.proofs.Common.{rules, FitsSigned, ap, ◌∙◌}
use Rattle.std.specs.HashSet.{contains}
use Rattle.std.specs.Int.{w64}
use Rattle.std.specs.Ordering.{int_eq}
use Rattle.std.proofs.lemmas.Int.{to_z-of_z}
use Rattle.q_matching.proofs.AmongLemmas.{told}
use Rattle.q_matching.proofs.among_numbers.is_in_set.Goals as goal

pub returns : goal.returns
returns c =
    let fits : FitsSigned w64 c.args.x.now = search rules in
    c.contains.ensures ∙ ap (contains int_eq c.args.set.now) (to_z-of_z w64 c.args.x.now fits) ∙ told (contains int_eq c.args.set.now) c.args.x.now fits
