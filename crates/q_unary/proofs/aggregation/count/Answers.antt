use Rattle.std.proofs.Common.{◌≡◌, ◌<◌, rules, arith, FitsSigned, ap, ◌∙◌, length, to_z}
use Rattle.std.specs.Int.{w64}
use Rattle.std.proofs.lemmas.Int.{to_z-of_z}
use Rattle.q_values.specs.declared.atom.Atom.TheVariants as a
use Rattle.q_unary.proofs.AggregateLemmas.{count_wraps}
use Rattle.q_unary.proofs.aggregation.count.Goals as goal

pub returns : goal.returns
returns c =
    let fits : FitsSigned w64 c.cast_signed.result = search rules in
    let small : length c.args.x.now.atoms < 18446744073709551616 = omega arith in
    let cast : c.cast_signed.result ≡ to_z w64 (length c.args.x.now.atoms) = cc in
    ap (λ n. a.Long n) (to_z-of_z w64 c.cast_signed.result fits ∙ cast ∙ count_wraps (length c.args.x.now.atoms) small)
