use Rattle.std.proofs.Common.{◌≡◌, ◌<◌, rules, arith, FitsSigned, ap, ◌∙◌, to_z}
use Rattle.std.specs.Int.{w64}
use Rattle.std.proofs.lemmas.Int.{to_z-of_z}
use Rattle.q_values.specs.declared.atom.Atom.TheVariants as a
use Rattle.q_unary.proofs.AggregateLemmas.{count_wraps}
use Rattle.qsql_values.proofs.counting.count_atom.Goals as goal

pub returns : goal.returns
returns c =
    let fits : FitsSigned w64 c.cast_signed.result = search rules in
    let small : c.args.rows < 18446744073709551616 = omega arith in
    let cast : c.cast_signed.result ≡ to_z w64 c.args.rows = cc in
    ap (λ n. a.Long n) (to_z-of_z w64 c.cast_signed.result fits ∙ cast ∙ count_wraps c.args.rows small)
