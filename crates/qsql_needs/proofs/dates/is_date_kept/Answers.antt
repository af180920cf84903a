use Rattle.std.proofs.Common.{◌≡◌, true, ℤ, List, sym, subst, All, w32, to_z, of_z}
use Rattle.qsql_request.specs.Views.{form}
use Rattle.qsql_request.specs.declared.request.Expr.{Expr}
use Rattle.qsql_dates.specs.Dates.{is_date_phrase, IsDateTest}
use Rattle.qsql_needs.proofs.NeededLemmas.{fit_dates}
use Rattle.qsql_needs.proofs.dates.is_date_kept.Goals as goal

pub keeps-requires : goal.keeps-requires
keeps-requires c =
    let date : ℤ = to_z w32 (of_z w32 c.args.date) in
    subst (λ (phrases : List Expr). All (λ (p : Expr). is_date_phrase (form p) ≡ true → IsDateTest date (form p)) phrases) (sym c.as_slice-phrases.ensures)
    (fit_dates c.args.typed.now.table.now date c.args.typed.now.query.now c.args.typed.now.fit)
