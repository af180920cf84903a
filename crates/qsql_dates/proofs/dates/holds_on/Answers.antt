use Rattle.std.proofs.Common.{rules, SFits, ℕ, ℤ, w32, ◌∙◌, ap, ap₂, Bool, List, [], ◌∷◌}
use Rattle.std.specs.List.{list_all}
use Rattle.q_values.specs.Contents.{Contents}
use Rattle.q_values.specs.Tree.{Tree}
use Rattle.qsql_request.specs.Views.{form}
use Rattle.qsql_values.specs.Frames.{Frame, frame_of}
use Rattle.qsql_values.specs.Values.{val, truths}
use Rattle.std.proofs.lemmas.Int.{to_z-of_z}
use Rattle.qsql_dates.specs.Dates.{date_column}
use Rattle.qsql_dates.proofs.dates.holds_on.Goals as goal

pub returns : goal.returns
returns c =
    let fits : SFits w32 c.args.date = search rules in
    c.is_all_true.ensures ∙ ap (λ (t : Tree). list_all (λ (b : Bool). b) (truths t)) c.in_ok-value.ensures.value
    ∙ ap (λ (f : Frame). list_all (λ (b : Bool). b) (truths (val f (form c.args.phrase.now)))) c.new-scope.ensures
    ∙ ap₂ (λ (name : List ℕ) (column : Contents). list_all (λ (b : Bool). b) (truths (val (frame_of (name ∷ []) (column ∷ [])) (form c.args.phrase.now)))) c.in_ok-name.ensures (c.in_ok-column.ensures ∙ ap (λ (d : ℤ). date_column (d ∷ [])) (to_z-of_z w32 c.args.date fits))
