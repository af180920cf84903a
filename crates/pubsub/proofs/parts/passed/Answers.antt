use Rattle.std.proofs.Common.{◌≡◌, Option, Some, None, map, refl, subst, ◌∙◌}
use Rattle.std.proofs.lemmas.Option.{get_or_from_slice_get}
use Rattle.q_values.specs.Contents.{Contents}
use Rattle.pubsub.specs.Parts.{AreMarked}
use Rattle.pubsub.specs.Told.{chooses}
use Rattle.pubsub.specs.declared.parts.Part.{Part}
use Rattle.pubsub.specs.declared.rows.Rows.{Rows}
use Rattle.pubsub.proofs.LineLemmas.{passed_none, passed_some}
use Rattle.pubsub.proofs.parts.passed.Goals as goal

pub returns-in-None : goal.returns-in-None
returns-in-None c =
    let columns = c.args.columns.now in
    let read = c.index-columns-1.result in
    let same : read ≡ c.requires.symbols = c.index-columns-1.is ∙ get_or_from_slice_get columns 1 c.requires.symbols read c.requires.second in
    passed_none c.args.filter.now columns c.requires
    (subst (λ (v : Contents). AreMarked (map (chooses c.args.filter.now) v.atoms) None) same
    (subst (λ (rows : Option Rows). AreMarked (map (chooses c.args.filter.now) read.atoms) rows) c.in-None.is c.in_ok-chosen_rows.ensures))

pub returns-in-Some : goal.returns-in-Some
returns-in-Some c =
    let columns = c.args.columns.now in
    let read = c.index-columns-1.result in
    let same : read ≡ c.requires.symbols = c.index-columns-1.is ∙ get_or_from_slice_get columns 1 c.requires.symbols read c.requires.second in
    let part : Part = record { columns = c.args.columns; rows = c.in-Some.rows } in
    passed_some c.args.filter.now columns part c.requires refl
    (subst (λ (v : Contents). AreMarked (map (chooses c.args.filter.now) v.atoms) (Some c.in-Some.rows)) same
    (subst (λ (rows : Option Rows). AreMarked (map (chooses c.args.filter.now) read.atoms) rows) c.in-Some.is c.in_ok-chosen_rows.ensures))
