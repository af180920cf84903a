use Rattle.std.specs.Prelude.{Ok, Err}
use Rattle.schema_text.proofs.BuiltIn.{built_in-ok, built_in-err}
use Rattle.schema_text.proofs.reading.built_in_schema.Goals.{in-NoMemory, in_default}
use Rattle.schema_text.proofs.reading.built_in_schema.Goals as goal

pub returns-in-Ok : goal.returns-in-Ok
returns-in-Ok c = built_in-ok (Ok c.in-Ok.schema) c.in-Ok.ensures.exact

pub prove-unreachable-requires : goal.prove-unreachable-requires
prove-unreachable-requires c =
    let none = built_in-err (Err c.in-Err.why) c.in-Err.ensures.exact in
    let not = c.if-prove.true in
    elim c.match-matches.branch [ in-NoMemory w ↦ let is = w.matches-is in cc | in_default w ↦ absurd (w.in_default.not-NoMemory none) ]
