use Rattle.std.proofs.Common.{refl, inl, inr}
use Rattle.plant_run.proofs.program.run.Goals as goal

pub returns-in-Err-Shown : goal.returns-in-Err-Shown
returns-in-Err-Shown g c =
    let asks = c.in-Err-Shown in
    inr (inl ((λ asked is. rw asks.field-0-is at (asks.ensures.asked asked is)), inl c.show.ensures))

pub returns-in-Err-Usage : goal.returns-in-Err-Usage
returns-in-Err-Usage g c =
    let asks = c.in-Err-Usage in
    inr (inl ((λ asked is. rw asks.field-0-is at (asks.ensures.asked asked is)), inr (c.as_bytes.result.now, refl, c.warn_of_usage.ensures)))
