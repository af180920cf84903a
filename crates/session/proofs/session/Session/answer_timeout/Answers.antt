use Rattle.std.proofs.Common.{◌≡◌, refl, rules, w64, to_z, of_z}
use Rattle.session.proofs.IdleLemmas.{does_quiet, does_rolled, does_failed_idle, does_short_idle}
use Rattle.session.proofs.session.Session.answer_timeout.Goals as goal

pub returns-in-Quiet-clause-does : goal.returns-in-Quiet-clause-does
returns-in-Quiet-clause-does g c =
    let now : to_z w64 (of_z w64 c.now-now.result) ≡ c.now-now.result = search rules in
    does_quiet _ _ _ _ _ c.now-now.result c.in-Quiet.length _ c.now-now.ensures (rw now at c.in-Quiet.ensures) c.unsent.ensures.roll (rw now at c.unsent.ensures.turn) c.unsent.ensures.reply

pub returns-in-Rolled-clause-does : goal.returns-in-Rolled-clause-does
returns-in-Rolled-clause-does g c =
    let now : to_z w64 (of_z w64 c.now-now.result) ≡ c.now-now.result = search rules in
    does_rolled _ _ _ _ _ c.now-now.result c.in-Rolled.place _ c.now-now.ensures (rw now at c.in-Rolled.ensures) c.unsent-in-Rolled.ensures.roll (rw now at c.unsent-in-Rolled.ensures.turn) c.unsent-in-Rolled.ensures.reply

pub returns-in-NoMemory-clause-does : goal.returns-in-NoMemory-clause-does
returns-in-NoMemory-clause-does g c =
    let now : to_z w64 (of_z w64 c.now-now.result) ≡ c.now-now.result = search rules in
    does_short_idle _ _ _ _ _ c.now-now.result _ refl c.now-now.ensures (rw now at c.in-NoMemory.ensures) c.unsent-in-NoMemory.ensures.roll c.unsent-in-NoMemory.ensures.turn c.unsent-in-NoMemory.ensures.reply

pub returns-in-Failed-clause-does : goal.returns-in-Failed-clause-does
returns-in-Failed-clause-does g c =
    let now : to_z w64 (of_z w64 c.now-now.result) ≡ c.now-now.result = search rules in
    does_failed_idle _ _ _ _ _ c.now-now.result c.in-Failed.place _ c.now-now.ensures (rw now at c.in-Failed.ensures) c.unsent-in-Failed.ensures.roll (rw now at c.unsent-in-Failed.ensures.turn) c.unsent-in-Failed.ensures.reply
