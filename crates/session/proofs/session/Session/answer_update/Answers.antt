use Rattle.std.proofs.Common.{◌≡◌, rules, w64, to_z, of_z}
use Rattle.session.proofs.ServedLemmas.{does_logged, does_refused, does_failed}
use Rattle.session.proofs.session.Session.answer_update.Goals as goal

pub returns-in-Logged-clause-does : goal.returns-in-Logged-clause-does
returns-in-Logged-clause-does g c =
    let now : to_z w64 (of_z w64 c.now-now.result) ≡ c.now-now.result = search rules in
    does_logged _ _ _ _ c.args.self.now.limits.now _ _ _ _ c.in-Logged.rolled c.in-Logged.place _ c.requires.same c.now-now.ensures (rw now at c.in-Logged.ensures) (rw now at c.logged.ensures.roll) (rw now at c.logged.ensures.turn) c.logged.ensures.reply

pub returns-in-Refused-clause-does : goal.returns-in-Refused-clause-does
returns-in-Refused-clause-does g c =
    let now : to_z w64 (of_z w64 c.now-now.result) ≡ c.now-now.result = search rules in
    does_refused _ _ _ _ c.args.self.now.limits.now _ _ _ _ c.in-Refused.length c.in-Refused.why _ c.requires.same c.now-now.ensures (rw now at c.in-Refused.ensures) (rw now at c.refused.ensures)

pub returns-in-Failed-clause-does : goal.returns-in-Failed-clause-does
returns-in-Failed-clause-does g c =
    let now : to_z w64 (of_z w64 c.now-now.result) ≡ c.now-now.result = search rules in
    does_failed _ _ _ _ c.args.self.now.limits.now _ _ _ _ c.in-Failed.rolled c.in-Failed.place _ c.requires.same c.now-now.ensures (rw now at c.in-Failed.ensures) (rw now at c.failed.ensures.roll) (rw now at c.failed.ensures.turn) c.failed.ensures.reply
