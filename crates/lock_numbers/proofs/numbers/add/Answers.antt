use Rattle.std.proofs.Common.{rules, ◌≡◌, [], ◌∷◌, ◌++◌, sym, subst}
use Rattle.plant_lock.specs.Entries.{IsExtendedBy}
use Rattle.lock_numbers.specs.Added.{made_by}
use Rattle.lock_numbers.proofs.AddedLemmas.{one_more}
use Rattle.lock_numbers.proofs.numbers.add.Goals as goal

pub give-requires-clause-history : goal.give-requires-clause-history
give-requires-clause-history g c = let pass = c.take-held.result.pass in
    let pushed : c.push.new.self.items ≡ pass.seen ++ made_by pass.number c.args.number ∷ [] = search rules in
    subst (IsExtendedBy (λ e. e.by) pass.number pass.seen) (sym pushed) (one_more pass.number c.args.number pass.seen)
