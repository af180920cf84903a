use Rattle.pubsub.proofs.SetLemmas.{any_pushed, any_longer}
use Rattle.pubsub.proofs.symbol_set.push_short.Goals as goal

pub returns-in_ok-push-in-Some : goal.returns-in_ok-push-in-Some
returns-in_ok-push-in-Some c bytes short = any_pushed bytes c.args.symbol.now c.in-Some.short c.args.items.now.items c.push.new.self.items c.in-Some.ensures c.in_ok-push-in-Some.ensures.items

pub returns-in-None : goal.returns-in-None
returns-in-None c bytes short = any_longer bytes c.args.symbol.now c.args.items.now.items short c.in-None.ensures
