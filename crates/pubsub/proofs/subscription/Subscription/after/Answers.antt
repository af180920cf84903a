use Rattle.std.proofs.Common.{◌≡◌, ◌∙◌, ap, sym, length}
use Rattle.pubsub.specs.Filters.{replaced, table_names}
use Rattle.pubsub.proofs.FilterLemmas.{still_each}
use Rattle.pubsub.proofs.subscription.Subscription.after.Goals as goal

pub invariant_of-result : goal.invariant_of-result
invariant_of-result c =
    let fields = c.self.inside in
    let names = c.names-names.result.now in
    let are : names ≡ table_names fields.tables.value = c.names-names.ensures ∙ ap table_names c.deref.ensures in
    still_each c.args.request.now.tables c.in_ok-new.new names fields.filters.items c.in_ok-filters.filters.items fields.tables.value are c.self.invariant
    (c.in_ok-filters.ensures ∙ ap (replaced c.args.request.now.tables c.in_ok-new.new names) c.deref-2.ensures.value)
    ∙ sym (ap length c.in_ok-share.ensures)
