use Rattle.std.proofs.Common.{◌≡◌, ◌<◌, ◌≤◌, All, length, map, take, drop, ap, sym, subst, ◌∙◌, arith}
use Rattle.std.specs.List.{Any, flat_map}
use Rattle.q_values.specs.Tree.{Tree, trees}
use Rattle.day_rows.specs.Chronicle.{date_of}
use Rattle.day_rows.specs.Schema.{IsSchema}
use Rattle.ipc_codec.specs.Written.{IsPlain}
use Rattle.pubsub.specs.Told.{told}
use Rattle.publications.proofs.ListLemmas.{any-map, flat_map-map}
use Rattle.publications.proofs.PlainLemmas.{all_plain, all_fit}
use Rattle.publications.proofs.ToldLemmas.{told-wide}
use Rattle.publications.specs.Notice.{notice, publication_tree}
use Rattle.publications.proofs.sending.publications.Goals as goal

pub returns-in-None : goal.returns-in-None
returns-in-None c =
    let P : Tree → Type 0 = λ t. 4294967295 < length (notice t) in
    let known : trees c.in_ok-values.values ≡ map publication_tree _ = c.in_ok-values.ensures ∙ ap (map publication_tree) c.in_ok-messages.ensures in
    let any = any-map P publication_tree _ (subst (Any P) known c.in-None.ensures) in
    (any.0, any.1, any.2, any.3, λ fits. omega (arith, fits, any.4))

pub joined-requires-clause-plain : goal.joined-requires-clause-plain
joined-requires-clause-plain c =
    let P : Tree → Type 0 = λ t. length (notice t) ≤ 4294967295 in
    let tail = c.args.tail.now in
    let date = date_of tail.frame.first (take tail.from tail.entries) in
    let entries = drop tail.from tail.entries in
    let is : IsSchema c.args.subscription.now.schema = subst IsSchema (sym (c.requires.own ∙ sym c.schema.ensures)) c.learn_schema.ensures in
    let wide = told-wide c.args.batch c.args.subscription.now date entries is in
    let known : trees c.in_ok-values.values ≡ map publication_tree (told c.args.batch c.args.subscription.now date entries) = c.in_ok-values.ensures ∙ ap (map publication_tree) c.in_ok-messages.ensures in
    subst (All IsPlain) (sym known) (all_plain (told c.args.batch c.args.subscription.now date entries) wide (subst (All P) known c.in-Some.ensures))

pub returns : goal.returns
returns c =
    let P : Tree → Type 0 = λ t. length (notice t) ≤ 4294967295 in
    let tail = c.args.tail.now in
    let date = date_of tail.frame.first (take tail.from tail.entries) in
    let owed = told c.args.batch c.args.subscription.now date (drop tail.from tail.entries) in
    let known : trees c.in_ok-values.values ≡ map publication_tree owed = c.in_ok-values.ensures ∙ ap (map publication_tree) c.in_ok-messages.ensures in (
      all_fit owed (subst (All P) known c.in-Some.ensures),
      c.in_ok-joined-in-Some.ensures ∙ ap (flat_map notice) known ∙ flat_map-map notice publication_tree owed,
    )
