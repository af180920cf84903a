-- What a subscriber is sent.
use Rattle.std.specs.Prelude.{◌≡◌, List, All, Any}
use Rattle.pubsub.specs.Told.{Publication}
use Rattle.publications.specs.Notice.{Fits, sent_for}
use Rattle.publications.specs.declared.outcome.Publications.{Publications}
use Rattle.publications.specs.declared.outcome.Publications.TheVariants as p

-- the messages of these publications, each of which fits, or that one doesn't
abbrev pub Publishes : List Publication → Publications → Type 0
Publishes told (p.Messages bytes) = All Fits told × (bytes.items ≡ sent_for told)
Publishes told p.TooLong = Any (λ publication. ¬ Fits publication) told
