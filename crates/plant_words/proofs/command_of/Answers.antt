use Rattle.std.proofs.Common.{◌≡◌, ◌∙◌, Option, Some, None, ap, sym, subst, refl, map, string_bytes}
use Rattle.std.proofs.lemmas.Result.{IfOk-weaker}
use Rattle.plant_words.specs.Asked.{Given, Asks, IsAsked, shown}
use Rattle.plant_words.specs.Reading.{given_of}
use Rattle.plant_words.proofs.CommandLemmas.{asked-parts, parts-asked}
use Rattle.plant_words.proofs.command_of.Goals as goal

pub returns-in_default-options_of-clause-asked : goal.returns-in_default-options_of-clause-asked
returns-in_default-options_of-clause-asked c asked is =
    let arguments = ap (map string_bytes) c.in-Some.ensures.cases.0 in
    let parts = asked-parts (string_bytes c.in-Some.name.now) (map string_bytes c.in-Some.rest.now) None asked c.in_default-options_of.ensures.options (subst (λ ws. IsAsked ws asked) arguments is) in
    let none : None ≡ Some parts.given = parts.are in
    absurd (cc)

pub returns-clause-asked : goal.returns-clause-asked
returns-clause-asked c asked is =
    let arguments = ap (map string_bytes) c.in-Some.ensures.cases.0 in
    let given = given_of c.in-Some-options_of.options in
    let parts = asked-parts (string_bytes c.in-Some.name.now) (map string_bytes c.in-Some.rest.now) (Some given) asked c.in-Some-options_of.ensures.options (subst (λ ws. IsAsked ws asked) arguments is) in
    let some : Some given ≡ Some parts.given = parts.are in
    let same : parts.given ≡ given = cc in
    c.command_named.ensures.asked asked (parts.named ∙ sym c.as_str.ensures.value) (subst (λ g. Asks g asked) same parts.asks)

pub returns-clause-read : goal.returns-clause-read
returns-clause-read c =
    let arguments = ap (map string_bytes) c.in-Some.ensures.cases.0 in
    let given = given_of c.in-Some-options_of.options in
    IfOk-weaker c.command_named.result _ _ (λ command read.
    subst (λ ws. IsAsked ws (shown command)) (sym arguments)
    (parts-asked (string_bytes c.in-Some.name.now) (map string_bytes c.in-Some.rest.now) given (shown command)
    ((c.in-Some-options_of.ensures.options given).0 refl) (read.0 ∙ c.as_str.ensures.value) read.1))
    c.command_named.ensures.read
