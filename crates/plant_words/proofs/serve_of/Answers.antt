use Rattle.std.proofs.Common.{rules, ◌≡◌, Some, None, refl}
use Rattle.plant_words.specs.Reading.{given_of}
use Rattle.plant_words.proofs.CommandLemmas.{serve-asks, same-serve}
use Rattle.plant_words.proofs.serve_of.Goals as goal

pub returns-in_default-port_of-clause-asked : goal.returns-in_default-port_of-clause-asked
returns-in_default-port_of-clause-asked c asked name asks =
    let is = serve-asks (given_of c.args.options) asked name asks in
    let none : None ≡ Some is.port = (c.in_default-port_of.ensures is.port).1 is.asks.port_is in
    absurd (cc)

pub returns-in_default-sessions_of-clause-asked : goal.returns-in_default-sessions_of-clause-asked
returns-in_default-sessions_of-clause-asked c asked name asks =
    let is = serve-asks (given_of c.args.options) asked name asks in
    let none : None ≡ Some is.sessions = (c.in_default-sessions_of.ensures is.sessions).1 is.asks.sessions_are in
    absurd (cc)

pub returns-clause-asked : goal.returns-clause-asked
returns-clause-asked c asked name asks =
    let is = serve-asks (given_of c.args.options) asked name asks in
    let port : Some c.in-Some.port ≡ Some is.port = (c.in-Some.ensures is.port).1 is.asks.port_is in
    let sessions : Some c.in-Some-sessions_of.sessions ≡ Some is.sessions = (c.in-Some-sessions_of.ensures is.sessions).1 is.asks.sessions_are in
    let same_port : c.in-Some.port ≡ is.port = cc in
    let same_sessions : c.in-Some-sessions_of.sessions ≡ is.sessions = cc in
    same-serve (given_of c.args.options) asked is c.in-Some.port c.in-Some-sessions_of.sessions same_port same_sessions

pub returns-clause-read : goal.returns-clause-read
returns-clause-read c = (
  refl,
  record {
    port_is = (c.in-Some.ensures c.in-Some.port).0 refl;
    sessions_are = (c.in-Some-sessions_of.ensures c.in-Some-sessions_of.sessions).0 refl;
    folder_is = refl;
    schema_is = refl;
    no_clock = search rules;
    no_step = search rules;
    batch_is = refl;
  },
)
