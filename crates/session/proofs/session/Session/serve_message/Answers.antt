use Rattle.session.proofs.PerformLemmas.{serves-then, ends-anyhow}
use Rattle.session.proofs.ServingLemmas.{served-fits}
use Rattle.session.proofs.session.Session.serve_message.Goals as goal

pub publish-requires-clause-fits : goal.publish-requires-clause-fits
publish-requires-clause-fits g c = served-fits _ _ _ _ _ c.in-None.ensures.performs c.requires.fits

pub returns-in-Some-clause-performs : goal.returns-in-Some-clause-performs
returns-in-Some-clause-performs g c = ends-anyhow _ _ _ _ _ _ _ c.in-Some.ensures.performs

pub returns-in-None-clause-performs : goal.returns-in-None-clause-performs
returns-in-None-clause-performs g c = serves-then _ _ _ _ _ _ _ _ c.in-None.ensures.performs c.publish.ensures.performs
