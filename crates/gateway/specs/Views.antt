-- The types of the crate as contracts see them.
use Rattle.qsql_request.specs.Views.{request_of}
use Rattle.qsql_parse.specs.Verdicts.{Verdict, asks, too_much, no_request, not_built}
use Rattle.gateway.specs.declared.question.Question.{Question}
use Rattle.gateway.specs.declared.question.Question.TheVariants as r

-- what was read of a text, as a verdict
abbrev pub verdict_of : Question → Verdict
verdict_of (r.Asks request) = asks (request_of request)
verdict_of r.TooMuch = too_much
verdict_of (r.NoRequest at) = no_request at
verdict_of r.NotBuilt = not_built
