use Rattle.std.proofs.Common.{◌≡◌, Some, drop, map, string_bytes}
use Rattle.plant_words.specs.Reading.{read_from, state_of}
use Rattle.plant_words.proofs.options.read_options.Given as goal

abbrev pub invariant-loop-argument : goal.invariant-loop-argument
invariant-loop-argument l = read_from (Some (state_of l.reading)) (map string_bytes (drop l.argument-index l.arguments)) ≡ read_from (Some (state_of l.initial.reading)) (map string_bytes l.arguments)
