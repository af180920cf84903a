use Rattle.std.proofs.Common.{◌∙◌, sym, map, string_bytes}
use Rattle.plant_words.proofs.OptionsLemmas.{read-options, options-read}
use Rattle.plant_words.proofs.options.options_of.Goals as goal

pub returns : goal.returns
returns c = record {
  options = λ given. (
    (λ found. options-read (map string_bytes c.args.arguments.now) given (sym c.read_options.ensures ∙ found)),
    (λ are. c.read_options.ensures ∙ read-options (map string_bytes c.args.arguments.now) given are),
  );
}
