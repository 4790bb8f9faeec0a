use Rattle.std.proofs.Common.{◌∙◌, ap}
use Rattle.std.specs.Prelude.{option_and_then}
use Rattle.std.specs.Str.Parse.{ParsesUnsigned, ExplainsUnsignedError, HasUnsignedDigitsIfOk}
use Rattle.clap.specs.Words.{found_of}
use Rattle.clap.proofs.WalkLemmas.{one_text-rows}
use Rattle.aql_options.specs.Words.{number_of}
use Rattle.aql_options.proofs.Numbers.{read_option}
use Rattle.aql_options.proofs.words.parse_number.Goals as goal

pub returns : goal.returns
returns c = read_option (λ bs r. ParsesUnsigned 64 10 bs r × ExplainsUnsignedError 10 bs r × HasUnsignedDigitsIfOk bs r) (λ t x g. g.0) _ c.get_one.result
    c.get_one.ensures.none c.get_one.ensures.value
    ∙ ap (option_and_then number_of) (one_text-rows (found_of c.args.matches.now) c.args.name.now)
