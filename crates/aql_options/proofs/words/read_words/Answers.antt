use Rattle.std.proofs.Common.{◌≡◌, ◌∙◌, ap, sym, true, refl, map, List, subst}
use Rattle.std.specs.String.{string_bytes}
use Rattle.clap.specs.Words.{App, Text, fault_of, found_of, rows_of, is_simple, is_simple_and_free, matches_of}
use Rattle.clap.proofs.OnLiterals.{clap_on_literals}
use Rattle.aql_options.specs.Words.{AreInRange, aql, options_in}
use Rattle.aql_options.proofs.Numbers.{in_range}
use Rattle.aql_options.proofs.words.read_words.Goals as goal

free : is_simple_and_free aql ≡ true
unfolding clap_on_literals
free = refl

simple : is_simple aql ≡ true
unfolding clap_on_literals
simple = refl

pub returns-in-Ok-clause-read :
    goal.returns-in-Ok-clause-read
returns-in-Ok-clause-read c =
    let is = c.in_ok-command.ensures in
    let words : List Text = map string_bytes c.args.words.now in
    let parse = c.in-Ok.ensures in (
      sym (ap (λ (a : App). fault_of a words) is) ∙ parse.kinds (ap is_simple_and_free is ∙ free),
      c.asked_for.ensures ∙ ap options_in (parse.matches (ap is_simple is ∙ simple)).0 ∙ ap (λ (a : App). options_in (matches_of a words)) is,
    )

pub returns-in-Ok-clause-ranges :
    goal.returns-in-Ok-clause-ranges
returns-in-Ok-clause-ranges c = subst AreInRange (sym c.asked_for.ensures) (in_range (rows_of (found_of c.in-Ok.matches)))
