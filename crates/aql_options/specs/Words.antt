-- What the words of a command line ask for, by what `clap` states of commands without subcommands.
use Rattle.std.specs.Prelude.{◌≡◌, ◌≤◌, ◌&&◌, IfSome, ℕ, Bool, false, List, [], Option, Some, None, codes, if◌then◌else◌, nat_le, unwrap_or, option_and_then}
use Rattle.std.specs.Str.Parse.{digits_value, without_leading_plus}
use Rattle.std.specs.Str.{bytes_eq}
use Rattle.clap.specs.Words.{App, Row, Rule, Text, fault_of, matches_of, new_app, new_rule, first_of, one_of, with_rule}
use Rattle.clap.specs.declared.builder.action.ArgAction.TheVariants.{Set, SetTrue}
use Rattle.clap.specs.declared.builder.value_parser.ValueParser.TheVariants as parsers
use Rattle.clap.specs.ValueTests.{accepts}
use Rattle.aql_value.specs.Limits.{most_budget, most_workers}
use Rattle.aql_options.specs.declared.words.Options.{Options}

-- `--NAME N`: an option that takes one number from 1 to the most
abbrev pub number_rule : Text → ℕ → Rule
number_rule name most = record (new_rule name) { long = Some name; action = Some Set; parser = Some (parsers.Unsigned 1 most) }

-- `--NAME`: an option that is given or not
abbrev pub flag_rule : Text → Rule
flag_rule name = record (new_rule name) { long = Some name; action = Some SetTrue }

-- the greatest size of a sample script
abbrev pub most_sample : ℕ
most_sample = 1000000

-- aql [--workers N] [--budget N] [--plan] [--sample N] [--motion] [--graph]
abbrev pub aql : App
aql = with_rule (with_rule (with_rule (with_rule (with_rule (with_rule (new_app (codes "aql"))
    (number_rule (codes "workers") most_workers))
    (number_rule (codes "budget") most_budget))
    (flag_rule (codes "plan")))
    (number_rule (codes "sample") most_sample))
    (flag_rule (codes "motion")))
    (flag_rule (codes "graph"))

-- the command reads the words: no step of the reading fails, and none asks for help or for a version
abbrev pub HasReading : List Text → Type 0
HasReading words = fault_of aql words ≡ []

-- the number below 2 ^ 64 that a text spells in decimal, where it spells one
abbrev pub number_of : Text → Option ℕ
number_of text = if accepts false (parsers.Unsigned 0 18446744073709551615) text
    then Some (digits_value 10 (without_leading_plus text)) else None

-- the number where it lies from 1 to the most
abbrev pub up_to : ℕ → Option ℕ → Option ℕ
up_to most None = None
up_to most (Some n) = if nat_le 1 n && nat_le n most then Some n else None

-- the number of an option, where it is given; the command refuses one that does not lie from 1 to the most
abbrev pub number_at : ℕ → Text → List Row → Option ℕ
number_at most name rows = up_to most (option_and_then number_of (one_of name rows))

-- what a reading keeps of an option that is given or not
abbrev pub is_true_text : Option Text → Bool
is_true_text (Some text) = bytes_eq text (codes "true")
is_true_text None = false

-- the options of a reading, with the defaults of those that are not given
abbrev pub options_in : List Row → Options
options_in rows = record {
  workers = unwrap_or (number_at most_workers (codes "workers") rows) 1;
  budget = unwrap_or (number_at most_budget (codes "budget") rows) 10000000;
  plan = is_true_text (first_of (codes "plan") rows);
  sample = number_at most_sample (codes "sample") rows;
  motion = is_true_text (first_of (codes "motion") rows);
  graph = is_true_text (first_of (codes "graph") rows);
}

-- what the words ask for
abbrev pub options_of : List Text → Options
options_of words = options_in (matches_of aql words)

-- each number lies in its range
pub record AreInRange (options : Options) : Type 0 where
  pub workers : (1 ≤ options.workers) × (options.workers ≤ most_workers)
  pub budget : (1 ≤ options.budget) × (options.budget ≤ most_budget)
  pub sample : IfSome options.sample (λ n. (1 ≤ n) × (n ≤ most_sample))
