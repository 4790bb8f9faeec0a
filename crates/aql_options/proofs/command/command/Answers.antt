use Rattle.std.proofs.Common.{◌≡◌, ◌∙◌, ap, false}
use Rattle.clap.specs.Words.{AddsArg, App, Rule, app_of, rule_of, with_rule}
use Rattle.clap.specs.declared.builder.arg.Arg.{Arg}
use Rattle.clap.specs.declared.builder.command.Command.{Command}
use Rattle.aql_options.proofs.command.command.Goals as goal

-- an added option puts its rule into what the command was seen as
added : (old : Command) (a : Arg) (new : Command) (app : App) (rule : Rule) → AddsArg old a new → a.global ≡ false
    → rule_of a ≡ rule → app_of old ≡ app → app_of new ≡ with_rule app rule
added old a new app rule adds local is was =
    adds.shape local ∙ ap (λ x. with_rule x (rule_of a)) was ∙ ap (with_rule app) is

pub returns : goal.returns
returns c =
    let workers = added _ _ _ _ _ c.in_ok-one.ensures c.number_option-workers.ensures.local c.number_option-workers.ensures.rule c.new-start.ensures.app in
    let budget = added _ _ _ _ _ c.in_ok-two.ensures c.number_option-budget.ensures.local c.number_option-budget.ensures.rule workers in
    let plan = added _ _ _ _ _ c.in_ok-three.ensures c.flag_option-plan.ensures.local c.flag_option-plan.ensures.rule budget in
    let sample = added _ _ _ _ _ c.in_ok-four.ensures c.number_option-sample.ensures.local c.number_option-sample.ensures.rule plan in
    let motion = added _ _ _ _ _ c.in_ok-five.ensures c.flag_option-motion.ensures.local c.flag_option-motion.ensures.rule sample in
    added _ _ _ _ _ c.in_ok-six.ensures c.flag_option-graph.ensures.local c.flag_option-graph.ensures.rule motion
