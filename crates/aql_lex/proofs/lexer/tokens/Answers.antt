use Rattle.std.proofs.Common.{◌≡◌, sym, ◌∙◌, None, Some, ap}
use Rattle.aql_syntax.specs.Scan.{no_counters}
use Rattle.aql_lex.specs.Scanning.{deep_from}
use Rattle.aql_lex.proofs.Covering.{spans_and_texts}
use Rattle.aql_lex.proofs.Deep.{stays, passes, fault_of}
use Rattle.aql_lex.proofs.lexer.tokens.Goals as goal

pub returns-in-None : goal.returns-in-None
returns-in-None c =
    let d = c.in-Ok.ensures in
    let e : deep_from c.args.script.now no_counters c.in-Ok.found.items ≡ None =
    ap (deep_from c.args.script.now no_counters) (sym c.deref.ensures.value) ∙ sym c.in_ok-first_deep-in-Ok.ensures ∙ c.in-None.is in
    (d.0, (d.1, stays c.args.script.now c.in-Ok.found.items d.0 no_counters (spans_and_texts c.args.script.now c.in-Ok.found.items d.0 d.1).1 e))

pub returns-in-Some : goal.returns-in-Some
returns-in-Some c =
    let d = c.in-Ok.ensures in
    let e : deep_from c.args.script.now no_counters c.in-Ok.found.items ≡ Some c.in-Some.at =
    ap (deep_from c.args.script.now no_counters) (sym c.deref.ensures.value) ∙ sym c.in_ok-first_deep-in-Ok.ensures ∙ c.in-Some.is in
    let p = passes c.args.script.now c.in-Ok.found.items d.0 no_counters c.in-Some.at (spans_and_texts c.args.script.now c.in-Ok.found.items d.0 d.1).1 e in
    (c.in-Ok.found.items, (d.0, (d.1, fault_of c.in-Some.at c.in-Ok.found.items d.0 p)))
