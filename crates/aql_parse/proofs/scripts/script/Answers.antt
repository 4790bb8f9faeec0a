use Rattle.std.proofs.Common.{ap, ◌∙◌, subst}
use Rattle.aql_parse.specs.Parsed.{Parsed}
use Rattle.aql_parse.specs.Words.{lexemes}
use Rattle.aql_parse.proofs.scripts.script.Goals as goal

pub returns : goal.returns
returns c = λ ls d.
    let said = c.spans_and_texts.ensures c.args.source.now c.args.tokens.now ls d in
    subst (Parsed c.declarations.result) (ap (lexemes c.args.source.now) c.deref.ensures.value ∙ c.in_ok-words.ensures ls said.1) c.declarations.ensures
