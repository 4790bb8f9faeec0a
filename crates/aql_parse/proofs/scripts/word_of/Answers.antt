use Rattle.std.proofs.Common.{sym, ◌∙◌}
use Rattle.aql_lex.specs.Texts.{text_of}
use Rattle.aql_parse.proofs.Said.{text_said}
use Rattle.aql_parse.proofs.scripts.word_of.Goals as goal

pub returns-in-Text : goal.returns-in-Text
returns-in-Text c = λ l k d. text_said (text_of c.args.source.now c.args.token) l (sym c.in-Text.is ∙ k) d
