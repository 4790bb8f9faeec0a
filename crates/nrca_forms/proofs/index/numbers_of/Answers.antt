use Rattle.std.proofs.Common.{sym, ap, ◌∙◌}
use Rattle.aql_value.specs.Meaning.{datum}
use Rattle.aql_value.specs.Operations.{as_natural}
use Rattle.aql_value.specs.Partial.{each, ◌>>=◌}
use Rattle.nrca_forms.specs.Indexing.{ranked_numbers}
use Rattle.nrca_forms.proofs.Extents.{index_numbers_tuple}
use Rattle.nrca_forms.proofs.index.numbers_of.Goals as goal

pub returns-in_ok-numbers-in-Some : goal.returns-in_ok-numbers-in-Some
returns-in_ok-numbers-in-Some c =
    c.with_rank.ensures ∙ ap (ranked_numbers c.args.rank) c.in_ok-numbers-in-Some.ensures
    ∙ sym (index_numbers_tuple c.args.rank (datum c.args.index.now) c.if-rank-eq1.false ∙ ap (λ o. ranked_numbers c.args.rank (o >>= each as_natural)) (sym c.in-Some.ensures))

pub returns-in-None : goal.returns-in-None
returns-in-None c = sym (index_numbers_tuple c.args.rank (datum c.args.index.now) c.if-rank-eq1.false ∙ ap (λ o. ranked_numbers c.args.rank (o >>= each as_natural)) (sym c.in-None.ensures))
