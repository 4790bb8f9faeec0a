use Rattle.std.proofs.Common.{◌∙◌, ap, sym}
use Rattle.nrca_term.specs.Meaning.{outcome}
use Rattle.aql_session.specs.Bound.{outcomes}
use Rattle.aql_session.proofs.Binding.{outcomes-zip}
use Rattle.aql_session.proofs.session.Session.value.Goals as goal

pub returns : goal.returns
returns c =
    c.value_of.ensures
    ∙ ap (λ V. outcome V c.args.n) (sym (outcomes-zip c.self.inside.names c.self.inside.globals c.self.invariant.0) ∙ ap outcomes c.self.view_is)
