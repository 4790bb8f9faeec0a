use Rattle.std.proofs.Common.{◌∙◌, ap, sym}
use Rattle.cdf_header.specs.declared.header.Variable.{Variable}
use Rattle.cdf_header.proofs.Least.{name_found, name_missed, none_named}
use Rattle.cdf_header.proofs.places.first_named.Goals as goal

pub returns-then-eq-clause-which : goal.returns-then-eq-clause-which
returns-then-eq-clause-which c = name_found c.args.vars.now c.args.name.now c.as_slice.result.now c.vars.i c.index-vars-i.result c.eq.result c.vars-test.true c.index-vars-i.is
    (c.as_slice.ensures.value ∙ ap (λ (v : Variable). v.name.items) (sym c.index-vars-i.is)) c.eq.ensures c.if-eq.true c.vars.invariant

pub vars-preserved : goal.vars-preserved
vars-preserved c = name_missed c.args.vars.now c.args.name.now c.as_slice.result.now c.vars.i c.index-vars-i.result c.eq.result c.vars-test.true c.index-vars-i.is
    (c.as_slice.ensures.value ∙ ap (λ (v : Variable). v.name.items) (sym c.index-vars-i.is)) c.eq.ensures c.if-eq.false c.vars.invariant

pub returns-clause-which : goal.returns-clause-which
returns-clause-which c = none_named c.args.vars.now c.args.name.now c.vars.i c.vars-test.false c.vars.invariant
