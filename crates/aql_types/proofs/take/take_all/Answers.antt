use Rattle.std.proofs.Common.{subst, length, sym}
use Rattle.aql_types.specs.Forms.{forms}
use Rattle.aql_types.specs.Valuations.{AreIn}
use Rattle.aql_types.proofs.Bare.{forms_length}
use Rattle.aql_types.proofs.Joining.{last_in}
use Rattle.aql_types.proofs.Stepping.{failed, leads_none, leads_on}
use Rattle.aql_types.proofs.take.take_all.Goals as goal

pub step-requires-clause-left : goal.step-requires-clause-left
step-requires-clause-left c =
    let n = forms_length c.args.ps.now c.loop-e.ns in
    (last_in (length c.loop-e.ns) c.pop.new.self.items c.in-Some.e (subst (AreIn (length c.loop-e.ns)) c.in-Some.ensures.items (subst (λ m. AreIn m c.loop-e.work.items) n c.loop-e.invariant.inside))).1

pub step-requires-clause-right : goal.step-requires-clause-right
step-requires-clause-right c =
    let n = forms_length c.args.ps.now c.loop-e.ns in
    (last_in (length c.loop-e.ns) c.pop.new.self.items c.in-Some.e (subst (AreIn (length c.loop-e.ns)) c.in-Some.ensures.items (subst (λ m. AreIn m c.loop-e.work.items) n c.loop-e.invariant.inside))).2

pub step-requires-clause-inside : goal.step-requires-clause-inside
step-requires-clause-inside c =
    let n = forms_length c.args.ps.now c.loop-e.ns in
    (last_in (length c.loop-e.ns) c.pop.new.self.items c.in-Some.e (subst (AreIn (length c.loop-e.ns)) c.in-Some.ensures.items (subst (λ m. AreIn m c.loop-e.work.items) n c.loop-e.invariant.inside))).0

pub returns-in-Err : goal.returns-in-Err
returns-in-Err c =
    let ps = c.args.ps.now in
    failed c.in-Err.fault (forms ps c.args.ns.now) (forms ps c.loop-e.ns) (forms ps c.step.new.ns) (forms ps c.step.new.ns) c.in-Some.e c.args.work.items c.pop.new.self.items c.loop-e.work.items
    c.loop-e.invariant c.in-Some.ensures.items c.in-Err.ensures

pub step-requires-clause-ordered : goal.step-requires-clause-ordered
step-requires-clause-ordered c = c.loop-e.invariant.ordered

pub loop-e-init : goal.loop-e-init
loop-e-init c =
    leads_none (forms c.args.ps.now c.args.ns.now) c.args.work.items c.requires.ordered
    (subst (λ m. AreIn m c.args.work.items) (sym (forms_length c.args.ps.now c.args.ns.now)) c.requires.inside)

pub loop-e-preserved : goal.loop-e-preserved
loop-e-preserved c = leads_on c.loop-e.invariant c.in-Some.ensures.items c.in-Ok.ensures
