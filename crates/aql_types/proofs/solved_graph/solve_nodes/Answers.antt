use Rattle.std.proofs.Common.{List, Err, subst, sym}
use Rattle.aql_types.specs.declared.fault.UnifyFault.{UnifyFault}
use Rattle.aql_types.specs.declared.fault.UnifyFault.TheVariants as faults
use Rattle.aql_types.specs.declared.node.Equation.{Equation}
use Rattle.aql_types.specs.Forms.{Form, forms}
use Rattle.aql_types.specs.Valuations.{AreIn}
use Rattle.aql_types.specs.Steps.{Taken}
use Rattle.aql_types.specs.Trees.{IsBuilt}
use Rattle.aql_types.specs.Extents.{Measured}
use Rattle.aql_types.specs.Solved.{Solved}
use Rattle.aql_types.specs.Laws.Trees.{built_ordered}
use Rattle.aql_types.proofs.Bare.{forms_length, same_down, same_flat}
use Rattle.aql_types.proofs.Exact.{Ready, ready, solves, none, clash}
use Rattle.aql_types.proofs.solved_graph.solve_nodes.Goals as goal

failed : (f : UnifyFault) (a b c : List Form) (w : List Equation) → IsBuilt a → Taken (Err f) a b w → Solved (Err f) a c w
failed faults.Clash a b c w bt h = clash a w bt h
failed faults.Memory a b c w bt h = tt

pub returns-in-Err : goal.returns-in-Err
returns-in-Err c =
    let ps = c.args.ps.now in
    failed c.in-Err.fault (forms ps c.args.ns.now) (forms ps c.take_all.new.ns) (forms ps c.take_all.new.ns) c.args.work.items c.requires.built c.in-Err.ensures

pub flatten-requires : goal.flatten-requires
flatten-requires c = record { down = same_down c.args.ps.now c.take_all.new.ns c.in-Ok.ensures.ordered }

pub all_within-requires : goal.all_within-requires
all_within-requires c = record { flat = same_flat c.args.ps.now c.flatten.new.ns c.flatten.ensures.flat }

pub returns-then-not-branch : goal.returns-then-not-branch
returns-then-not-branch c =
    let ps = c.args.ps.now in
    let a = forms ps c.args.ns.now in let b = forms ps c.take_all.new.ns in let d = forms ps c.flatten.new.ns in let w = c.args.work.items in
    let i = subst (λ n. AreIn n w) (sym (forms_length ps c.args.ns.now)) c.requires.inside in
    let r : Ready a d w = ready a b d w c.requires.built i c.in-Ok.ensures (c.flatten.ensures.keeps ps) (same_flat ps c.flatten.new.ns c.flatten.ensures.flat) in
    none a d w r (subst (λ q. Measured q 400 10000 d) c.if-not-branch.true c.in_ok-all_within.ensures)

pub returns : goal.returns
returns c = λ homes are.
    let ps = c.args.ps.now in
    let a = forms ps c.args.ns.now in let b = forms ps c.take_all.new.ns in let d = forms ps c.flatten.new.ns in let w = c.args.work.items in
    let i = subst (λ n. AreIn n w) (sym (forms_length ps c.args.ns.now)) c.requires.inside in
    let r : Ready a d w = ready a b d w c.requires.built i c.in-Ok.ensures (c.flatten.ensures.keeps ps) (same_flat ps c.flatten.new.ns c.flatten.ensures.flat) in
    solves a d w homes r are (subst (λ q. Measured q 400 10000 d) c.if-not-branch.false c.in_ok-all_within.ensures)

pub take_all-requires : goal.take_all-requires
take_all-requires c = record { ordered = built_ordered (forms c.args.ps.now c.args.ns.now) c.requires.built; inside = c.requires.inside }
