use Rattle.std.proofs.Common.{ℕ, ◌≡◌, ◌∙◌, List, length, sym, subst, arith, Ok, Err, ap}
use Rattle.std.proofs.lemmas.List.{with_items_is}
use Rattle.aql_types.specs.declared.fault.UnifyFault.{UnifyFault}
use Rattle.aql_types.specs.declared.fault.UnifyFault.TheVariants as faults
use Rattle.aql_types.specs.declared.node.Node.{Node}
use Rattle.aql_types.specs.declared.node.Equation.{Equation}
use Rattle.aql_types.specs.declared.graph.Graph.{Graph}
use Rattle.aql_types.specs.Forms.{forms}
use Rattle.aql_types.specs.Trees.{AreHomes}
use Rattle.aql_types.specs.Solved.{Solves, Solved, IsSolution}
use Rattle.aql_types.specs.Valuations.{AreIn}
use Rattle.aql_types.specs.Trees.{IsBuilt}
use Rattle.aql_types.specs.Graphs.{SolvedBy, forms_of}
use Rattle.aql_types.specs.Ranges.{homes_of}
use Rattle.aql_types.specs.Laws.Homes.{are_homes}
use Rattle.aql_types.proofs.solved_graph.solve.Goals as goal

-- the same nodes and parts, before and after
carried : (ps qs : List ℕ) (ns ms xs ys : List Node) (homes : List ℕ) (w : List Equation) → ps ≡ qs → ns ≡ ms → xs ≡ ys → (AreHomes homes (forms ps ns) → Solves 400 homes (forms ps ns) (forms ps xs) w) → AreHomes homes (forms qs ms) → Solves 400 homes (forms qs ms) (forms qs ys) w
carried ps qs ns ms xs ys homes w e f d h =
    subst (λ is. AreHomes homes (forms is ms) → Solves 400 homes (forms is ms) (forms is ys) w) e
    (subst (λ zs. AreHomes homes (forms ps zs) → Solves 400 homes (forms ps zs) (forms ps ys) w) f
    (subst (λ zs. AreHomes homes (forms ps ns) → Solves 400 homes (forms ps ns) (forms ps zs) w) d h))

pub returns-in-Ok : goal.returns-in-Ok
returns-in-Ok c =
    let g = c.args.g in
    let homes = homes_of (forms_of g) in
    let s : Solved (Ok c.in-Ok.field-0) (forms c.deref.result.now c.deref_mut.result.now) (forms c.deref.result.now c.solve_nodes.new.ns) c.args.work.items = c.in-Ok.ensures in
    carried c.deref.result.now g.parts.items c.deref_mut.result.now g.nodes.items c.solve_nodes.new.ns _ homes c.args.work.items c.deref.ensures.value c.deref_mut.ensures.value
    (sym (with_items_is g.nodes c.solve_nodes.new.ns (omega (arith, c.solve_nodes.auto.ns, c.deref_mut.ensures.len)))) (s homes) (are_homes (forms_of g) g.variables g.numbered)

failed : (f : UnifyFault) (ps : List ℕ) (ns xs : List Node) (g : Graph) (w : List Equation) → ps ≡ g.parts.items → ns ≡ g.nodes.items → Solved (Err f) (forms ps ns) (forms ps xs) w → SolvedBy (Err f) g w
failed faults.Clash ps ns xs g w e d h = λ u s. h u (subst (λ is. IsSolution u (forms is ns) w) (sym e) (subst (λ zs. IsSolution u (forms g.parts.items zs) w) (sym d) s))
failed faults.Memory ps ns xs g w e d h = tt

pub returns-in-Err : goal.returns-in-Err
returns-in-Err c = failed c.in-Err.fault c.deref.result.now c.deref_mut.result.now c.solve_nodes.new.ns c.args.g c.args.work.items c.deref.ensures.value c.deref_mut.ensures.value c.in-Err.ensures

pub solve_nodes-requires : goal.solve_nodes-requires
solve_nodes-requires c =
    let g = c.args.g in
    let e : forms c.deref.result.now c.deref_mut.result.now ≡ forms_of g = ap (λ is. forms is c.deref_mut.result.now) c.deref.ensures.value ∙ ap (forms g.parts.items) c.deref_mut.ensures.value in
    record {
      built = subst IsBuilt (sym e) g.built;
      inside = subst (λ ns. AreIn (length ns) c.args.work.items) (sym c.deref_mut.ensures.value) c.requires;
    }
