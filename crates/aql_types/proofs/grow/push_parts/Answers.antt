use Rattle.std.proofs.Common.{◌≡◌, ◌++◌, ap, ◌∙◌, sym, subst}
use Rattle.aql_types.specs.Forms.{forms}
use Rattle.aql_types.specs.Trees.{IsBuilt}
use Rattle.aql_types.specs.Ranges.{AreInside, variables_in}
use Rattle.aql_types.proofs.Growing.{forms_more, inside_more}
use Rattle.aql_types.proofs.grow.push_parts.Goals as goal

pub invariant_of-result : goal.invariant_of-result
invariant_of-result c =
    let g = c.args.g in let ps = g.parts.items in let ns = g.nodes.items in let qs = c.args.parts.now in
    let e : c.extend_from_slice.new.self.items ≡ ps ++ qs = c.in_ok-extend_from_slice.ensures.items in
    let f = ap (λ is. forms is ns) e ∙ forms_more ps qs ns g.inside in
    record {
      built = subst IsBuilt (sym f) g.built;
      inside = subst (λ is. AreInside is ns) (sym e) (inside_more ps qs ns g.inside);
      numbered = ap variables_in f ∙ g.numbered;
    }

pub returns-clause-forms : goal.returns-clause-forms
returns-clause-forms c =
    let g = c.args.g in let ps = g.parts.items in let ns = g.nodes.items in let qs = c.args.parts.now in
    let e : c.extend_from_slice.new.self.items ≡ ps ++ qs = c.in_ok-extend_from_slice.ensures.items in
    ap (λ is. forms is ns) e ∙ forms_more ps qs ns g.inside
