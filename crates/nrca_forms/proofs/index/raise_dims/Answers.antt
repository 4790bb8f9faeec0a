use Rattle.std.proofs.Common.{suc, length, map, get_or, ℕ, List, ap, ◌∙◌, arith}
use Rattle.nrca_forms.specs.Indexing.{extent}
use Rattle.std.proofs.lemmas.List.{length-map}
use Rattle.nrca_forms.proofs.Extents.{raised_next, greater_each_all}
use Rattle.nrca_forms.proofs.index.raise_dims.Goals as goal

pub loop-j-preserved : goal.loop-j-preserved
loop-j-preserved c =
    raised_next c.args.at.now c.args.dims.now c.loop-j.j c.index.result.now c.loop-j.all.items c.push.new.self.items c.greater.result
    (omega (arith, c.loop-j-test.true, c.min-count.ensures, c.len.ensures, c.at.inside.dims.ok.0, ap length c.at.view_is)) (omega (arith, c.loop-j-test.true, c.min-count.ensures))
    (c.index.ensures ∙ ap (λ (l : List ℕ). get_or l c.loop-j.j c.index.result.now) c.at.view_is) c.loop-j.invariant c.in_ok-push.ensures.items c.greater.ensures

pub returns : goal.returns
returns c =
    c.loop-j.invariant
    ∙ greater_each_all (map suc c.args.at.now) (map extent c.args.dims.now) c.loop-j.j (omega (arith, c.loop-j-test.false, c.min-count.ensures, c.len.ensures, c.at.inside.dims.ok.0, ap length c.at.view_is, length-map c.args.at.now suc, length-map c.args.dims.now extent))
