use Rattle.std.proofs.Common.{sym, ◌∙◌, subst, arith, refl, [], ◌<◌}
use Rattle.aql_types.specs.Forms.{at}
use Rattle.aql_types.specs.Valuations.{Says}
use Rattle.aql_types.specs.Steps.{bare}
use Rattle.aql_types.proofs.Bare.{link_is, root_is, same_link}
use Rattle.aql_types.proofs.Keeping.{keeps_both, keeps_none}
use Rattle.aql_types.proofs.root.root.Goals as goal

pub loop-up-init : goal.loop-up-init
loop-up-init c = record { keeps = keeps_none c.args.ns.now; down = c.requires.down; below = omega arith; same = λ ps v h. refl }

pub loop-up-smaller : goal.loop-up-smaller
loop-up-smaller c =
    let i = c.loop-up.invariant in
    i.down c.loop-up.here c.in-Some.up (link_is (at (bare c.loop-up.ns) c.loop-up.here) c.in-Some.up (sym c.in-Some.ensures))

pub loop-up-preserved : goal.loop-up-preserved
loop-up-preserved c =
    let i = c.loop-up.invariant in
    let ns = c.loop-up.ns in
    let e = link_is (at (bare ns) c.loop-up.here) c.in-Some.up (sym c.in-Some.ensures) in
    let s = c.shorten.ensures in
    let lt : c.in-Some.up < c.loop-up.here = i.down c.loop-up.here c.in-Some.up e in
    record {
      keeps = keeps_both c.args.ns.now ns c.shorten.new.ns i.keeps s.keeps;
      down = s.down;
      below = omega (arith, i.below, lt);
      same = λ ps v h.
          let k = (s.keeps ps).back v h in
          i.same ps v k ∙ subst (λ x. Says v x (v c.loop-up.here)) (same_link [] ps ns c.loop-up.here c.in-Some.up e) (k c.loop-up.here);
    }

pub returns-clause-root : goal.returns-clause-root
returns-clause-root c = root_is (at (bare c.loop-up.ns) c.loop-up.here) (sym c.link_of.ensures ∙ c.in_default.is)
