use Rattle.std.proofs.Common.{◌≡◌, suc, ◌+◌, arith, false, true, [], ◌∷◌, sym, subst, ap, ◌∙◌}
use Rattle.aql_value.specs.Lists.{Every}
use Rattle.aql_value.specs.Laws.Lists.{Every-append}
use Rattle.nrca_term.specs.View.{term_of}
use Rattle.nrca_term.specs.Normal.{FirmAt}
use Rattle.nrca_ranges.specs.Context.{context_of}
use Rattle.nrca_ranges.specs.Entered.{is_shaped}
use Rattle.nrca_normal.specs.Ways.{other_ways}
use Rattle.nrca_normal.specs.Conditions.{IsDefinedAlong, TellsAt, TellsWays}
use Rattle.nrca_normal.specs.Laws.Ways.{ways-more, ways-same, one-of-ways, not-same, is-same}
use Rattle.nrca_normal.specs.Laws.Conditions.{tells-as, tells-every, tells-refused, tells-true}
use Rattle.nrca_normal.proofs.conditions.others_defined.Goals.{then-i-but+in_ok-found+else-not-found, else-i-but}
use Rattle.nrca_ranges.specs.Shapes.{ranges_of}
use Rattle.nrca_normal.proofs.conditions.others_defined.Goals as goal

pub returns-then-not-found-clause-told : goal.returns-then-not-found-clause-told
returns-then-not-found-clause-told c =
    tells-refused (ranges_of c.args.ctx.now) (context_of c.args.ctx.now) (term_of c.args.term.now) (0 ∷ (c.args.from + c.loop-i.i) ∷ []) (other_ways c.args.from c.args.but c.args.count)
    (one-of-ways (FirmAt (is_shaped (ranges_of c.args.ctx.now).positions) (context_of c.args.ctx.now) (term_of c.args.term.now)) c.args.from c.args.but c.args.count c.loop-i.i c.loop-i-test.true (not-same c.loop-i.i c.args.but c.if-i-but.true))
    (tells-as (ranges_of c.args.ctx.now) (ranges_of c.loop-i.ctx) (context_of c.args.ctx.now) (context_of c.loop-i.ctx) (term_of c.args.term.now) (0 ∷ (c.args.from + c.loop-i.i) ∷ []) false c.loop-i.invariant.ranges c.loop-i.invariant.back
    (subst (λ b. TellsAt (ranges_of c.loop-i.ctx) (context_of c.loop-i.ctx) (term_of c.args.term.now) (0 ∷ (c.args.from + c.loop-i.i) ∷ []) b) c.if-not-found.true c.in_ok-found.ensures.told))

pub loop-i-preserved : goal.loop-i-preserved
loop-i-preserved c =
    elim c.if-i-but.branch [
      | then-i-but+in_ok-found+else-not-found w ↦ record {
        back = ap context_of w.ctx-is ∙ w.in_ok-found.ensures.back ∙ c.loop-i.invariant.back;
        ranges = ap ranges_of w.ctx-is ∙ w.in_ok-found.ensures.ranges ∙ c.loop-i.invariant.ranges;
        globals = ap (λ x. x.globals) w.ctx-is ∙ w.in_ok-found.ensures.globals ∙ c.loop-i.invariant.globals;
        defined =
            let n : suc c.loop-i.i ≡ c.loop-i.i + 1 = omega arith in
            let P = IsDefinedAlong (ranges_of c.args.ctx.now) (context_of c.args.ctx.now) (term_of c.args.term.now) in
            let d : P (0 ∷ (c.args.from + c.loop-i.i) ∷ []) =
            tells-true (ranges_of c.args.ctx.now) (context_of c.args.ctx.now) (term_of c.args.term.now) (0 ∷ (c.args.from + c.loop-i.i) ∷ []) w.in_ok-found.found w.if-not-found.false
            (tells-as (ranges_of c.args.ctx.now) (ranges_of c.loop-i.ctx) (context_of c.args.ctx.now) (context_of c.loop-i.ctx) (term_of c.args.term.now) (0 ∷ (c.args.from + c.loop-i.i) ∷ []) w.in_ok-found.found c.loop-i.invariant.ranges c.loop-i.invariant.back w.in_ok-found.ensures.told) in
            subst (λ k. Every P (other_ways c.args.from c.args.but k)) n
            (subst (Every P) (sym (ways-more c.args.from c.args.but c.loop-i.i (not-same c.loop-i.i c.args.but w.if-i-but.true)))
            (Every-append P (other_ways c.args.from c.args.but c.loop-i.i) ((0 ∷ (c.args.from + c.loop-i.i) ∷ []) ∷ []) c.loop-i.invariant.defined (d, tt)));
      }
      | else-i-but w ↦ record {
        back = ap context_of w.ctx-is ∙ c.loop-i.invariant.back;
        ranges = ap ranges_of w.ctx-is ∙ c.loop-i.invariant.ranges;
        globals = ap (λ x. x.globals) w.ctx-is ∙ c.loop-i.invariant.globals;
        defined =
            let n : suc c.loop-i.i ≡ c.loop-i.i + 1 = omega arith in
            let P = IsDefinedAlong (ranges_of c.args.ctx.now) (context_of c.args.ctx.now) (term_of c.args.term.now) in
            subst (λ k. Every P (other_ways c.args.from c.args.but k)) n
            (subst (Every P) (sym (ways-same c.args.from c.args.but c.loop-i.i (is-same c.loop-i.i c.args.but w.if-i-but.false))) c.loop-i.invariant.defined);
      }
    ]

pub returns-clause-told : goal.returns-clause-told
returns-clause-told c =
    let n : c.loop-i.i ≡ c.args.count = omega (arith, c.loop-i-test.false, c.loop-i.auto.i-end) in
    subst (λ k. TellsWays c.args.ctx.now (term_of c.args.term.now) (other_ways c.args.from c.args.but k) true) n
    (tells-every (ranges_of c.args.ctx.now) (context_of c.args.ctx.now) (term_of c.args.term.now) (other_ways c.args.from c.args.but c.loop-i.i) c.loop-i.invariant.defined)
