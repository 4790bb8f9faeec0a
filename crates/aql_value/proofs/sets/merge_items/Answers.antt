use Rattle.std.proofs.Common.{[], None, arith}
use Rattle.std.proofs.lemmas.Option.{MatchOption-at_none}
use Rattle.aql_value.proofs.Merging.{less, equal, greater, left_alone, right_alone}
use Rattle.aql_value.proofs.sets.merge_items.Goals as goal

pub loop-x-preserved-in-Less : goal.loop-x-preserved-in-Less
loop-x-preserved-in-Less c =
    let n = c.next-x-in-Less in
    less _ _ c.in-Some-Some.v c.in-Some-Some.w _ _ _ None _ _ _ [] _ c.loop-x.invariant c.in-Some-Some.is-0 c.in-Some-Some.is-1 c.in-Less.ensures
    c.in_ok-push-in-Less.ensures.items n.ensures.items (λ e. omega (arith, MatchOption-at_none _ _ e n.ensures.cases, n.new.self.rest.ok))

pub loop-x-preserved-in-Equal : goal.loop-x-preserved-in-Equal
loop-x-preserved-in-Equal c =
    let n = c.next-x-in-Equal in
    let m = c.next-y-in-Equal in
    equal _ _ c.in-Some-Some.v c.in-Some-Some.w _ _ _ _ _ _ _ _ _ c.loop-x.invariant c.in-Some-Some.is-0 c.in-Some-Some.is-1 c.in-Equal.ensures
    c.in_ok-push-in-Equal.ensures.items n.ensures.items (λ e. omega (arith, MatchOption-at_none _ _ e n.ensures.cases, n.new.self.rest.ok))
    m.ensures.items (λ e. omega (arith, MatchOption-at_none _ _ e m.ensures.cases, m.new.self.rest.ok))

pub loop-x-preserved-in-Greater : goal.loop-x-preserved-in-Greater
loop-x-preserved-in-Greater c =
    let m = c.next-y-in-Greater in
    greater _ _ c.in-Some-Some.v c.in-Some-Some.w _ _ None _ _ [] _ _ _ c.loop-x.invariant c.in-Some-Some.is-0 c.in-Some-Some.is-1 c.in-Greater.ensures
    c.in_ok-push-in-Greater.ensures.items m.ensures.items (λ e. omega (arith, MatchOption-at_none _ _ e m.ensures.cases, m.new.self.rest.ok))

pub loop-x-preserved-in-Some-None : goal.loop-x-preserved-in-Some-None
loop-x-preserved-in-Some-None c =
    let v = c.in-Some-None.v in
    let n = c.next-x-in-Some-None in
    left_alone _ _ v v _ _ _ None _ _ _ [] _ c.loop-x.invariant c.in-Some-None.is-0 c.in-Some-None.is-1
    c.in_ok-push-in-Some-None.ensures.items n.ensures.items (λ e. omega (arith, MatchOption-at_none _ _ e n.ensures.cases, n.new.self.rest.ok))

pub loop-x-preserved : goal.loop-x-preserved
loop-x-preserved c =
    let w = c.in-None-Some.w in
    let m = c.next-y-in-None-Some in
    right_alone _ _ w w _ _ None _ _ [] _ _ _ c.loop-x.invariant c.in-None-Some.is-0 c.in-None-Some.is-1
    c.in_ok-push-in-None-Some.ensures.items m.ensures.items (λ e. omega (arith, MatchOption-at_none _ _ e m.ensures.cases, m.new.self.rest.ok))
