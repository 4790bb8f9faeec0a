use Rattle.std.proofs.Common.{◌+◌, drop, get_or, sym, ap, subst, arith}
use Rattle.aql_value.specs.Laws.Partial.{on-ok}
use Rattle.nrca_term.specs.Term.{count, parts_of}
use Rattle.nrca_term.specs.View.{term_of}
use Rattle.nrca_term.specs.Laws.Entering.{child-counted}
use Rattle.nrca_term.specs.declared.term.Core.TheVariants.{Bottom}
use Rattle.nrca_term.specs.Laws.Exchange.{count-with_part}
use Rattle.nrca_motion.specs.Outside.{HasRoom}
use Rattle.nrca_motion.specs.Fitting.{FitsAt, IsMade}
use Rattle.nrca_motion.specs.Moving.{MayMoveAt, IsMovedAt}
use Rattle.nrca_motion.specs.Laws.Moving.{path-next, path-end, may-below, part-there, moved-in_part, may-here, made-here}
use Rattle.nrca_motion.proofs.moving.+move_at.Goals as goal

pub exchange-requires : goal.exchange-requires
exchange-requires t c =
    let s = part-there c.args.fit (term_of c.args.term.now) (get_or c.args.path.now c.args.at 0) (drop (c.args.at + 1) c.args.path.now) (subst (MayMoveAt c.args.fit (term_of c.args.term.now)) (path-next c.args.path.now c.args.at c.if-at-path.true) c.requires.place) in
    child-counted (parts_of (term_of c.args.term.now)) (get_or c.args.path.now c.args.at 0) s.0 s.1

pub move_at-done-requires : goal.move_at-done-requires
move_at-done-requires t c = (
  omega (arith, c.decreases, c.if-at-path.true),
  (
    omega (arith, c.if-at-path.true),
    may-below c.args.fit (term_of c.args.term.now) (term_of c.exchange.new.with) (get_or c.args.path.now c.args.at 0) (drop (c.args.at + 1) c.args.path.now) (sym c.exchange.ensures.before)
        (subst (MayMoveAt c.args.fit (term_of c.args.term.now)) (path-next c.args.path.now c.args.at c.if-at-path.true) c.requires.place),
  ),
)

pub exchange-requires-then-at-path : goal.exchange-requires-then-at-path
exchange-requires-then-at-path t c =
    let s = part-there c.args.fit (term_of c.args.term.now) (get_or c.args.path.now c.args.at 0) (drop (c.args.at + 1) c.args.path.now) (subst (MayMoveAt c.args.fit (term_of c.args.term.now)) (path-next c.args.path.now c.args.at c.if-at-path.true) c.requires.place) in
    let l = child-counted (parts_of (term_of c.args.term.now)) (get_or c.args.path.now c.args.at 0) s.0 s.1 in
    omega (arith, l, ap (λ x. count (parts_of x)) c.exchange.ensures.now, count-with_part (term_of c.args.term.now) (get_or c.args.path.now c.args.at 0) (term_of Bottom))

pub make-requires-clause-fits : goal.make-requires-clause-fits
make-requires-clause-fits t c =
    let e = path-end c.args.path.now c.args.at c.requires.within c.if-at-path.false in
    subst (FitsAt c.args.fit.rule c.args.fit.part) (sym (ap term_of c.replace-left.ensures.value)) (may-here c.args.fit (term_of c.args.term.now) (subst (MayMoveAt c.args.fit (term_of c.args.term.now)) e c.requires.place)).0

pub make-requires-clause-room : goal.make-requires-clause-room
make-requires-clause-room t c =
    let e = path-end c.args.path.now c.args.at c.requires.within c.if-at-path.false in
    subst HasRoom (sym (ap term_of c.replace-left.ensures.value)) (may-here c.args.fit (term_of c.args.term.now) (subst (MayMoveAt c.args.fit (term_of c.args.term.now)) e c.requires.place)).1

pub returns-then-at-path : goal.returns-then-at-path
returns-then-at-path t c =
    on-ok c.move_at-done.result
    (moved-in_part c.args.fit (term_of c.args.term.now) (term_of c.exchange.new.with) (term_of Bottom) (term_of c.move_at-done.new.term) (term_of c.exchange.new.self) (term_of c.exchange-then-at-path.new.self) (get_or c.args.path.now c.args.at 0) (drop (c.args.at + 1) c.args.path.now) (drop c.args.at c.args.path.now)
    (path-next c.args.path.now c.args.at c.if-at-path.true) (sym c.exchange.ensures.before) c.exchange.ensures.now c.exchange-then-at-path.ensures.now)
    c.move_at-done.ensures

pub returns-in_ok-term : goal.returns-in_ok-term
returns-in_ok-term t c =
    let e = path-end c.args.path.now c.args.at c.requires.within c.if-at-path.false in
    subst (λ p. IsMovedAt c.args.fit (term_of c.args.term.now) p (term_of c.in_ok-term.field-0)) (sym e)
    (made-here c.args.fit (term_of c.args.term.now) (term_of c.in_ok-term.field-0) (subst (λ x. IsMade c.args.fit x (term_of c.in_ok-term.field-0)) (ap term_of c.replace-left.ensures.value) c.in_ok-term.ensures))
