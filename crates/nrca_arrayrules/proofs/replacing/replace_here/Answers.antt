use Rattle.std.proofs.Common.{rules, ◌≡◌, arith, ap, ◌∙◌}
use Rattle.nrca_term.specs.Subst.{shift_term, top_var}
use Rattle.nrca_term.specs.View.{term_of}
use Rattle.nrca_arrayrules.proofs.ReplaceWalk.{replaced-apart, replaced-here, room-here}
use Rattle.nrca_arrayrules.proofs.replacing.replace_here.Goals as goal

pub shift-requires : goal.shift-requires
shift-requires c = omega (arith, ap (λ x. top_var (shift_term 0 c.args.depth x)) c.in_ok-copied.ensures, room-here c.args.depth (term_of c.args.size.now) (term_of c.args.term.now) c.requires.room)

pub returns-then-i-depth : goal.returns-then-i-depth
returns-then-i-depth c = replaced-apart c.args.depth c.args.i (shift_term 0 c.args.depth (term_of c.args.size.now)) (term_of c.args.term.now) c.requires.dim c.if-i-depth.true

pub returns : goal.returns
returns c =
    let e : c.args.i ≡ c.args.depth = search rules in
    replaced-here c.args.depth c.args.i (shift_term 0 c.args.depth (term_of c.args.size.now)) (term_of c.args.term.now) (term_of c.shift.result) c.requires.dim e (c.shift.ensures.shifted ∙ ap (shift_term 0 c.args.depth) c.in_ok-copied.ensures)
