use Rattle.std.proofs.Common.{ap, subst, sym, ◌∙◌}
use Rattle.nrca_term.specs.View.{term_of}
use Rattle.nrca_motion.specs.Moved.{IsMovedFrom}
use Rattle.nrca_motion.specs.Progress.{GoesOn}
use Rattle.nrca_motion.specs.Laws.Progress.{begun, under-ready, less-left, under-way, end-moved}
use Rattle.nrca_ranges.specs.Shapes.{known_shapes, shapes_in}
use Rattle.nrca_motion.proofs.still.still_form.Goals as goal

pub loop-progress-init : goal.loop-progress-init
loop-progress-init c = begun (known_shapes c.args.begun.ctx) (term_of c.args.begun.term) c.args.begun c.requires.begun

pub go_on-requires : goal.go_on-requires
go_on-requires c = under-ready (known_shapes c.args.begun.ctx) (term_of c.args.begun.term) c.loop-progress.progress c.requires.typed c.requires.small c.loop-progress.invariant

pub loop-progress-smaller : goal.loop-progress-smaller
loop-progress-smaller c =
    less-left (known_shapes c.args.begun.ctx) (term_of c.args.begun.term) c.loop-progress.progress c.go_on.new.progress c.loop-progress.invariant
    (subst (GoesOn c.loop-progress.progress c.go_on.new.progress) c.in-Ok-true.field-0-test c.in-Ok-true.ensures.more)

pub loop-progress-preserved : goal.loop-progress-preserved
loop-progress-preserved c =
    under-way (known_shapes c.args.begun.ctx) (term_of c.args.begun.term) c.loop-progress.progress c.go_on.new.progress c.loop-progress.invariant
    (subst (GoesOn c.loop-progress.progress c.go_on.new.progress) c.in-Ok-true.field-0-test c.in-Ok-true.ensures.more)

pub returns-in-Ok-false-clause-moved : goal.returns-in-Ok-false-clause-moved
returns-in-Ok-false-clause-moved c =
    subst (IsMovedFrom (known_shapes c.args.begun.ctx) (term_of c.args.begun.term)) (sym c.parts_of_end-moved.ensures.moved)
    (end-moved (known_shapes c.args.begun.ctx) (term_of c.args.begun.term) c.loop-progress.progress c.go_on.new.progress c.loop-progress.invariant
    (subst (GoesOn c.loop-progress.progress c.go_on.new.progress) c.in-Ok-false.field-0-test c.in-Ok-false.ensures.more))

pub returns-in-Ok-false-clause-globals : goal.returns-in-Ok-false-clause-globals
returns-in-Ok-false-clause-globals c = ap shapes_in c.parts_of_end-moved.ensures.globals ∙ c.in-Ok-false.ensures.globals ∙ c.loop-progress.invariant.globals

pub returns-in-Err-clause-globals : goal.returns-in-Err-clause-globals
returns-in-Err-clause-globals c = ap shapes_in c.parts_of_end-moved-in-Err.ensures.globals ∙ c.go_on.ensures.globals ∙ c.loop-progress.invariant.globals
