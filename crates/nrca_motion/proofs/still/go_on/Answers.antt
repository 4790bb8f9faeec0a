use Rattle.std.proofs.Common.{refl, subst}
use Rattle.nrca_term.specs.View.{term_of}
use Rattle.nrca_ranges.specs.Context.{context_of}
use Rattle.nrca_motion.specs.Found.{TellsSite, QuietEverywhere}
use Rattle.nrca_motion.specs.Laws.Found.{quiet-none}
use Rattle.nrca_motion.specs.Laws.Progress.{ready-inside, site-of}
use Rattle.nrca_ranges.specs.Shapes.{ranges_of}
use Rattle.nrca_motion.proofs.still.go_on.Goals as goal

pub find-requires-clause-inside : goal.find-requires-clause-inside
find-requires-clause-inside c = ready-inside c.args.progress.now c.requires

pub take_step-requires : goal.take_step-requires
take_step-requires c =
    site-of c.args.progress.now _ c.in-Some.site c.requires refl refl c.in_ok-site.ensures.ranges c.in_ok-site.ensures.back
    (subst (TellsSite c.args.progress.now.ctx (term_of c.args.progress.now.term)) c.in-Some.is c.in_ok-site.ensures.found)

pub returns-in-None-clause-more : goal.returns-in-None-clause-more
returns-in-None-clause-more c = record {
  term = refl;
  moves = refl;
  quiet = subst (λ x. QuietEverywhere (ranges_of c.args.progress.now.ctx) x (term_of c.args.progress.now.term)) c.requires.root
      (quiet-none (ranges_of c.args.progress.now.ctx) (context_of c.args.progress.now.ctx) (term_of c.args.progress.now.term)
      (subst (TellsSite c.args.progress.now.ctx (term_of c.args.progress.now.term)) c.in-None.is c.in_ok-site.ensures.found));
}
