use Rattle.std.proofs.Common.{rules, length, arith, ◌<◌, ◌^◌, sym, subst, ◌∙◌}
use Rattle.nrca_term.specs.View.{term_of, terms_of}
use Rattle.nrca_term.specs.Laws.AsVariant.{as-Sub, as-Literal}
use Rattle.nrca_term.specs.Laws.Equations.{length-terms_of}
use Rattle.nrca_term.specs.declared.trace.Rule.TheVariants.{A5}
use Rattle.nrca_arrayrules.specs.Constants.{IsOffset}
use Rattle.nrca_normal.specs.Ways.{AreWays}
use Rattle.nrca_normal.specs.declared.ways.Ways.TheVariants.{Others}
use Rattle.nrca_normal.proofs.WaysSides.{a5-inside, a5-outside, a5-ranks, a5-below}
use Rattle.nrca_normal.proofs.ways.ways_of_subscript.Goals as goal

pub literal_offset-requires : goal.literal_offset-requires
literal_offset-requires c =
    a5-ranks (term_of c.args.term.now) (term_of c.in-Sub.array.value) (terms_of c.in-Literal.dims) (terms_of c.in-Literal.cells) (terms_of c.in-Sub.at)
    (as-Sub c.args.term.now c.in-Sub.array c.in-Sub.at c.in-Sub.is) (as-Literal c.in-Sub.array.value c.in-Literal.dims c.in-Literal.cells (search rules)) c.requires

pub overflow_cast-but : goal.overflow_cast-but
overflow_cast-but c =
    let l : length (terms_of c.in-Literal.cells) < 2 ^ 64 = omega (arith, length-terms_of c.in-Literal.cells, c.in-Literal.cells.0.ok.0, c.in-Literal.cells.0.ok.1, c.in-Literal.cells.0.small) in
    let p : c.in-Some.p < 2 ^ 64 = omega (
      arith,
      l,
      a5-below (term_of c.args.term.now) (term_of c.in-Sub.array.value) (terms_of c.in-Literal.dims) (terms_of c.in-Literal.cells) (terms_of c.in-Sub.at) c.in-Some.p
          (as-Sub c.args.term.now c.in-Sub.array c.in-Sub.at c.in-Sub.is) (as-Literal c.in-Sub.array.value c.in-Literal.dims c.in-Literal.cells (search rules)) c.requires l (subst (IsOffset (terms_of c.in-Literal.dims) (terms_of c.in-Sub.at)) c.in-Some.is c.literal_offset.ensures),
    ) in
    search rules

pub returns-in-Some-clause-ways : goal.returns-in-Some-clause-ways
returns-in-Some-clause-ways c =
    let l : length (terms_of c.in-Literal.cells) < 2 ^ 64 = omega (arith, length-terms_of c.in-Literal.cells, c.in-Literal.cells.0.ok.0, c.in-Literal.cells.0.ok.1, c.in-Literal.cells.0.small) in
    subst (λ m. AreWays A5 (term_of c.args.term.now) (Others m c.in-Some.p c.len-in-Some.result)) (length-terms_of c.in-Literal.dims ∙ sym c.len.ensures)
    (subst (λ n. AreWays A5 (term_of c.args.term.now) (Others (length (terms_of c.in-Literal.dims)) c.in-Some.p n)) (length-terms_of c.in-Literal.cells ∙ sym c.len-in-Some.ensures)
    (a5-inside (term_of c.args.term.now) (term_of c.in-Sub.array.value) (terms_of c.in-Literal.dims) (terms_of c.in-Literal.cells) (terms_of c.in-Sub.at) c.in-Some.p
    (as-Sub c.args.term.now c.in-Sub.array c.in-Sub.at c.in-Sub.is) (as-Literal c.in-Sub.array.value c.in-Literal.dims c.in-Literal.cells (search rules)) c.requires l (subst (IsOffset (terms_of c.in-Literal.dims) (terms_of c.in-Sub.at)) c.in-Some.is c.literal_offset.ensures)))

pub returns-in-None-clause-ways : goal.returns-in-None-clause-ways
returns-in-None-clause-ways c =
    a5-outside (term_of c.args.term.now) (term_of c.in-Sub.array.value) (terms_of c.in-Literal.dims) (terms_of c.in-Literal.cells) (terms_of c.in-Sub.at)
    (as-Sub c.args.term.now c.in-Sub.array c.in-Sub.at c.in-Sub.is) (as-Literal c.in-Sub.array.value c.in-Literal.dims c.in-Literal.cells (search rules)) c.requires (subst (IsOffset (terms_of c.in-Literal.dims) (terms_of c.in-Sub.at)) c.in-None.is c.literal_offset.ensures)
