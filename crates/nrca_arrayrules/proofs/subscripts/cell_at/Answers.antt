use Rattle.std.proofs.Common.{rules, arith, ◌<◌, ◌^◌, length, ap, subst, ◌∙◌}
use Rattle.nrca_term.specs.View.{term_of, terms_of}
use Rattle.nrca_term.specs.Laws.Equations.{length-terms_of}
use Rattle.nrca_arrayrules.proofs.SubscriptSides.{offset-within, cell-here, any-item}
use Rattle.nrca_term.specs.Laws.Lists.{item-is}
use Rattle.nrca_arrayrules.specs.Constants.{IsOffset}
use Rattle.nrca_arrayrules.proofs.subscripts.cell_at.Goals as goal

pub index_mut-requires : goal.index_mut-requires
index_mut-requires c =
    let l : length (terms_of c.args.cells) < 2 ^ 64 = omega (arith, length-terms_of c.args.cells, c.args.cells.0.ok.0, c.args.cells.0.ok.1, c.args.cells.0.small) in
    let t = subst (IsOffset (terms_of c.args.dims.now) (terms_of c.args.at.now)) c.in-Some.is c.literal_offset.ensures in
    omega (arith, length-terms_of c.args.cells, offset-within (terms_of c.args.dims.now) (terms_of c.args.cells) (terms_of c.args.at.now) c.in-Some.p c.requires l t)

pub overflow_cast-p : goal.overflow_cast-p
overflow_cast-p c =
    let l : length (terms_of c.args.cells) < 2 ^ 64 = omega (arith, length-terms_of c.args.cells, c.args.cells.0.ok.0, c.args.cells.0.ok.1, c.args.cells.0.small) in
    let t = subst (IsOffset (terms_of c.args.dims.now) (terms_of c.args.at.now)) c.in-Some.is c.literal_offset.ensures in
    let p : c.in-Some.p < 2 ^ 64 = omega (arith, l, offset-within (terms_of c.args.dims.now) (terms_of c.args.cells) (terms_of c.args.at.now) c.in-Some.p c.requires l t) in
    search rules

pub returns-in-Some : goal.returns-in-Some
returns-in-Some c =
    let l : length (terms_of c.args.cells) < 2 ^ 64 = omega (arith, length-terms_of c.args.cells, c.args.cells.0.ok.0, c.args.cells.0.ok.1, c.args.cells.0.small) in
    let t = subst (IsOffset (terms_of c.args.dims.now) (terms_of c.args.at.now)) c.in-Some.is c.literal_offset.ensures in
    let w = offset-within (terms_of c.args.dims.now) (terms_of c.args.cells) (terms_of c.args.at.now) c.in-Some.p c.requires l t in
    cell-here (terms_of c.args.dims.now) (terms_of c.args.cells) (terms_of c.args.at.now) c.in-Some.p (term_of c.replace-cell.result) c.requires l t
    (ap term_of c.replace-cell.ensures.value ∙ item-is c.args.cells.0.items c.in-Some.p c.index_mut.result.now c.index_mut.ensures.value ∙ any-item (terms_of c.args.cells) c.in-Some.p (term_of c.index_mut.result.now) w)
