use Rattle.std.proofs.Common.{sym, ap, ◌∙◌, arith}
use Rattle.aql_syntax.specs.Names.{find}
use Rattle.aql_syntax.specs.Size.{Extent, extent_of}
use Rattle.aql_script.proofs.Entries.{latest-inside, latest-none, latest-some}
use Rattle.aql_script.proofs.extents.ExtentsMacros.addition.Goals as goal

pub index-requires : goal.index-requires
index-requires c = omega (arith, latest-inside c.args.name.now c.self.inside.names c.self.inside.added.items c.in-Some.i c.self.invariant c.in-Some.ensures, c.self.inside.added.ok.0)

pub returns-in-Some-clause-pattern : goal.returns-in-Some-clause-pattern
returns-in-Some-clause-pattern c =
    ap (λ (x : Extent). x.pattern)
    (sym (latest-some c.args.name.now c.self.inside.names c.self.inside.added.items c.in-Some.i c.index.result.now c.self.invariant c.in-Some.ensures c.index.ensures)
    ∙ ap (λ ms. extent_of (find c.args.name.now ms)) c.self.view_is)

pub returns-in-Some-clause-size : goal.returns-in-Some-clause-size
returns-in-Some-clause-size c =
    ap (λ (x : Extent). x.size)
    (sym (latest-some c.args.name.now c.self.inside.names c.self.inside.added.items c.in-Some.i c.index.result.now c.self.invariant c.in-Some.ensures c.index.ensures)
    ∙ ap (λ ms. extent_of (find c.args.name.now ms)) c.self.view_is)

pub returns-in-Some-clause-levels : goal.returns-in-Some-clause-levels
returns-in-Some-clause-levels c =
    ap (λ (x : Extent). x.levels)
    (sym (latest-some c.args.name.now c.self.inside.names c.self.inside.added.items c.in-Some.i c.index.result.now c.self.invariant c.in-Some.ensures c.index.ensures)
    ∙ ap (λ ms. extent_of (find c.args.name.now ms)) c.self.view_is)

pub returns-in-None-clause-pattern : goal.returns-in-None-clause-pattern
returns-in-None-clause-pattern c =
    c.none.ensures.pattern
    ∙ ap (λ (x : Extent). x.pattern)
    (sym (latest-none c.args.name.now c.self.inside.names c.self.inside.added.items c.self.invariant c.in-None.ensures)
    ∙ ap (λ ms. extent_of (find c.args.name.now ms)) c.self.view_is)

pub returns-in-None-clause-size : goal.returns-in-None-clause-size
returns-in-None-clause-size c =
    c.none.ensures.size
    ∙ ap (λ (x : Extent). x.size)
    (sym (latest-none c.args.name.now c.self.inside.names c.self.inside.added.items c.self.invariant c.in-None.ensures)
    ∙ ap (λ ms. extent_of (find c.args.name.now ms)) c.self.view_is)

pub returns-in-None-clause-levels : goal.returns-in-None-clause-levels
returns-in-None-clause-levels c =
    c.none.ensures.levels
    ∙ ap (λ (x : Extent). x.levels)
    (sym (latest-none c.args.name.now c.self.inside.names c.self.inside.added.items c.self.invariant c.in-None.ensures)
    ∙ ap (λ ms. extent_of (find c.args.name.now ms)) c.self.view_is)
