-- The declaration at a place is the one there, and those before it are taken the latest first.
use Rattle.std.proofs.Common.{◌≡◌, ℕ, ◌<◌, ◌-◌, ◌^◌, min, List, Some, sym, ap, ◌∙◌, take, get_or, reverse, length}
use Rattle.std.specs.List.{slice_get}
use Rattle.aql_syntax.specs.View.{decl_of, decls_of}
use Rattle.aql_syntax.specs.Measured.{latest}
use Rattle.aql_syntax.specs.Size.{decl_size, decl_levels, size_at, levels_at, extents_of}
use Rattle.aql_syntax.specs.declared.ast.Decl.{Decl}
use Rattle.aql_syntax.specs.Laws.Measuring.{latest-take, decl-at}
use Rattle.aql_syntax.proofs.sizes.measure_at.Goals as goal

there : (ds : List Decl) (i : ℕ) (d : Decl) → i < length ds → d ≡ get_or ds i d → Some (decl_of d) ≡ slice_get (decls_of ds) i
there ds i d h e = ap (λ x. Some (decl_of x)) e ∙ sym (decl-at ds i d h)

size_there : (ds : List Decl) (i : ℕ) (d : Decl) → i < length ds → d ≡ get_or ds i d →
    decl_size (decl_of d) (extents_of (latest (take i ds))) ≡ size_at (slice_get (decls_of ds) i) (extents_of (reverse (take i (decls_of ds))))
size_there ds i d h e =
    ap (λ l. decl_size (decl_of d) (extents_of l)) (latest-take i ds) ∙ ap (λ o. size_at o (extents_of (reverse (take i (decls_of ds))))) (there ds i d h e)

levels_there : (ds : List Decl) (i : ℕ) (d : Decl) → i < length ds → d ≡ get_or ds i d →
    decl_levels (decl_of d) (extents_of (latest (take i ds))) ≡ levels_at (slice_get (decls_of ds) i) (extents_of (reverse (take i (decls_of ds))))
levels_there ds i d h e =
    ap (λ l. decl_levels (decl_of d) (extents_of l)) (latest-take i ds) ∙ ap (λ o. levels_at o (extents_of (reverse (take i (decls_of ds))))) (there ds i d h e)

pub returns-clause-size : goal.returns-clause-size
returns-clause-size c =
    c.measure_own.ensures.size
    ∙ ap (λ (n : ℕ). min n (2 ^ 64 - 1)) (size_there c.args.decls.now c.args.i c.index-decls-i.result c.requires c.index-decls-i.is)

pub returns-clause-levels : goal.returns-clause-levels
returns-clause-levels c =
    c.measure_own.ensures.levels
    ∙ ap (λ (n : ℕ). min n (2 ^ 64 - 1)) (levels_there c.args.decls.now c.args.i c.index-decls-i.result c.requires c.index-decls-i.is)
