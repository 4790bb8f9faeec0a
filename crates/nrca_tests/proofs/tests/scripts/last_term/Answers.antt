use Rattle.std.proofs.Common.{Some, ap, sym, ◌∙◌}
use Rattle.std.specs.Prelude.{slice_get, ◌-◌}
use Rattle.aql_syntax.specs.View.{decl_of, decls_of, tree_of}
use Rattle.nrca_tests.proofs.tests.scripts.last_term.Goals as goal

pub term_at-requires-clause-bare : goal.term_at-requires-clause-bare
term_at-requires-clause-bare c = (
  tree_of c.in-Bare.expr,
  ap (λ xs. slice_get (decls_of xs) (c.len-n.result - 1)) (sym c.deref.ensures.value) ∙ c.declaration_at.ensures ∙ ap (λ x. Some (decl_of x)) c.in-Bare.is,
)
