use Rattle.std.proofs.Common.{◌-◌, take, refl, sym, ap, subst, arith}
use Rattle.std.proofs.lemmas.Result.{IfOk-weaker}
use Rattle.aql_infer_steps.specs.Typed.{sorts_of}
use Rattle.nrca_term.specs.View.{term_of}
use Rattle.aql_desugar.specs.Named.{BeginWith}
use Rattle.aql_desugar.proofs.Finding.{before_named}
use Rattle.aql_desugar.proofs.Translating.{Chosen, chosen, chosen_some, translated_here, small_within}
use Rattle.aql_desugar.proofs.translate.translate_within.Goals as goal

-- the declaration that is translated, and those before it
here : (c : goal.After-start_after) → Chosen c.args.decls.now.items.items (take (c.args.n - 1) c.deref.result.now) c.args.n c.in-Some.e.now
here c = record {
  query = chosen c.args.decls.now.items.items c.args.n (c.args.n - 1) c.index.result.now c.in-Some.e.now refl (omega arith) c.index.ensures c.in-Some.ensures;
  front = ap (take (c.args.n - 1)) c.deref.ensures.value;
}

pub unreachable-requires : goal.unreachable-requires
unreachable-requires c =
    chosen_some c.args.decls.now.items.items c.args.n (c.args.n - 1) c.index.result.now refl (omega arith) c.index.ensures c.in-None.ensures c.requires.query

pub returns-clause-translated : goal.returns-clause-translated
returns-clause-translated c =
    IfOk-weaker c.start_after.result _ _ (λ t is. translated_here c.args.decls.now.items.items (take (c.args.n - 1) c.deref.result.now) c.args.n c.in-Some.e.now (here c) (sorts_of c.args.typed.now.items.items) (term_of t) is)
    c.start_after.ensures

pub returns-clause-small : goal.returns-clause-small
returns-clause-small c =
    IfOk-weaker c.start_after.result _ _
    (λ t is p. small_within c.args.decls.now.items.items (take (c.args.n - 1) c.deref.result.now) c.args.n c.in-Some.e.now (here c) (sorts_of c.args.typed.now.items.items) (term_of t) is c.requires.within p)
    c.start_after.ensures

pub invariant_of-earlier : goal.invariant_of-earlier
invariant_of-earlier c =
    subst (λ ds. BeginWith (take (c.args.n - 1) ds) c.args.names.now) (sym c.deref.ensures.value)
    (before_named c.args.decls.now.items.items c.args.n c.args.names.now (omega (arith, c.requires.first, c.requires.last)) c.requires.named)
