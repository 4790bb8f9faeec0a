use Rattle.std.proofs.Common.{◌-◌, take, refl, ap, arith}
use Rattle.std.proofs.lemmas.Result.{IfOk-weaker}
use Rattle.aql_infer_steps.specs.Typed.{sorts_of}
use Rattle.nrca_term.specs.View.{term_of}
use Rattle.aql_desugar.specs.Laws.Parts.{ok_join}
use Rattle.aql_desugar.proofs.Translating.{Chosen, chosen, chosen_some, translated_here, small_here, within_here, fault_here, err_map}
use Rattle.aql_desugar.proofs.translate.translate.Goals as goal

-- the declaration that is translated, and those before it
here : (c : goal.After-term_after) → Chosen c.args.decls.now.items.items (take (c.args.n - 1) c.deref.result.now) c.args.n c.in-Some.e.now
here c = record {
  query = chosen c.args.decls.now.items.items c.args.n (c.args.n - 1) c.index.result.now c.in-Some.e.now refl (omega arith) c.index.ensures c.in-Some.ensures;
  front = ap (take (c.args.n - 1)) c.deref.ensures.value;
}

pub unreachable-requires : goal.unreachable-requires
unreachable-requires c =
    chosen_some c.args.decls.now.items.items c.args.n (c.args.n - 1) c.index.result.now refl (omega arith) c.index.ensures c.in-None.ensures c.requires.query

pub returns-clause-translated : goal.returns-clause-translated
returns-clause-translated c =
    IfOk-weaker c.term_after.result _ _ (λ t is. translated_here c.args.decls.now.items.items (take (c.args.n - 1) c.deref.result.now) c.args.n c.in-Some.e.now (here c) (sorts_of c.args.typed.now.items.items) (term_of t) is)
    c.term_after.ensures.made

pub returns-clause-small : goal.returns-clause-small
returns-clause-small c =
    ok_join c.term_after.result _ _ _
    (λ t is w p. small_here c.args.decls.now.items.items (take (c.args.n - 1) c.deref.result.now) c.args.n c.in-Some.e.now (here c) (sorts_of c.args.typed.now.items.items) (term_of t) is w p)
    c.term_after.ensures.made c.term_after.ensures.within

pub returns-clause-within : goal.returns-clause-within
returns-clause-within c =
    IfOk-weaker c.term_after.result _ _ (λ t w. within_here c.args.decls.now.items.items (take (c.args.n - 1) c.deref.result.now) c.args.n c.in-Some.e.now (here c) w) c.term_after.ensures.within

pub returns-clause-fault : goal.returns-clause-fault
returns-clause-fault c =
    err_map c.term_after.result _ _ (λ f w. fault_here c.args.decls.now.items.items (take (c.args.n - 1) c.deref.result.now) c.args.n c.in-Some.e.now (here c) f w) c.term_after.ensures.fault
