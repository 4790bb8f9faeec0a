-- What a plan is follows from rewritings that lead to a term at whose places no rule may be applied.
use Rattle.std.proofs.Common.{◌+◌, List, [], ◌∷◌, Option, sym, subst, arith}
use Rattle.aql_value.specs.Laws.Lists.{Every-join}
use Rattle.aql_ty.specs.Types.{Ty}
use Rattle.aql_ty.specs.ValueTypes.{HaveTypes}
use Rattle.nrca_term.specs.declared.trace.Step.{Step}
use Rattle.nrca_term.specs.Term.{Term, weight_of}
use Rattle.nrca_term.specs.View.{term_of}
use Rattle.nrca_term.specs.Meaning.{Outcomes}
use Rattle.nrca_term.specs.Typing.{IsTyped, ctyped, instances, OutcomesHave}
use Rattle.nrca_term.specs.Places.{reach}
use Rattle.nrca_term.specs.Facts.{no_facts, facts_at}
use Rattle.nrca_term.specs.Rules as rules
use Rattle.nrca_term.specs.Rules.{Side, Replay}
use Rattle.nrca_term.specs.Laws.TypedForm.{well_formed-typed}
use Rattle.nrca_term.specs.Laws.TypedPlaces.{typed-place}
use Rattle.nrca_term.specs.Laws.Measure.{left-bound}
use Rattle.nrca_term.specs.TypedPlaces.{KeepsTypes}
use Rattle.nrca_rule_laws.specs.Laws.Steps.{cube}
use Rattle.nrca_rule_laws.specs.Laws.Ways.{normal-in}
use Rattle.nrca_ranges.specs.Bounds.{Bounds, at_root}
use Rattle.nrca_ranges.specs.Entered.{is_shaped}
use Rattle.nrca_ranges.specs.Shapes.{Tells, PlaceHolds}
use Rattle.nrca_ranges.specs.Transfer.{ranges_at}
use Rattle.nrca_ranges.specs.Laws.Positions.{positions-at}
use Rattle.nrca_ranges.specs.Laws.Sound.{holds}
use Rattle.nrca_normal.specs.Conditions.{name_of, HasCondition}
use Rattle.nrca_normal.specs.Rewriting.{IsRewriting, Leads}
use Rattle.nrca_normal.specs.Quiet.{QuietEverywhere}
use Rattle.nrca_normal.specs.Planned.{IsReplayed, IsNormalIn, IsPlanOf}
use Rattle.nrca_normal.specs.declared.normal.Plan.{Plan}
use Rattle.nrca_normal.specs.Laws.Typed.{rewriting-types, leads-types, leads-left}

module _ (gs : List (Option Bounds)) where
  -- a rewriting at the root is a step of the definitions
  step-of : (t u : Term) (s : Step) (given : List Ty) (T : Ty) (V : Outcomes) → ctyped (instances given) [] t T → OutcomesHave (instances given) V → Tells gs V → IsRewriting (at_root gs) no_facts t s u → rules.Step V s.rule s.path t u
  unfolding HasCondition
  step-of t u s given T V ty oh tl h =
      let q = typed-place (instances given) s.path [] t h.from T ty h.found in
      subst (λ R. rules.Step V R s.path t u) (sym h.rule) (record {
        from = h.from;
        to = h.to;
        ways = h.made.0.ways;
        found = h.found;
        put = h.put;
        redex = h.made.0.redex;
        side = Every-join (HaveTypes q.around) (PlaceHolds V (ranges_at (at_root gs) no_facts t s.path) (facts_at t s.path)) (λ vals. Side V (name_of h.firing) vals h.from h.to h.made.0.ways)
            (λ vals k st. h.fires.condition h.to h.made.0.ways h.made.0.redex h.made.1 given V q.around vals q.type oh k (subst (λ l. Tells l V) (sym (positions-at s.path (at_root gs) no_facts t)) tl) st q.typed)
            (reach V [] t s.path) (q.values V [] oh tt) (holds V gs t tl (well_formed-typed (instances given) [] t T ty) s.path);
        known = h.fires.known;
      })

  -- several are a trace that replays
  replay-of : (t u : Term) (steps : List Step) (given : List Ty) (T : Ty) (V : Outcomes) → ctyped (instances given) [] t T → OutcomesHave (instances given) V → Tells gs V → Leads (at_root gs) no_facts t steps u → Replay V steps t u
  unfolding Leads
  replay-of t u [] given T V ty oh tl h = h
  replay-of t u (s ∷ steps) given T V ty oh tl h =
      (h.0, step-of t h.0 s given T V ty oh tl h.1, replay-of h.0 u steps given T V (rewriting-types (at_root gs) no_facts t h.0 s h.1 given [] T ty) oh tl h.2)

  -- what is answered at the end
  pub planned : (t : Term) (p : Plan) → IsTyped t → Leads (at_root gs) no_facts t p.trace (term_of p.term) → QuietEverywhere (at_root gs) no_facts (term_of p.term) → IsPlanOf gs t p
  unfolding IsReplayed IsNormalIn KeepsTypes QuietEverywhere
  planned t p y h q = record {
    replayed = λ given T V ty oh tl. replay-of t (term_of p.term) p.trace given T V ty oh tl h;
    normal = λ V tl. normal-in V (is_shaped gs) tl.1 (term_of p.term) q;
    few = omega (arith, leads-left (at_root gs) no_facts (weight_of t) t (term_of p.term) p.trace y.0 [] y.1 (omega arith) y.2 h, left-bound t, cube (weight_of t + 1));
    types = λ given. leads-types (at_root gs) no_facts t (term_of p.term) p.trace h given;
  }
