-- A query's term is typed, and its plan has its meaning.
use Rattle.std.proofs.Common.{◌≡◌, Bool, true, false, ℕ, zero, suc, ◌-◌, ◌+◌, ◌≤◌, ◌^◌, List, [], ◌∷◌, ◌++◌, length, map, take, Option, Some, None, refl, sym, ap, ◌∙◌, subst, arith}
use Rattle.std.specs.Prelude.{slice_get, Result, Ok, Err, IsOkAnd, IfOk}
use Rattle.std.specs.Global.{Box}
use Rattle.std.specs.Option.{ForSome}
use Rattle.std.proofs.lemmas.List.{append-nil}
use Rattle.aql_value.specs.Datum.{Datum}
use Rattle.aql_value.specs.Partial.{◌>>=◌}
use Rattle.aql_value.specs.Valid.{IsValue}
use Rattle.aql_ty.specs.Types as types
use Rattle.aql_ty.specs.Types.{Ty, Sort, Subst, apply, IsType}
use Rattle.aql_ty.specs.ValueTypes.{HasType}
use Rattle.aql_syntax.specs.Script.{Earlier}
use Rattle.aql_syntax.specs.Size.{before}
use Rattle.aql_syntax.specs.Sound.{declarations_of, OutcomesTyped}
use Rattle.aql_syntax.specs.Tree.{Tree, Declaration, val, mac, read, bare}
use Rattle.aql_syntax.specs.Typing.{Environment, Has, DeclHas, environment_of, argument_type}
use Rattle.aql_infer_steps.specs.Typed.{ArePrincipal}
use Rattle.aql_infer_steps.specs.Laws.Principal.{sort-at}
use Rattle.nrca_term.specs.Laws.Valid.{cden-valid}
use Rattle.nrca_term.specs.Meaning.{Outcomes, cden}
use Rattle.nrca_term.specs.Term.{Term, weight_of, IsSmall}
use Rattle.nrca_term.specs.Typing.{ctyped, instances, OutcomesHave}
use Rattle.nrca_term.specs.Rules.{Replay}
use Rattle.nrca_term.specs.Valid.{HasConstants}
use Rattle.nrca_term.specs.View.{term_of}
use Rattle.nrca_term.specs.declared.trace.Step as code
use Rattle.nrca_term.specs.Laws.Measure.{below-weight}
use Rattle.nrca_rule_laws.specs.Laws.Steps.{replay-keeps, replay-types, step-types, step-lowers}
use Rattle.nrca_encoded.specs.Graphs.{IsTypedOver}
use Rattle.nrca_ranges.specs.Bounds.{Bounds}
use Rattle.nrca_normal.specs.Planned.{IsReplayed, IsNormalIn, IsPlan}
use Rattle.nrca_motion.specs.Moved.{IsChained, IsStillIn, KeepsMeaning}
use Rattle.nrca_motion.specs.Moves.{MoveChain}
use Rattle.nrca_motion.specs.declared.still.Moved.{Moved}
use Rattle.aql_desugar_spec.specs.Positions.{value_type}
use Rattle.aql_desugar_spec.specs.Start.{query}
use Rattle.aql_desugar.specs.Translation.{IsTranslated, types_before, query_of, query_at}
use Rattle.aql_session.specs.Bound.{onto}
use Rattle.aql_session.specs.Known.{Knows}
use Rattle.aql_session.specs.Planned.{KeepsMoved}
use Rattle.aql_session.specs.Executions.{IsReadyAt, IsQuery}
use Rattle.aql_session.specs.Step.{IsMovedBy, NoMacroHasValue, moved_term, moves_of}

-- The types of the positions' outcomes.

typed-behind : (ds : List Declaration) (V : Outcomes) (earlier : Earlier) → OutcomesTyped (onto ds V earlier) → OutcomesTyped earlier
typed-behind [] V earlier h = h
typed-behind (d ∷ ds) [] earlier h = h
typed-behind (d ∷ ds) (o ∷ V) earlier h = (typed-behind ds V ((d, o) ∷ earlier) h).1

bare-behind : (d : Declaration) (o : Option Datum) (earlier : Earlier) → NoMacroHasValue ((d, o) ∷ earlier) → NoMacroHasValue earlier
bare-behind (val x e) o earlier h = h
bare-behind (mac f p b) o earlier h = h.1
bare-behind (read x r e) o earlier h = h
bare-behind (bare e) o earlier h = h

macros-behind : (ds : List Declaration) (V : Outcomes) (earlier : Earlier) → NoMacroHasValue (onto ds V earlier) → NoMacroHasValue earlier
macros-behind [] V earlier h = h
macros-behind (d ∷ ds) [] earlier h = h
macros-behind (d ∷ ds) (o ∷ V) earlier h = bare-behind d o earlier (macros-behind ds V ((d, o) ∷ earlier) h)

-- a value has each instance of its position's type
first-has : (d : Declaration) (o : Option Datum) (earlier : Earlier) (s : Sort) → OutcomesTyped ((d, o) ∷ earlier) → NoMacroHasValue ((d, o) ∷ earlier) →
    DeclHas d (environment_of (declarations_of earlier)) s → (v : Datum) → o ≡ Some v → (u : Subst) → HasType (apply u (value_type s)) v
first-has d o earlier (types.value t) h m k v e u = h.0 t v k e u
first-has (val x b) o earlier (types.macro s t) h m k v e u = absurd k
first-has (mac f p b) o earlier (types.macro s t) h m k v e u = (let z = sym m.0 ∙ e in cc)
first-has (read x r b) o earlier (types.macro s t) h m k v e u = absurd k
first-has (bare b) o earlier (types.macro s t) h m k v e u = absurd k

have-from : (ds before : List Declaration) (sorts : List Sort) (V : Outcomes) (earlier : Earlier) → declarations_of earlier ≡ before → ArePrincipal before ds sorts →
    OutcomesTyped (onto ds V earlier) → NoMacroHasValue (onto ds V earlier) → length V ≤ length ds → (i : ℕ) (S : Ty) (v : Datum) (u : Subst) →
    slice_get (map value_type (take (length V) sorts)) i ≡ Some S → (slice_get V i >>= λ o. o) ≡ Some v → HasType (apply u S) v
have-from ds before sorts [] earlier e p h m l i S v u s o = cc
have-from [] before sorts (x ∷ V) earlier e p h m l i S v u s o = absurd (omega (arith, l))
have-from (d ∷ ds) before [] (x ∷ V) earlier e p h m l i S v u s o = absurd p
have-from (d ∷ ds) before (t ∷ sorts) (x ∷ V) earlier e p h m l zero S v u s o =
    let z : value_type t ≡ S = cc in
    subst (λ y. HasType (apply u y) v) z
    (first-has d x earlier t (typed-behind ds V ((d, x) ∷ earlier) h) (macros-behind ds V ((d, x) ∷ earlier) m)
    (subst (λ y. DeclHas d (environment_of y) t) (sym e) p.0.principal.has) v o u)
have-from (d ∷ ds) before (t ∷ sorts) (x ∷ V) earlier e p h m l (suc i) S v u s o =
    have-from ds (d ∷ before) sorts V ((d, x) ∷ earlier) (ap (λ y. d ∷ y) e) p.1 h m (omega (arith, l)) i S v u s o

have-at : (ds : List Declaration) (sorts : List Sort) (n : ℕ) (V : Outcomes) → IsReadyAt ds sorts n V → OutcomesHave (instances (types_before sorts n)) V
have-at ds sorts n V h zero T v g o = cc
have-at ds sorts n V h (suc i) T v g o =
    let l : length V ≤ length ds = omega (arith, h.many, h.last) in
    subst (λ y. HasType y v) (sym g.3)
    (have-from ds [] sorts V [] refl h.checked h.typed h.macros l i g.0 v g.1 (ap (λ k. slice_get (map value_type (take k sorts)) i) h.many ∙ g.2) o)

-- a query has a type of the language
has-query : (d : Declaration) (e : Tree) (g : Environment) (s : Sort) → query d ≡ Some e → DeclHas d g s → (T : Ty) × IsType T × Has e g [] T
has-query (val x b) e g (types.value t) q h = let z : b ≡ e = cc in (t, h.0.2, subst (λ y. Has y g [] t) z h.1)
has-query (val x b) e g (types.macro s t) q h = absurd h
has-query (mac f p b) e g s q h = cc
has-query (read x r b) e g (types.value t) q h = let z : b ≡ e = cc in (argument_type r, h.2.2, subst (λ y. Has y g [] (argument_type r)) z h.3)
has-query (read x r b) e g (types.macro s t) q h = absurd h
has-query (bare b) e g (types.value t) q h = let z : b ≡ e = cc in (t, h.0.2, subst (λ y. Has y g [] t) z h.1)
has-query (bare b) e g (types.macro s t) q h = absurd h

-- the term of a query is typed and small
pub query-term : (ds : List Declaration) (sorts : List Sort) (n : ℕ) (V : Outcomes) (t : Term) → IsReadyAt ds sorts n V → IsQuery (slice_get ds (n - 1)) →
    ((e : Tree) → query_of ds n ≡ Some e → IsTranslated ds sorts n e t) → (ArePrincipal [] ds sorts → IsSmall 0 t) → IsTypedOver V t
query-term ds sorts n V t h q x small =
    let s = sort-at ds sorts n q.0 h.checked q.2 in
    let y = has-query q.0 q.1 (environment_of (before ds n)) s.0 q.3 s.2.principal.has in
    record {
      given = types_before sorts n ++ [];
      type = y.0;
      typed = (x q.1 (ap query_at q.2 ∙ q.3)).types h.checked [] y.0 y.1 y.2;
      have = subst (λ Ts. OutcomesHave (instances Ts) V) (sym (append-nil (types_before sorts n))) (have-at ds sorts n V h);
      small = (let k : weight_of t ≤ 1280000 = omega (arith, small h.checked) in k);
    }

-- what the normaliser answers is a plan, and has the meaning of the term
module _ (V : Outcomes) (gs : List (Option Bounds)) (t u : Term) (trace : List code.Step) (q : IsTypedOver V t) (k : Knows gs V) (c : HasConstants t)
    (r : IsReplayed gs t trace u) (normal : IsNormalIn gs u) (few : length trace ≤ (weight_of t + 1) ^ 3) where
  pub plan-made : IsPlan V t trace u
  unfolding IsReplayed IsNormalIn
  plan-made = record { replayed = r q.given q.type V q.typed q.have k.tells; normal = normal V k.tells; few = few }

  pub plan-means : cden V [] u ≡ cden V [] t
  plan-means = sym (replay-keeps (instances q.given) V q.have k.valid trace t u q.type q.typed c plan-made.replayed)

  pub value-valid : ForSome (cden V [] t) IsValue
  value-valid v e = cden-valid V k.valid t [] v c tt e

-- without a rewriting the plan is the term
pub unchanged-plan : (V : Outcomes) (t u : Term) (trace : List code.Step) → IsPlan V t trace u → trace ≡ [] → u ≡ t
unchanged-plan V t u trace p e = let r : Replay V [] t u = subst (λ s. Replay V s t u) e p.replayed in sym r

-- a step makes no term heavier, and so does no chain
replay-weight : (G : ℕ → Ty → Type 0) (V : Outcomes) (trace : List code.Step) (t u : Term) (T : Ty) → ctyped G [] t T → Replay V trace t u → weight_of u ≤ weight_of t
replay-weight G V [] t u T ty h = omega (arith, ap weight_of h)
replay-weight G V (s ∷ trace) t u T ty h =
    omega (arith, replay-weight G V trace h.0 u T (step-types G V s.rule s.path t h.0 [] T ty h.1) h.2, below-weight h.0 t (step-lowers G V s.rule s.path t h.0 T ty h.1))

-- a plan is a term of its query's type too
pub plan-query : (V : Outcomes) (t u : Term) (trace : List code.Step) → IsTypedOver V t → IsPlan V t trace u → IsTypedOver V u
plan-query V t u trace q p = record {
  given = q.given;
  type = q.type;
  typed = replay-types (instances q.given) V trace t u q.type q.typed p.replayed;
  have = q.have;
  small = omega (arith, q.small, replay-weight (instances q.given) V trace t u q.type q.typed p.replayed);
}

-- what is told of an answer, where it was put in a box
pub in-box : {A B : Type 0} (r : Result A B) (b : Box A) (P : A → Type 0) → IsOkAnd r (λ a. a ≡ b.value) → IfOk r P → P b.value
in-box (Ok a) b P e h = subst P e h
in-box (Err e) b P k h = absurd k

-- what is moved in a plan is, and has its meaning
module _ (V : Outcomes) (gs : List (Option Bounds)) (t : Term) (m : Box Moved) (q : IsTypedOver V t) (k : Knows gs V) where
  pub motion-made : IsChained gs t m.value.moves (term_of m.value.term) → IsStillIn gs (term_of m.value.term) → length m.value.moves ≤ (weight_of t + 1) ^ 3 → IsMovedBy true V t (Some m)
  unfolding IsChained IsStillIn
  motion-made c s few = record { chained = c q.given q.type V q.typed q.have k.tells; still = s V k.tells; few = few }

  pub motion-keeps : KeepsMeaning gs t (term_of m.value.term) → KeepsMoved V t (Some m)
  unfolding KeepsMeaning
  motion-keeps h = h q.given q.type V q.typed q.have k.tells

-- without a move what is moved is the plan
pub unmoved-plan : (motion : Bool) (V : Outcomes) (plan : Term) (moved : Option (Box Moved)) → IsMovedBy motion V plan moved → moves_of moved ≡ [] → moved_term plan moved ≡ plan
unmoved-plan true V plan (Some m) h e = let c : MoveChain V [] plan (term_of m.value.term) = subst (λ s. MoveChain V s plan (term_of m.value.term)) e h.chained in sym c
unmoved-plan true V plan None h e = absurd h
unmoved-plan false V plan moved h e = ap (moved_term plan) h
