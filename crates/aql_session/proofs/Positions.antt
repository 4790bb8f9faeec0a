-- The declarations before a position, with their outcomes, and the sort of the position.
use Rattle.std.proofs.Common.{◌≡◌, ℕ, ◌-◌, ◌≤◌, List, [], ◌∷◌, ◌++◌, length, take, reverse, Some, refl, sym, ap, ◌∙◌, arith, append_assoc}
use Rattle.std.proofs.lemmas.List.{append-nil}
use mathlib.Core.List.{reverse-cons}
use Rattle.aql_value.specs.Partial.{◌>>=◌}
use Rattle.aql_syntax.specs.Denotation.{den}
use Rattle.aql_syntax.specs.Script.{Earlier, globals_of}
use Rattle.aql_syntax.specs.Size.{before}
use Rattle.aql_syntax.specs.Sound.{declarations_of}
use Rattle.aql_syntax.specs.Tree.{Tree, Declaration}
use Rattle.nrca_term.specs.Meaning.{Outcomes, cden}
use Rattle.aql_desugar_spec.specs.Positions.{outcomes_of}
use Rattle.aql_desugar_spec.specs.Laws.Positions.{start-means}
use Rattle.aql_desugar_spec.specs.Start.{query}
use Rattle.aql_session.specs.Bound.{onto, earlier_of}
use Rattle.aql_session.specs.Step.{start_term, start_of}
use Rattle.aql_session.specs.Executions.{query_value}

declarations-onto : (ds : List Declaration) (V : Outcomes) (earlier : Earlier) → declarations_of (onto ds V earlier) ≡ reverse (take (length V) ds) ++ declarations_of earlier
declarations-onto [] [] earlier = refl
declarations-onto [] (o ∷ V) earlier = refl
declarations-onto (d ∷ ds) [] earlier = refl
declarations-onto (d ∷ ds) (o ∷ V) earlier =
    declarations-onto ds V ((d, o) ∷ earlier)
    ∙ sym (append_assoc (reverse (take (length V) ds)) (d ∷ []) (declarations_of earlier))
    ∙ ap (λ l. l ++ declarations_of earlier) (sym (reverse-cons d (take (length V) ds)))

-- the declarations before position n
pub declarations-before : (ds : List Declaration) (V : Outcomes) (n : ℕ) → length V ≡ n - 1 → declarations_of (earlier_of ds V) ≡ before ds n
declarations-before ds V n e =
    declarations-onto ds V [] ∙ append-nil (reverse (take (length V) ds)) ∙ ap (λ k. reverse (take k ds)) e

outcomes-onto : (ds : List Declaration) (V : Outcomes) (earlier : Earlier) → length V ≤ length ds → outcomes_of (onto ds V earlier) ≡ outcomes_of earlier ++ V
outcomes-onto [] [] earlier h = sym (append-nil (outcomes_of earlier))
outcomes-onto [] (o ∷ V) earlier h = absurd (omega (arith, h))
outcomes-onto (d ∷ ds) [] earlier h = sym (append-nil (outcomes_of earlier))
outcomes-onto (d ∷ ds) (o ∷ V) earlier h = outcomes-onto ds V ((d, o) ∷ earlier) (omega (arith, h)) ∙ append_assoc (outcomes_of earlier) (o ∷ []) V

-- their outcomes
pub outcomes-earlier : (ds : List Declaration) (V : Outcomes) → length V ≤ length ds → outcomes_of (earlier_of ds V) ≡ V
outcomes-earlier ds V h = outcomes-onto ds V [] h

module _ (ds : List Declaration) (V : Outcomes) (n : ℕ) (many : length V ≡ n - 1) (last : n ≤ length ds) where
  covered : length V ≤ length ds
  covered = omega (arith, many, last)

  pub start-at : (d : Declaration) → start_term (query d) (before ds n) ≡ start_of d (earlier_of ds V)
  start-at d = ap (start_term (query d)) (sym (declarations-before ds V n many))

  -- the start term is worth what the query denotes
  pub value-at : (d : Declaration) (e : Tree) → query d ≡ Some e → cden V [] (start_of d (earlier_of ds V)) ≡ query_value d (earlier_of ds V)
  value-at d e q =
      ap (λ W. cden W [] (start_of d (earlier_of ds V))) (sym (append-nil (outcomes_of (earlier_of ds V)) ∙ outcomes-earlier ds V covered))
      ∙ ap (λ o. cden (outcomes_of (earlier_of ds V) ++ []) [] (start_term o (declarations_of (earlier_of ds V)))) q
      ∙ start-means (earlier_of ds V) [] e
      ∙ sym (ap (λ o. o >>= λ x. den x (globals_of (earlier_of ds V)) []) q)
