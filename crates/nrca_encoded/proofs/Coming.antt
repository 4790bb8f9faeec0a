-- An array-free form over the encodings that are kept comes to what it comes to over all encoded outcomes, which is the encoded value of its plan.
use Rattle.std.proofs.Common.{◌≡◌, ℕ, ◌+◌, ◌^◌, ◌<◌, ◌≤◌, List, [], map, Option, Some, None, refl, sym, ap, ◌∙◌, subst, arith}
use Rattle.aql_value.specs.Datum.{Datum}
use Rattle.aql_value.specs.Meaning.{datum}
use Rattle.nrca_term.specs.Laws.TypedForm.{well_formed-typed, closed-typed, top_var-closed}
use Rattle.nrca_term.specs.Meaning.{Outcomes, cden}
use Rattle.nrca_term.specs.Subst.{top_var}
use Rattle.nrca_term.specs.Term.{Term}
use Rattle.nrca_term.specs.Turns.{settle}
use Rattle.nrca_term.specs.Typing.{instances}
use Rattle.nrca_term.specs.View.{term_of}
use Rattle.nrca_graph.specs.ArrayFree.{array_free}
use Rattle.nrca_graph.specs.Encoding.{encode_outcome}
use Rattle.nrca_graph.specs.GraphTurns.{graph_turns}
use Rattle.nrca_graph.specs.Kept.{MeansEncoded, TurnsWithin}
use Rattle.nrca_graph.specs.Laws.KeptForms.{outcome-encoded}
use Rattle.nrca_encoded.specs.Encodings.{IsKept}
use Rattle.nrca_encoded.specs.Graphs.{IsTypedOver, IsGraph, HasEvaluated, HasValue, RunsEncoded, encoded_turns}
use Rattle.nrca_encoded.specs.Positions.{EachPosition}
use Rattle.nrca_encoded.specs.declared.ran.Graph.{Graph}
use Rattle.nrca_encoded.specs.declared.ran.GraphRan.{GraphRan}
use Rattle.nrca_encoded.specs.declared.ran.GraphRan.TheVariants as ran
use Rattle.nrca_encoded.proofs.Agreeing.{Same, cden-agrees, settle-agrees, each-weaker}

-- the numbers of the variables are far below 64 bits
pub variables-fit : (V : Outcomes) (t : Term) → IsTypedOver V t → top_var t < 2 ^ 62
variables-fit V t q =
    let l = top_var-closed 0 t (well_formed-typed (instances q.given) [] t q.type q.typed) (closed-typed (instances q.given) [] t q.type q.typed) in
    omega (arith, l, q.small)

module _ (V E : Outcomes) (t : Term) (used : EachPosition (IsKept V E) t) where
  agree : EachPosition (Same E (map encode_outcome V)) t
  agree = each-weaker (IsKept V E) (Same E (map encode_outcome V)) (λ n e. e ∙ sym (outcome-encoded V n)) t used

  pub same-value : cden E [] t ≡ cden (map encode_outcome V) [] t
  same-value = cden-agrees E (map encode_outcome V) [] t agree

  pub same-turns : settle E [] t ≡ encoded_turns V t
  same-turns = settle-agrees E (map encode_outcome V) [] t agree

  -- the turns over what is kept pass the budget
  pub spent-is : (budget : ℕ) → budget < settle E [] t → RunsEncoded V budget t ran.Spent
  spent-is budget h = subst (λ n. budget < n) same-turns h

  -- they do not, and it came to this value
  pub value-is : (budget : ℕ) (o : Option Datum) (r : GraphRan) → o ≡ cden E [] t → settle E [] t ≤ budget → HasValue o r → RunsEncoded V budget t r
  value-is budget o ran.Spent e l h = absurd h
  value-is budget o ran.Undefined e l h = (subst (λ n. n ≤ budget) same-turns l, sym (e ∙ same-value) ∙ h)
  value-is budget o (ran.Value w) e l h = (subst (λ n. n ≤ budget) same-turns l, sym (e ∙ same-value) ∙ h)

encoded-none : (o : Option Datum) → encode_outcome o ≡ None → o ≡ None
encoded-none None e = refl
encoded-none (Some v) e = cc

module _ (V : Outcomes) (budget : ℕ) (plan : Term) (g : Graph) (q : IsTypedOver V plan) (free : term_of g.term ≡ array_free plan) where
  ran-is : (r : GraphRan) → cden (map encode_outcome V) [] (term_of g.term) ≡ encode_outcome (cden V [] plan) → RunsEncoded V budget (term_of g.term) r →
      HasEvaluated budget (encoded_turns V (array_free plan)) (cden V [] plan) r
  ran-is ran.Spent m h = subst (λ t. budget < encoded_turns V t) free h
  ran-is ran.Undefined m h = (subst (λ t. encoded_turns V t ≤ budget) free h.0, encoded-none (cden V [] plan) (sym m ∙ h.1))
  ran-is (ran.Value w) m h = (subst (λ t. encoded_turns V t ≤ budget) free h.0, sym m ∙ h.1)

  -- the graph of a plan
  pub graph-is : MeansEncoded plan (term_of g.term) → TurnsWithin plan (term_of g.term) → RunsEncoded V budget (term_of g.term) g.ran →
      IsGraph V budget plan (cden V [] plan) g
  graph-is m w h = record {
    term = free;
    ran = ran-is g.ran (m q.given V q.have [] [] q.type tt q.typed) h;
    bounded = subst (λ t. encoded_turns V t ≤ graph_turns V [] plan) free (w q.given V q.have [] [] q.type tt q.typed);
  }
