-- The encodings of positions that are kept, and those that a term uses.
use Rattle.std.proofs.Common.{◌≡◌, ℕ, ◌+◌, ◌<◌, Some, sym, ap, ◌∙◌, subst, arith, inl, inr}
use Rattle.std.proofs.lemmas.Bool.{cases_lt}
use Rattle.nrca_term.specs.Meaning.{Outcomes}
use Rattle.nrca_term.specs.Term.{Term, Parts, child_of, count}
use Rattle.nrca_term.specs.Laws.Entering.{child-counted}
use Rattle.nrca_encoded.specs.Encodings.{AreEncodings, IsKept, KeepsEncodings}
use Rattle.nrca_encoded.specs.Positions.{EachPosition, EachPositionIn}
use Rattle.nrca_encoded.proofs.Agreeing.{each-part, each-weaker}

-- The positions that parts use, those of the first i parts being kept.
pub record FirstKept (V old now : Outcomes) (i : ℕ) (ps : Parts) : Type 0 where
  pub kept : AreEncodings V now
  pub still : KeepsEncodings V old now
  pub used : (j : ℕ) (u : Term) → j < i → child_of ps j ≡ Some u → EachPosition (IsKept V now) u

-- one part more
pub one-more : (V old now new : Outcomes) (i : ℕ) (ps : Parts) (t : Term) → FirstKept V old now i ps → child_of ps i ≡ Some t → AreEncodings V new → KeepsEncodings V now new →
    EachPosition (IsKept V new) t → FirstKept V old new (i + 1) ps
one-more V old now new i ps t h there kept still used = record {
  kept = kept;
  still = λ n e. still n (h.still n e);
  used = λ j u l e. elim (cases_lt j i) [
    | inl k ↦ each-weaker (IsKept V now) (IsKept V new) still u (h.used j u k e)
    | inr k ↦ (let z : j ≡ i = omega (arith, l, k) in
        let y : t ≡ u = (let x : Some t ≡ Some u = sym there ∙ ap (child_of ps) (sym z) ∙ e in cc) in
        subst (EachPosition (IsKept V new)) y used)
  ];
}

-- all parts
pub all-kept : (V old now : Outcomes) (i : ℕ) (ps : Parts) → i ≡ count ps → FirstKept V old now i ps → EachPositionIn (IsKept V now) ps
all-kept V old now i ps l h = each-part (IsKept V now) ps (λ j u e. h.used j u (omega (arith, child-counted ps j u e, l)) e)
