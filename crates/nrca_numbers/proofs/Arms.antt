-- Arms of the recursion over a block, over plain variables.
use Rattle.std.proofs.Common.{◌≡◌, ℕ, zero, suc, ◌+◌, ◌<◌, ◌≤◌, List, [], ◌∷◌, length, Option, Some, None, Result, Ok, Err, IfOk, IfSome, refl, sym, ◌∙◌, ap, subst, arith}
use Rattle.std.specs.Prelude.{slice_index, slice_index_or}
use Rattle.aql_value.specs.Datum.{Datum, natural}
use Rattle.aql_value.specs.Operations.{part_of}
use Rattle.aql_value.specs.Partial.{◌>>=◌, each, total, if_some}
use Rattle.aql_value.specs.Strict.{Strict, strict_value}
use Rattle.aql_value.specs.declared.memory.Memory.{Memory}
use Rattle.nrca_sets.specs.Pairs.{pair_value}
use Rattle.nrca_term.specs.Laws.Variants.{cden-strict, settle-strict, settle-let}
use Rattle.nrca_term.specs.Meaning.{Outcomes, cden}
use Rattle.nrca_term.specs.Nodes.{let_term, proj_term, sub_term}
use Rattle.nrca_term.specs.Term.{Term}
use Rattle.nrca_term.specs.Turns.{settle}
use Rattle.nrca_loops.specs.Parts.{cell_in, numbers_in}
use Rattle.nrca_numbers.specs.Laws.Lent.{sub_lent, sub_free}
use Rattle.nrca_numbers.specs.Blocks.{AreWorth, IsFree, lane}
use Rattle.nrca_numbers.specs.Lanes.{part_at}
use Rattle.nrca_numbers.specs.declared.columns.Columns.{Columns}

-- the first and the second part of a pair
pub parts_of : (at of : ℕ) (p : ℕ × ℕ) → of ≡ 2 → (at ≡ 0 → ⊥) → at ≤ 2 → part_of at of (pair_value p) ≡ Some (natural (part_at at p))
parts_of at of p e h l = ap (λ n. part_of at n (pair_value p)) e ∙ go at h l
  where
    go : (at : ℕ) → (at ≡ 0 → ⊥) → at ≤ 2 → part_of at 2 (pair_value p) ≡ Some (natural (part_at at p))
    go zero h l = absurd (h refl)
    go (suc zero) h l = refl
    go (suc (suc zero)) h l = refl
    go (suc (suc (suc n))) h l = absurd (omega (arith, l))

-- what was found is told in other words
pub found_as : {A : Type 0} (r : Result (Option A) Memory) (P Q : A → Type 0) → IfOk r (λ o. IfSome o P) → ((x : A) → P x → Q x) → IfOk r (λ o. IfSome o Q)
found_as (Err e) P Q h f = tt
found_as (Ok None) P Q h f = tt
found_as (Ok (Some x)) P Q h f = f x h

module _ (V : Outcomes) (vals : List Datum) where
  -- a let whose parts take no turns
  pub let_free : (e b : Term) (v w : Datum) → IsFree V vals e v → IsFree V (v ∷ vals) b w → IsFree V vals (let_term e b) w
  let_free e b v w p q = (
    ap (λ o. o >>= λ x. cden V (x ∷ vals) b) p.0 ∙ q.0,
    omega (arith, settle-let V vals e b, p.1, ap (λ o. if_some o (λ x. settle V (x ∷ vals) b)) p.0, q.1),
  )

  -- a part of a tuple
  pub proj_free : (at of : ℕ) (a : Term) (v w : Datum) → IsFree V vals a v → part_of at of v ≡ Some w → IsFree V vals (proj_term at of a) w
  proj_free at of a v w p e = (
    cden-strict V vals (Strict.proj at of) (a ∷ []) ∙ ap (λ o. (o >>= λ y. Some (y ∷ [])) >>= strict_value (Strict.proj at of)) p.0 ∙ e,
    omega (arith, settle-strict V vals (Strict.proj at of) (a ∷ []), p.1),
  )

module _ {A : Type 0} (f : A → Datum) (d : A) (V : Outcomes) (cs : Columns) (count : ℕ) (xs : List A) (long : length xs ≡ count) where
  -- the same of an equal term
  pub worth_same : (t u : Term) → t ≡ u → ((j : ℕ) → j < count → IsFree V (lane cs j) u (f (slice_index_or xs j d))) → AreWorth f d V cs t count xs
  worth_same t u e h = subst (λ s. AreWorth f d V cs s count xs) (sym e) (long, h)

-- a let, for every member
pub let_each : {A : Type 0} (f : A → Datum) (d : A) (V : Outcomes) (cs : Columns) (count : ℕ) (xs : List A) (t e b : Term) (v : ℕ → Datum) → t ≡ let_term e b → ((j : ℕ) → IsFree V (lane cs j) e (v j)) →
    length xs ≡ count → ((j : ℕ) → j < count → IsFree V (v j ∷ lane cs j) b (f (slice_index_or xs j d))) → AreWorth f d V cs t count xs
let_each f d V cs count xs t e b v whole bound long body =
    worth_same f d V cs count xs long t (let_term e b) whole (λ j l. let_free V (lane cs j) e b (v j) (f (slice_index_or xs j d)) (bound j) (body j l))

-- a part of a pair, for every member
pub part_each : (V : Outcomes) (cs : Columns) (count : ℕ) (xs : List ℕ) (t a : Term) (at of : ℕ) (v : ℕ → Datum) → t ≡ proj_term at of a → ((j : ℕ) → IsFree V (lane cs j) a (v j)) →
    length xs ≡ count → ((j : ℕ) → j < count → part_of at of (v j) ≡ Some (natural (slice_index xs j))) → AreWorth natural 0 V cs t count xs
part_each V cs count xs t a at of v whole bound long is =
    worth_same natural 0 V cs count xs long t (proj_term at of a) whole (λ j l. proj_free V (lane cs j) at of a (v j) (natural (slice_index xs j)) (bound j) (is j l))

-- a cell, for every member
pub cell_each : (V : Outcomes) (cs : Columns) (count : ℕ) (xs : List ℕ) (t a : Term) (ts : List Term) (v : Datum) → t ≡ sub_term a ts → ((j : ℕ) → IsFree V (lane cs j) a v) →
    length xs ≡ count →
    ((j : ℕ) → j < count → (cell_in v (numbers_in (each (cden V (lane cs j)) ts)) ≡ Some (natural (slice_index xs j))) × (total (settle V (lane cs j)) ts ≡ 0)) →
    AreWorth natural 0 V cs t count xs
cell_each V cs count xs t a ts v whole held long is =
    worth_same natural 0 V cs count xs long t (sub_term a ts) whole (λ j l. let h = held j in (
      sub_lent V (lane cs j) a v h.0 h.1 ts ∙ (is j l).0,
      sub_free V (lane cs j) a v h.0 h.1 ts ∙ (is j l).1,
    ))
