-- Laws on the blame for a count of faults that is greater than before.
use Rattle.std.proofs.Common.{◌<◌, ◌≤◌, ◌⊎◌, inl, inr, ℕ, arith}
use Rattle.std.proofs.lemmas.Bool.{cases_lt}
use Rattle.aql_outside.specs.Causes.{Blames, Rose}

-- no call was made
pub none_blamed : (quiet blamed : Type 0) (n : ℕ) → (blamed → ⊥) → Blames quiet blamed n n
none_blamed quiet blamed n never = record { later = omega arith; failed = λ b. absurd (never b); noticed = λ q less. absurd (omega (arith, less)) }

-- the same calls under another answer
pub blamed_as : (quiet a b : Type 0) (before now : ℕ) → (a → b) → (b → a) → Blames quiet a before now → Blames quiet b before now
blamed_as quiet a b before now to from h = record { later = h.later; failed = λ x. h.failed (from x); noticed = λ q less. to (h.noticed q less) }

-- calls after others that are not blamed
pub blamed_then : (quiet a b : Type 0) (before mid now : ℕ) → Blames quiet a before mid → (a → ⊥) → Blames quiet b mid now → Blames quiet b before now
blamed_then quiet a b before mid now first never second =
    let one = first.later in
    let two = second.later in
    record {
      later = omega (arith, one, two);
      failed = λ x. (let rose : Rose mid now = second.failed x in omega (arith, rose, one));
      noticed = λ q less. at q less (cases_lt before mid);
    }
  where
    at : quiet → before < now → (before < mid) ⊎ (mid ≤ before) → b
    at q less (inl more) = absurd (never (first.noticed q more))
    at q less (inr same) = second.noticed q (omega (arith, less, same))
