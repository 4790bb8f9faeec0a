-- Where no rule may be applied: in the parts so far, and in all places of a node.
use Rattle.std.proofs.Common.{◌≡◌, ℕ, suc, ◌+◌, ◌≤◌, [], ◌∷◌, Some, sym, subst, arith}
use Rattle.nrca_term.specs.Term.{Term, child_of, parts_of, count}
use Rattle.nrca_term.specs.Places.{put_at}
use Rattle.nrca_term.specs.Facts.{Context, enter_facts}
use Rattle.nrca_term.specs.Laws.Entering.{child-counted}
use Rattle.nrca_rule_laws.specs.Search.{AllPlaces, FirstParts}
use Rattle.nrca_rule_laws.specs.Laws.Search.{all-node, all-more, before-parts, before-node, before-root, before-kept}
use Rattle.nrca_ranges.specs.Bounds.{Ranges}
use Rattle.nrca_ranges.specs.Transfer.{enter_ranges}
use Rattle.nrca_normal.specs.Conditions.{IsQuietAt}
use Rattle.nrca_normal.specs.Quiet.{QuietEverywhere, QuietParts}
use Rattle.nrca_normal.specs.Laws.Rewriting.{put-child, enter-put}

module _ (gs : Ranges) (c : Context) where
  -- of no part
  pub parts-none : (t : Term) → QuietParts gs c t 0
  unfolding QuietParts
  parts-none t = λ i u l e. absurd (omega (arith, l))

  -- of one part more, another one having taken its place; the parts before it stay, and so do their contexts
  pub parts-more : (t p q : Term) (i : ℕ) → child_of (parts_of t) i ≡ Some p → QuietParts gs c t i → QuietEverywhere gs (enter_facts c t i) q → QuietParts gs c (put_at t (i ∷ []) q) (i + 1)
  unfolding QuietParts QuietEverywhere
  parts-more t p q i e h k =
      let kept : FirstParts (IsQuietAt gs) c (put_at t (i ∷ []) q) i = before-parts (IsQuietAt gs) c (put_at t (i ∷ []) q) i []
      (before-kept (IsQuietAt gs) c t q (i ∷ []) (before-node (IsQuietAt gs) c t i [] p e h (before-root (IsQuietAt gs) (enter_facts c t i) p))) in
      subst (FirstParts (IsQuietAt gs) c (put_at t (i ∷ []) q)) (let z : suc i ≡ i + 1 = omega arith in z)
      (all-more (IsQuietAt gs) c (put_at t (i ∷ []) q) i q kept (put-child t i p q e) (subst (λ d. AllPlaces (IsQuietAt gs) d q) (sym (enter-put c t i q)) k))

  -- of the node and all its parts
  pub everywhere : (t : Term) (n : ℕ) → IsQuietAt gs c t → QuietParts gs c t n → count (parts_of t) ≤ n → QuietEverywhere gs c t
  unfolding QuietParts QuietEverywhere
  everywhere t n q h l = all-node (IsQuietAt gs) c t n q h (λ i u e. omega (arith, l, child-counted (parts_of t) i u e))

-- it does not matter what is known of variables
pub quiet-outside : (gs : Ranges) (c d : Context) (t u : Term) (i : ℕ) → QuietEverywhere (enter_ranges gs c t i) d u → QuietEverywhere gs d u
unfolding QuietEverywhere
quiet-outside gs c d t u i h = h
