-- The number of cells that dimensions say, counted one by one.
use Rattle.std.proofs.Common.{◌≡◌, ℕ, ◌+◌, ◌-◌, ◌*◌, ◌<◌, ◌≤◌, ◌^◌, min, List, [], ◌∷◌, ◌++◌, length, take, get_or, Some, None, sym, ap, subst, ◌∙◌, arith}
use Rattle.std.proofs.lemmas.List.{length-map}
use Rattle.aql_value.specs.Indices.{product}
use Rattle.aql_value.specs.Laws.Saturation.{saturating_product}
use Rattle.nrca_term.specs.Term.{Term}
use Rattle.nrca_term.specs.Nodes.{number}
use Rattle.nrca_term.specs.Cells.{CountsCells}
use Rattle.nrca_term.specs.Laws.Lists.{product-more, numbers-more, number-at, whole-list}

-- the count with one dimension more
pub count-step : (ts : List Term) (i all n : ℕ) (u : Term) → i < length ts → u ≡ get_or ts i u → u ≡ number n → CountsCells (take i ts) (Some all) → CountsCells (take (i + 1) ts) (Some (min (all * n) (2 ^ 128 - 1)))
count-step ts i all n u l e h t = (
  t.0 ++ n ∷ [],
  numbers-more ts i n t.0 u l e h t.1,
  ap (λ a. min (a * n) (2 ^ 128 - 1)) t.2 ∙ saturating_product (product t.0) n (2 ^ 128 - 1) ∙ ap (λ a. min a (2 ^ 128 - 1)) (sym (product-more t.0 n)),
)

-- no count where one dimension is no number
pub count-none : (ts : List Term) (i : ℕ) (u : Term) → i < length ts → u ≡ get_or ts i u → ((n : ℕ) → u ≡ number n → ⊥) → CountsCells ts None
count-none ts i u l e h ns k =
    h (get_or ns i 0) (e ∙ ap (λ xs. get_or xs i u) k ∙ number-at ns i u (omega (arith, l, ap length k, length-map ns number)))

-- the count after all dimensions
pub count-whole : (ts : List Term) (i all : ℕ) → length ts ≤ i → CountsCells (take i ts) (Some all) → CountsCells ts (Some all)
count-whole ts i all h t = subst (λ xs. CountsCells xs (Some all)) (whole-list ts i h) t
