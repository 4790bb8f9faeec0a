-- What a tabulation is worth, and the turns that it takes.
use Rattle.std.proofs.Common.{◌≡◌, ℕ, ◌+◌, List, [], ◌++◌, length, Option, Some, None, refl, ap, ◌∙◌, arith}
use Rattle.aql_value.specs.Datum.{Datum}
use Rattle.aql_value.specs.Indices.{indices}
use Rattle.aql_value.specs.Laws.RowMajor.{indices_lengths}
use Rattle.aql_value.specs.Laws.Lists.{Every-impl}
use Rattle.aql_value.specs.Operations.{as_natural, array_of, push_index}
use Rattle.aql_value.specs.Partial.{◌>>=◌, each, total, if_some}
use Rattle.aql_value.specs.Laws.Partial.{then-ext, each-ext, total-ext}
use Rattle.nrca_term.specs.Term.{Term}
use Rattle.nrca_term.specs.Meaning.{Outcomes, cden}
use Rattle.nrca_term.specs.Places.{indices_of}
use Rattle.nrca_term.specs.Turns.{settle}
use Rattle.nrca_term.specs.Nodes.{tab_term}
use Rattle.nrca_term.specs.Laws.Variants.{cden-tab, settle-tab, numbers_of, numbers_of-length}
use Rattle.nrca_term.specs.Laws.Lets.{walked-append}

-- the body at the indices below the bounds
tab_cells : (V : Outcomes) (vals : List Datum) (t : Term) (f : List ℕ → Option Datum) (rank : ℕ) → ((at : List ℕ) → length at ≡ rank → cden V (push_index at vals) t ≡ f at) →
    (ms : List ℕ) → length ms ≡ rank → each (λ at. cden V (push_index at [] ++ vals) t) (indices ms) ≡ each f (indices ms)
tab_cells V vals t f rank h ms e =
    each-ext (λ at. cden V (push_index at [] ++ vals) t) f (indices ms)
    (Every-impl (λ at. length at ≡ length ms) (λ at. cden V (push_index at [] ++ vals) t ≡ f at) (λ at l. ap (λ w. cden V w t) (walked-append at [] vals) ∙ h at (l ∙ e)) (indices ms) (indices_lengths ms))

pub tab-worth : (V : Outcomes) (vals : List Datum) (ts : List Term) (t : Term) (o : Option (List Datum)) (f : List ℕ → Option Datum) (rank : ℕ) → length ts ≡ rank →
    each (cden V vals) ts ≡ o → ((at : List ℕ) → length at ≡ rank → cden V (push_index at vals) t ≡ f at) →
    cden V vals (tab_term ts t) ≡ (o >>= each as_natural >>= λ ds. each f (indices ds) >>= array_of ds)
tab-worth V vals ts t o f rank e h i =
    cden-tab V vals ts t
    ∙ then-ext (numbers_of V vals ts) _ _ (λ ms n. ap (λ r. r >>= array_of ms) (tab_cells V vals t f rank i ms (numbers_of-length V vals ts ms n ∙ e)))
    ∙ ap (λ r. r >>= each as_natural >>= λ ds. each f (indices ds) >>= array_of ds) h

tab_total : (V : Outcomes) (vals : List Datum) (t : Term) (f : List ℕ → ℕ) (rank : ℕ) → ((at : List ℕ) → length at ≡ rank → settle V (push_index at vals) t ≡ f at) →
    (ms : List ℕ) → length ms ≡ rank → total (λ at. settle V (push_index at [] ++ vals) t) (indices ms) ≡ total f (indices ms)
tab_total V vals t f rank h ms e =
    total-ext (λ at. settle V (push_index at [] ++ vals) t) f (indices ms)
    (Every-impl (λ at. length at ≡ length ms) (λ at. settle V (push_index at [] ++ vals) t ≡ f at) (λ at l. ap (λ w. settle V w t) (walked-append at [] vals) ∙ h at (l ∙ e)) (indices ms) (indices_lengths ms))

tab_count : (q : Option (List ℕ)) (m n : ℕ) (g f : List ℕ → ℕ) → m ≡ n → ((ms : List ℕ) → q ≡ Some ms → total g (indices ms) ≡ total f (indices ms)) →
    length (indices_of q) + m + total g (indices_of q) ≡ n + if_some q (λ ds. length (indices ds) + total f (indices ds))
tab_count None m n g f e h = omega arith
tab_count (Some ms) m n g f e h = omega (arith, h ms refl)

pub tab-turns : (V : Outcomes) (vals : List Datum) (ts : List Term) (t : Term) (n : ℕ) (o : Option (List Datum)) (f : List ℕ → ℕ) (rank : ℕ) → length ts ≡ rank →
    total (settle V vals) ts ≡ n → each (cden V vals) ts ≡ o → ((at : List ℕ) → length at ≡ rank → settle V (push_index at vals) t ≡ f at) →
    settle V vals (tab_term ts t) ≡ n + if_some (o >>= each as_natural) (λ ds. length (indices ds) + total f (indices ds))
tab-turns V vals ts t n o f rank e w h i =
    settle-tab V vals ts t
    ∙ tab_count (numbers_of V vals ts) (total (settle V vals) ts) n (λ at. settle V (push_index at [] ++ vals) t) f w
    (λ ms k. tab_total V vals t f rank i ms (numbers_of-length V vals ts ms k ∙ e))
    ∙ ap (λ r. n + if_some (r >>= each as_natural) (λ ds. length (indices ds) + total f (indices ds))) h
