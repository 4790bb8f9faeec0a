-- Laws on the types that nodes are: what they are made of, and that nodes behind them change nothing.
use Rattle.std.proofs.Common.{ℕ, zero, suc, ◌≡◌, ◌-◌, ◌<◌, List, [], ◌∷◌, ◌++◌, length, refl, sym, ap, ◌∙◌, subst, arith, inl, inr, length-append}
use Rattle.std.proofs.lemmas.Bool.{cases_lt}
use Rattle.std.proofs.lemmas.List.{get_or_past, get_or_append_left, get_or-append_right}
use Rattle.aql_types.specs.Shapes.{parts}
use Rattle.aql_types.specs.Forms.{Form, at}
use Rattle.aql_types.specs.Forms as form
use Rattle.aql_types.specs.Valuations.{IsOrdered, Points}
use Rattle.aql_types.specs.Trees.{IsBuilt, Grows, form_type, tree, type_at}
use Rattle.aql_types.specs.Laws.Shapes.{each, whole_same}

-- Types written out, with any room that is enough.

pub tree_same : (fs : List Form) → IsBuilt fs → (m n i : ℕ) → i < m → i < n → tree m fs i ≡ tree n fs i
unfolding tree
tree_same fs b zero n i lt mt = let bad : ⊥ = omega (arith, lt) in absurd bad
tree_same fs b (suc m) zero i lt mt = let bad : ⊥ = omega (arith, mt) in absurd bad
tree_same fs b (suc m) (suc n) i lt mt = go (tree_same fs b m n) (at fs i) (b i)
  where
    go : ((j : ℕ) → j < m → j < n → tree m fs j ≡ tree n fs j) → (x : Form) → Grows x i → form_type (tree m fs) x ≡ form_type (tree n fs) x
    go r (form.var z) h = refl
    go r (form.made s) h =
        whole_same (tree m fs) (tree n fs) s
        (each (λ p. p < i) (λ p. tree m fs p ≡ tree n fs p) (parts s) (λ p q. r p (omega (arith, q, lt)) (omega (arith, q, mt))) h)
    go r (form.link j) h = absurd h

-- a node's type is that of its parts' types
pub type_grown : (fs : List Form) → IsBuilt fs → (i : ℕ) → type_at fs i ≡ form_type (type_at fs) (at fs i)
unfolding tree
type_grown fs b i = go (at fs i) (b i)
  where
    go : (x : Form) → Grows x i → form_type (tree i fs) x ≡ form_type (type_at fs) x
    go (form.var z) h = refl
    go (form.made s) h =
        whole_same (tree i fs) (type_at fs) s
        (each (λ p. p < i) (λ p. tree i fs p ≡ type_at fs p) (parts s) (λ p q. tree_same fs b i (suc p) p q (omega arith)) h)
    go (form.link j) h = absurd h

-- Nodes behind others.

pub at_first : (fs gs : List Form) (i : ℕ) → i < length fs → at (fs ++ gs) i ≡ at fs i
at_first fs gs i lt = get_or_append_left fs gs (form.var 0) i lt

pub at_last : (fs : List Form) (f : Form) → at (fs ++ f ∷ []) (length fs) ≡ f
at_last fs f = get_or-append_right fs (f ∷ []) (length fs) (length fs) (form.var 0) refl (omega arith) ∙ ap (at (f ∷ [])) (let z : length fs - length fs ≡ 0 = omega arith in z)

kept_tree : (fs gs : List Form) → IsBuilt fs → (m i : ℕ) → i < length fs → tree m (fs ++ gs) i ≡ tree m fs i
unfolding tree
kept_tree fs gs b zero i lt = refl
kept_tree fs gs b (suc m) i lt = ap (form_type (tree m (fs ++ gs))) (at_first fs gs i lt) ∙ go (kept_tree fs gs b m) (at fs i) (b i)
  where
    go : ((j : ℕ) → j < length fs → tree m (fs ++ gs) j ≡ tree m fs j) → (x : Form) → Grows x i → form_type (tree m (fs ++ gs)) x ≡ form_type (tree m fs) x
    go r (form.var z) h = refl
    go r (form.made s) h =
        whole_same (tree m (fs ++ gs)) (tree m fs) s
        (each (λ p. p < i) (λ p. tree m (fs ++ gs) p ≡ tree m fs p) (parts s) (λ p q. r p (omega (arith, q, lt))) h)
    go r (form.link j) h = refl

-- the types of nodes stay, whatever stands behind them
pub kept_type : (fs gs : List Form) → IsBuilt fs → (i : ℕ) → i < length fs → type_at (fs ++ gs) i ≡ type_at fs i
kept_type fs gs b i lt = kept_tree fs gs b (suc i) i lt

-- one node more
pub built_next : (fs : List Form) (f : Form) → IsBuilt fs → Grows f (length fs) → IsBuilt (fs ++ f ∷ [])
built_next fs f b h i = elim (cases_lt i (length fs)) [
  | inl lt ↦ subst (λ x. Grows x i) (sym (at_first fs (f ∷ []) i lt)) (b i)
  | inr ge ↦ elim (cases_lt (length fs) i) [
    | inl past ↦ subst (λ x. Grows x i) (sym (get_or_past (fs ++ f ∷ []) i (form.var 0) (omega (arith, past, length-append fs (f ∷ []))))) tt
    | inr le ↦
        let e : length fs ≡ i = omega (arith, ge, le) in
        subst (λ j. Grows (at (fs ++ f ∷ []) j) j) e (subst (λ x. Grows x (length fs)) (sym (at_last fs f)) h)
  ]
]

-- nodes that were made after their parts are ordered
pub built_ordered : (fs : List Form) → IsBuilt fs → IsOrdered fs
built_ordered fs b i = elim (cases_lt i (length fs)) [
  | inl lt ↦ go (at fs i) lt (b i)
  | inr ge ↦ subst (λ x. Points x i (length fs)) (sym (get_or_past fs i (form.var 0) ge)) tt
]
  where
    go : (x : Form) → i < length fs → Grows x i → Points x i (length fs)
    go (form.var z) lt h = tt
    go (form.made s) lt h = each (λ p. p < i) (λ p. p < length fs) (parts s) (λ p q. omega (arith, q, lt)) h
    go (form.link j) lt h = absurd h
