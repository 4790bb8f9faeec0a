-- The types of shapes: when they are equal, and what they are made of.
use Rattle.std.proofs.Common.{ℕ, ◌≡◌, ◌+◌, List, [], ◌∷◌, length, true, refl, sym, ap, ◌∙◌, arith, eq-eqb}
use Rattle.std.specs.Cmp.{first_so, second_so}
use Rattle.std.specs.Cmp.Derive.{both_true}
use Rattle.std.proofs.Math.Dec.{leb}
use Rattle.std.proofs.lemmas.Bool.{eqb-true, leb-true, le-leb}
use Rattle.aql_value.specs.Lists.{Every}
use Rattle.aql_ty.specs.Types as types
use Rattle.aql_ty.specs.Types.{Ty, Tys, no_type, type, Subst, apply, apply_all, levels, levels_all, nodes, nodes_all, count, IsType, AreTypes}
use Rattle.aql_ty.specs.Laws.Types.{row_is}
use Rattle.aql_types.specs.Shapes as shape
use Rattle.aql_types.specs.Shapes.{Shape, Valuation, parts, types_at, whole, alike, is_formed}
use Rattle.aql_types.specs.Valuations.{Equal}
use Rattle.aql_types.specs.Steps.{pair_parts}

-- Properties of every number of a list.

pub each : (P Q : ℕ → Type 0) (ps : List ℕ) → ((p : ℕ) → P p → Q p) → Every P ps → Every Q ps
each P Q [] f h = tt
each P Q (p ∷ ps) f h = (f p h.0, each P Q ps f h.1)

-- Types of parts.

pub types_same : (f g : Valuation) (ps : List ℕ) → Every (λ p. f p ≡ g p) ps → types_at f ps ≡ types_at g ps
types_same f g [] h = refl
types_same f g (p ∷ ps) h = row_is h.0 (types_same f g ps h.1)

pub count_types_at : (v : Valuation) (ps : List ℕ) → count (types_at v ps) ≡ length ps
count_types_at v [] = refl
count_types_at v (p ∷ ps) = omega (arith, count_types_at v ps)

pub apply_types_at : (u : Subst) (v : Valuation) (ps : List ℕ) → apply_all u (types_at v ps) ≡ types_at (λ p. apply u (v p)) ps
apply_types_at u v [] = refl
apply_types_at u v (p ∷ ps) = row_is refl (apply_types_at u v ps)

-- equal place by place, where there are as many
pub paired_types : (v : Valuation) (ps qs : List ℕ) → length ps ≡ length qs → Equal v (pair_parts ps qs) → types_at v ps ≡ types_at v qs
paired_types v [] [] e h = refl
paired_types v [] (q ∷ qs) e h = let bad : ⊥ = omega (arith, e) in absurd bad
paired_types v (p ∷ ps) [] e h = let bad : ⊥ = omega (arith, e) in absurd bad
paired_types v (p ∷ ps) (q ∷ qs) e h = row_is h.0 (paired_types v ps qs (omega (arith, e)) h.1)

first_is : {a c : Ty} {b d : Tys} → type a b ≡ type c d → a ≡ c
first_is e = cc

rest_is : {a c : Ty} {b d : Tys} → type a b ≡ type c d → b ≡ d
rest_is e = cc

pub types_paired : (v : Valuation) (ps qs : List ℕ) → types_at v ps ≡ types_at v qs → Equal v (pair_parts ps qs)
types_paired v [] qs e = tt
types_paired v (p ∷ ps) [] e = tt
types_paired v (p ∷ ps) (q ∷ qs) e = (first_is e, types_paired v ps qs (rest_is e))

pub types_length : (v : Valuation) (ps qs : List ℕ) → types_at v ps ≡ types_at v qs → length ps ≡ length qs
types_length v ps qs e = sym (count_types_at v ps) ∙ ap count e ∙ count_types_at v qs

-- Whole types.

-- equal where the types of the parts are
pub whole_same : (f g : Valuation) (s : Shape) → Every (λ p. f p ≡ g p) (parts s) → whole f s ≡ whole g s
whole_same f g shape.natural h = refl
whole_same f g shape.truth h = refl
whole_same f g shape.text h = refl
whole_same f g (shape.product ps) h = ap types.product (types_same f g ps h)
whole_same f g (shape.set_of p) h = ap types.set_of h.0
whole_same f g (shape.array_of k p) h = ap (types.array_of k) h.0

pub apply_whole : (u : Subst) (v : Valuation) (s : Shape) → apply u (whole v s) ≡ whole (λ p. apply u (v p)) s
apply_whole u v shape.natural = refl
apply_whole u v shape.truth = refl
apply_whole u v shape.text = refl
apply_whole u v (shape.product ps) = ap types.product (apply_types_at u v ps)
apply_whole u v (shape.set_of p) = refl
apply_whole u v (shape.array_of k p) = refl

product_is : {a b : Tys} → types.product a ≡ types.product b → a ≡ b
product_is e = cc

set_is : {a b : Ty} → types.set_of a ≡ types.set_of b → a ≡ b
set_is e = cc

rank_is : {k l : ℕ} {a b : Ty} → types.array_of k a ≡ types.array_of l b → k ≡ l
rank_is e = cc

cell_is : {k l : ℕ} {a b : Ty} → types.array_of k a ≡ types.array_of l b → a ≡ b
cell_is e = cc

-- equal types have shapes of one form, and equal parts
pub whole_alike : (v : Valuation) (s t : Shape) → whole v s ≡ whole v t → (alike s t ≡ true) × Equal v (pair_parts (parts s) (parts t))
whole_alike v shape.natural shape.natural e = (refl, tt)
whole_alike v shape.truth shape.truth e = (refl, tt)
whole_alike v shape.text shape.text e = (refl, tt)
whole_alike v (shape.product ps) (shape.product qs) e = (eq-eqb (length ps) (length qs) (types_length v ps qs (product_is e)), types_paired v ps qs (product_is e))
whole_alike v (shape.set_of p) (shape.set_of q) e = (refl, (set_is e, tt))
whole_alike v (shape.array_of k p) (shape.array_of l q) e = (eq-eqb k l (rank_is e), (cell_is e, tt))
whole_alike v s t e = let bad : ⊥ = cc in absurd bad

-- and the other way round
pub alike_whole : (v : Valuation) (s t : Shape) → alike s t ≡ true → Equal v (pair_parts (parts s) (parts t)) → whole v s ≡ whole v t
alike_whole v shape.natural shape.natural e h = refl
alike_whole v shape.truth shape.truth e h = refl
alike_whole v shape.text shape.text e h = refl
alike_whole v (shape.product ps) (shape.product qs) e h = ap types.product (paired_types v ps qs (eqb-true (length ps) (length qs) e) h)
alike_whole v (shape.set_of p) (shape.set_of q) e h = ap types.set_of h.0
alike_whole v (shape.array_of k p) (shape.array_of l q) e h = ranks (eqb-true k l e) h.0
  where
    ranks : {k l : ℕ} {a b : Ty} → k ≡ l → a ≡ b → types.array_of k a ≡ types.array_of l b
    ranks e f = cc
alike_whole v s t e h = let bad : ⊥ = cc in absurd bad

-- as many parts
pub alike_length : (s t : Shape) → alike s t ≡ true → length (parts s) ≡ length (parts t)
alike_length shape.natural shape.natural e = refl
alike_length shape.truth shape.truth e = refl
alike_length shape.text shape.text e = refl
alike_length (shape.product ps) (shape.product qs) e = eqb-true (length ps) (length qs) e
alike_length (shape.set_of p) (shape.set_of q) e = refl
alike_length (shape.array_of k p) (shape.array_of l q) e = refl
alike_length s t e = let bad : ⊥ = cc in absurd bad

pub levels_whole : (v : Valuation) (s : Shape) → levels (whole v s) ≡ levels_all (types_at v (parts s)) + 1
levels_whole v shape.natural = refl
levels_whole v shape.truth = refl
levels_whole v shape.text = refl
levels_whole v (shape.product ps) = refl
levels_whole v (shape.set_of p) = omega arith
levels_whole v (shape.array_of k p) = omega arith

pub nodes_whole : (v : Valuation) (s : Shape) → nodes (whole v s) ≡ nodes_all (types_at v (parts s)) + 1
nodes_whole v shape.natural = refl
nodes_whole v shape.truth = refl
nodes_whole v shape.text = refl
nodes_whole v (shape.product ps) = refl
nodes_whole v (shape.set_of p) = omega arith
nodes_whole v (shape.array_of k p) = omega arith

-- a type of the language is one whose shape is formed, with such types as parts
pub type_formed : (v : Valuation) (s : Shape) → IsType (whole v s) → (is_formed s ≡ true) × AreTypes (types_at v (parts s))
type_formed v shape.natural h = (refl, tt)
type_formed v shape.truth h = (refl, tt)
type_formed v shape.text h = (refl, tt)
type_formed v (shape.product ps) h = (le-leb 2 (length ps) (omega (arith, h.0, count_types_at v ps)), h.1)
type_formed v (shape.set_of p) h = (refl, (h, tt))
type_formed v (shape.array_of k p) h = (both_true (le-leb 1 k h.0.0) (le-leb k 8 h.0.1), (h.1, tt))

pub formed_type : (v : Valuation) (s : Shape) → is_formed s ≡ true → AreTypes (types_at v (parts s)) → IsType (whole v s)
formed_type v shape.natural e h = tt
formed_type v shape.truth e h = tt
formed_type v shape.text e h = tt
formed_type v (shape.product ps) e h = (omega (arith, leb-true 2 (length ps) e, count_types_at v ps), h)
formed_type v (shape.set_of p) e h = h.0
formed_type v (shape.array_of k p) e h = ((leb-true 1 k (first_so (leb 1 k) (leb k 8) e), leb-true k 8 (second_so (leb 1 k) (leb k 8) e)), h.0)
