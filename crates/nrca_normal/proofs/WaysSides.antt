-- The ways of a constant subscript of a literal array.
use Rattle.std.proofs.Common.{◌≡◌, ℕ, ◌+◌, ◌<◌, ◌^◌, true, List, [], length, map, get_or, Some, None, refl, sym, ap, ◌∙◌}
use Rattle.std.proofs.lemmas.List.{length-map}
use Rattle.aql_value.specs.Indices.{offset_of}
use Rattle.aql_value.specs.Laws.RowMajor.{row_major, place_of_index}
use Rattle.nrca_term.specs.declared.trace.Rule.TheVariants.{A5}
use Rattle.nrca_term.specs.Term.{Term}
use Rattle.nrca_term.specs.Nodes.{number, bottom_term, sub_term, literal_term}
use Rattle.nrca_term.specs.Rules.{inside, outside, in_first, others, constant_literal}
use Rattle.nrca_rule_laws.specs.Fitting.{RuleFits}
use Rattle.nrca_rule_laws.specs.Laws.Unique.{ways-fixed}
use Rattle.nrca_term.specs.Laws.Lists.{numbers-same}
use Rattle.nrca_arrayrules.specs.Constants.{IsConstantSubscript, IsOffset}
use Rattle.nrca_arrayrules.proofs.SubscriptSides.{a5_parts, offset-is, item_at}
use Rattle.nrca_normal.specs.declared.ways.Ways.TheVariants.{Free, Others}
use Rattle.nrca_normal.specs.Ways.{AreWays}

left-side : (t o : Term) (ds cs at : List Term) → t ≡ sub_term o at → o ≡ literal_term ds cs → (w : IsConstantSubscript ds cs at) → t ≡ sub_term (constant_literal w.0 cs) (map number w.1)
left-side t o ds cs at h k w = h ∙ ap (λ x. sub_term x at) (k ∙ ap (λ xs. literal_term xs cs) w.2) ∙ ap (sub_term (constant_literal w.0 cs)) w.3

-- in range: the other cells
pub a5-inside : (t o : Term) (ds cs at : List Term) (p : ℕ) → t ≡ sub_term o at → o ≡ literal_term ds cs → RuleFits A5 true t → length cs < 2 ^ 64 → IsOffset ds at (Some p) → AreWays A5 t (Others (length ds) p (length cs))
unfolding AreWays
a5-inside t o ds cs at p h k f l x r ws d =
    let w = a5_parts t o ds cs at h k f in
    let q = offset-is ds cs at p w l x in
    let y = numbers-same w.0 x.0 (sym w.2 ∙ x.3) in
    let z = numbers-same w.1 x.1 (sym w.3 ∙ x.4) in
    let off : offset_of w.0 w.1 ≡ Some p = ap (λ a. offset_of a w.1) y ∙ ap (offset_of x.0) z ∙ x.5 ∙ ap Some (sym q.0) in
    ways-fixed A5 t r (get_or cs p bottom_term) ws (in_first (map (λ i. length w.0 + i) (others p (length cs)))) d
    (inside w.0 cs w.1 p (left-side t o ds cs at h k w) w.5 (row_major w.0 w.1 p off) (item_at cs p q.1) refl)
    ∙ ap (λ n. in_first (map (λ i. n + i) (others p (length cs)))) (sym (length-map w.0 number) ∙ ap length (sym w.2))

-- out of range: none
pub a5-outside : (t o : Term) (ds cs at : List Term) → t ≡ sub_term o at → o ≡ literal_term ds cs → RuleFits A5 true t → IsOffset ds at None → AreWays A5 t Free
unfolding AreWays
a5-outside t o ds cs at h k f x r ws d =
    let w = a5_parts t o ds cs at h k f in
    let off : offset_of w.0 w.1 ≡ None = x w.0 w.1 w.2 w.3 in
    ways-fixed A5 t r bottom_term ws [] d
    (outside w.0 cs w.1 (left-side t o ds cs at h k w) w.5 w.4 (λ p g. let z : Some p ≡ None = sym (place_of_index w.0 w.1 p g) ∙ off in cc) refl refl)

-- as many dimensions as indices
pub a5-ranks : (t o : Term) (ds cs at : List Term) → t ≡ sub_term o at → o ≡ literal_term ds cs → RuleFits A5 true t → length ds ≡ length at
a5-ranks t o ds cs at h k f =
    let w = a5_parts t o ds cs at h k f in
    ap length w.2 ∙ length-map w.0 number ∙ w.4 ∙ sym (length-map w.1 number) ∙ sym (ap length w.3)

-- a place is among the cells
pub a5-below : (t o : Term) (ds cs at : List Term) (p : ℕ) → t ≡ sub_term o at → o ≡ literal_term ds cs → RuleFits A5 true t → length cs < 2 ^ 64 → IsOffset ds at (Some p) → p < length cs
a5-below t o ds cs at p h k f l x = (offset-is ds cs at p (a5_parts t o ds cs at h k f) l x).1
