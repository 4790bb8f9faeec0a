-- Where the rules on sets fit, and their right sides, from one equation a node.
use Rattle.std.proofs.Common.{◌≡◌, ◌+◌, ◌<◌, ◌^◌, ◌⊎◌, inl, inr, true, [], refl, sym, ap, subst, ◌∙◌, arith}
use Rattle.nrca_term.specs.declared.trace.Rule.TheVariants.{S1, S2, S3, S4, S5, S6, S7, S8, S9}
use Rattle.nrca_term.specs.Term.{Term, Form, WellFormed, Closed, weight_of}
use Rattle.nrca_term.specs.Nodes.{variable, number, let_term, empty_term, single_term, union_term, loop_term, big_union_term, sum_term, get_term}
use Rattle.nrca_term.specs.Subst.{shift_term, top_var}
use Rattle.nrca_term.specs.Laws.TypedForm.{top_var-closed}
use Rattle.nrca_term.specs.Laws.Shift.{top_var-shift_le}
use Rattle.nrca_term.specs.Rules.{LoopOf}
use Rattle.nrca_rule_laws.specs.Fitting.{RuleFits, IsSmallPart, IsRight}
use Rattle.nrca_rule_laws.specs.Laws.Fitting.{right-side}
use Rattle.nrca_setrules.proofs.Sides.{right_of}

-- there is room for one more variable around the body of a loop
pub loop_room : (f : Form) (t o b : Term) → t ≡ loop_term f o b → WellFormed b → IsSmallPart t → top_var (shift_term 1 1 b) < 2 ^ 64
loop_room f t o b s h i =
    let c : Closed (i.0 + 1) b = (subst (Closed i.0) s i.1).1.1.0 in
    let w : weight_of t ≡ weight_of (loop_term f o b) = ap weight_of s in
    omega (arith, top_var-shift_le 1 1 b, top_var-closed (i.0 + 1) b h c, i.2, w)

-- S1 fits a big union over the empty set
pub s1_fits : (t o b : Term) → t ≡ big_union_term o b → o ≡ empty_term → RuleFits S1 true t
s1_fits t o b h k = (empty_term, [], (b, h ∙ ap (λ z. big_union_term z b) k, refl, refl))

-- S2 fits a big union over a set of one member
pub s2_fits : (t o a b : Term) → t ≡ big_union_term o b → o ≡ single_term a → RuleFits S2 true t
s2_fits t o a b h k = (let_term a b, [], (a, b, h ∙ ap (λ z. big_union_term z b) k, refl, refl))

-- the let of the member is the right side of S2
pub s2_right : (t o a b r : Term) → t ≡ big_union_term o b → o ≡ single_term a → r ≡ let_term a b → IsRight S2 t r
s2_right t o a b r h k p = right-side S2 t r [] (a, b, h ∙ ap (λ z. big_union_term z b) k, p, refl)

-- S3 fits a big union over a big union
pub s3_fits : (t o e m b : Term) → t ≡ big_union_term o b → o ≡ big_union_term e m → RuleFits S3 true t
s3_fits t o e m b h k = (big_union_term e (big_union_term m (shift_term 1 1 b)), [], (e, m, b, h ∙ ap (λ z. big_union_term z b) k, refl, refl))

-- the big union of the inner big unions is the right side of S3
pub s3_right : (t o e m b r y x : Term) → t ≡ big_union_term o b → o ≡ big_union_term e m → r ≡ big_union_term e y → y ≡ big_union_term m x → x ≡ shift_term 1 1 b → IsRight S3 t r
s3_right t o e m b r y x h k p q s = right-side S3 t r [] (e, m, b, h ∙ ap (λ z. big_union_term z b) k, p ∙ ap (big_union_term e) (q ∙ ap (big_union_term m) s), refl)

-- S4 fits a sum over the empty set
pub s4_fits : (t o b : Term) → t ≡ sum_term o b → o ≡ empty_term → RuleFits S4 true t
s4_fits t o b h k = (number 0, [], (b, h ∙ ap (λ z. sum_term z b) k, refl, refl))

-- S5 fits a sum over a set of one member
pub s5_fits : (t o a b : Term) → t ≡ sum_term o b → o ≡ single_term a → RuleFits S5 true t
s5_fits t o a b h k = (let_term a b, [], (a, b, h ∙ ap (λ z. sum_term z b) k, refl, refl))

-- the let of the member is the right side of S5
pub s5_right : (t o a b r : Term) → t ≡ sum_term o b → o ≡ single_term a → r ≡ let_term a b → IsRight S5 t r
s5_right t o a b r h k p = right-side S5 t r [] (a, b, h ∙ ap (λ z. sum_term z b) k, p, refl)

-- S6 fits a big union of the sets of its members
pub s6_fits : (t o b m : Term) → t ≡ big_union_term o b → b ≡ single_term m → m ≡ variable 0 → RuleFits S6 true t
s6_fits t o b m h k l = (o, [], (h ∙ ap (big_union_term o) (k ∙ ap single_term l), refl))

-- equal big unions are over equal sets
over-same : (o b c d : Term) → big_union_term o b ≡ big_union_term c d → o ≡ c
over-same o b c d e = cc

-- the set is the right side of S6
pub s6_right : (t o b : Term) → RuleFits S6 true t → t ≡ big_union_term o b → IsRight S6 t o
s6_right t o b f h = right_of S6 t o f (over-same f.0 (single_term (variable 0)) o b (sym f.2.0 ∙ h))

-- the left set is the right side of S7
pub s7_right : (t a b : Term) → t ≡ union_term a b → b ≡ empty_term → IsRight S7 t a
s7_right t a b h k = right-side S7 t a [] (inl (h ∙ ap (union_term a) k), refl)

-- and the right set, where the left one is empty
pub s7_left : (t a b : Term) → t ≡ union_term a b → a ≡ empty_term → IsRight S7 t b
s7_left t a b h k = right-side S7 t b [] (inr (h ∙ ap (λ z. union_term z b) k), refl)

-- S7 fits a union with the empty set
pub s7_fits : (t a b : Term) → t ≡ union_term a b → (b ≡ empty_term) ⊎ (a ≡ empty_term) → RuleFits S7 true t
s7_fits t a b h (inl k) = (a, [], (inl (h ∙ ap (union_term a) k), refl))
s7_fits t a b h (inr k) = (b, [], (inr (h ∙ ap (λ z. union_term z b) k), refl))

-- S8 fits the member of a set of one member
pub s8_fits : (t o a : Term) → t ≡ get_term o → o ≡ single_term a → RuleFits S8 true t
s8_fits t o a h k = (a, [], (h ∙ ap get_term k, refl))

-- S9 fits a loop over a let
pub s9_fits : (f : Form) (z t o e m b : Term) → LoopOf f z → t ≡ loop_term f o b → o ≡ let_term e m → RuleFits S9 true t
s9_fits f z t o e m b l h k = (let_term e (loop_term f m (shift_term 1 1 b)), [], (f, z, e, m, b, l, h ∙ ap (λ x. loop_term f x b) k, refl, refl))

-- the let of the loop is the right side of S9
pub s9_right : (f : Form) (z t o e m b r y x : Term) → LoopOf f z → t ≡ loop_term f o b → o ≡ let_term e m → r ≡ let_term e y → y ≡ loop_term f m x → x ≡ shift_term 1 1 b → IsRight S9 t r
s9_right f z t o e m b r y x l h k p q s = right-side S9 t r [] (f, z, e, m, b, l, h ∙ ap (λ z. loop_term f z b) k, p ∙ ap (let_term e) (q ∙ ap (loop_term f m) s), refl)
