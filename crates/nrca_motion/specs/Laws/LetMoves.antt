-- Moves of lets keep the value.
use Rattle.std.proofs.Common.{◌≡◌, ℕ, zero, suc, ◌+◌, true, List, [], ◌∷◌, ◌++◌, length, Option, Some, None, refl, sym, ap, ◌∙◌, arith, nat_eq, inl, inr}
use Rattle.std.specs.List.{slice_get}
use Rattle.std.proofs.lemmas.Bool.{cases_Bool, le-ltb, eqb-true}
use Rattle.aql_value.specs.Datum.{Datum}
use Rattle.aql_value.specs.Partial.{◌>>=◌}
use Rattle.nrca_term.specs.Term.{Term, Parts, node, none, part, Form, form_of, parts_of, child_of, binders_of, set_child, with_part}
use Rattle.nrca_term.specs.Nodes.{let_term}
use Rattle.nrca_term.specs.Meaning.{Outcomes, Part, worth, at_length, form_value, cden, part_values}
use Rattle.nrca_term.specs.Subst.{shift_form, shift_term, shift_parts, is_strict}
use Rattle.nrca_term.specs.Laws.Shifting.{at_length-ext, cden-shift_term, part_values-shift_parts}
use Rattle.nrca_term.specs.Laws.Entering.{child-counted, length-part_values}
use Rattle.nrca_term.specs.Laws.Undefined.{form_value-worthless}
use Rattle.nrca_term.specs.Rules.{IsDefined}
use Rattle.nrca_motion.specs.Moves.{rotate_term, let_out, LetBelow}
use Rattle.nrca_motion.specs.Laws.Rotating.{cden-rotated}

-- a form under one more variable
shift_form-let : (from by : ℕ) (V : Outcomes) (v : Datum) (vals : List Datum) (f : Form) (ps : List Part) → form_value V (v ∷ vals) (shift_form 0 1 f) ps ≡ form_value V vals f ps
shift_form-let from by V v vals (Form.var i) ps = rw (le-ltb i 0 (omega arith)) (let z : i + 1 ≡ suc i = omega arith in ap (slice_get (v ∷ vals)) z)
shift_form-let from by V v vals (Form.global n) ps = refl
shift_form-let from by V v vals Form.bind ps = refl
shift_form-let from by V v vals Form.choose ps = refl
shift_form-let from by V v vals Form.default ps = refl
shift_form-let from by V v vals Form.big_union ps = refl
shift_form-let from by V v vals Form.sum ps = refl
shift_form-let from by V v vals (Form.tab rank) ps = refl
shift_form-let from by V v vals (Form.strict s) ps = refl

-- equal lists have equal heads
head-is : {A : Type 0} (x y : A) (xs ys : List A) → x ∷ xs ≡ y ∷ ys → x ≡ y
head-is x y xs ys e = cc

-- What the parts are worth stays, where part i is put in again with what it is worth under the let.
pub parts-let_out : (V : Outcomes) (vals : List Datum) (v : Datum) (ps : Parts) (i : ℕ) (u w : Term) → child_of ps i ≡ Some u →
    ((new : List Datum) → length new ≡ binders_of ps i → cden V (new ++ (v ∷ vals)) w ≡ cden V (new ++ vals) u) →
    part_values V (v ∷ vals) (set_child (shift_parts 0 1 ps) i w) ≡ part_values V vals ps
parts-let_out V vals v none i u w e h = cc
parts-let_out V vals v (part k t ps) zero u w e h =
    let same : t ≡ u = cc in
    ap (λ p. p ∷ part_values V (v ∷ vals) (shift_parts 0 1 ps)) (at_length-ext k _ _ (λ new n. h new n ∙ ap (cden V (new ++ vals)) (sym same)))
    ∙ ap (λ l. at_length k (λ new. cden V (new ++ vals) t) ∷ l) (part_values-shift_parts V [] (v ∷ []) vals ps)
parts-let_out V vals v (part k t ps) (suc i) u w e h =
    ap (λ p. p ∷ part_values V (v ∷ vals) (set_child (shift_parts 0 1 ps) i w)) (head-is _ _ [] [] (part_values-shift_parts V [] (v ∷ []) vals (part k t none)))
    ∙ ap (λ l. at_length k (λ new. cden V (new ++ vals) t) ∷ l) (parts-let_out V vals v ps i u w e h)

-- the node under the let
pub cden-let_out : (V : Outcomes) (vals : List Datum) (v : Datum) (l : Term) (i : ℕ) (u w : Term) → child_of (parts_of l) i ≡ Some u →
    ((new : List Datum) → length new ≡ binders_of (parts_of l) i → cden V (new ++ (v ∷ vals)) w ≡ cden V (new ++ vals) u) →
    cden V (v ∷ vals) (with_part (shift_term 0 1 l) i w) ≡ cden V vals l
cden-let_out V vals v (node f ps) i u w e h =
    ap (form_value V (v ∷ vals) (shift_form 0 1 f)) (parts-let_out V vals v ps i u w e h) ∙ shift_form-let 0 1 V v vals f (part_values V vals ps)

-- the let's own body, at values of the part's variables
pub cden-inner : (V : Outcomes) (vals new : List Datum) (v : Datum) (a b : Term) → cden V vals a ≡ Some v → cden V (new ++ vals) (let_term (shift_term 0 (length new) a) b) ≡ cden V (v ∷ (new ++ vals)) b
cden-inner V vals new v a b e = ap (λ o. o >>= λ x. cden V (x ∷ (new ++ vals)) b) (cden-shift_term V [] new vals a ∙ e)

-- A let that goes out of a part with variables of its own: M2, M3. Its term has a value.
pub let_below-keeps : (V : Outcomes) (vals : List Datum) (l : Term) (i : ℕ) (a b : Term) → LetBelow l i a b → IsDefined V vals a →
    cden V vals l ≡ cden V vals (let_out a l i (rotate_term (binders_of (parts_of l) i) b))
let_below-keeps V vals l i a b e d =
    sym (ap (λ o. o >>= λ x. cden V (x ∷ vals) (with_part (shift_term 0 1 l) i (rotate_term (binders_of (parts_of l) i) b))) d.1
    ∙ cden-let_out V vals d.0 l i (let_term (shift_term 0 (binders_of (parts_of l) i) a) b) (rotate_term (binders_of (parts_of l) i) b) e
    (λ new n. ap (λ k. cden V (new ++ (d.0 ∷ vals)) (rotate_term k b)) (sym n) ∙ cden-rotated V new vals d.0 b
    ∙ sym (ap (λ k. cden V (new ++ vals) (let_term (shift_term 0 k a) b)) (sym n) ∙ cden-inner V vals new d.0 a b d.1)))

-- what is worth nothing at no values is worth nothing
nothing-at : (k : ℕ) (f : Part) → k ≡ 0 → f [] ≡ None → (new : List Datum) → at_length k f new ≡ None
nothing-at k f z h [] = rw z h
nothing-at k f z h (x ∷ new) =
    elim (cases_Bool (nat_eq (length (x ∷ new)) k)) [
      | inl e ↦ absurd (omega (arith, z, eqb-true (length (x ∷ new)) k e))
      | inr e ↦ rw e refl
    ]

-- a part that is a let of a term without a value is worth nothing
pub worthless-let : (V : Outcomes) (vals : List Datum) (ps : Parts) (i : ℕ) (a b : Term) → child_of ps i ≡ Some (let_term a b) → binders_of ps i ≡ 0 → cden V vals a ≡ None →
    (new : List Datum) → worth (part_values V vals ps) i new ≡ None
worthless-let V vals none i a b e z n new = cc
worthless-let V vals (part k t ps) zero a b e z n new =
    let same : t ≡ let_term a b = cc in
    nothing-at k (λ vs. cden V (vs ++ vals) t) z (ap (cden V vals) same ∙ ap (λ o. o >>= λ x. cden V (x ∷ vals) b) n) new
worthless-let V vals (part k t ps) (suc i) a b e z n new = worthless-let V vals ps i a b e z n new

-- A let that goes out of a strict part: M4. Where its term has no value the node has none.
pub strict_let-keeps : (V : Outcomes) (vals : List Datum) (l : Term) (i : ℕ) (a b : Term) → is_strict (form_of l) i ≡ true → child_of (parts_of l) i ≡ Some (let_term a b) → binders_of (parts_of l) i ≡ 0 →
    cden V vals l ≡ cden V vals (let_out a l i b)
strict_let-keeps V vals (node f ps) i a b s e z = by (cden V vals a) refl
  where
    w : Term
    w = with_part (shift_term 0 1 (node f ps)) i b

    by : (o : Option Datum) → cden V vals a ≡ o → cden V vals (node f ps) ≡ (o >>= λ x. cden V (x ∷ vals) w)
    by None n = form_value-worthless V vals f (part_values V vals ps) i s (omega (arith, child-counted ps i (let_term a b) e, length-part_values V vals ps)) (worthless-let V vals ps i a b e z n)
    by (Some v) n =
        sym (cden-let_out V vals v (node f ps) i (let_term a b) b e
        (λ new k. bare new (k ∙ z)))
      where
        bare : (new : List Datum) → length new ≡ 0 → cden V (new ++ (v ∷ vals)) b ≡ cden V (new ++ vals) (let_term a b)
        bare [] k = sym (ap (λ o. o >>= λ x. cden V (x ∷ vals) b) n)
        bare (y ∷ new) k = absurd (omega (arith, k))
