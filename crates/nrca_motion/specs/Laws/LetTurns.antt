-- What moves of lets do to the turns.
use Rattle.std.proofs.Common.{◌≡◌, ℕ, zero, suc, ◌+◌, ◌<◌, ◌≤◌, true, List, [], ◌∷◌, ◌++◌, length, map, Option, Some, None, option_to_list, refl, sym, ap, ◌∙◌, arith}
use Rattle.aql_value.specs.Datum.{Datum}
use Rattle.aql_value.specs.Lists.{Every}
use Rattle.aql_value.specs.Laws.Lists.{Every-impl}
use Rattle.aql_value.specs.Partial.{◌>>=◌, total}
use Rattle.aql_value.specs.Laws.Partial.{total-ext}
use Rattle.nrca_term.specs.Term.{Term, Parts, node, none, part, Form, form_of, parts_of, child_of, binders_of, set_child, with_part, count, form_binders, WellFormed, PartsWellFormed}
use Rattle.nrca_term.specs.Nodes.{let_term}
use Rattle.nrca_term.specs.Meaning.{Outcomes, Part, cden, part_values}
use Rattle.nrca_term.specs.Places.{entry_values, entered_in}
use Rattle.nrca_term.specs.Turns.{own_turns, settle, parts_settle}
use Rattle.nrca_term.specs.Subst.{shift_form, shift_term, shift_parts, is_strict}
use Rattle.nrca_term.specs.Laws.Shifting.{cden-shift_term}
use Rattle.nrca_term.specs.Laws.TurnsShift.{entered-shift, settle-shift_term}
use Rattle.nrca_term.specs.Laws.Entering.{entered-lengths, length-part_values}
use Rattle.nrca_term.specs.Laws.WellFormed.{well_formed-child, binders-well_formed}
use Rattle.nrca_motion.specs.Moves.{rotate_term, let_out, LetBelow}
use Rattle.nrca_motion.specs.Laws.Rotating.{settle-rotated, well_formed-unshift}
use Rattle.nrca_motion.specs.Laws.LetMoves.{parts-let_out, cden-inner}
use Rattle.nrca_motion.specs.Laws.Rotating.{cden-rotated}

-- a let's turns
pub let-turns : (V : Outcomes) (vals : List Datum) (a x : Term) (v : Datum) → cden V vals a ≡ Some v → settle V vals (let_term a x) ≡ settle V vals a + settle V (v ∷ vals) x
let-turns V vals a x v e =
    ap (λ o. 0 + ((settle V vals a + 0) + (total (λ new. settle V (new ++ vals) x) (map (λ w. w ∷ []) (option_to_list o)) + 0))) e ∙ omega arith

-- the turns of a let whose term has no value
pub let-turns_none : (V : Outcomes) (vals : List Datum) (a x : Term) → cden V vals a ≡ None → settle V vals (let_term a x) ≡ settle V vals a
let-turns_none V vals a x e =
    ap (λ o. 0 + ((settle V vals a + 0) + (total (λ new. settle V (new ++ vals) x) (map (λ w. w ∷ []) (option_to_list o)) + 0))) e ∙ omega arith

-- a form's own turns under a shift
own-shift : (f : Form) (ps : List Part) → own_turns (shift_form 0 1 f) ps ≡ own_turns f ps
own-shift (Form.var i) ps = refl
own-shift (Form.global n) ps = refl
own-shift Form.bind ps = refl
own-shift Form.choose ps = refl
own-shift Form.default ps = refl
own-shift Form.big_union ps = refl
own-shift Form.sum ps = refl
own-shift (Form.tab rank) ps = refl
own-shift (Form.strict s) ps = refl

-- the turns of the parts under the shifted form
form-shift : (V : Outcomes) (vals : List Datum) (f : Form) (worths : List Part) (j : ℕ) (ps : Parts) → parts_settle V vals (shift_form 0 1 f) worths j ps ≡ parts_settle V vals f worths j ps
form-shift V vals f worths j none = refl
form-shift V vals f worths j (part k t ps) =
    ap (λ es. total (λ new. settle V (new ++ vals) t) es + parts_settle V vals (shift_form 0 1 f) worths (suc j) ps) (entered-shift 0 1 f worths j)
    ∙ ap (λ n. total (λ new. settle V (new ++ vals) t) (entry_values f worths j) + n) (form-shift V vals f worths (suc j) ps)

-- a part under one more variable, over its entries
entries-shift : (V : Outcomes) (vals : List Datum) (v : Datum) (f : Form) (worths : List Part) (j k : ℕ) (t : Term) → WellFormed t → k ≡ form_binders f j → j < length worths →
    total (λ vs. settle V (vs ++ (v ∷ vals)) (shift_term (0 + k) 1 t)) (entry_values f worths j) ≡ total (λ vs. settle V (vs ++ vals) t) (entry_values f worths j)
entries-shift V vals v f worths j k t w e l =
    total-ext _ _ (entry_values f worths j) (Every-impl (λ vs. length vs ≡ form_binders f j) (λ vs. settle V (vs ++ (v ∷ vals)) (shift_term (0 + k) 1 t) ≡ settle V (vs ++ vals) t)
    (λ vs n. (let z : 0 + k ≡ length vs = omega (arith, n, e) in ap (λ m. settle V (vs ++ (v ∷ vals)) (shift_term m 1 t)) z) ∙ settle-shift_term V vs (v ∷ []) vals t w)
    (entry_values f worths j) (entered-lengths f worths j l))

-- parts under one more variable, over their entries
others-shift : (V : Outcomes) (vals : List Datum) (v : Datum) (f : Form) (worths : List Part) (j : ℕ) (ps : Parts) → PartsWellFormed f j ps → j + count ps ≤ length worths →
    parts_settle V (v ∷ vals) f worths j (shift_parts 0 1 ps) ≡ parts_settle V vals f worths j ps
others-shift V vals v f worths j none h l = refl
others-shift V vals v f worths j (part k t ps) h l =
    ap (λ n. n + parts_settle V (v ∷ vals) f worths (suc j) (shift_parts 0 1 ps)) (entries-shift V vals v f worths j k t h.1 h.0 (omega (arith, l)))
    ∙ ap (λ n. total (λ vs. settle V (vs ++ vals) t) (entry_values f worths j) + n) (others-shift V vals v f worths (suc j) ps h.2 (omega (arith, l)))

-- a total of numbers that are each A less
total-more : (g h : List Datum → ℕ) (A : ℕ) (xs : List (List Datum)) → Every (λ x. g x + A ≡ h x) xs → total g xs + total (λ x. A) xs ≡ total h xs
total-more g h A [] k = refl
total-more g h A (x ∷ xs) k =
    omega (arith, k.0, total-more g h A xs k.1)

-- The parts under the let, part i having lost A turns at each of its entries.
parts-turns : (V : Outcomes) (vals : List Datum) (v : Datum) (f : Form) (worths : List Part) (j m : ℕ) (ps : Parts) (i : ℕ) (u w : Term) (A : ℕ) → m ≡ j + i →
    PartsWellFormed f j ps → j + count ps ≤ length worths → child_of ps i ≡ Some u →
    ((new : List Datum) → length new ≡ form_binders f m → settle V (new ++ (v ∷ vals)) w + A ≡ settle V (new ++ vals) u) →
    parts_settle V (v ∷ vals) f worths j (set_child (shift_parts 0 1 ps) i w) + total (λ vs. A) (entry_values f worths m) ≡ parts_settle V vals f worths j ps
parts-turns V vals v f worths j m none i u w A z h l e q = cc
parts-turns V vals v f worths j m (part k t ps) zero u w A z h l e q =
    let same : t ≡ u = cc in
    let here : m ≡ j = omega (arith, z) in
    let a = total-more (λ vs. settle V (vs ++ (v ∷ vals)) w) (λ vs. settle V (vs ++ vals) t) A (entry_values f worths m)
    (Every-impl (λ vs. length vs ≡ form_binders f m) (λ vs. settle V (vs ++ (v ∷ vals)) w + A ≡ settle V (vs ++ vals) t) (λ vs n. q vs n ∙ ap (settle V (vs ++ vals)) (sym same))
    (entry_values f worths m) (entered-lengths f worths m (omega (arith, l, here)))) in
    let b = others-shift V vals v f worths (suc j) ps h.2 (omega (arith, l)) in
    let c : total (λ vs. settle V (vs ++ (v ∷ vals)) w) (entry_values f worths j) ≡ total (λ vs. settle V (vs ++ (v ∷ vals)) w) (entry_values f worths m) = ap (λ n. total (λ vs. settle V (vs ++ (v ∷ vals)) w) (entry_values f worths n)) (sym here) in
    let d : total (λ vs. settle V (vs ++ vals) t) (entry_values f worths j) ≡ total (λ vs. settle V (vs ++ vals) t) (entry_values f worths m) = ap (λ n. total (λ vs. settle V (vs ++ vals) t) (entry_values f worths n)) (sym here) in
    omega (arith, a, b, c, d)
parts-turns V vals v f worths j m (part k t ps) (suc i) u w A z h l e q =
    let a = entries-shift V vals v f worths j k t h.1 h.0 (omega (arith, l)) in
    let b = parts-turns V vals v f worths (suc j) m ps i u w A (omega (arith, z)) h.2 (omega (arith, l)) e q in
    omega (arith, a, b)

-- the node under the let
pub turns-under : (V : Outcomes) (vals : List Datum) (v : Datum) (l : Term) (i : ℕ) (u w : Term) (A : ℕ) → WellFormed l → child_of (parts_of l) i ≡ Some u →
    ((new : List Datum) → length new ≡ binders_of (parts_of l) i → cden V (new ++ (v ∷ vals)) w ≡ cden V (new ++ vals) u) →
    ((new : List Datum) → length new ≡ binders_of (parts_of l) i → settle V (new ++ (v ∷ vals)) w + A ≡ settle V (new ++ vals) u) →
    settle V (v ∷ vals) (with_part (shift_term 0 1 l) i w) + total (λ vs. A) (entered_in V vals l i) ≡ settle V vals l
turns-under V vals v (node f ps) i u w A h e c q =
    let p = parts-let_out V vals v ps i u w e c in
    let a = ap (λ x. own_turns (shift_form 0 1 f) x + parts_settle V (v ∷ vals) (shift_form 0 1 f) x 0 (set_child (shift_parts 0 1 ps) i w)) p in
    let b = own-shift f (part_values V vals ps) in
    let d = form-shift V (v ∷ vals) f (part_values V vals ps) 0 (set_child (shift_parts 0 1 ps) i w) in
    let k = binders-well_formed (node f ps) i u h e in
    let g = parts-turns V vals v f (part_values V vals ps) 0 i ps i u w A (omega arith) h.1 (omega (arith, length-part_values V vals ps)) e (λ new n. q new (n ∙ sym k)) in
    omega (arith, a, b, d, g)

-- A let that goes out of a part with variables of its own, M2 and M3: its term takes its turns once, and no more at each entry of the part
pub let_below-turns : (V : Outcomes) (vals : List Datum) (l : Term) (i : ℕ) (a b : Term) (v : Datum) → WellFormed l → LetBelow l i a b → cden V vals a ≡ Some v →
    settle V vals (let_out a l i (rotate_term (binders_of (parts_of l) i) b)) + total (λ vs. settle V vals a) (entered_in V vals l i) ≡ settle V vals l + settle V vals a
let_below-turns V vals l i a b v h e d =
    let wl = well_formed-child l i (let_term (shift_term 0 (binders_of (parts_of l) i) a) b) h e in
    let wa : WellFormed a = well_formed-unshift 0 (binders_of (parts_of l) i) a wl.1.1 in
    let wb : WellFormed b = wl.1.2.1 in
    let x = let-turns V vals a (with_part (shift_term 0 1 l) i (rotate_term (binders_of (parts_of l) i) b)) v d in
    let y = turns-under V vals v l i (let_term (shift_term 0 (binders_of (parts_of l) i) a) b) (rotate_term (binders_of (parts_of l) i) b) (settle V vals a) h e
    (λ new n. ap (λ k. cden V (new ++ (v ∷ vals)) (rotate_term k b)) (sym n) ∙ cden-rotated V new vals v b
    ∙ sym (ap (λ k. cden V (new ++ vals) (let_term (shift_term 0 k a) b)) (sym n) ∙ cden-inner V vals new v a b d))
    (λ new n. inner new n wa wb) in
    omega (arith, x, y)
  where
    inner : (new : List Datum) → length new ≡ binders_of (parts_of l) i → WellFormed a → WellFormed b →
        settle V (new ++ (v ∷ vals)) (rotate_term (binders_of (parts_of l) i) b) + settle V vals a ≡ settle V (new ++ vals) (let_term (shift_term 0 (binders_of (parts_of l) i) a) b)
    inner new n wa wb =
        let p = ap (λ k. settle V (new ++ (v ∷ vals)) (rotate_term k b)) (sym n) ∙ settle-rotated V new vals v b wb in
        let q = ap (λ k. settle V (new ++ vals) (let_term (shift_term 0 k a) b)) (sym n)
        ∙ let-turns V (new ++ vals) (shift_term 0 (length new) a) b v (cden-shift_term V [] new vals a ∙ d) in
        let r = settle-shift_term V [] new vals a wa in
        omega (arith, p, q, r)

-- a strict part of a node other than a let is entered once, with no values
entered-strict : (f : Form) (worths : List Part) (i : ℕ) → (f ≡ Form.bind → ⊥) → is_strict f i ≡ true → entry_values f worths i ≡ [] ∷ []
entered-strict (Form.var n) worths i b s = refl
entered-strict (Form.global n) worths i b s = refl
entered-strict Form.bind worths i b s = absurd (b refl)
entered-strict Form.choose worths zero b s = refl
entered-strict Form.choose worths (suc i) b s = cc
entered-strict Form.default worths i b s = cc
entered-strict Form.big_union worths zero b s = refl
entered-strict Form.big_union worths (suc i) b s = cc
entered-strict Form.sum worths zero b s = refl
entered-strict Form.sum worths (suc i) b s = cc
entered-strict (Form.tab rank) worths i b s = rw s refl
entered-strict (Form.strict c) worths i b s = refl

-- a part's turns are among those of the node
part-turns : (V : Outcomes) (vals : List Datum) (f : Form) (worths : List Part) (j m : ℕ) (ps : Parts) (i : ℕ) (u : Term) → m ≡ j + i → child_of ps i ≡ Some u →
    total (λ new. settle V (new ++ vals) u) (entry_values f worths m) ≤ parts_settle V vals f worths j ps
part-turns V vals f worths j m none i u z e = cc
part-turns V vals f worths j m (part k t ps) zero u z e =
    let same : u ≡ t = cc in
    let here : m ≡ j = omega (arith, z) in
    let a : total (λ new. settle V (new ++ vals) u) (entry_values f worths m) ≡ total (λ new. settle V (new ++ vals) t) (entry_values f worths j) =
    ap (λ x. total (λ new. settle V (new ++ vals) x) (entry_values f worths m)) same ∙ ap (λ n. total (λ new. settle V (new ++ vals) t) (entry_values f worths n)) here in
    omega (arith, a)
part-turns V vals f worths j m (part k t ps) (suc i) u z e =
    let a = part-turns V vals f worths (suc j) m ps i u (omega (arith, z)) e in
    omega (arith, a)

-- A let that goes out of a strict part, M4: the turns do not rise.
pub strict_let-turns : (V : Outcomes) (vals : List Datum) (l : Term) (i : ℕ) (a b : Term) → WellFormed l → (form_of l ≡ Form.bind → ⊥) → is_strict (form_of l) i ≡ true →
    child_of (parts_of l) i ≡ Some (let_term a b) → binders_of (parts_of l) i ≡ 0 → settle V vals (let_out a l i b) ≤ settle V vals l
strict_let-turns V vals (node f ps) i a b h n s e z = by (cden V vals a) refl
  where
    ways : entry_values f (part_values V vals ps) i ≡ [] ∷ []
    ways = entered-strict f (part_values V vals ps) i n s

    by : (o : Option Datum) → cden V vals a ≡ o → settle V vals (let_out a (node f ps) i b) ≤ settle V vals (node f ps)
    by None d =
        let x = let-turns_none V vals a (with_part (shift_term 0 1 (node f ps)) i b) d in
        let y = part-turns V vals f (part_values V vals ps) 0 i ps i (let_term a b) (omega arith) e in
        let w = ap (λ es. total (λ new. settle V (new ++ vals) (let_term a b)) es) ways in
        let q = let-turns_none V vals a b d in
        omega (arith, x, y, w, q)
    by (Some v) d =
        let x = let-turns V vals a (with_part (shift_term 0 1 (node f ps)) i b) v d in
        let y = turns-under V vals v (node f ps) i (let_term a b) b (settle V vals a) h e (λ new k. value new (k ∙ z)) (λ new k. turns new (k ∙ z)) in
        let w = ap (λ es. total (λ vs. settle V vals a) es) ways in
        omega (arith, x, y, w)
      where
        value : (new : List Datum) → length new ≡ 0 → cden V (new ++ (v ∷ vals)) b ≡ cden V (new ++ vals) (let_term a b)
        value [] k = sym (ap (λ o. o >>= λ y. cden V (y ∷ vals) b) d)
        value (y ∷ new) k = absurd (omega (arith, k))

        turns : (new : List Datum) → length new ≡ 0 → settle V (new ++ (v ∷ vals)) b + settle V vals a ≡ settle V (new ++ vals) (let_term a b)
        turns [] k = omega (arith, let-turns V vals a b v d)
        turns (y ∷ new) k = absurd (omega (arith, k))
