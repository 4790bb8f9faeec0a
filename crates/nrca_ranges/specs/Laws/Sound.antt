-- The value of a term has the shape that is told of it, wherever the facts of its place hold (`bounds-sound`).
use Rattle.std.proofs.Common.{◌≡◌, ℕ, zero, suc, ◌+◌, ◌<◌, ◌≤◌, ◌⊎◌, nat_lt, List, [], ◌∷◌, ◌++◌, length, map, take, reverse, Option, Some, None, refl, sym, ap, subst, ◌∙◌, arith, inl, inr, append-nil, append_assoc}
use Rattle.std.proofs.lemmas.Bool.{cases_Bool, ltb-true, ltb-false}
use Rattle.std.proofs.lemmas.List.{length-append, reverse-append}
use Rattle.aql_value.specs.Datum.{Datum, natural, set, list_of}
use Rattle.aql_value.specs.Lists.{Every}
use Rattle.aql_value.specs.Laws.Lists.{Every-all, Every-impl, Every-join, Every-nested}
use Rattle.aql_value.specs.Partial.{concat}
use Rattle.nrca_term.specs.declared.term.Core.{Core}
use Rattle.nrca_term.specs.View.{term_of}
use Rattle.nrca_term.specs.Term.{Term, Parts, node, none, part, Form, form_of, child_of, count, parts_of, WellFormed, PartsWellFormed}
use Rattle.nrca_term.specs.Meaning.{Outcomes, Part, worth, cden, part_values}
use Rattle.nrca_term.specs.Places.{entry_values, entered_in, reach, reach_each}
use Rattle.nrca_term.specs.Facts.{Context, no_facts, facts_at, enter_facts, context_below, context_at, FactsHold}
use Rattle.nrca_term.specs.Firm.{Span, span}
use Rattle.nrca_term.specs.Laws.Contexts.{stands-enter}
use Rattle.nrca_term.specs.Laws.Entering.{length-part_values, child-counted}
use Rattle.nrca_term.specs.Laws.Sound.{at_length-value}
use Rattle.nrca_term.specs.Laws.WellFormed.{well_formed-Core, well_formed-child}
use Rattle.nrca_rule_laws.specs.Laws.Spans.{span-sound}
use Rattle.nrca_rule_laws.specs.Laws.Firms.{part-there}
use Rattle.nrca_ranges.specs.declared.interval.Interval.{Interval}
use Rattle.nrca_ranges.specs.declared.context.Ctx.{Ctx}
use Rattle.nrca_ranges.specs.Bounds.{Bounds, unknown, row_of, IsCount, IsIn, HasShape, HaveShapes, Ranges, at_root, VariablesFit}
use Rattle.nrca_ranges.specs.Context.{context_of, enter_part as entered_context}
use Rattle.nrca_ranges.specs.Shapes.{Tells, Allows, PlaceHolds, IsShapeIn, IsNumberIn, IsCountIn, EntersRanges, AllowsInside, ranges_of, shape_at}
use Rattle.nrca_ranges.specs.Transfer.{interval_of, count_of, entry_at, form_bounds, by_span, own_bounds, inside, bounds, all_bounds, parts_bounds, enter_ranges, ranges_at}
use Rattle.nrca_ranges.specs.Laws.Bounds.{interval-is, count-shaped}
use Rattle.nrca_ranges.specs.Laws.Forms.{Shaped, AllShaped, form-shaped}
use Rattle.nrca_ranges.specs.Laws.Own.{have-append, own-shaped}

-- each part is told of
length-all_bounds : (gs : Ranges) (c : Context) (t : Term) (i : ℕ) (bs : List Bounds) (ps : Parts) → length (all_bounds gs c t i bs ps) ≡ count ps
length-all_bounds gs c t i bs none = refl
length-all_bounds gs c t i bs (part k u ps) = ap suc (length-all_bounds gs c t (suc i) (bs ++ bounds (inside gs (form_of t) i bs) (enter_facts c t i) u ∷ []) ps)

pub length-parts_bounds : (gs : Ranges) (c : Context) (f : Form) (ps : Parts) → length (parts_bounds gs c (node f ps)) ≡ count ps
length-parts_bounds gs c f ps = length-all_bounds gs c (node f ps) 0 [] ps

-- by the span, or else by the parts
spanned : (V : Outcomes) (vals : List Datum) (c : Context) (t : Term) (v : Datum) (b : Bounds) → FactsHold V c vals → cden V vals t ≡ Some v → HasShape b v → HasShape (by_span (span c t) b) v
spanned V vals c t v b st e h = go (span c t) refl
  where
    go : (o : Span) → span c t ≡ o → HasShape (by_span o b) v
    go None k = h
    go (Some x) k = let w = span-sound V vals c st t x v k e in (w.0, w.1, (w.2, λ l. w.3))

-- entries of a list: past its end, of one behind another, and of its front
entry-none : (bs : List Bounds) (j : ℕ) → length bs ≤ j → entry_at bs j ≡ unknown
entry-none [] j l = refl
entry-none (b ∷ bs) zero l = absurd (omega (arith, l))
entry-none (b ∷ bs) (suc j) l = entry-none bs j (omega (arith, l))

entry-front : (bs cs : List Bounds) (j : ℕ) → j < length bs → entry_at (bs ++ cs) j ≡ entry_at bs j
entry-front [] cs j l = absurd (omega (arith, l))
entry-front (b ∷ bs) cs zero l = refl
entry-front (b ∷ bs) cs (suc j) l = entry-front bs cs j (omega (arith, l))

entry-behind : (bs : List Bounds) (b : Bounds) (j : ℕ) → j ≡ length bs → entry_at (bs ++ b ∷ []) j ≡ b
entry-behind [] b zero l = refl
entry-behind [] b (suc j) l = absurd (omega (arith, l))
entry-behind (x ∷ bs) b zero l = absurd (omega (arith, l))
entry-behind (x ∷ bs) b (suc j) l = entry-behind bs b j (omega (arith, l))

entry-take : (bs : List Bounds) (i j : ℕ) → j < i → entry_at (take i bs) j ≡ entry_at bs j
entry-take bs zero j l = absurd (omega (arith, l))
entry-take [] (suc i) j l = refl
entry-take (b ∷ bs) (suc i) zero l = refl
entry-take (b ∷ bs) (suc i) (suc j) l = entry-take bs i j (omega (arith, l))

length-front : (bs : List Bounds) (i : ℕ) → i ≤ length bs → length (take i bs) ≡ i
length-front bs zero l = refl
length-front [] (suc i) l = absurd (omega (arith, l))
length-front (b ∷ bs) (suc i) l = ap suc (length-front bs i (omega (arith, l)))

order : (j i : ℕ) → j < suc i → (j < i) ⊎ (j ≡ i)
order zero zero l = inr refl
order zero (suc i) l = inl (omega arith)
order (suc j) zero l = absurd (omega (arith, l))
order (suc j) (suc i) l = elim (order j i (omega (arith, l))) [ inl x ↦ inl (omega (arith, x)) | inr x ↦ inr (ap suc x) ]

-- what is known of the parts before part i, by the list of their shapes
abbrev pub ShapedBefore : Form → List Part → ℕ → List Bounds → Type 0
ShapedBefore f ps i bs = (j : ℕ) → j < i → Shaped f ps j (entry_at bs j)

-- nothing is known past them
shaped-all : (f : Form) (ps : List Part) (i : ℕ) (bs : List Bounds) → length bs ≡ i → ShapedBefore f ps i bs → AllShaped f ps bs
shaped-all f ps i bs l h j =
    elim (cases_Bool (nat_lt j i)) [
      | inl x ↦ h j (ltb-true j i x)
      | inr x ↦ subst (Shaped f ps j) (sym (entry-none bs j (omega (arith, ltb-false j i x, l)))) (Every-all _ (λ new v e. tt) (entry_values f ps j))
    ]

-- one part more
shaped-more : (f : Form) (ps : List Part) (i : ℕ) (bs : List Bounds) (b : Bounds) → length bs ≡ i → ShapedBefore f ps i bs → Shaped f ps i b → ShapedBefore f ps (suc i) (bs ++ b ∷ [])
shaped-more f ps i bs b l h k j m =
    elim (order j i m) [
      | inl x ↦ subst (Shaped f ps j) (sym (entry-front bs (b ∷ []) j (omega (arith, x, l)))) (h j x)
      | inr x ↦ subst (Shaped f ps j) (sym (entry-behind bs b j (omega (arith, x, l)))) (subst (λ n. Shaped f ps n b) (sym x) k)
    ]

-- wherever an evaluation comes to part i, the facts of its place hold, and the values have the shapes that are told of the variables there
holds-inside : (V : Outcomes) (gs : Ranges) (c : Context) (f : Form) (qs : Parts) (vals : List Datum) (i : ℕ) (bs : List Bounds) (u : Term) → WellFormed (node f qs) → child_of qs i ≡ Some u → PlaceHolds V gs c vals → length bs ≡ i →
    ShapedBefore f (part_values V vals qs) i bs → Every (λ new. PlaceHolds V (inside gs f i bs) (enter_facts c (node f qs) i) (new ++ vals)) (entry_values f (part_values V vals qs) i)
holds-inside V gs c f qs vals i bs u w e st l h =
    Every-join (λ new. FactsHold V (enter_facts c (node f qs) i) (new ++ vals)) (λ new. HaveShapes (row_of (reverse (own_bounds f i bs))) new) _
    (λ new s o. (
      s,
      subst (λ l. HaveShapes (row_of l) (new ++ vals)) (sym (reverse-append gs.variables (own_bounds f i bs))) (have-append (reverse (own_bounds f i bs)) (reverse gs.variables) new vals o st.1),
    ))
    (entry_values f (part_values V vals qs) i) (stands-enter V c vals (node f qs) i u w e st.0)
    (own-shaped f (part_values V vals qs) bs i l (omega (arith, child-counted qs i u e, length-part_values V vals qs)) h)

mutual
  -- the value of a term has the shape that is told of it
  pub bounds-sound : (V : Outcomes) (t : Term) (gs : Ranges) (c : Context) (vals : List Datum) → Tells gs.positions V → WellFormed t → PlaceHolds V gs c vals → (v : Datum) → cden V vals t ≡ Some v → HasShape (bounds gs c t) v
  bounds-sound V (node f ps) gs c vals tl w st v e =
      spanned V vals c (node f ps) v (form_bounds gs f (parts_bounds gs c (node f ps))) st.0 e
      (form-shaped V vals gs tl st.1 f (part_values V vals ps) (parts_bounds gs c (node f ps)) (length-parts_bounds gs c f ps ∙ sym (length-part_values V vals ps))
      (parts-sound V ps gs c f ps vals 0 [] tl w st w.1 refl (λ n j q. let z : n ≡ j = omega (arith, q) in ap (child_of ps) z) (λ n j q new. let z : n ≡ j = omega (arith, q) in ap (λ m. worth (part_values V vals ps) m new) z) (λ j l. absurd (omega (arith, l)))) v e)

  -- and so have those of its parts, of which those from part i on are told of behind those before it
  parts-sound : (V : Outcomes) (ps : Parts) (gs : Ranges) (c : Context) (f : Form) (qs : Parts) (vals : List Datum) (i : ℕ) (bs : List Bounds) → Tells gs.positions V → WellFormed (node f qs) → PlaceHolds V gs c vals → PartsWellFormed f i ps → length bs ≡ i →
      ((n j : ℕ) → n ≡ i + j → child_of qs n ≡ child_of ps j) → ((n j : ℕ) → n ≡ i + j → (new : List Datum) → worth (part_values V vals qs) n new ≡ worth (part_values V vals ps) j new) → ShapedBefore f (part_values V vals qs) i bs →
      AllShaped f (part_values V vals qs) (bs ++ all_bounds gs c (node f qs) i bs ps)
  parts-sound V none gs c f qs vals i bs tl w st p l ch wo h = subst (AllShaped f (part_values V vals qs)) (sym (append-nil bs)) (shaped-all f (part_values V vals qs) i bs l h)
  parts-sound V (part k u ps) gs c f qs vals i bs tl w st p l ch wo h =
      let b : Bounds = bounds (inside gs f i bs) (enter_facts c (node f qs) i) u in
      let s : Shaped f (part_values V vals qs) i b =
      Every-impl (λ new. PlaceHolds V (inside gs f i bs) (enter_facts c (node f qs) i) (new ++ vals)) (λ new. (v : Datum) → worth (part_values V vals qs) i new ≡ Some v → HasShape b v)
      (λ new s v q. bounds-sound V u (inside gs f i bs) (enter_facts c (node f qs) i) (new ++ vals) tl p.1 s v (at_length-value k (λ new. cden V (new ++ vals) u) new v (sym (wo i 0 (omega arith) new) ∙ q)))
      (entry_values f (part_values V vals qs) i) (holds-inside V gs c f qs vals i bs u w (ch i 0 (omega arith)) st l h) in
      subst (AllShaped f (part_values V vals qs)) (append_assoc bs (b ∷ []) (all_bounds gs c (node f qs) (suc i) (bs ++ b ∷ []) ps))
      (parts-sound V ps gs c f qs vals (suc i) (bs ++ b ∷ []) tl w st p.2 (length-append bs (b ∷ []) ∙ omega (arith, l)) (λ n j q. ch n (suc j) (omega (arith, q))) (λ n j q new. wo n (suc j) (omega (arith, q)) new)
      (shaped-more f (part_values V vals qs) i bs b l h s))

-- what is told of the parts of a node holds wherever an evaluation comes to them
pub parts-shaped : (gs : Ranges) (V : Outcomes) → Tells gs.positions V → (f : Form) (ps : Parts) (c : Context) (vals : List Datum) → WellFormed (node f ps) → PlaceHolds V gs c vals → AllShaped f (part_values V vals ps) (parts_bounds gs c (node f ps))
parts-shaped gs V tl f ps c vals w st =
    parts-sound V ps gs c f ps vals 0 [] tl w st w.1 refl (λ n j q. let z : n ≡ j = omega (arith, q) in ap (child_of ps) z) (λ n j q new. let z : n ≡ j = omega (arith, q) in ap (λ m. worth (part_values V vals ps) m new) z) (λ j l. absurd (omega (arith, l)))

-- what holds at a place holds in each part wherever an evaluation comes there
pub holds-enter : (V : Outcomes) (gs : Ranges) (c : Context) (around : List Datum) (t : Term) (i : ℕ) (u : Term) → Tells gs.positions V → WellFormed t → child_of (parts_of t) i ≡ Some u → PlaceHolds V gs c around →
    Every (λ new. PlaceHolds V (enter_ranges gs c t i) (enter_facts c t i) (new ++ around)) (entered_in V around t i)
holds-enter V gs c around (node f ps) i u tl w e st =
    holds-inside V gs c f ps around i (take i (parts_bounds gs c (node f ps))) u w e st (length-front (parts_bounds gs c (node f ps)) i (omega (arith, child-counted ps i u e, length-parts_bounds gs c f ps)))
    (λ j l. subst (Shaped f (part_values V around ps) j) (sym (entry-take (parts_bounds gs c (node f ps)) i j l)) (parts-shaped gs V tl f ps c around w st j))

-- and so at each place at a path
pub holds-from : (V : Outcomes) (path : List ℕ) (gs : Ranges) (c : Context) (around : List Datum) (t : Term) → Tells gs.positions V → WellFormed t → PlaceHolds V gs c around →
    Every (PlaceHolds V (ranges_at gs c t path) (context_at enter_facts c t path)) (reach V around t path)
holds-from V [] gs c around t tl w st = (st, tt)
holds-from V (i ∷ path) gs c around t tl w st =
    entering (child_of (parts_of t) i) refl (λ u e new k. holds-from V path (enter_ranges gs c t i) (enter_facts c t i) (new ++ around) u tl (well_formed-child t i u w e) k)
  where
    entering : (o : Option Term) → child_of (parts_of t) i ≡ o →
        ((u : Term) → child_of (parts_of t) i ≡ Some u → (new : List Datum) → PlaceHolds V (enter_ranges gs c t i) (enter_facts c t i) (new ++ around) →
        Every (PlaceHolds V (ranges_at (enter_ranges gs c t i) (enter_facts c t i) u path) (context_at enter_facts (enter_facts c t i) u path)) (reach V (new ++ around) u path)) →
        Every (PlaceHolds V (context_below gs o (λ u. ranges_at (enter_ranges gs c t i) (enter_facts c t i) u path)) (context_below c o (λ u. context_at enter_facts (enter_facts c t i) u path)))
        (reach_each o (λ u. concat (map (λ new. reach V (new ++ around) u path) (entered_in V around t i))))
    entering None e ih = tt
    entering (Some u) e ih = Every-nested _ (λ new. reach V (new ++ around) u path) (entered_in V around t i) (Every-impl _ _ (λ new k. ih u e new k) (entered_in V around t i) (holds-enter V gs c around t i u tl w e st))

-- at the places of a closed term
pub holds : (V : Outcomes) (gs : List (Option Bounds)) (t : Term) → Tells gs V → WellFormed t → (path : List ℕ) → Every (PlaceHolds V (ranges_at (at_root gs) no_facts t path) (facts_at t path)) (reach V [] t path)
holds V gs t tl w path = holds-from V path (at_root gs) no_facts [] t tl w ((refl, tt), tt)

-- so of a term of the code, in a context
pub shape-in : (c : Ctx) (t : Core) → IsShapeIn c (term_of t) (shape_at c (term_of t))
unfolding IsShapeIn
shape-in c t V vals v a e = bounds-sound V (term_of t) (ranges_of c) (context_of c) vals a.0 (well_formed-Core t) (a.1, a.2) v e

-- a shape that is told so
pub shape-is : (c : Ctx) (t : Core) (b : Bounds) → b ≡ shape_at c (term_of t) → IsShapeIn c (term_of t) b
shape-is c t b e = subst (IsShapeIn c (term_of t)) (sym e) (shape-in c t)

-- where only the span is told
pub span-is : (c : Ctx) (t : Term) (b : Bounds) → b ≡ by_span (span (context_of c) t) unknown → IsShapeIn c t b
unfolding IsShapeIn
span-is c t b z V vals v a e = subst (λ x. HasShape x v) (sym z) (spanned V vals (context_of c) t v unknown a.1 e tt)

-- the numbers of a term that has the shape are in the shape's interval, and the members of a set as many as it says
pub number-in : (c : Ctx) (t : Term) (b : Bounds) (i : Interval) → i ≡ interval_of b → IsShapeIn c t b → IsNumberIn c t i
unfolding IsShapeIn
number-in c t b i z h V vals n a e = subst (λ j. IsIn j n) (sym z) (interval-is b n (h V vals (natural n) a e))

pub count-in : (c : Ctx) (t : Term) (b : Bounds) (i : Interval) → i ≡ count_of b → IsShapeIn c t b → IsCountIn c t i
unfolding IsShapeIn
count-in c t b i z h V vals ms a e = subst (λ j. IsCount j (list_of ms)) (sym z) (count-shaped b ms (h V vals (set ms) a e))

-- what a context allows, the context of a part allows wherever an evaluation comes to the part
pub allows-inside : (c r : Ctx) (t : Core) (i : ℕ) → i < count (parts_of (term_of t)) → context_of r ≡ entered_context c (term_of t) i → EntersRanges c t i r → AllowsInside c t i r
allows-inside c r t i l k g V vals a =
    let u = part-there (parts_of (term_of t)) i l in
    Every-impl (λ new. PlaceHolds V (enter_ranges (ranges_of c) (context_of c) (term_of t) i) (enter_facts (context_of c) (term_of t) i) (new ++ vals)) (λ new. Allows V r (new ++ vals))
    (λ new s. (
      subst (λ l. Tells l V) (sym (ap (λ x. x.positions) g)) a.0,
      subst (λ z. FactsHold V z (new ++ vals)) (sym k) s.0,
      subst (λ z. VariablesFit z (new ++ vals)) (sym g) s.1,
    ))
    (entered_in V vals (term_of t) i) (holds-enter V (ranges_of c) (context_of c) vals (term_of t) i u.0 a.0 (well_formed-Core t) u.1 (a.1, a.2))
