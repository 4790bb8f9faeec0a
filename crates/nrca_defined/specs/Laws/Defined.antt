-- A term that is certain to have a value has one (`certain-defined`).
use Rattle.std.proofs.Common.{◌≡◌, ℕ, zero, suc, ◌+◌, ◌*◌, ◌-◌, ◌<◌, ◌≤◌, ◌^◌, Bool, true, false, ◌&&◌, ◌||◌, sum, List, [], ◌∷◌, ◌++◌, length, map, Option, Some, None, unwrap_or, refl, sym, ap, subst, ◌∙◌, arith, if◌then◌else◌, eq-eqb}
use Rattle.std.specs.List.{slice_get}
use Rattle.std.proofs.lemmas.Bool.{lt-ltb, and_parts}
use Rattle.std.proofs.lemmas.Option.{same_Some}
use Rattle.aql_value.specs.Datum.{Datum}
use Rattle.aql_value.specs.Laws.Lists.{Every-impl, Every-join, Every-map}
use Rattle.aql_value.specs.Laws.Partial.{each-total, each-length, each-values}
use Rattle.aql_value.specs.Lists.{Every}
use Rattle.aql_value.specs.Operations.{as_natural, as_set, sum_of}
use Rattle.aql_value.specs.Partial.{◌>>=◌, each, or_else}
use Rattle.aql_value.specs.Strict.{strict_value}
use Rattle.aql_ty.specs.Laws.Operation.{has-append, has-length}
use Rattle.aql_ty.specs.Types as types
use Rattle.aql_ty.specs.Types.{Ty, natural}
use Rattle.aql_ty.specs.ValueTypes.{HasType, HaveTypes}
use Rattle.nrca_term.specs.Term.{Term, Parts, node, none, part, Form, count, WellFormed}
use Rattle.nrca_term.specs.Meaning.{Outcomes, Part, worth, form_value, members_value, loop_values, cden, part_values}
use Rattle.nrca_term.specs.Places.{otherwise, entry_values}
use Rattle.nrca_term.specs.Typing.{Arg, arg, form_rule, ctyped, parts_typed, instances, OutcomesHave}
use Rattle.nrca_term.specs.Facts.{Context, enter_facts}
use Rattle.nrca_term.specs.Firm.{wants_all, firm}
use Rattle.nrca_term.specs.Laws.Entering.{length-part_values}
use Rattle.nrca_term.specs.Laws.Facts.{natural-is}
use Rattle.nrca_term.specs.Laws.Sound.{AllSound, sound-get, sounds, sound-length, loop-sound, parts-sound, has-here}
use Rattle.nrca_term.specs.Laws.TypedForm.{well_formed-typed}
use Rattle.nrca_rule_laws.specs.Operations.{Valued}
use Rattle.nrca_rule_laws.specs.Laws.Firms.{PositionsAre, PartsDefined, form-defined, firm-defined, here-valued, part-there, ways-in}
use Rattle.nrca_rule_laws.specs.Laws.Operations.{set-is}
use Rattle.nrca_rule_laws.specs.Laws.Ways.{outcomes-are}
use Rattle.nrca_ranges.specs.declared.context.Ctx.{Ctx}
use Rattle.nrca_ranges.specs.Bounds.{Bounds, IsIn, HasShape, Ranges}
use Rattle.nrca_ranges.specs.Certain.{form_certain, certain, all_certain, some_certain}
use Rattle.nrca_ranges.specs.Context.{context_of}
use Rattle.nrca_ranges.specs.Entered.{is_shaped}
use Rattle.nrca_ranges.specs.Shapes.{Tells, PlaceHolds, known_shapes, ranges_of, firm_at, certain_at}
use Rattle.nrca_ranges.specs.Transfer.{interval_of, count_of, entry_at, parts_bounds, enter_ranges}
use Rattle.nrca_ranges.specs.Laws.Bounds.{interval-is}
use Rattle.nrca_ranges.specs.Laws.Forms.{AllShaped, here-shaped, loop-shaped}
use Rattle.nrca_ranges.specs.Laws.Intervals.{saturated-is, sum-most}
use Rattle.nrca_ranges.specs.Laws.Sound.{parts-shaped, length-parts_bounds, holds-enter}
use Rattle.nrca_defined.specs.Defined.{IsDefinedAt, IsDefinedIn}
use Rattle.nrca_defined.specs.Laws.Operations.{strict-fits}

-- the sum of numbers whose greatest possible sum stays below 2^128-1
sum-there : (a b : Bounds) (rs : List Datum) (m : ℕ) → (count_of a).high * (interval_of b).high < 2 ^ 128 - 1 → ((count_of a).high < 2 ^ 128 - 1 → m ≤ (count_of a).high) → length rs ≡ m → Every (HasType natural) rs → Every (HasShape b) rs →
    Valued (sum_of rs)
sum-there a b rs m l u k t h =
    let ns = each-total as_natural rs (Every-impl (HasType natural) (λ w. (n : ℕ) × (as_natural w ≡ Some n)) (λ w q. (q.0, ap as_natural q.1)) rs t) in
    let g : Every (IsIn (interval_of b)) ns.0 = each-values as_natural (HasShape b) (IsIn (interval_of b)) (λ w n p i. interval-is b n (subst (HasShape b) (natural-is w n i) p)) rs ns.0 h ns.1 in
    let s = sum-most (count_of a).high (interval_of b).high ns.0 l (λ p. omega (arith, each-length as_natural rs ns.0 ns.1, k, u p)) (Every-impl (IsIn (interval_of b)) (λ n. (interval_of b).high < 2 ^ 128 - 1 → n ≤ (interval_of b).high) (λ n i. i.1) ns.0 g) in
    rw ns.1 (rw (lt-ltb (sum ns.0) (2 ^ 128) (omega (arith, s, l))) (_, refl))

-- a node that wants all its parts, and has a value wherever its parts have, has one where each part has one wherever it is entered
form-fits : (G : ℕ → Ty → Type 0) (V : Outcomes) (D : ℕ → Bool) (env : List Ty) (vals : List Datum) → PositionsAre D V → HaveTypes env vals → (f : Form) (args : List Arg) (T : Ty) (ps : List Part) (bs : List Bounds) →
    form_certain D f bs ≡ true → wants_all f ≡ true → form_rule G env f args T → AllSound args ps → PartsDefined f ps → length bs ≡ length ps → AllShaped f ps bs → Valued (form_value V vals f ps)
form-fits G V D env vals d h (Form.var i) args T ps bs e w r s k l a = form-defined G V D env vals d h (Form.var i) args T ps refl refl r s k
form-fits G V D env vals d h (Form.global n) args T ps bs e w r s k l a = form-defined G V D env vals d h (Form.global n) args T ps e refl r s k
form-fits G V D env vals d h Form.bind args T ps bs e w r s k l a = form-defined G V D env vals d h Form.bind args T ps refl refl r s k
form-fits G V D env vals d h Form.choose args T ps bs e w r s k l a = form-defined G V D env vals d h Form.choose args T ps refl refl r s k
form-fits G V D env vals d h Form.default args T ps bs e w r s k l a = cc
form-fits G V D env vals d h Form.big_union args T ps bs e w r s k l a = form-defined G V D env vals d h Form.big_union args T ps refl refl r s k
form-fits G V D env vals d h (Form.tab rank) args T ps bs e w r s k l a = form-defined G V D env vals d h (Form.tab rank) args T ps refl refl r s k
form-fits G V D env vals d h Form.sum args T ps bs e w r s k l a =
    let s = sounds args (arg [] (types.set_of r.0) ∷ arg (r.0 ∷ []) natural ∷ []) ps r.1 s in
    let n : 2 ≡ length ps = sound-length (arg [] (types.set_of r.0) ∷ arg (r.0 ∷ []) natural ∷ []) ps s in
    let v = (k 0 (omega (arith, n))).0 in
    let m = set-is r.0 v.0 (sound-get (arg [] (types.set_of r.0) ∷ arg (r.0 ∷ []) natural ∷ []) ps 0 (arg [] (types.set_of r.0)) s refl [] v.0 tt v.1) in
    let q : members_value ps ≡ Some m.0 = ap (λ o. o >>= as_set) v.1 ∙ m.1 in
    let bodies = subst (λ o. Every (λ new. Valued (worth ps 1 new)) (map (λ x. x ∷ []) (unwrap_or o []))) q (k 1 (omega (arith, n))) in
    let rs = each-total (λ x. worth ps 1 (x ∷ [])) m.0 (Every-map (λ new. Valued (worth ps 1 new)) (λ x. x ∷ []) m.0 bodies) in
    let loop : loop_values ps ≡ Some rs.0 = ap (λ o. o >>= each (λ x. worth ps 1 (x ∷ []))) q ∙ rs.1 in
    let z = loop-shaped ps bs rs.0 (a 0) (a 1) loop in
    subst (λ o. Valued (o >>= sum_of)) (sym loop)
    (sum-there (entry_at bs 0) (entry_at bs 1) rs.0 (length z.0) (saturated-is ((count_of (entry_at bs 0)).high * (interval_of (entry_at bs 1)).high) e) z.2.1 z.1 (loop-sound r.0 natural ps rs.0 s loop) z.3)
form-fits G V D env vals d h (Form.strict c) args T ps bs e w r s k l a =
    let v = here-valued ps (λ i q. (k i q).0) in
    subst (λ o. Valued (o >>= strict_value c)) (sym v.1)
    (strict-fits c r.0 T bs v.0 e r.2 (has-here r.0 ps v.0 (sounds args (map (arg []) r.0) ps r.1 s) v.1) (here-shaped ps bs v.0 l (λ i w q. (a i).0 w q) v.1))

-- whether part i of those from number j on is certain to have a value
abbrev pub certain_part : Ranges → Context → Term → (j : ℕ) → Parts → (i : ℕ) → Bool
certain_part gs c t j none i = false
certain_part gs c t j (part k u ps) zero = certain (enter_ranges gs c t j) (enter_facts c t j) u
certain_part gs c t j (part k u ps) (suc i) = certain_part gs c t (suc j) ps i

-- where all parts from j on are certain, each is; where some part is, there is one
each-certain : (gs : Ranges) (c : Context) (t : Term) (j : ℕ) (ps : Parts) (i : ℕ) → all_certain gs c t j ps ≡ true → i < count ps → certain_part gs c t j ps i ≡ true
each-certain gs c t j none i h l = absurd (omega (arith, l))
each-certain gs c t j (part k u ps) zero h l = (and_parts (certain (enter_ranges gs c t j) (enter_facts c t j) u) (all_certain gs c t (suc j) ps) h).0
each-certain gs c t j (part k u ps) (suc i) h l = each-certain gs c t (suc j) ps i (and_parts (certain (enter_ranges gs c t j) (enter_facts c t j) u) (all_certain gs c t (suc j) ps) h).1 (omega (arith, l))

one-certain : (gs : Ranges) (c : Context) (t : Term) (j : ℕ) (ps : Parts) → some_certain gs c t j ps ≡ true → (i : ℕ) × (i < count ps) × (certain_part gs c t j ps i ≡ true)
one-certain gs c t j none h = cc
one-certain gs c t j (part k u ps) h = at (λ q. one-certain gs c t (suc j) ps q) (certain (enter_ranges gs c t j) (enter_facts c t j) u) refl h
  where
    at : (some_certain gs c t (suc j) ps ≡ true → (i : ℕ) × (i < count ps) × (certain_part gs c t (suc j) ps i ≡ true)) → (b : Bool) → certain (enter_ranges gs c t j) (enter_facts c t j) u ≡ b → (b || some_certain gs c t (suc j) ps) ≡ true →
        (i : ℕ) × (i < suc (count ps)) × (certain_part gs c t j (part k u ps) i ≡ true)
    at later true e q = (0, omega arith, e)
    at later false e q = let r = later q in (suc r.0, omega (arith, r.1), r.2)

-- each part that is certain to have a value has one at each list of values with which an evaluation of the node comes to it
abbrev pub CertainParts : Ranges → Outcomes → Context → List Datum → Form → Parts → Type 0
CertainParts gs V c vals f ps = (i : ℕ) → i < count ps → certain_part gs c (node f ps) 0 ps i ≡ true → Every (λ new. Valued (worth (part_values V vals ps) i new)) (entry_values f (part_values V vals ps) i)

-- a default is worth its first part, and else its second
default-valued : (V : Outcomes) (vals : List Datum) (ps : List Part) (i : ℕ) → i < 2 → Every (λ new. Valued (worth ps i new)) (entry_values Form.default ps i) → Valued (form_value V vals Form.default ps)
default-valued V vals ps zero l h = let v = h.0 in rw v.1 (_, refl)
default-valued V vals ps (suc zero) l h = at (worth ps 0 []) h
  where
    at : (o : Option Datum) → Every (λ new. Valued (worth ps 1 new)) (otherwise o) → Valued (or_else o (worth ps 1 []))
    at None k = k.0
    at (Some v) k = (v, refl)
default-valued V vals ps (suc (suc i)) l h = absurd (omega (arith, l))

-- a node whose form and parts tell that it has a value
node-defined : (G : ℕ → Ty → Type 0) (V : Outcomes) (gs : Ranges) → OutcomesHave G V → Tells gs.positions V → PositionsAre (is_shaped gs.positions) V → (f : Form) (ps : Parts) (c : Context) (env : List Ty) (vals : List Datum) (T : Ty) (args : List Arg) →
    HaveTypes env vals → PlaceHolds V gs c vals → WellFormed (node f ps) → form_rule G env f args T → parts_typed G env ps args → CertainParts gs V c vals f ps → form_certain (is_shaped gs.positions) f (parts_bounds gs c (node f ps)) ≡ true →
    (a : Bool) → wants_all f ≡ a → (if a then all_certain gs c (node f ps) 0 ps else some_certain gs c (node f ps) 0 ps) ≡ true → Valued (cden V vals (node f ps))
node-defined G V gs g tl d f ps c env vals T args h st wf r t k e true w p =
    form-fits G V (is_shaped gs.positions) env vals d h f args T (part_values V vals ps) (parts_bounds gs c (node f ps)) e w r (parts-sound G V g ps env vals args h t)
    (λ i l. let m : i < count ps = omega (arith, l, length-part_values V vals ps) in k i m (each-certain gs c (node f ps) 0 ps i p m))
    (length-parts_bounds gs c f ps ∙ sym (length-part_values V vals ps))
    (parts-shaped gs V tl f ps c vals wf st)
node-defined G V gs g tl d Form.default ps c env vals T args h st wf r t k e false w p =
    let q = one-certain gs c (node Form.default ps) 0 ps p in
    let n : 2 ≡ length (part_values V vals ps) = sound-length (arg [] T ∷ arg [] T ∷ []) (part_values V vals ps) (sounds args (arg [] T ∷ arg [] T ∷ []) (part_values V vals ps) r (parts-sound G V g ps env vals args h t)) in
    default-valued V vals (part_values V vals ps) q.0 (omega (arith, q.1, n, length-part_values V vals ps)) (k q.0 q.1 q.2)
node-defined G V gs g tl d f ps c env vals T args h st wf r t k e false w p = cc

mutual
  -- a typed term that is certain to have a value has one
  pub certain-defined : (G : ℕ → Ty → Type 0) (V : Outcomes) → OutcomesHave G V → (t : Term) (gs : Ranges) → Tells gs.positions V → PositionsAre (is_shaped gs.positions) V → (c : Context) (env : List Ty) (vals : List Datum) (T : Ty) →
      HaveTypes env vals → PlaceHolds V gs c vals → ctyped G env t T → certain gs c t ≡ true → Valued (cden V vals t)
  certain-defined G V g (node f ps) gs tl d c env vals T h st ty e =
      by-parts (firm (is_shaped gs.positions) c (node f ps)) refl e
      (λ i l p. let w = ways-in G V g c f ps env vals T ty.1 h st.0 (well_formed-typed G env (node f ps) T ty) ty.2 ty.3 i l in
      let u = part-there ps i l in
      Every-join _ (λ new. PlaceHolds V (enter_ranges gs c (node f ps) i) (enter_facts c (node f ps) i) (new ++ vals)) _
      (λ new q k. parts-defined G V g ps gs tl d (node f ps) c 0 env vals ty.1 h ty.3 i i w.0 (omega arith) p w.1 new q.0 k) (entry_values f (part_values V vals ps) i) w.2
      (holds-enter V gs c vals (node f ps) i u.0 tl (well_formed-typed G env (node f ps) T ty) u.1 st))
    where
      by-parts : (b : Bool) → firm (is_shaped gs.positions) c (node f ps) ≡ b → (b || (form_certain (is_shaped gs.positions) f (parts_bounds gs c (node f ps)) && (if wants_all f then all_certain gs c (node f ps) 0 ps else some_certain gs c (node f ps) 0 ps))) ≡ true →
          CertainParts gs V c vals f ps → Valued (cden V vals (node f ps))
      by-parts true z q k = firm-defined G V (is_shaped gs.positions) g d (node f ps) c env vals T h st.0 ty z
      by-parts false z q k =
          let b = and_parts (form_certain (is_shaped gs.positions) f (parts_bounds gs c (node f ps))) (if wants_all f then all_certain gs c (node f ps) 0 ps else some_certain gs c (node f ps) 0 ps) q in
          node-defined G V gs g tl d f ps c env vals T ty.1 h st (well_formed-typed G env (node f ps) T ty) ty.2 ty.3 k b.0 (wants_all f) refl b.1

  parts-defined : (G : ℕ → Ty → Type 0) (V : Outcomes) → OutcomesHave G V → (ps : Parts) (gs : Ranges) → Tells gs.positions V → PositionsAre (is_shaped gs.positions) V → (t : Term) (c : Context) (j : ℕ) (env : List Ty) (vals : List Datum) (args : List Arg) → HaveTypes env vals →
      parts_typed G env ps args → (i n : ℕ) (a : Arg) → n ≡ j + i → certain_part gs c t j ps i ≡ true → slice_get args i ≡ Some a → (new : List Datum) → HaveTypes a.own new →
      PlaceHolds V (enter_ranges gs c t n) (enter_facts c t n) (new ++ vals) → Valued (worth (part_values V vals ps) i new)
  parts-defined G V g none gs tl d t c j env vals args h ty i n a q p e new m k = cc
  parts-defined G V g (part w u ps) gs tl d t c j env vals args h ty zero n a q p e new m k =
      let z : ty.0 ≡ a = same_Some ty.0 a (ap (λ x. slice_get x 0) (sym ty.2) ∙ e) in
      let m' : HaveTypes ty.0.own new = subst (λ x. HaveTypes x.own new) (sym z) m in
      let y : n ≡ j = omega (arith, q) in
      let v = certain-defined G V g u (enter_ranges gs c t j) tl d (enter_facts c t j) (ty.0.own ++ env) (new ++ vals) ty.0.has (has-append ty.0.own env new vals m' h) (subst (λ x. PlaceHolds V (enter_ranges gs c t x) (enter_facts c t x) (new ++ vals)) y k) ty.4 p in
      subst (λ b. Valued (if b then cden V (new ++ vals) u else None)) (sym (eq-eqb (length new) w (has-length ty.0.own new m' ∙ ty.3))) v
  parts-defined G V g (part w u ps) gs tl d t c j env vals args h ty (suc i) n a q p e new m k =
      parts-defined G V g ps gs tl d t c (suc j) env vals ty.1 h ty.5 i n a (omega (arith, q)) p (ap (λ x. slice_get x (suc i)) (sym ty.2) ∙ e) new m k

-- so of a term at the place of a context
pub sound-answer : (c : Ctx) (t : Term) (b : Bool) → b ≡ certain_at c t → b ≡ true → IsDefinedIn c t
unfolding IsDefinedAt
sound-answer c t b e k given V env vals T g h tl st ty =
    certain-defined (instances given) V g t (ranges_of c) tl (λ n q. outcomes-are V n (sym (tl.1 n) ∙ q)) (context_of c) env vals T h st ty (sym e ∙ k)

-- a firm term is certain to have a value
pub firm-certain : (c : Ctx) (t : Term) (b : Bool) → b ≡ certain_at c t → firm_at c t ≡ true → b ≡ true
firm-certain c (node f ps) b e k =
    e ∙ ap (λ x. x || (form_certain (is_shaped (known_shapes c)) f (parts_bounds (ranges_of c) (context_of c) (node f ps)) && (if wants_all f then all_certain (ranges_of c) (context_of c) (node f ps) 0 ps else some_certain (ranges_of c) (context_of c) (node f ps) 0 ps))) k
