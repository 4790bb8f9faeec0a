-- A variable put in for another keeps the turns; a let's body that goes out past some variables keeps its value and its turns.
use Rattle.std.proofs.Common.{◌≡◌, ℕ, zero, suc, ◌+◌, ◌-◌, ◌≤◌, nat_eq, List, [], ◌∷◌, ◌++◌, length, Some, refl, sym, ap, ◌∙◌, arith, append_assoc, inl, inr, nat_lt, if◌then◌else◌}
use Rattle.std.specs.List.{slice_get}
use Rattle.std.proofs.lemmas.Bool.{cases_lt, cases_Bool, lt-ltb, le-ltb}
use Rattle.aql_value.specs.Datum.{Datum}
use Rattle.aql_value.specs.Laws.Lists.{Every-impl, slice_get-append_right}
use Rattle.aql_value.specs.Partial.{total}
use Rattle.aql_value.specs.Laws.Partial.{total-ext}
use Rattle.nrca_term.specs.Term.{Term, Parts, node, none, part, Form, count, form_binders, WellFormed, PartsWellFormed, LeafIsBare}
use Rattle.nrca_term.specs.Nodes.{variable}
use Rattle.nrca_term.specs.Meaning.{Outcomes, Part, at_length, cden, part_values}
use Rattle.nrca_term.specs.Places.{entry_values}
use Rattle.nrca_term.specs.Turns.{own_turns, settle, parts_settle}
use Rattle.nrca_term.specs.Subst.{shift_form, shift_term, shift_parts, subst_var, subst_node, subst_term, subst_parts}
use Rattle.nrca_term.specs.Laws.Shifting.{at_length-ext, cden-shift_term, under}
use Rattle.nrca_term.specs.Laws.Substituting.{cden-subst_term}
use Rattle.nrca_term.specs.Laws.TurnsShift.{settle-shift_term}
use Rattle.nrca_term.specs.Laws.Entering.{entered-lengths, length-part_values}
use Rattle.nrca_term.specs.Laws.WellFormed.{well_formed-shift}
use Rattle.nrca_motion.specs.Moves.{rotate_term}

-- the own variables of a part under a shift
binders-shift : (from by : ℕ) (f : Form) (i : ℕ) → form_binders f i ≡ form_binders (shift_form from by f) i
binders-shift from by (Form.var n) i = refl
binders-shift from by (Form.global n) i = refl
binders-shift from by Form.bind zero = refl
binders-shift from by Form.bind (suc i) = refl
binders-shift from by Form.choose i = refl
binders-shift from by Form.default i = refl
binders-shift from by Form.big_union i = refl
binders-shift from by Form.sum i = refl
binders-shift from by (Form.tab rank) i = refl
binders-shift from by (Form.strict s) i = refl

-- parts whose shift is none
unshifted : (from by : ℕ) (ps : Parts) → shift_parts from by ps ≡ none → ps ≡ none
unshifted from by none h = refl
unshifted from by (part k t ps) h = cc

-- a leaf whose shift has no parts has none
bare-unshift : (from by : ℕ) (f : Form) (ps : Parts) → LeafIsBare (shift_form from by f) (shift_parts from by ps) → LeafIsBare f ps
bare-unshift from by (Form.var i) ps h = unshifted from by ps h
bare-unshift from by (Form.global n) ps h = unshifted from by ps h
bare-unshift from by Form.bind ps h = tt
bare-unshift from by Form.choose ps h = tt
bare-unshift from by Form.default ps h = tt
bare-unshift from by Form.big_union ps h = tt
bare-unshift from by Form.sum ps h = tt
bare-unshift from by (Form.tab rank) ps h = tt
bare-unshift from by (Form.strict s) ps h = tt

mutual
  -- a term whose shift is well formed
  pub well_formed-unshift : (from by : ℕ) (t : Term) → WellFormed (shift_term from by t) → WellFormed t
  well_formed-unshift from by (node f ps) h = (bare-unshift from by f ps h.0, parts_well_formed-unshift from by f 0 ps h.1)

  parts_well_formed-unshift : (from by : ℕ) (f : Form) (i : ℕ) (ps : Parts) → PartsWellFormed (shift_form from by f) i (shift_parts from by ps) → PartsWellFormed f i ps
  parts_well_formed-unshift from by f i none h = tt
  parts_well_formed-unshift from by f i (part k t ps) h = (h.0 ∙ sym (binders-shift from by f i), well_formed-unshift (from + k) by t h.1, parts_well_formed-unshift from by f (suc i) ps h.2)

-- what the parts are worth where a term with a value is put in
part_values-put : (V : Outcomes) (pre post : List Datum) (v : Datum) (s : Term) → cden V (pre ++ post) s ≡ Some v → (ps : Parts) →
    part_values V (pre ++ post) (subst_parts (length pre) s ps) ≡ part_values V (pre ++ (v ∷ post)) ps
part_values-put V pre post v s h none = refl
part_values-put V pre post v s h (part k t ps) =
    ap (λ p. p ∷ part_values V (pre ++ post) (subst_parts (length pre) s ps))
    (at_length-ext k _ _ (λ vs e.
    ap (λ n. cden V (vs ++ (pre ++ post)) (subst_term n (shift_term 0 k s) t)) (under vs pre k e)
    ∙ ap (λ l. cden V l (subst_term (length (vs ++ pre)) (shift_term 0 k s) t)) (sym (append_assoc vs pre post))
    ∙ cden-subst_term V (vs ++ pre) post v (shift_term 0 k s)
    (ap (λ l. cden V l (shift_term 0 k s)) (append_assoc vs pre post) ∙ ap (λ n. cden V (vs ++ (pre ++ post)) (shift_term 0 n s)) (sym e) ∙ cden-shift_term V [] vs (pre ++ post) s ∙ h) t
    ∙ ap (λ l. cden V l t) (append_assoc vs pre (v ∷ post))))
    ∙ ap (λ l. at_length k (λ vs. cden V (vs ++ (pre ++ (v ∷ post))) t) ∷ l) (part_values-put V pre post v s h ps)

-- a variable takes no turns, whatever is put in
turns-var : (V : Outcomes) (vals : List Datum) (at j i : ℕ) → settle V vals (subst_var at (variable j) i) ≡ 0
turns-var V vals at j i =
    elim (cases_lt i at) [
      | inl l ↦ rw (lt-ltb i at l) refl
      | inr l ↦ rw (le-ltb i at l) (elim (cases_Bool (nat_eq i at)) [
        | inl e ↦ rw e refl
        | inr e ↦ rw e refl
      ])
    ]

-- a leaf takes none
bare-turns : (V : Outcomes) (vals : List Datum) (i : ℕ) (ps : Parts) → ps ≡ none → settle V vals (node (Form.var i) ps) ≡ 0
bare-turns V vals i ps e = ap (λ q. settle V vals (node (Form.var i) q)) e

-- a node, from its parts
turns-node : (V : Outcomes) (pre post : List Datum) (v : Datum) (j : ℕ) (f : Form) (ps : Parts) → LeafIsBare f ps →
    own_turns f (part_values V (pre ++ post) (subst_parts (length pre) (variable j) ps)) + parts_settle V (pre ++ post) f (part_values V (pre ++ post) (subst_parts (length pre) (variable j) ps)) 0 (subst_parts (length pre) (variable j) ps)
    ≡ settle V (pre ++ (v ∷ post)) (node f ps) →
    settle V (pre ++ post) (subst_node (length pre) (variable j) f (subst_parts (length pre) (variable j) ps)) ≡ settle V (pre ++ (v ∷ post)) (node f ps)
turns-node V pre post v j (Form.var i) ps b e = turns-var V (pre ++ post) (length pre) j i ∙ sym (bare-turns V (pre ++ (v ∷ post)) i ps b)
turns-node V pre post v j (Form.global n) ps b e = e
turns-node V pre post v j Form.bind ps b e = e
turns-node V pre post v j Form.choose ps b e = e
turns-node V pre post v j Form.default ps b e = e
turns-node V pre post v j Form.big_union ps b e = e
turns-node V pre post v j Form.sum ps b e = e
turns-node V pre post v j (Form.tab rank) ps b e = e
turns-node V pre post v j (Form.strict s) ps b e = e

mutual
  -- a variable put in keeps the turns
  pub settle-put : (V : Outcomes) (pre post : List Datum) (v : Datum) (j : ℕ) → cden V (pre ++ post) (variable j) ≡ Some v → (t : Term) → WellFormed t →
      settle V (pre ++ post) (subst_term (length pre) (variable j) t) ≡ settle V (pre ++ (v ∷ post)) t
  settle-put V pre post v j h (node f ps) w =
      turns-node V pre post v j f ps w.0
      (ap (λ x. own_turns f x + parts_settle V (pre ++ post) f x 0 (subst_parts (length pre) (variable j) ps)) (part_values-put V pre post v (variable j) h ps)
      ∙ ap (λ n. own_turns f (part_values V (pre ++ (v ∷ post)) ps) + n)
      (parts-put V pre post v j h f (part_values V (pre ++ (v ∷ post)) ps) 0 ps w.1 (omega (arith, length-part_values V (pre ++ (v ∷ post)) ps))))

  parts-put : (V : Outcomes) (pre post : List Datum) (v : Datum) (j : ℕ) → cden V (pre ++ post) (variable j) ≡ Some v → (f : Form) (worths : List Part) (i : ℕ) (ps : Parts) →
      PartsWellFormed f i ps → i + count ps ≤ length worths →
      parts_settle V (pre ++ post) f worths i (subst_parts (length pre) (variable j) ps) ≡ parts_settle V (pre ++ (v ∷ post)) f worths i ps
  parts-put V pre post v j h f worths i none w l = refl
  parts-put V pre post v j h f worths i (part k t ps) w l =
      ap (λ n. n + parts_settle V (pre ++ post) f worths (suc i) (subst_parts (length pre) (variable j) ps))
      (total-ext _ _ (entry_values f worths i) (Every-impl (λ vs. length vs ≡ form_binders f i) (λ vs. settle V (vs ++ (pre ++ post)) (subst_term (length pre + k) (shift_term 0 k (variable j)) t) ≡ settle V (vs ++ (pre ++ (v ∷ post))) t) (λ vs e.
      ap (λ n. settle V (vs ++ (pre ++ post)) (subst_term n (shift_term 0 k (variable j)) t)) (under vs pre k (e ∙ sym w.0))
      ∙ ap (λ x. settle V x (subst_term (length (vs ++ pre)) (shift_term 0 k (variable j)) t)) (sym (append_assoc vs pre post))
      ∙ settle-put V (vs ++ pre) post v (shifted k)
      (ap (λ x. cden V x (shift_term 0 k (variable j))) (append_assoc vs pre post) ∙ ap (λ n. cden V (vs ++ (pre ++ post)) (shift_term 0 n (variable j))) (w.0 ∙ sym e) ∙ cden-shift_term V [] vs (pre ++ post) (variable j) ∙ h) t w.1
      ∙ ap (λ x. settle V x t) (append_assoc vs pre (v ∷ post))) (entry_values f worths i) (entered-lengths f worths i (omega (arith, l)))))
      ∙ ap (λ n. total (λ vs. settle V (vs ++ (pre ++ (v ∷ post))) t) (entry_values f worths i) + n) (parts-put V pre post v j h f worths (suc i) ps w.2 (omega (arith, l)))
    where
      shifted : ℕ → ℕ
      shifted k = if nat_lt j 0 then j else j + k

-- the value past the new ones
past : (new vals : List Datum) (v : Datum) → slice_get (new ++ (v ∷ vals)) (length new) ≡ Some v
past new vals v = slice_get-append_right new (v ∷ vals) (length new) (omega arith) ∙ (let z : length new - length new ≡ 0 = omega arith in ap (slice_get (v ∷ vals)) z)

-- a let's body, its let gone out: the part's own values first, then the let's value, then the others
pub cden-rotated : (V : Outcomes) (new vals : List Datum) (v : Datum) (b : Term) → cden V (new ++ (v ∷ vals)) (rotate_term (length new) b) ≡ cden V (v ∷ (new ++ vals)) b
cden-rotated V new vals v b =
    cden-subst_term V [] (new ++ (v ∷ vals)) v (variable (length new)) (past new vals v) (shift_term (suc (length new)) 1 b)
    ∙ cden-shift_term V (v ∷ new) (v ∷ []) vals b

-- its turns likewise
pub settle-rotated : (V : Outcomes) (new vals : List Datum) (v : Datum) (b : Term) → WellFormed b → settle V (new ++ (v ∷ vals)) (rotate_term (length new) b) ≡ settle V (v ∷ (new ++ vals)) b
settle-rotated V new vals v b w =
    settle-put V [] (new ++ (v ∷ vals)) v (length new) (past new vals v) (shift_term (suc (length new)) 1 b) (well_formed-shift (suc (length new)) 1 b w)
    ∙ settle-shift_term V (v ∷ new) (v ∷ []) vals b w
