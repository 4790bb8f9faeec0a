-- Each `Core` is a well-formed term, and well-formedness goes down to the parts and through shifting.
use Rattle.std.proofs.Common.{◌≡◌, ℕ, zero, suc, ◌+◌, ◌<◌, Bool, List, [], ◌∷◌, length, map, Some, refl, sym, ap, ◌∙◌, subst, arith}
use Rattle.std.proofs.lemmas.Bool.{lt-ltb, le-ltb}
use Rattle.aql_value.specs.Lists.{Every}
use Rattle.aql_value.specs.Strict.{Strict}
use Rattle.nrca_term.specs.declared.term.Core.{Core}
use Rattle.nrca_term.specs.declared.term.Terms.{Terms}
use Rattle.nrca_term.specs.declared.term.Core.TheOpen.{Core-F, Terms-F}
use Rattle.nrca_term.specs.declared.term.Core.TheFolds.{ind-Core, fold-roll-Core, fold-Terms, fold-roll-Terms, map-Core, map-Terms}
use Rattle.nrca_term.specs.declared.term.Core.TheViews.{roll-Core, roll-Terms}
use Rattle.nrca_term.specs.Term.{Term, Parts, node, none, part, plain, Form, form_of, parts_of, child_of, count, binders_of, form_binders, LeafIsBare, WellFormed, PartsWellFormed}
use Rattle.nrca_term.specs.Subst.{shift_form, shift_term, shift_parts}
use Rattle.nrca_term.specs.View.{term_of, node_term, list_of}

pub well_formed-child : (t : Term) (i : ℕ) (u : Term) → WellFormed t → child_of (parts_of t) i ≡ Some u → WellFormed u
well_formed-child (node f ps) i u h e = go 0 ps i h.1 e
  where
    go : (j : ℕ) (ps : Parts) (i : ℕ) → PartsWellFormed f j ps → child_of ps i ≡ Some u → WellFormed u
    go j none i k e = cc
    go j (part n t ps) zero k e = let z : t ≡ u = cc in subst WellFormed z k.1
    go j (part n t ps) (suc i) k e = go (suc j) ps i k.2 e

-- a part has the variables that its form binds there
pub binders-well_formed : (t : Term) (i : ℕ) (u : Term) → WellFormed t → child_of (parts_of t) i ≡ Some u → binders_of (parts_of t) i ≡ form_binders (form_of t) i
binders-well_formed (node f ps) i u h e = go 0 ps i h.1 e ∙ (let z : 0 + i ≡ i = omega arith in ap (form_binders f) z)
  where
    go : (j : ℕ) (ps : Parts) (i : ℕ) → PartsWellFormed f j ps → child_of ps i ≡ Some u → binders_of ps i ≡ form_binders f (j + i)
    go j none i k e = cc
    go j (part n t ps) zero k e = k.0 ∙ (let z : j ≡ j + 0 = omega arith in ap (form_binders f) z)
    go j (part n t ps) (suc i) k e = go (suc j) ps i k.2 e ∙ (let z : suc j + i ≡ j + suc i = omega arith in ap (form_binders f) z)

-- below the number of parts the part has the variables that the form binds there
pub binders-there : (t : Term) (i : ℕ) → WellFormed t → i < count (parts_of t) → binders_of (parts_of t) i ≡ form_binders (form_of t) i
binders-there (node f ps) i h l = go 0 ps i h.1 l ∙ (let z : 0 + i ≡ i = omega arith in ap (form_binders f) z)
  where
    go : (j : ℕ) (ps : Parts) (i : ℕ) → PartsWellFormed f j ps → i < count ps → binders_of ps i ≡ form_binders f (j + i)
    go j none i k l = absurd (omega (arith, l))
    go j (part n t ps) zero k l = k.0 ∙ (let z : j ≡ j + 0 = omega arith in ap (form_binders f) z)
    go j (part n t ps) (suc i) k l = go (suc j) ps i k.2 (omega (arith, l)) ∙ (let z : suc j + i ≡ j + suc i = omega arith in ap (form_binders f) z)

form_binders-shift : (from by : ℕ) (f : Form) (i : ℕ) → form_binders (shift_form from by f) i ≡ form_binders f i
form_binders-shift from by (Form.var n) i = refl
form_binders-shift from by (Form.global n) i = refl
form_binders-shift from by Form.bind i = refl
form_binders-shift from by Form.choose i = refl
form_binders-shift from by Form.default i = refl
form_binders-shift from by Form.big_union i = refl
form_binders-shift from by Form.sum i = refl
form_binders-shift from by (Form.tab rank) i = refl
form_binders-shift from by (Form.strict s) i = refl

leaf-shift : (from by : ℕ) (f : Form) (ps : Parts) → LeafIsBare f ps → LeafIsBare (shift_form from by f) (shift_parts from by ps)
leaf-shift from by (Form.var n) ps h = ap (shift_parts from by) h
leaf-shift from by (Form.global n) ps h = ap (shift_parts from by) h
leaf-shift from by Form.bind ps h = tt
leaf-shift from by Form.choose ps h = tt
leaf-shift from by Form.default ps h = tt
leaf-shift from by Form.big_union ps h = tt
leaf-shift from by Form.sum ps h = tt
leaf-shift from by (Form.tab rank) ps h = tt
leaf-shift from by (Form.strict s) ps h = tt

mutual
  pub well_formed-shift : (from by : ℕ) (t : Term) → WellFormed t → WellFormed (shift_term from by t)
  well_formed-shift from by (node f ps) h = (leaf-shift from by f ps h.0, parts_well_formed-shift from by f 0 ps h.1)

  parts_well_formed-shift : (from by : ℕ) (f : Form) (i : ℕ) (ps : Parts) → PartsWellFormed f i ps → PartsWellFormed (shift_form from by f) i (shift_parts from by ps)
  parts_well_formed-shift from by f i none h = tt
  parts_well_formed-shift from by f i (part k t ps) h =
      (h.0 ∙ sym (form_binders-shift from by f i), well_formed-shift (from + k) by t h.1, parts_well_formed-shift from by f (suc i) ps h.2)

-- parts in a row that bind nothing
plain-well_formed : (f : Form) (i : ℕ) (ts : List Term) (ps : Parts) → ((j : ℕ) → j < length ts → form_binders f (i + j) ≡ 0) → Every WellFormed ts → PartsWellFormed f (i + length ts) ps →
    PartsWellFormed f i (plain ts ps)
plain-well_formed f i [] ps z h k = let e : i + 0 ≡ i = omega arith in subst (λ n. PartsWellFormed f n ps) e k
plain-well_formed f i (t ∷ ts) ps z h k = (
  (let e : i + 0 ≡ i = omega arith in sym (z 0 (omega arith)) ∙ ap (form_binders f) e),
  h.0,
  plain-well_formed f (suc i) ts ps (λ j l. (let e : suc i + j ≡ i + suc j = omega arith in ap (form_binders f) e) ∙ z (suc j) (omega arith)) h.1
      (let e : i + suc (length ts) ≡ suc i + length ts = omega arith in subst (λ n. PartsWellFormed f n ps) e k),
)

list_term : Terms → List Term
list_term ts = fold-Terms Term (List Term) node_term list_of ts

-- the parts of a form that evaluates every part
pub strict-plain : (s : Strict) (i : ℕ) (ts : List Term) (ps : Parts) → Every WellFormed ts → PartsWellFormed (Form.strict s) (i + length ts) ps → PartsWellFormed (Form.strict s) i (plain ts ps)
strict-plain s i ts ps h k = plain-well_formed (Form.strict s) i ts ps (λ j l. refl) h k

tab-well_formed : (ts : List Term) (b : Term) → Every WellFormed ts → WellFormed b → WellFormed (node (Form.tab (length ts)) (plain ts (part (length ts) b none)))
tab-well_formed ts b h k = (
  tt,
  plain-well_formed (Form.tab (length ts)) 0 ts (part (length ts) b none)
      (λ j l. let e : 0 + j ≡ j = omega arith in ap (form_binders (Form.tab (length ts))) e ∙ rw (lt-ltb j (length ts) l) refl) h
      ((let e : 0 + length ts ≡ length ts = omega arith in sym (ap (form_binders (Form.tab (length ts))) e ∙ rw (le-ltb (length ts) (length ts) (omega arith)) refl)), k, tt),
)

held-Core : {A B : Type 0} → (y : Core-F A B) (f : A → Core) (g : B → Terms) → ((a : A) → WellFormed (term_of (f a))) → ((b : B) → Every WellFormed (list_term (g b))) →
    WellFormed (node_term (map-Core Core Terms Term (List Term) term_of list_term (map-Core A B Core Terms f g y)))
held-Core (Core-F.Var i) f g h k = (refl, tt)
held-Core (Core-F.Global n) f g h k = (refl, tt)
held-Core (Core-F.Nat n) f g h k = (tt, tt)
held-Core (Core-F.Bool b) f g h k = (tt, tt)
held-Core (Core-F.Text s) f g h k = (tt, tt)
held-Core Core-F.Bottom f g h k = (tt, tt)
held-Core Core-F.Empty f g h k = (tt, tt)
held-Core (Core-F.Let a b) f g h k = (tt, (refl, h a.value, (refl, h b.value, tt)))
held-Core (Core-F.If c a b) f g h k = (tt, (refl, h c.value, (refl, h a.value, (refl, h b.value, tt))))
held-Core (Core-F.Default a b) f g h k = (tt, (refl, h a.value, (refl, h b.value, tt)))
held-Core (Core-F.Arith op a b) f g h k = (tt, (refl, h a.value, (refl, h b.value, tt)))
held-Core (Core-F.Compare op a b) f g h k = (tt, (refl, h a.value, (refl, h b.value, tt)))
held-Core (Core-F.Union a b) f g h k = (tt, (refl, h a.value, (refl, h b.value, tt)))
held-Core (Core-F.BigUnion a b) f g h k = (tt, (refl, h a.value, (refl, h b.value, tt)))
held-Core (Core-F.Sum a b) f g h k = (tt, (refl, h a.value, (refl, h b.value, tt)))
held-Core (Core-F.Proj at of a) f g h k = (tt, (refl, h a.value, tt))
held-Core (Core-F.Single a) f g h k = (tt, (refl, h a.value, tt))
held-Core (Core-F.Gen a) f g h k = (tt, (refl, h a.value, tt))
held-Core (Core-F.Get a) f g h k = (tt, (refl, h a.value, tt))
held-Core (Core-F.Dim rank a) f g h k = (tt, (refl, h a.value, tt))
held-Core (Core-F.Index rank a) f g h k = (tt, (refl, h a.value, tt))
held-Core (Core-F.Tuple ts) f g h k = (tt, strict-plain Strict.tuple 0 (list_term (g ts)) none (k ts) tt)
held-Core (Core-F.Tab ts b) f g h k = tab-well_formed (list_term (g ts)) (term_of (f b.value)) (k ts) (h b.value)
held-Core (Core-F.Sub a ts) f g h k = (tt, (refl, h a.value, strict-plain Strict.sub 1 (list_term (g ts)) none (k ts) tt))
held-Core (Core-F.Literal ds cs) f g h k = (tt, strict-plain (Strict.literal (length (list_term (g ds)))) 0 (list_term (g ds)) (plain (list_term (g cs)) none) (k ds) (strict-plain (Strict.literal (length (list_term (g ds)))) (0 + length (list_term (g ds))) (list_term (g cs)) none (k cs) tt))

held-Terms : {A B : Type 0} → (y : Terms-F A B) (f : A → Core) (g : B → Terms) → ((a : A) → WellFormed (term_of (f a))) →
    Every WellFormed (list_of (map-Terms Core Terms Term (List Term) term_of list_term (map-Terms A B Core Terms f g y)))
held-Terms {A = A} y f g h = all y.0.items
  where
    all : (ts : List A) → Every WellFormed (map term_of (map f ts))
    all [] = tt
    all (t ∷ ts) = (h t, all ts)

-- each `Core` is a well-formed term
pub well_formed-Core : (c : Core) → WellFormed (term_of c)
unfolding list_term
well_formed-Core c =
    ind-Core (λ c. WellFormed (term_of c)) (λ ts. Every WellFormed (list_term ts))
    (λ x y e. subst (λ x. WellFormed (term_of (roll-Core x))) e
    (subst WellFormed (sym (fold-roll-Core Term (List Term) node_term list_of (map-Core _ _ Core Terms (λ a. a.0) (λ a. a.0) y)))
    (held-Core y (λ a. a.0) (λ a. a.0) (λ a. a.1) (λ a. a.1))))
    (λ x y e. subst (λ x. Every WellFormed (list_term (roll-Terms x))) e
    (subst (Every WellFormed) (sym (fold-roll-Terms Term (List Term) node_term list_of (map-Terms _ _ Core Terms (λ a. a.0) (λ a. a.0) y)))
    (held-Terms y (λ a. a.0) (λ a. a.0) (λ a. a.1))))
    c
