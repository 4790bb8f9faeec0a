-- What follows from the definitions of `Entered`.
use Rattle.std.proofs.Common.{◌≡◌, ℕ, zero, suc, ◌+◌, ◌-◌, ◌<◌, ◌≤◌, false, is_some, Option, Some, None, List, [], ◌∷◌, length, map, get_or, refl, sym, ap, subst, ◌∙◌, arith}
use Rattle.std.proofs.lemmas.List.{length-map}
use Rattle.std.specs.List.{slice_get}
use Rattle.nrca_term.specs.Term.{Term, Parts, node, none, part, Form, parts_of, child_of, binders_of, form_of, variable_of, weight_of, WellFormed, Closed, PartsClosed}
use Rattle.nrca_term.specs.Meaning.{at_position}
use Rattle.nrca_term.specs.Facts.{Context, enter_facts}
use Rattle.nrca_ranges.specs.declared.shape.Shape.{Shape}
use Rattle.nrca_ranges.specs.Bounds.{unknown}
use Rattle.nrca_ranges.specs.Context.{IsSmallTerm}
use Rattle.nrca_ranges.specs.Entered.{is_shaped, position_bounds, has_value, shape_there}
use Rattle.nrca_ranges.specs.Shapes.{bounds_of, bounds_there}
use Rattle.nrca_term.specs.Laws.Measure.{parts_weight-child}
use Rattle.nrca_term.specs.Laws.TypedForm.{binders-light}
use Rattle.nrca_term.specs.Laws.WellFormed.{binders-well_formed}

-- a part has its variables among those around the node and those that the node binds there
pub child-closed : (n : ℕ) (ps : Parts) (i : ℕ) (u : Term) → child_of ps i ≡ Some u → PartsClosed n ps → Closed (n + binders_of ps i) u
child-closed n none i u e h = cc
child-closed n (part k t ps) zero u e h = let z : t ≡ u = cc in subst (Closed (n + k)) z h.0
child-closed n (part k t ps) (suc i) u e h = child-closed n ps i u e h.1

-- parts that have theirs so are all the parts
pub parts-closed : (n : ℕ) (ps : Parts) → ((i : ℕ) (u : Term) → child_of ps i ≡ Some u → Closed (n + binders_of ps i) u) → PartsClosed n ps
parts-closed n none h = tt
parts-closed n (part k t ps) h = (h 0 t refl, parts-closed n ps (λ i u e. h (suc i) u e))

-- with the variables of its own place a part weighs no more than its node with its own
pub room-part : (n : ℕ) (t : Term) (i : ℕ) (u : Term) → WellFormed t → child_of (parts_of t) i ≡ Some u → n + weight_of t ≤ 1280000 → n + binders_of (parts_of t) i + weight_of u ≤ 1280000
room-part n (node f ps) i u w e h = omega (arith, h, parts_weight-child ps i u e, binders-well_formed (node f ps) i u w e, binders-light f i)

-- the parts of a node whose variables are among n have theirs so
pub closed-parts : (n : ℕ) (t : Term) → Closed n t → PartsClosed n (parts_of t)
closed-parts n (node f ps) h = h.1

-- a node that is no variable has its variables among n where its parts have
pub closed-node : (n : ℕ) (t : Term) → variable_of (form_of t) ≡ None → PartsClosed n (parts_of t) → Closed n t
closed-node n (node (Form.var i) ps) e h = cc
closed-node n (node f ps) e h = (tt, h)

-- a part has its variables among those of its own place
pub inside-part : (n : ℕ) (t : Term) (i : ℕ) (u : Term) → WellFormed t → child_of (parts_of t) i ≡ Some u → IsSmallTerm n t → IsSmallTerm (n + binders_of (parts_of t) i) u
inside-part n (node f ps) i u w e h =
    (child-closed n ps i u e h.0.1, omega (arith, h.1, parts_weight-child ps i u e, binders-well_formed (node f ps) i u w e, binders-light f i))

-- so it is small in its own context
pub entered-inside : (m n : ℕ) (c d p : Context) (t : Term) (i : ℕ) (u : Term) → WellFormed t → child_of (parts_of t) i ≡ Some u → IsSmallTerm n t → p ≡ enter_facts d t i → d ≡ c → c.depth ≡ n → p.depth ≡ m → IsSmallTerm m u
entered-inside m n c d p t i u w e h f g k l =
    subst (λ z. IsSmallTerm z u) (omega (arith, ap (λ x. x.depth) f, ap (λ x. x.depth) g, k, l)) (inside-part n t i u w e h)

-- the same by the number of variables that the part has
pub part-small : (n b : ℕ) (t : Term) (i : ℕ) (u : Term) → WellFormed t → child_of (parts_of t) i ≡ Some u → IsSmallTerm n t → b ≡ binders_of (parts_of t) i → IsSmallTerm (n + b) u
part-small n b t i u w e h z = subst (λ m. IsSmallTerm (n + m) u) (sym z) (inside-part n t i u w e h)

-- position n is entry n - 1 of the list
pub position-at : {A : Type 0} (xs : List A) (n : ℕ) → 1 ≤ n → at_position xs n ≡ slice_get xs (n - 1)
position-at xs zero l = absurd (omega (arith, l))
position-at xs (suc n) l = let z : n ≡ suc n - 1 = omega arith in ap (slice_get xs) z

-- there is no position 0, and none past the list's end
pub no-position : {A : Type 0} (xs : List A) (n : ℕ) → (1 ≤ n → length xs < n) → at_position xs n ≡ None
no-position xs zero h = refl
no-position xs (suc n) h = past xs n (omega (arith, h (omega arith)))
  where
    past : {A : Type 0} (xs : List A) (n : ℕ) → length xs ≤ n → slice_get xs n ≡ None
    past [] n l = refl
    past (x ∷ xs) zero l = absurd (omega (arith, l))
    past (x ∷ xs) (suc n) l = past xs n (omega (arith, l))

-- what is known of a position, from the entry of the list
entry-mapped : (xs : List (Option Shape)) (i : ℕ) (o : Option Shape) → i < length xs → o ≡ get_or xs i o → slice_get (map bounds_there xs) i ≡ Some (bounds_there o)
entry-mapped [] i o l e = absurd (omega (arith, l))
entry-mapped (x ∷ xs) zero o l e = ap (λ y. Some (bounds_there y)) (sym e)
entry-mapped (x ∷ xs) (suc i) o l e = entry-mapped xs i o (omega (arith, l)) e

position-mapped : (xs : List (Option Shape)) (n : ℕ) (o : Option Shape) → 1 ≤ n → n ≤ length xs → o ≡ get_or xs (n - 1) o → at_position (map bounds_there xs) n ≡ Some (bounds_there o)
position-mapped xs n o l m e = position-at (map bounds_there xs) n l ∙ entry-mapped xs (n - 1) o (omega (arith, l, m)) e

position-missing : (xs : List (Option Shape)) (n : ℕ) → (1 ≤ n → length xs < n) → at_position (map bounds_there xs) n ≡ None
position-missing xs n h = no-position (map bounds_there xs) n (λ l. omega (arith, h l, length-map xs bounds_there))

pub shaped-there : (xs : List (Option Shape)) (n : ℕ) (o : Option Shape) → 1 ≤ n → n ≤ length xs → o ≡ get_or xs (n - 1) o → is_some o ≡ is_shaped (map bounds_there xs) n
shaped-there xs n o l m e = at o ∙ ap has_value (sym (position-mapped xs n o l m e))
  where
    at : (o : Option Shape) → is_some o ≡ has_value (Some (bounds_there o))
    at None = refl
    at (Some s) = refl

pub shaped-missing : (xs : List (Option Shape)) (n : ℕ) → (1 ≤ n → length xs < n) → false ≡ is_shaped (map bounds_there xs) n
shaped-missing xs n h = ap has_value (sym (position-missing xs n h))

pub bounds-there : (xs : List (Option Shape)) (n : ℕ) (o : Option Shape) (s : Shape) → 1 ≤ n → n ≤ length xs → o ≡ get_or xs (n - 1) o → o ≡ Some s → bounds_of s ≡ position_bounds (map bounds_there xs) n
bounds-there xs n o s l m e k = ap (λ x. shape_there (Some (bounds_there x))) (sym k) ∙ ap shape_there (sym (position-mapped xs n o l m e))

pub bounds-none : (xs : List (Option Shape)) (n : ℕ) (o : Option Shape) → 1 ≤ n → n ≤ length xs → o ≡ get_or xs (n - 1) o → o ≡ None → unknown ≡ position_bounds (map bounds_there xs) n
bounds-none xs n o l m e k = ap (λ x. shape_there (Some (bounds_there x))) (sym k) ∙ ap shape_there (sym (position-mapped xs n o l m e))

pub bounds-missing : (xs : List (Option Shape)) (n : ℕ) → (1 ≤ n → length xs < n) → unknown ≡ position_bounds (map bounds_there xs) n
bounds-missing xs n h = ap shape_there (sym (position-missing xs n h))
