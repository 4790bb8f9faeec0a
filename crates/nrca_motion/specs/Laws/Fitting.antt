-- What is told of a node makes that a move may be made there, or that none is left.
use Rattle.std.proofs.Common.{◌≡◌, ℕ, ◌+◌, ◌<◌, ◌≤◌, Bool, true, false, if◌then◌else◌, List, [], ◌∷◌, length, Some, None, refl, sym, ap, subst, ◌∙◌, arith, inl, inr}
use Rattle.std.proofs.lemmas.Bool.{cases_lt, le-ltb}
use Rattle.std.proofs.lemmas.Option.{same_Some}
use Rattle.aql_value.specs.Lists.{Every}
use Rattle.nrca_term.specs.Term.{Term, Parts, Form, node, none, part, plain, form_of, parts_of, child_of, count, binders_of, WellFormed, FormClosed, Closed, PartsClosed}
use Rattle.nrca_term.specs.Nodes.{let_term, if_term, loop_term, tab_term}
use Rattle.nrca_term.specs.Subst.{shift_form, shift_term, shift_parts}
use Rattle.nrca_term.specs.Facts.{Context}
use Rattle.nrca_term.specs.Firm.{firm}
use Rattle.nrca_term.specs.Rules.{LoopOf}
use Rattle.nrca_term.specs.Laws.Entering.{child-counted}
use Rattle.nrca_term.specs.Laws.TypedForm.{top_var-closed}
use Rattle.nrca_rule_laws.specs.Laws.Weights.{weight-shift}
use Rattle.nrca_ranges.specs.Bounds.{Ranges}
use Rattle.nrca_ranges.specs.declared.context.Ctx.{Ctx}
use Rattle.nrca_ranges.specs.Context.{context_of, IsSmallTerm}
use Rattle.nrca_ranges.specs.Shapes.{ranges_of}
use Rattle.nrca_ranges.specs.Entered.{is_shaped}
use Rattle.nrca_ranges.specs.Laws.Entered.{inside-part}
use Rattle.nrca_defined.specs.Defined.{IsDefinedAt}
use Rattle.nrca_motion.specs.declared.moves.MoveRule.{MoveRule}
use Rattle.nrca_motion.specs.declared.moves.MoveRule.TheVariants.{M1, M2, M3, M4}
use Rattle.nrca_motion.specs.declared.fitting.Fit.{Fit}
use Rattle.nrca_motion.specs.Moves.{LoopBody, TabBody, LetBelow, MoveRedex}
use Rattle.nrca_motion.specs.Outside.{HasRoom}
use Rattle.nrca_motion.specs.Laws.Outside.{shift-injective}
use Rattle.nrca_motion.specs.Laws.Rotating.{well_formed-unshift}
use Rattle.nrca_motion.specs.Fitting.{HasLet, IsStrictLet, TellsStrict, HasForm, TellsForm, FitsAt, MayMove, IsRefused, TellsOutside, TellsOut, TellsOperand, TellsMove, IsQuietAt}

-- the variables of a form, outside of variables that it does not use
closed-form : (from by n : ℕ) (f : Form) → from ≤ n → FormClosed (n + by) (shift_form from by f) → FormClosed n f
closed-form from by n (Form.var i) l h =
    elim (cases_lt i from) [
      | inl x ↦ omega (arith, x, l)
      | inr x ↦ let z : i + by < n + by = subst (λ b. (if b then i else i + by) < n + by) (le-ltb i from x) h in omega (arith, z)
    ]
closed-form from by n (Form.global m) l h = tt
closed-form from by n Form.bind l h = tt
closed-form from by n Form.choose l h = tt
closed-form from by n Form.default l h = tt
closed-form from by n Form.big_union l h = tt
closed-form from by n Form.sum l h = tt
closed-form from by n (Form.tab rank) l h = tt
closed-form from by n (Form.strict s) l h = tt

mutual
  -- the variables of a term likewise
  closed-unshift : (from by n : ℕ) (t : Term) → from ≤ n → Closed (n + by) (shift_term from by t) → Closed n t
  closed-unshift from by n (node f ps) l h = (closed-form from by n f l h.0, parts_closed-unshift from by n ps l h.1)

  parts_closed-unshift : (from by n : ℕ) (ps : Parts) → from ≤ n → PartsClosed (n + by) (shift_parts from by ps) → PartsClosed n ps
  parts_closed-unshift from by n none l h = tt
  parts_closed-unshift from by n (part k t ps) l h = (
    closed-unshift (from + k) by (n + k) t (omega (arith, l)) (let z : n + by + k ≡ n + k + by = omega arith in subst (λ m. Closed m (shift_term (from + k) by t)) z h.0),
    parts_closed-unshift from by n ps l h.1,
  )

-- a small term is small outside of variables that it does not use
pub inside-outside : (n k : ℕ) (t u : Term) → t ≡ shift_term 0 k u → IsSmallTerm (n + k) t → IsSmallTerm n u
inside-outside n k t u e h =
    let s = subst (IsSmallTerm (n + k)) e h in
    (closed-unshift 0 k n u (omega arith) s.0, omega (arith, s.1, weight-shift 0 k u))

-- and it has room
pub room-small : (n : ℕ) (t : Term) → WellFormed t → IsSmallTerm n t → HasRoom t
room-small n t w h = omega (arith, h.1, top_var-closed n t w h.0)

-- what is told of a term outside of variables
pub tells-outside : (gs : Ranges) (c : Context) (k : ℕ) (t u : Term) (b : Bool) → WellFormed t → t ≡ shift_term 0 k u →
    (b ≡ true → IsDefinedAt gs c u) → (firm (is_shaped gs.positions) c u ≡ true → b ≡ true) → TellsOutside gs c k t b
tells-outside gs c k t u b w e s f = at b refl
  where
    same : (v : Term) → t ≡ shift_term 0 k v → u ≡ v
    same v g = shift-injective k u v (well_formed-unshift 0 k u (subst WellFormed e w)) (well_formed-unshift 0 k v (subst WellFormed g w)) (sym e ∙ g)

    never : false ≡ true → ⊥
    never q = cc

    at : (d : Bool) → b ≡ d → TellsOutside gs c k t d
    at true q = ((u, e), λ v g. subst (IsDefinedAt gs c) (same v g) (s q))
    at false q = λ v g h. never (sym q ∙ f (ap (firm (is_shaped gs.positions) c) (same v g) ∙ h))

-- a node without a let in a strict part
pub no-strict : (t : Term) (n : ℕ) → count (parts_of t) ≤ n → ((i : ℕ) → i < n → IsStrictLet t i → ⊥) → TellsStrict t None
no-strict t n l h i s = h i (omega (arith, l, child-counted (parts_of t) i (let_term s.2.0 s.2.1) s.2.2)) s

-- a loop over an if with its zero
pub test-form : (f : Form) (z t e u c b y : Term) → LoopOf f z → t ≡ loop_term f e u → u ≡ if_term c b y → y ≡ z → HasForm M1 1 t
test-form f z t e u c b y l h k m = (refl, (f, z, e, c, b, l, h ∙ ap (loop_term f e) (k ∙ ap (if_term c b) m)))

-- a loop over a let
pub let-form : (f : Form) (t e u a b : Term) → LoopBody f 1 → t ≡ loop_term f e u → u ≡ let_term a b → HasForm M2 1 t
let-form f t e u a b l h k = (subst (λ x. LoopBody (form_of x) 1) (sym h) l, (a, b, ap (λ x. child_of (parts_of x) 1) h ∙ ap Some k))

child-behind : (ds : List Term) (k : ℕ) (u : Term) → child_of (plain ds (part k u none)) (length ds) ≡ Some u
child-behind [] k u = refl
child-behind (d ∷ ds) k u = child-behind ds k u

-- a tabulation over a let
pub tab-form : (t u a b : Term) (ds : List Term) (n : ℕ) → t ≡ tab_term ds u → n ≡ length ds → u ≡ let_term a b → HasForm M3 n t
tab-form t u a b ds n h m k = (
  subst (λ x. TabBody (form_of x) n) (sym h) m,
  (a, b, ap (λ x. child_of (parts_of x) n) h ∙ ap (child_of (plain ds (part (length ds) u none))) m ∙ child-behind ds (length ds) u ∙ ap Some k),
)

-- a loop is no tabulation
loop-not-tab : (f : Form) (z : Term) (i : ℕ) → LoopOf f z → TabBody f i → ⊥
loop-not-tab (Form.var n) z i l h = l
loop-not-tab (Form.global n) z i l h = l
loop-not-tab Form.bind z i l h = l
loop-not-tab Form.choose z i l h = l
loop-not-tab Form.default z i l h = l
loop-not-tab Form.big_union z i l h = h
loop-not-tab Form.sum z i l h = h
loop-not-tab (Form.tab rank) z i l h = l
loop-not-tab (Form.strict s) z i l h = l

body-not-tab : (f : Form) (i j : ℕ) → LoopBody f i → TabBody f j → ⊥
body-not-tab (Form.var n) i j l h = l
body-not-tab (Form.global n) i j l h = l
body-not-tab Form.bind i j l h = l
body-not-tab Form.choose i j l h = l
body-not-tab Form.default i j l h = l
body-not-tab Form.big_union i j l h = h
body-not-tab Form.sum i j l h = h
body-not-tab (Form.tab rank) i j l h = l
body-not-tab (Form.strict s) i j l h = l

-- the body of a loop is part 1, that of a tabulation the last one
loop-part : (f : Form) (i : ℕ) → LoopBody f i → i ≡ 1
loop-part Form.big_union i h = h
loop-part Form.sum i h = h
loop-part (Form.var n) i h = absurd h
loop-part (Form.global n) i h = absurd h
loop-part Form.bind i h = absurd h
loop-part Form.choose i h = absurd h
loop-part Form.default i h = absurd h
loop-part (Form.tab rank) i h = absurd h
loop-part (Form.strict s) i h = absurd h

tab-part : (f : Form) (i j : ℕ) → TabBody f i → TabBody f j → i ≡ j
tab-part (Form.tab rank) i j h k = h ∙ sym k
tab-part Form.big_union i j h k = absurd h
tab-part Form.sum i j h k = absurd h
tab-part (Form.var n) i j h k = absurd h
tab-part (Form.global n) i j h k = absurd h
tab-part Form.bind i j h k = absurd h
tab-part Form.choose i j h k = absurd h
tab-part Form.default i j h k = absurd h
tab-part (Form.strict s) i j h k = absurd h

-- an if is no let
if-not-let : (c x y a b : Term) → Some (if_term c x y) ≡ Some (let_term a b) → ⊥
if-not-let c x y a b e = cc

-- so a loop with an if in its body has no let there
test-not-let : (i j : ℕ) (t : Term) → HasForm M1 i t → LoopBody (form_of t) j → HasLet t j → ⊥
test-not-let i j t h l k =
    if-not-let h.1.3 h.1.4 h.1.1 k.0 k.1 (sym (ap (λ x. child_of (parts_of x) 1) h.1.6) ∙ ap (child_of (parts_of t)) (sym (loop-part (form_of t) j l)) ∙ k.2)

test-not-tab : (i j : ℕ) (t : Term) → HasForm M1 i t → TabBody (form_of t) j → ⊥
test-not-tab i j t h k = loop-not-tab h.1.0 h.1.1 j h.1.5 (subst (λ x. TabBody (form_of x) j) h.1.6 k)

-- a node is a left side of one of the three rules alone
form-alone : (R Q : MoveRule) (i j : ℕ) (t : Term) → HasForm R i t → HasForm Q j t → Q ≡ R
form-alone M1 M1 i j t h k = refl
form-alone M1 M2 i j t h k = absurd (test-not-let i j t h k.0 k.1)
form-alone M1 M3 i j t h k = absurd (test-not-tab i j t h k.0)
form-alone M2 M1 i j t h k = absurd (test-not-let j i t k h.0 h.1)
form-alone M2 M2 i j t h k = refl
form-alone M2 M3 i j t h k = absurd (body-not-tab (form_of t) i j h.0 k.0)
form-alone M3 M1 i j t h k = absurd (test-not-tab j i t k h.0)
form-alone M3 M2 i j t h k = absurd (body-not-tab (form_of t) j i k.0 h.0)
form-alone M3 M3 i j t h k = refl
form-alone M1 M4 i j t h k = absurd k
form-alone M2 M4 i j t h k = absurd k
form-alone M3 M4 i j t h k = absurd k
form-alone M4 Q i j t h k = absurd h

-- a tabulation without a let in its body
pub tab-none : (t u : Term) (ds : List Term) → t ≡ tab_term ds u → ((a b : Term) → u ≡ let_term a b → ⊥) → TellsForm t None
tab-none t u ds h n M1 i k = loop-not-tab k.1.0 k.1.1 (length ds) k.1.5 (subst (λ f. TabBody f (length ds)) (sym (ap form_of h) ∙ ap form_of k.1.6) refl)
tab-none t u ds h n M2 i k = subst (λ x. LoopBody (form_of x) i) h k.0
tab-none t u ds h n M3 i k =
    let z : i ≡ length ds = subst (λ x. TabBody (form_of x) i) h k.0 in
    n k.1.0 k.1.1 (same_Some u (let_term k.1.0 k.1.1) (sym (ap (λ x. child_of (parts_of x) i) h ∙ ap (child_of (plain ds (part (length ds) u none))) z ∙ child-behind ds (length ds) u) ∙ k.1.2))
tab-none t u ds h n M4 i k = k

-- the let's or the if's first part, which goes out, has the variables of the body alone
pub body-binders : (R : MoveRule) (i : ℕ) (t body : Term) → HasForm R i t → child_of (parts_of t) i ≡ Some body → binders_of (parts_of body) 0 ≡ 0
body-binders M1 i t body h e =
    let z = same_Some (if_term h.1.3 h.1.4 h.1.1) body (sym (ap (λ x. child_of (parts_of x) 1) h.1.6) ∙ ap (child_of (parts_of t)) (sym h.0) ∙ e) in
    sym (ap (λ x. binders_of (parts_of x) 0) z)
body-binders M2 i t body h e = let z = same_Some (let_term h.1.0 h.1.1) body (sym h.1.2 ∙ e) in sym (ap (λ x. binders_of (parts_of x) 0) z)
body-binders M3 i t body h e = let z = same_Some (let_term h.1.0 h.1.1) body (sym h.1.2 ∙ e) in sym (ap (λ x. binders_of (parts_of x) 0) z)
body-binders M4 i t body h e = absurd h

pub first-inside : (R : MoveRule) (i n k : ℕ) (t body first : Term) → HasForm R i t → WellFormed t → WellFormed body → child_of (parts_of t) i ≡ Some body → child_of (parts_of body) 0 ≡ Some first →
    k ≡ binders_of (parts_of t) i → IsSmallTerm n t → IsSmallTerm (n + k) first
first-inside R i n k t body first h w v e g l s =
    let a = inside-part (n + binders_of (parts_of t) i) body 0 first v g (inside-part n t i body w e s) in
    subst (λ m. IsSmallTerm m first) (let b = body-binders R i t body h e in omega (arith, l, b)) a

-- what has to be defined, u being what goes out
abbrev Needs : MoveRule → Term → Term → List Term → Type 0
Needs M1 t u needs = (e : Term) × (child_of (parts_of t) 0 ≡ Some e) × (needs ≡ e ∷ u ∷ [])
Needs M2 t u needs = needs ≡ u ∷ []
Needs M3 t u needs = needs ≡ u ∷ []
Needs M4 t u needs = ⊥

-- of a left side, what goes out is the first part of the body outside of the body's variables
let-first : (t body first a b : Term) (i j : ℕ) → i ≡ j → child_of (parts_of t) i ≡ Some body → child_of (parts_of body) 0 ≡ Some first → LetBelow t j a b → first ≡ shift_term 0 (binders_of (parts_of t) i) a
let-first t body first a b i j z e g m =
    let y = same_Some body (let_term (shift_term 0 (binders_of (parts_of t) i) a) b) (sym e ∙ subst (λ k. LetBelow t k a b) (sym z) m) in
    same_Some first (shift_term 0 (binders_of (parts_of t) i) a) (sym g ∙ ap (λ x. child_of (parts_of x) 0) y)

goes-out : (R : MoveRule) (i : ℕ) (t body first r : Term) (needs : List Term) → HasForm R i t → child_of (parts_of t) i ≡ Some body → child_of (parts_of body) 0 ≡ Some first → MoveRedex R t r needs →
    (u : Term) × (first ≡ shift_term 0 (binders_of (parts_of t) i) u) × Needs R t u needs
goes-out M1 i t body first r needs h e g m =
    let y = same_Some body (if_term (shift_term 0 1 m.3) m.4 m.1) (sym e ∙ ap (child_of (parts_of t)) h.0 ∙ ap (λ x. child_of (parts_of x) 1) m.6) in
    let k : 1 ≡ binders_of (parts_of t) i = sym (ap (binders_of (parts_of t)) h.0 ∙ ap (λ x. binders_of (parts_of x) 1) m.6) in
    (m.3, same_Some first (shift_term 0 1 m.3) (sym g ∙ ap (λ x. child_of (parts_of x) 0) y) ∙ ap (λ n. shift_term 0 n m.3) k, (m.2, ap (λ x. child_of (parts_of x) 0) m.6, m.8))
goes-out M2 i t body first r needs h e g m =
    (m.1, let-first t body first m.1 m.2 i m.0 (loop-part (form_of t) i h.0 ∙ sym (loop-part (form_of t) m.0 m.3)) e g m.4, m.6)
goes-out M3 i t body first r needs h e g m = (m.1, let-first t body first m.1 m.2 i m.0 (tab-part (form_of t) i m.0 h.0 m.3) e g m.4, m.6)
goes-out M4 i t body first r needs h e g m = absurd h

-- what goes out is firm where all that has to be defined is
firm-out : (gs : Ranges) (c : Context) (R : MoveRule) (t u : Term) (needs : List Term) → Needs R t u needs → Every (λ x. firm (is_shaped gs.positions) c x ≡ true) needs → firm (is_shaped gs.positions) c u ≡ true
firm-out gs c M1 t u needs n h = (subst (Every (λ x. firm (is_shaped gs.positions) c x ≡ true)) n.2 h).1.0
firm-out gs c M2 t u needs n h = (subst (Every (λ x. firm (is_shaped gs.positions) c x ≡ true)) n h).0
firm-out gs c M3 t u needs n h = (subst (Every (λ x. firm (is_shaped gs.positions) c x ≡ true)) n h).0
firm-out gs c M4 t u needs n h = absurd n

-- so a rule is refused whose term does not go out
pub refused-first : (gs : Ranges) (c : Context) (R : MoveRule) (i k : ℕ) (t body first : Term) → HasForm R i t → child_of (parts_of t) i ≡ Some body → child_of (parts_of body) 0 ≡ Some first →
    k ≡ binders_of (parts_of t) i → TellsOutside gs c k first false → IsRefused gs c R t
unfolding IsRefused
refused-first gs c R i k t body first h e g l o = λ r needs m f.
    let u = goes-out R i t body first r needs h e g m in
    o u.0 (u.1 ∙ ap (λ n. shift_term 0 n u.0) (sym l)) (firm-out gs c R t u.0 needs u.2 f)

-- and M1 over an operand that is not firm
pub refused-operand : (gs : Ranges) (c : Context) (t : Term) → ((e : Term) → child_of (parts_of t) 0 ≡ Some e → firm (is_shaped gs.positions) c e ≡ true → ⊥) → IsRefused gs c M1 t
unfolding IsRefused
refused-operand gs c t o = λ r needs m f.
    o m.2 (ap (λ x. child_of (parts_of x) 0) m.6) (subst (Every (λ x. firm (is_shaped gs.positions) c x ≡ true)) m.8 f).0

-- where it goes out, the rule fits
fits-first : (R : MoveRule) (i : ℕ) (t body first u : Term) → HasForm R i t → child_of (parts_of t) i ≡ Some body → child_of (parts_of body) 0 ≡ Some first → first ≡ shift_term 0 (binders_of (parts_of t) i) u → FitsAt R i t
fits-first M1 i t body first u h e g o =
    let y = same_Some body (if_term h.1.3 h.1.4 h.1.1) (sym e ∙ ap (child_of (parts_of t)) h.0 ∙ ap (λ x. child_of (parts_of x) 1) h.1.6) in
    let k : binders_of (parts_of t) i ≡ 1 = ap (binders_of (parts_of t)) h.0 ∙ ap (λ x. binders_of (parts_of x) 1) h.1.6 in
    let c : h.1.3 ≡ shift_term 0 1 u = sym (same_Some first h.1.3 (sym g ∙ ap (λ x. child_of (parts_of x) 0) y)) ∙ o ∙ ap (λ n. shift_term 0 n u) k in
    (h.1.0, h.1.1, h.1.2, u, h.1.4, h.1.5, h.1.6 ∙ ap (λ x. loop_term h.1.0 h.1.2 (if_term x h.1.4 h.1.1)) c)
fits-first M2 i t body first u h e g o =
    let y = same_Some body (let_term h.1.0 h.1.1) (sym e ∙ h.1.2) in
    (h.0, (u, h.1.1, h.1.2 ∙ ap (λ x. Some (let_term x h.1.1)) (sym (same_Some first h.1.0 (sym g ∙ ap (λ x. child_of (parts_of x) 0) y)) ∙ o)))
fits-first M3 i t body first u h e g o =
    let y = same_Some body (let_term h.1.0 h.1.1) (sym e ∙ h.1.2) in
    (h.0, (u, h.1.1, h.1.2 ∙ ap (λ x. Some (let_term x h.1.1)) (sym (same_Some first h.1.0 (sym g ∙ ap (λ x. child_of (parts_of x) 0) y)) ∙ o)))
fits-first M4 i t body first u h e g o = absurd h

-- what has to be defined is, where what goes out is, and under M1 the operand
defined-out : (gs : Ranges) (c : Context) (R : MoveRule) (t u : Term) (needs : List Term) → (R ≡ M1 → (e : Term) → child_of (parts_of t) 0 ≡ Some e → IsDefinedAt gs c e) → Needs R t u needs →
    IsDefinedAt gs c u → Every (IsDefinedAt gs c) needs
defined-out gs c M1 t u needs o n d = subst (Every (IsDefinedAt gs c)) (sym n.2) (o refl n.0 n.1, (d, tt))
defined-out gs c M2 t u needs o n d = subst (Every (IsDefinedAt gs c)) (sym n) (d, tt)
defined-out gs c M3 t u needs o n d = subst (Every (IsDefinedAt gs c)) (sym n) (d, tt)
defined-out gs c M4 t u needs o n d = absurd n

-- the move may be made
pub moves-first : (gs : Ranges) (c : Context) (f : Fit) (k : ℕ) (t body first : Term) → HasForm f.rule f.part t → child_of (parts_of t) f.part ≡ Some body → child_of (parts_of body) 0 ≡ Some first →
    k ≡ binders_of (parts_of t) f.part → (f.rule ≡ M1 → (e : Term) → child_of (parts_of t) 0 ≡ Some e → IsDefinedAt gs c e) → TellsOutside gs c k first true → MayMove gs c t f
moves-first gs c f k t body first h e g l o d = record {
  fits = fits-first f.rule f.part t body first d.0.0 h e g (d.0.1 ∙ ap (λ n. shift_term 0 n d.0.0) l);
  defined = λ r needs m.
      let u = goes-out f.rule f.part t body first r needs h e g m in
      defined-out gs c f.rule t u.0 needs o u.2 (d.1 u.0 (u.1 ∙ ap (λ n. shift_term 0 n u.0) (sym l)));
}

-- a left side of one of the first three rules
redex-form : (R : MoveRule) (t r : Term) (needs : List Term) → (R ≡ M4 → ⊥) → MoveRedex R t r needs → (i : ℕ) × HasForm R i t
redex-form M1 t r needs n m = (1, (refl, (m.0, m.1, m.2, shift_term 0 1 m.3, m.4, m.5, m.6)))
redex-form M2 t r needs n m = (m.0, (m.3, (shift_term 0 (binders_of (parts_of t) m.0) m.1, m.2, m.4)))
redex-form M3 t r needs n m = (m.0, (m.3, (shift_term 0 (binders_of (parts_of t) m.0) m.1, m.2, m.4)))
redex-form M4 t r needs n m = absurd (n refl)

-- where M4 does not fit, and of the other rules one that is refused or none, no move is left
still-but : (gs : Ranges) (c : Context) (t : Term) → TellsStrict t None → ((R : MoveRule) (i : ℕ) → HasForm R i t → IsRefused gs c R t) → IsQuietAt gs c t
unfolding IsRefused
still-but gs c t s k M1 r needs m f = let i = redex-form M1 t r needs (λ e. cc) m in k M1 i.0 i.1 r needs m f
still-but gs c t s k M2 r needs m f = let i = redex-form M2 t r needs (λ e. cc) m in k M2 i.0 i.1 r needs m f
still-but gs c t s k M3 r needs m f = let i = redex-form M3 t r needs (λ e. cc) m in k M3 i.0 i.1 r needs m f
still-but gs c t s k M4 r needs m f = s m.0 (m.3, m.4, (m.1, m.2, m.5))

pub still-none : (gs : Ranges) (c : Context) (t : Term) → TellsStrict t None → TellsForm t None → IsQuietAt gs c t
still-none gs c t s k = still-but gs c t s (λ R i h. absurd (k R i h))

pub still-refused : (gs : Ranges) (c : Context) (t : Term) (f : Fit) → TellsStrict t None → TellsForm t (Some f) → IsRefused gs c f.rule t → IsQuietAt gs c t
still-refused gs c t f s h k = still-but gs c t s (λ R i g. subst (λ Q. IsRefused gs c Q t) (sym (form-alone f.rule R f.part i t h g)) k)

-- the operand of a loop whose body is an if
pub operand-inside : (n : ℕ) (t e : Term) → HasForm M1 1 t → WellFormed t → child_of (parts_of t) 0 ≡ Some e → IsSmallTerm n t → IsSmallTerm n e
operand-inside n t e h w k s =
    let b : binders_of (parts_of t) 0 ≡ 0 = ap (λ x. binders_of (parts_of x) 0) h.1.6 in
    subst (λ m. IsSmallTerm m e) (omega (arith, b)) (inside-part n t 0 e w k s)

pub operand-there : (t : Term) → HasForm M1 1 t → child_of (parts_of t) 0 ≡ None → ⊥
operand-there t h k = never (sym (ap (λ x. child_of (parts_of x) 0) h.1.6) ∙ k)
  where
    never : {x : Term} → Some x ≡ None → ⊥
    never e = cc

pub tells-operand : (k : Ctx) (t e : Term) (b : Bool) → child_of (parts_of t) 0 ≡ Some e → (b ≡ true → IsDefinedAt (ranges_of k) (context_of k) e) → (firm (is_shaped (ranges_of k).positions) (context_of k) e ≡ true → b ≡ true) → TellsOperand k t b
tells-operand k t e b h s f = at b refl
  where
    never : false ≡ true → ⊥
    never q = cc

    at : (d : Bool) → b ≡ d → TellsOperand k t d
    at true q = λ x g. subst (IsDefinedAt (ranges_of k) (context_of k)) (same_Some e x (sym h ∙ g)) (s q)
    at false q = λ x g z. never (sym q ∙ f (ap (firm (is_shaped (ranges_of k).positions) (context_of k)) (same_Some e x (sym h ∙ g)) ∙ z))

-- M1 may be made, or is refused, by what is told of the operand
pub moves-operand : (o : Ctx) (f : Fit) (b : Bool) (k : ℕ) (t body first : Term) → HasForm f.rule f.part t → child_of (parts_of t) f.part ≡ Some body → child_of (parts_of body) 0 ≡ Some first →
    k ≡ binders_of (parts_of t) f.part → f.rule ≡ M1 → TellsOut o k first true → TellsOperand o t b → TellsMove o t f b
moves-operand o f true k t body first h e g l m d x = moves-first (ranges_of o) (context_of o) f k t body first h e g l (λ q. x) d
moves-operand o f false k t body first h e g l m d x = subst (λ R. IsRefused (ranges_of o) (context_of o) R t) (sym m) (refused-operand (ranges_of o) (context_of o) t x)
