-- A term with valid constants, at outcomes and variables that are values of the language, is worth a value of the language.
use Rattle.std.proofs.Common.{◌≡◌, ℕ, zero, suc, ◌<◌, ◌^◌, Bool, true, false, nat_lt, List, [], ◌∷◌, ◌++◌, map, take, Option, Some, None, option_to_list, unwrap_or, refl, subst, ◌∙◌, arith, if◌then◌else◌}
use Rattle.std.specs.Cmp.Lexicographic.{pointwise}
use Rattle.std.proofs.lemmas.Bool.{and_parts, ltb-true}
use Rattle.aql_value.specs.Datum.{Datum, natural}
use Rattle.aql_value.specs.Indices.{indices}
use Rattle.aql_value.specs.Laws.RowMajor.{indices_below}
use Rattle.aql_value.specs.Lists.{Every}
use Rattle.aql_value.specs.Laws.Lists.{Every-impl, Every-append, Every-get, Every-onto, Every-take}
use Rattle.aql_value.specs.Operations.{as_natural, as_set, union_all, sum_of, array_of, push_index}
use Rattle.aql_value.specs.Partial.{◌>>=◌, each, or_else}
use Rattle.aql_value.specs.Laws.Partial.{then-is, each-values}
use Rattle.aql_value.specs.Strict.{strict_value}
use Rattle.aql_value.specs.Valid.{IsValue}
use Rattle.aql_value.specs.Laws.ValidLaws.{natural-valid, set-valid, union_all-valid, sum_of-valid, array_of-valid, strict-valid}
use Rattle.nrca_term.specs.Term.{Term, Parts, node, none, part, Form, child_of, parts_of}
use Rattle.nrca_term.specs.Meaning.{Outcomes, Part, worth, here, form_value, test_value, members_value, loop_values, bounds_value, cden, part_values}
use Rattle.nrca_term.specs.Places.{branch, otherwise, indices_of, entry_values, entered_in, reach}
use Rattle.nrca_term.specs.Laws.Contexts.{reach-induction}
use Rattle.nrca_term.specs.Laws.Sound.{at_length-value}
use Rattle.nrca_term.specs.Valid.{FormConstant, HasConstants, PartsHaveConstants, AreValidOutcomes}

-- a part that is worth a value wherever its own variables are values
abbrev pub GivesValues : Part → Type 0
GivesValues p = (new : List Datum) (v : Datum) → Every IsValue new → p new ≡ Some v → IsValue v

-- what parts give, by what they are for: one part, all of them, the members of a loop, the values of its rounds, bounds
worth-valid : (ps : List Part) (i : ℕ) → Every GivesValues ps → GivesValues (worth ps i)
worth-valid [] i h new v k e = cc
worth-valid (p ∷ ps) zero h new v k e = h.0 new v k e
worth-valid (p ∷ ps) (suc i) h new v k e = worth-valid ps i h.1 new v k e

here-valid : (ps : List Part) (vs : List Datum) → Every GivesValues ps → each here ps ≡ Some vs → Every IsValue vs
here-valid ps vs h e = each-values here GivesValues IsValue (λ p v k f. k [] v tt f) ps vs h e

members-valid : (ps : List Part) (ms : List Datum) → Every GivesValues ps → members_value ps ≡ Some ms → Every IsValue ms
members-valid ps ms h e = let a = then-is (worth ps 0 []) as_set ms e in (set-valid a.0 ms (worth-valid ps 0 h [] a.0 tt a.1) a.2).1

loop-valid : (ps : List Part) (rs : List Datum) → Every GivesValues ps → loop_values ps ≡ Some rs → Every IsValue rs
loop-valid ps rs h e =
    let m = then-is (members_value ps) (each (λ m. worth ps 1 (m ∷ []))) rs e in
    each-values (λ m. worth ps 1 (m ∷ [])) IsValue IsValue (λ x y k f. worth-valid ps 1 h (x ∷ []) y (k, tt) f) m.0 rs (members-valid ps m.0 h m.1) m.2

bounds-valid : (rank : ℕ) (ps : List Part) (ds : List ℕ) → Every GivesValues ps → bounds_value rank ps ≡ Some ds → Every (λ d. d < 2 ^ 128) ds
bounds-valid rank ps ds h e =
    let a = then-is (each here (take rank ps)) (each as_natural) ds e in
    each-values as_natural IsValue (λ d. d < 2 ^ 128) (λ v d k f. natural-valid v d k f) a.0 ds (here-valid (take rank ps) a.0 (Every-take GivesValues rank ps h) a.1) a.2

-- an index below bounds that are values is a list of values
walked-valid : (at : List ℕ) (l : List Datum) → Every (λ i. i < 2 ^ 128) at → Every IsValue l → Every IsValue (push_index at l)
walked-valid [] l h k = k
walked-valid (i ∷ at) l h k = walked-valid at (natural i ∷ l) h.1 (h.0, k)

below-valid : (at ds : List ℕ) → pointwise nat_lt at ds ≡ true → Every (λ d. d < 2 ^ 128) ds → Every (λ i. i < 2 ^ 128) at
below-valid [] ds e h = tt
below-valid (i ∷ at) [] e h = cc
below-valid (i ∷ at) (d ∷ ds) e h = let r = and_parts (nat_lt i d) (pointwise nat_lt at ds) e in (omega (arith, ltb-true i d r.0, h.0), below-valid at ds r.1 h.1)

index-valid : (ds : List ℕ) → Every (λ d. d < 2 ^ 128) ds → Every (λ at. Every IsValue (push_index at [])) (indices ds)
index-valid ds h = Every-impl (λ at. pointwise nat_lt at ds ≡ true) (λ at. Every IsValue (push_index at [])) (λ at e. walked-valid at [] (below-valid at ds e h) tt) (indices ds) (indices_below ds)

-- a node of parts that give values gives a value
form-valid : (V : Outcomes) → AreValidOutcomes V → (vals : List Datum) → Every IsValue vals → (f : Form) (ps : List Part) (v : Datum) → FormConstant f → Every GivesValues ps → form_value V vals f ps ≡ Some v → IsValue v
form-valid V o vals a (Form.var i) ps v c h e = Every-get IsValue vals i v a e
form-valid V o vals a (Form.global n) ps v c h e = o n v e
form-valid V o vals a Form.bind ps v c h e =
    let x = then-is (worth ps 0 []) (λ x. worth ps 1 (x ∷ [])) v e in worth-valid ps 1 h (x.0 ∷ []) v (worth-valid ps 0 h [] x.0 tt x.1, tt) x.2
form-valid V o vals a Form.choose ps v c h e =
    let b = then-is (test_value ps) (λ b. if b then worth ps 1 [] else worth ps 2 []) v e in taken b.0 b.2
  where
    taken : (b : Bool) → (if b then worth ps 1 [] else worth ps 2 []) ≡ Some v → IsValue v
    taken true k = worth-valid ps 1 h [] v tt k
    taken false k = worth-valid ps 2 h [] v tt k
form-valid V o vals a Form.default ps v c h e = either (worth ps 0 []) refl e
  where
    either : (p : Option Datum) → worth ps 0 [] ≡ p → or_else p (worth ps 1 []) ≡ Some v → IsValue v
    either None q k = worth-valid ps 1 h [] v tt k
    either (Some w) q k = worth-valid ps 0 h [] v tt (q ∙ k)
form-valid V o vals a Form.big_union ps v c h e = let r = then-is (loop_values ps) union_all v e in union_all-valid r.0 v (loop-valid ps r.0 h r.1) r.2
form-valid V o vals a Form.sum ps v c h e = let r = then-is (loop_values ps) sum_of v e in sum_of-valid r.0 v r.2
form-valid V o vals a (Form.tab rank) ps v c h e =
    let r = then-is (bounds_value rank ps) (λ ds. each (λ at. worth ps rank (push_index at [])) (indices ds) >>= array_of ds) v e in
    let s = then-is (each (λ at. worth ps rank (push_index at [])) (indices r.0)) (array_of r.0) v r.2 in
    let b = bounds-valid rank ps r.0 h r.1 in
    array_of-valid r.0 s.0 v b (each-values (λ at. worth ps rank (push_index at [])) (λ at. Every IsValue (push_index at [])) IsValue (λ at w k f. worth-valid ps rank h (push_index at []) w k f) (indices r.0) s.0 (index-valid r.0 b) s.1) s.2
form-valid V o vals a (Form.strict s) ps v c h e = let r = then-is (each here ps) (strict_value s) v e in strict-valid s r.0 v c (here-valid ps r.0 h r.1) r.2

mutual
  -- the value of a term is a value of the language
  pub cden-valid : (V : Outcomes) → AreValidOutcomes V → (t : Term) (vals : List Datum) (v : Datum) → HasConstants t → Every IsValue vals → cden V vals t ≡ Some v → IsValue v
  cden-valid V o (node f ps) vals v c a e = form-valid V o vals a f (part_values V vals ps) v c.0 (parts-valid V o ps vals c.1 a) e

  pub parts-valid : (V : Outcomes) → AreValidOutcomes V → (ps : Parts) (vals : List Datum) → PartsHaveConstants ps → Every IsValue vals → Every GivesValues (part_values V vals ps)
  parts-valid V o none vals c a = tt
  parts-valid V o (part k u ps) vals c a =
      ((λ new v n e. cden-valid V o u (new ++ vals) v c.0 (Every-append IsValue new vals n a) (at_length-value k (λ w. cden V (w ++ vals) u) new v e)), parts-valid V o ps vals c.1 a)

-- the values with which a form enters its parts, by what the part is for
ones-valid : (ms : List Datum) → Every IsValue ms → Every (Every IsValue) (map (λ m. m ∷ []) ms)
ones-valid [] h = tt
ones-valid (m ∷ ms) h = ((h.0, tt), ones-valid ms h.1)

branch-valid : (b : Bool) (o : Option Bool) → Every (Every IsValue) (branch b o)
branch-valid b None = tt
branch-valid true (Some true) = (tt, tt)
branch-valid true (Some false) = tt
branch-valid false (Some true) = tt
branch-valid false (Some false) = (tt, tt)

otherwise-valid : (o : Option Datum) → Every (Every IsValue) (otherwise o)
otherwise-valid None = (tt, tt)
otherwise-valid (Some v) = tt

bound-valid : (ps : List Part) → Every GivesValues ps → (o : Option Datum) → worth ps 0 [] ≡ o → Every (Every IsValue) (map (λ v. v ∷ []) (option_to_list o))
bound-valid ps h None e = tt
bound-valid ps h (Some v) e = ((worth-valid ps 0 h [] v tt e, tt), tt)

loops-valid : (ps : List Part) → Every GivesValues ps → (o : Option (List Datum)) → members_value ps ≡ o → Every (Every IsValue) (map (λ m. m ∷ []) (unwrap_or o []))
loops-valid ps h None e = tt
loops-valid ps h (Some ms) e = ones-valid ms (members-valid ps ms h e)

all-indices-valid : (rank : ℕ) (ps : List Part) → Every GivesValues ps → (o : Option (List ℕ)) → bounds_value rank ps ≡ o → Every (Every IsValue) (map (λ at. push_index at []) (indices_of o))
all-indices-valid rank ps h None e = tt
all-indices-valid rank ps h (Some ds) e = Every-onto (Every IsValue) (λ at. push_index at []) (indices ds) (index-valid ds (bounds-valid rank ps ds h e))

pub entered-valid : (f : Form) (ps : List Part) (i : ℕ) → Every GivesValues ps → Every (Every IsValue) (entry_values f ps i)
entered-valid (Form.var n) ps i h = (tt, tt)
entered-valid (Form.global n) ps i h = (tt, tt)
entered-valid Form.bind ps zero h = (tt, tt)
entered-valid Form.bind ps (suc i) h = bound-valid ps h (worth ps 0 []) refl
entered-valid Form.choose ps zero h = (tt, tt)
entered-valid Form.choose ps (suc zero) h = branch-valid true (test_value ps)
entered-valid Form.choose ps (suc (suc i)) h = branch-valid false (test_value ps)
entered-valid Form.default ps zero h = (tt, tt)
entered-valid Form.default ps (suc i) h = otherwise-valid (worth ps 0 [])
entered-valid Form.big_union ps zero h = (tt, tt)
entered-valid Form.big_union ps (suc i) h = loops-valid ps h (members_value ps) refl
entered-valid Form.sum ps zero h = (tt, tt)
entered-valid Form.sum ps (suc i) h = loops-valid ps h (members_value ps) refl
entered-valid (Form.tab rank) ps i h = at (nat_lt i rank)
  where
    at : (b : Bool) → Every (Every IsValue) (if b then [] ∷ [] else map (λ at. push_index at []) (indices_of (bounds_value rank ps)))
    at true = (tt, tt)
    at false = all-indices-valid rank ps h (bounds_value rank ps) refl
entered-valid (Form.strict s) ps i h = (tt, tt)

-- the constants of a part
pub child-constants : (ps : Parts) (i : ℕ) (u : Term) → PartsHaveConstants ps → child_of ps i ≡ Some u → HasConstants u
child-constants none i u h e = cc
child-constants (part k t ps) zero u h e = let z : t ≡ u = cc in subst HasConstants z h.0
child-constants (part k t ps) (suc i) u h e = child-constants ps i u h.1 e

parts-constants : (t : Term) → HasConstants t → PartsHaveConstants (parts_of t)
parts-constants (node f ps) h = h.1

entered_in-valid : (V : Outcomes) → AreValidOutcomes V → (t : Term) (vals : List Datum) (i : ℕ) → HasConstants t → Every IsValue vals → Every (Every IsValue) (entered_in V vals t i)
entered_in-valid V o (node f ps) vals i c a = entered-valid f (part_values V vals ps) i (parts-valid V o ps vals c.1 a)

-- the lists of values with which an evaluation comes to a place are lists of values of the language
pub reach-valid : (V : Outcomes) → AreValidOutcomes V → (t : Term) (vals : List Datum) (path : List ℕ) → HasConstants t → Every IsValue vals → Every (Every IsValue) (reach V vals t path)
reach-valid V o t vals path c a =
    reach-induction V (λ (k : Unit {0}) t i. tt) (λ k around. Every IsValue around) (λ k t. HasConstants t)
    (λ k t i u h e. child-constants (parts_of t) i u (parts-constants t h) e)
    (λ k around t i u h e v. Every-impl (Every IsValue) (λ new. Every IsValue (new ++ around)) (λ new n. Every-append IsValue new around n v) (entered_in V around t i) (entered_in-valid V o t around i h v))
    path tt vals t c a
