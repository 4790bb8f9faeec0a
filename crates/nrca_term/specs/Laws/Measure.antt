-- How the measure changes where a part is replaced, and its bounds.
use Rattle.std.proofs.Common.{◌≡◌, ℕ, zero, suc, ◌+◌, ◌*◌, ◌<◌, ◌≤◌, Bool, true, false, List, [], ◌∷◌, Option, Some, None, refl, ap, arith, inl, inr}
use Rattle.std.specs.List.{slice_get}
use Rattle.std.proofs.Math.Nat.{mul-add, mul_comm}
use Rattle.std.proofs.lemmas.Nat.{mul-le}
use Rattle.aql_value.specs.Lists.{Every}
use Rattle.aql_value.specs.Partial.{◌>>=◌}
use Rattle.aql_value.specs.Strict.{Strict}
use Rattle.nrca_term.specs.Term.{Term, Parts, node, none, part, Form, parts_of, child_of, count, weight_of, parts_weight, list_weight, form_weight}
use Rattle.nrca_term.specs.Places.{place_of, on_child, put_at}
use Rattle.nrca_term.specs.Measure.{has_operand, nodes_of, parts_nodes, first_nodes, own_pairs, pairs_of, parts_pairs, Below, Lowers, left_of}

-- what the change of one child does
weight-on_child : (ps : Parts) (i : ℕ) (r : Term) (g : Term → Term) → child_of ps i ≡ Some r → parts_weight (on_child ps i g) + weight_of r ≡ parts_weight ps + weight_of (g r)
weight-on_child none i r g e = cc
weight-on_child (part k t ps) zero r g e = let s : t ≡ r = cc in omega (arith, ap weight_of s, ap (λ x. weight_of (g x)) s)
weight-on_child (part k t ps) (suc i) r g e = omega (arith, weight-on_child ps i r g e)

nodes-on_child : (ps : Parts) (i : ℕ) (r : Term) (g : Term → Term) → child_of ps i ≡ Some r → nodes_of (g r) ≡ nodes_of r → parts_nodes (on_child ps i g) ≡ parts_nodes ps
nodes-on_child none i r g e n = cc
nodes-on_child (part k t ps) zero r g e n = let s : t ≡ r = cc in omega (arith, ap nodes_of s, ap (λ x. nodes_of (g x)) s, n)
nodes-on_child (part k t ps) (suc i) r g e n = omega (arith, nodes-on_child ps i r g e n)

first-on_child : (ps : Parts) (i : ℕ) (r : Term) (g : Term → Term) → child_of ps i ≡ Some r → nodes_of (g r) ≡ nodes_of r → first_nodes (on_child ps i g) ≡ first_nodes ps
first-on_child none i r g e n = cc
first-on_child (part k t ps) zero r g e n = let s : t ≡ r = cc in omega (arith, ap nodes_of s, ap (λ x. nodes_of (g x)) s, n)
first-on_child (part k t ps) (suc i) r g e n = refl

own-on_child : (b : Bool) (ps : Parts) (i : ℕ) (r : Term) (g : Term → Term) → child_of ps i ≡ Some r → nodes_of (g r) ≡ nodes_of r → own_pairs b (on_child ps i g) ≡ own_pairs b ps
own-on_child true ps i r g e n = first-on_child ps i r g e n
own-on_child false ps i r g e n = refl

pairs-on_child : (ps : Parts) (i : ℕ) (r : Term) (g : Term → Term) → child_of ps i ≡ Some r → parts_pairs (on_child ps i g) + pairs_of r ≡ parts_pairs ps + pairs_of (g r)
pairs-on_child none i r g e = cc
pairs-on_child (part k t ps) zero r g e = let s : t ≡ r = cc in omega (arith, ap pairs_of s, ap (λ x. pairs_of (g x)) s)
pairs-on_child (part k t ps) (suc i) r g e = omega (arith, pairs-on_child ps i r g e)

-- the child through which a path goes
abbrev pub Through : Parts → ℕ → List ℕ → Term → Type 0
Through ps i path s = (r : Term) × (child_of ps i ≡ Some r) × (place_of r path ≡ Some s)

pub through : (ps : Parts) (i : ℕ) (path : List ℕ) (s : Term) → (child_of ps i >>= λ r. place_of r path) ≡ Some s → Through ps i path s
through ps i path s e = at (child_of ps i) refl e
  where
    at : (o : Option Term) → child_of ps i ≡ o → (o >>= λ r. place_of r path) ≡ Some s → Through ps i path s
    at None k h = cc
    at (Some r) k h = (r, k, h)

-- the measures of a term whose part at a path is replaced
pub weight-put_at : (path : List ℕ) (t s u : Term) → place_of t path ≡ Some s → weight_of (put_at t path u) + weight_of s ≡ weight_of t + weight_of u
weight-put_at [] t s u e = let z : t ≡ s = cc in omega (arith, ap weight_of z)
weight-put_at (i ∷ path) (node f ps) s u e =
    let r = through ps i path s e in
    omega (arith, weight-on_child ps i r.0 (λ q. put_at q path u) r.1, weight-put_at path r.0 s u r.2)

pub nodes-put_at : (path : List ℕ) (t s u : Term) → place_of t path ≡ Some s → nodes_of u ≡ nodes_of s → nodes_of (put_at t path u) ≡ nodes_of t
nodes-put_at [] t s u e n = let z : t ≡ s = cc in omega (arith, ap nodes_of z, n)
nodes-put_at (i ∷ path) (node f ps) s u e n =
    let r = through ps i path s e in
    ap suc (nodes-on_child ps i r.0 (λ q. put_at q path u) r.1 (nodes-put_at path r.0 s u r.2 n))

pub pairs-put_at : (path : List ℕ) (t s u : Term) → place_of t path ≡ Some s → nodes_of u ≡ nodes_of s → pairs_of (put_at t path u) + pairs_of s ≡ pairs_of t + pairs_of u
pairs-put_at [] t s u e n = let z : t ≡ s = cc in omega (arith, ap pairs_of z)
pairs-put_at (i ∷ path) (node f ps) s u e n =
    let r = through ps i path s e in
    omega (arith, own-on_child (has_operand f) ps i r.0 (λ q. put_at q path u) r.1 (nodes-put_at path r.0 s u r.2 n), pairs-on_child ps i r.0 (λ q. put_at q path u) r.1, pairs-put_at path r.0 s u r.2 n)

pub below-put_at : (path : List ℕ) (t l r : Term) → place_of t path ≡ Some l → Lowers l r → Below (put_at t path r) t
below-put_at path t l r e (inl h) = inl (omega (arith, weight-put_at path t l r e, h))
below-put_at path t l r e (inr h) = inr (omega (arith, weight-put_at path t l r e, h.0), omega (arith, pairs-put_at path t l r e h.1, h.2))

-- one node weighs at least 1
pub form-positive : (f : Form) → 1 ≤ form_weight f
form-positive (Form.var i) = omega arith
form-positive (Form.global n) = omega arith
form-positive Form.bind = omega arith
form-positive Form.choose = omega arith
form-positive Form.default = omega arith
form-positive Form.big_union = omega arith
form-positive Form.sum = omega arith
form-positive (Form.tab rank) = omega arith
form-positive (Form.strict s) = strict_positive s
  where
    strict_positive : (c : Strict) → 1 ≤ form_weight (Form.strict c)
    strict_positive (Strict.dim rank) = omega arith
    strict_positive _ = omega arith

mutual
  pub nodes-weight : (t : Term) → nodes_of t ≤ weight_of t
  nodes-weight (node f ps) = omega (arith, form-positive f, parts_nodes-weight ps)

  parts_nodes-weight : (ps : Parts) → parts_nodes ps ≤ parts_weight ps
  parts_nodes-weight none = omega arith
  parts_nodes-weight (part k t ps) = omega (arith, nodes-weight t, parts_nodes-weight ps)

own-nodes : (b : Bool) (ps : Parts) → own_pairs b ps ≤ parts_nodes ps
own-nodes true none = omega arith
own-nodes false none = omega arith
own-nodes true (part k t ps) = omega arith
own-nodes false (part k t ps) = omega arith

-- squares of parts, and of their sum
pub square_sum : (a b x y : ℕ) → x ≤ a * a → y ≤ b * b → x + y ≤ (a + b) * (a + b)
square_sum a b x y h k = omega (arith, h, k, mul-add (a + b) a b, mul-le a a (a + b) a (omega arith) (omega arith), mul-le b b (a + b) b (omega arith) (omega arith))

square_next : (n x y : ℕ) → x ≤ n → y ≤ n * n → x + y ≤ suc n * suc n
square_next n x y h k = omega (arith, h, k, mul-add n n 1, mul-le n (n + 1) (suc n) (suc n) (omega arith) (omega arith))

mutual
  -- the pairs are at most the square of the nodes, and of the weight
  pub pairs-nodes : (t : Term) → pairs_of t ≤ nodes_of t * nodes_of t
  pairs-nodes (node f ps) = square_next (parts_nodes ps) (own_pairs (has_operand f) ps) (parts_pairs ps) (own-nodes (has_operand f) ps) (parts_pairs-nodes ps)

  parts_pairs-nodes : (ps : Parts) → parts_pairs ps ≤ parts_nodes ps * parts_nodes ps
  parts_pairs-nodes none = omega arith
  parts_pairs-nodes (part k t ps) = square_sum (nodes_of t) (parts_nodes ps) (pairs_of t) (parts_pairs ps) (pairs-nodes t) (parts_pairs-nodes ps)

pub pairs-weight : (t : Term) → pairs_of t ≤ weight_of t * weight_of t
pairs-weight t = omega (arith, pairs-nodes t, mul-le (nodes_of t) (nodes_of t) (weight_of t) (weight_of t) (nodes-weight t) (nodes-weight t))

pub left-falls : (b : ℕ) (s t : Term) → pairs_of s ≤ b → Below s t → left_of b s < left_of b t
left-falls b s t h (inl l) =
    omega (arith, h, mul-le (weight_of s + 1) (b + 1) (weight_of t) (b + 1) (omega (arith, l)) (omega arith), mul_comm (weight_of s + 1) (b + 1), mul-add (b + 1) (weight_of s) 1, mul_comm (b + 1) (weight_of s))
left-falls b s t h (inr l) = omega (arith, l.1, ap (λ w. w * (b + 1)) l.0)

pub left-bound : (t : Term) → left_of (weight_of t * weight_of t) t ≤ (weight_of t + 1) * ((weight_of t + 1) * (weight_of t + 1))
left-bound t = cube (weight_of t) (pairs_of t) (pairs-weight t)
  where
    cube : (w g : ℕ) → g ≤ w * w → w * (w * w + 1) + g ≤ (w + 1) * ((w + 1) * (w + 1))
    cube w g h =
        let s : (w + 1) * (w + 1) ≡ w * w + (w + (w + 1)) = omega (arith, mul-add (w + 1) w 1, mul_comm (w + 1) w, mul-add w w 1) in
        let c : (w + 1) * ((w + 1) * (w + 1)) ≡ w * ((w + 1) * (w + 1)) + (w + 1) * (w + 1) = omega (arith, mul_comm (w + 1) ((w + 1) * (w + 1)), mul-add ((w + 1) * (w + 1)) w 1, mul_comm w ((w + 1) * (w + 1))) in
        omega (arith, h, s, c, mul-le w (w * w + 1) w ((w + 1) * (w + 1)) (omega arith) (omega (arith, s)))

pub below-weight : (s t : Term) → Below s t → weight_of s ≤ weight_of t
below-weight s t (inl h) = omega (arith, h)
below-weight s t (inr h) = omega (arith, h.0)

-- a part weighs less than its node
pub parts_weight-child : (ps : Parts) (i : ℕ) (u : Term) → child_of ps i ≡ Some u → weight_of u ≤ parts_weight ps
parts_weight-child none i u e = cc
parts_weight-child (part k t ps) zero u e = let same : u ≡ t = cc in omega (arith, ap weight_of same)
parts_weight-child (part k t ps) (suc i) u e = omega (arith, parts_weight-child ps i u e)

pub weight_of-child : (t : Term) (i : ℕ) (u : Term) → child_of (parts_of t) i ≡ Some u → weight_of u < weight_of t
weight_of-child (node f ps) i u e = omega (arith, parts_weight-child ps i u e, form-positive f)

-- every term weighs something
pub weight_of-positive : (t : Term) → 1 ≤ weight_of t
weight_of-positive (node f ps) = omega (arith, form-positive f)

-- so parts weigh at least as much as they are many
pub parts_weight-count : (ps : Parts) → count ps ≤ parts_weight ps
parts_weight-count none = omega arith
parts_weight-count (part k (node f us) ps) = omega (arith, form-positive f, parts_weight-count ps)

-- a term of a list weighs no more than the list
pub list_weight-get : (ts : List Term) (i : ℕ) (t : Term) → slice_get ts i ≡ Some t → weight_of t ≤ list_weight ts
list_weight-get [] i t e = cc
list_weight-get (u ∷ ts) zero t e = let z : u ≡ t = cc in omega (arith, ap weight_of z)
list_weight-get (u ∷ ts) (suc i) t e = omega (arith, list_weight-get ts i t e)

-- a part's number is below the weight of all parts
parts_weight-number : (ps : Parts) (i : ℕ) (u : Term) → child_of ps i ≡ Some u → i < parts_weight ps
parts_weight-number none i u e = cc
parts_weight-number (part k t ps) zero u e = omega (arith, weight_of-positive t)
parts_weight-number (part k t ps) (suc i) u e = omega (arith, parts_weight-number ps i u e, weight_of-positive t)

-- the numbers of a path in a term are below the term's weight
pub path-below : (n : ℕ) (t : Term) (p : List ℕ) (s : Term) → weight_of t ≤ n → place_of t p ≡ Some s → Every (λ i. i < n) p
path-below n t [] s l e = tt
path-below n (node f ps) (i ∷ p) s l e = below (child_of ps i) refl e (λ u h. path-below n u p s (omega (arith, l, parts_weight-child ps i u h)))
  where
    below : (c : Option Term) → child_of ps i ≡ c → (c >>= λ u. place_of u p) ≡ Some s →
        ((u : Term) → child_of ps i ≡ Some u → place_of u p ≡ Some s → Every (λ j. j < n) p) → Every (λ j. j < n) (i ∷ p)
    below None h k more = cc
    below (Some u) h k more = (omega (arith, l, parts_weight-number ps i u h), more u h k)
