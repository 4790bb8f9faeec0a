-- The right side of each rule has valid constants where its left side has (`rule-constants`).
use Rattle.std.proofs.Common.{◌≡◌, ℕ, zero, suc, ◌+◌, ◌-◌, ◌<◌, ◌^◌, Bool, true, false, nat_lt, nat_eq, List, [], ◌∷◌, length, map, Option, Some, None, refl, sym, ap, subst, arith, if◌then◌else◌, inl, inr}
use Rattle.aql_value.specs.declared.ops.ArithOp.{ArithOp}
use Rattle.aql_value.specs.Datum.{natural}
use Rattle.aql_value.specs.Lists.{Every}
use Rattle.aql_value.specs.Laws.Lists.{Every-get}
use Rattle.aql_value.specs.Partial.{◌>>=◌}
use Rattle.aql_value.specs.Ops.{arith_by}
use Rattle.aql_value.specs.Laws.ValidLaws.{arith_of-valid}
use Rattle.nrca_term.specs.declared.trace.Rule.{Rule}
use Rattle.nrca_term.specs.declared.trace.Rule.TheVariants.{B1, K1, I1, I2, L1, L2, L3, P1, P2, S1, S2, S3, S4, S5, S6, S7, S8, S9, A1, A2, A3, A4, A5, A6, A7, C1, C2, C3, C4, N1, N2}
use Rattle.nrca_term.specs.Term.{Term, Parts, node, none, part, plain, Form, child_of}
use Rattle.nrca_term.specs.Nodes.{number, sub_term}
use Rattle.nrca_term.specs.Places.{place_of, on_child, put_at}
use Rattle.nrca_term.specs.Subst.{shift_form, shift_term, shift_parts, subst_var, subst_node, subst_term, subst_parts}
use Rattle.nrca_term.specs.Laws.Measure.{through}
use Rattle.nrca_term.specs.Rules.{Way, Redex, Folds, arithmetic, numbers, truths, texts, generated, member, misshapen, Subscript, inside, outside, LoopOf, lets, guard, sizes_term, is_dim_of, replace_dims, replace_dims_parts, number_or_bottom, constant_literal, dimension_terms, index_variables}
use Rattle.nrca_term.specs.Valid.{FormConstant, HasConstants, PartsHaveConstants}
use Rattle.nrca_term.specs.Laws.Valid.{child-constants}

-- a shift keeps the constant that a form is
form-shift : (from by : ℕ) (f : Form) → FormConstant f → FormConstant (shift_form from by f)
form-shift from by (Form.var i) h = tt
form-shift from by (Form.global n) h = tt
form-shift from by Form.bind h = tt
form-shift from by Form.choose h = tt
form-shift from by Form.default h = tt
form-shift from by Form.big_union h = tt
form-shift from by Form.sum h = tt
form-shift from by (Form.tab rank) h = tt
form-shift from by (Form.strict s) h = h

form-unshift : (from by : ℕ) (f : Form) → FormConstant (shift_form from by f) → FormConstant f
form-unshift from by (Form.var i) h = tt
form-unshift from by (Form.global n) h = tt
form-unshift from by Form.bind h = tt
form-unshift from by Form.choose h = tt
form-unshift from by Form.default h = tt
form-unshift from by Form.big_union h = tt
form-unshift from by Form.sum h = tt
form-unshift from by (Form.tab rank) h = tt
form-unshift from by (Form.strict s) h = h

mutual
  -- a shifted term has the constants of the term
  pub constants-shift : (from by : ℕ) (t : Term) → HasConstants t → HasConstants (shift_term from by t)
  constants-shift from by (node f ps) h = (form-shift from by f h.0, parts-shift from by ps h.1)

  parts-shift : (from by : ℕ) (ps : Parts) → PartsHaveConstants ps → PartsHaveConstants (shift_parts from by ps)
  parts-shift from by none h = tt
  parts-shift from by (part k t ps) h = (constants-shift (from + k) by t h.0, parts-shift from by ps h.1)

mutual
  -- and the term those of the shifted one
  pub constants-unshift : (from by : ℕ) (t : Term) → HasConstants (shift_term from by t) → HasConstants t
  constants-unshift from by (node f ps) h = (form-unshift from by f h.0, parts-unshift from by ps h.1)

  parts-unshift : (from by : ℕ) (ps : Parts) → PartsHaveConstants (shift_parts from by ps) → PartsHaveConstants ps
  parts-unshift from by none h = tt
  parts-unshift from by (part k t ps) h = (constants-unshift (from + k) by t h.0, parts-unshift from by ps h.1)

-- a substitution at a variable and at a node
var-constants : (at : ℕ) (s : Term) (i : ℕ) → HasConstants s → HasConstants (subst_var at s i)
var-constants at s i h = go (nat_lt i at) (nat_eq i at)
  where
    go : (a b : Bool) → HasConstants (if a then node (Form.var i) none else (if b then s else node (Form.var (i - 1)) none))
    go true b = (tt, tt)
    go false true = h
    go false false = (tt, tt)

node-constants : (at : ℕ) (s : Term) (f : Form) (qs : Parts) → HasConstants s → FormConstant f → PartsHaveConstants qs → HasConstants (subst_node at s f qs)
node-constants at s (Form.var i) qs h l k = var-constants at s i h
node-constants at s (Form.global m) qs h l k = (tt, k)
node-constants at s Form.bind qs h l k = (tt, k)
node-constants at s Form.choose qs h l k = (tt, k)
node-constants at s Form.default qs h l k = (tt, k)
node-constants at s Form.big_union qs h l k = (tt, k)
node-constants at s Form.sum qs h l k = (tt, k)
node-constants at s (Form.tab rank) qs h l k = (tt, k)
node-constants at s (Form.strict c) qs h l k = (l, k)

mutual
  -- a substitution has constants of both terms
  pub constants-subst : (at : ℕ) (s t : Term) → HasConstants s → HasConstants t → HasConstants (subst_term at s t)
  constants-subst at s (node f ps) h k = node-constants at s f (subst_parts at s ps) h k.0 (parts-subst at s ps h k.1)

  parts-subst : (at : ℕ) (s : Term) (ps : Parts) → HasConstants s → PartsHaveConstants ps → PartsHaveConstants (subst_parts at s ps)
  parts-subst at s none h k = tt
  parts-subst at s (part n t ps) h k = (constants-subst (at + n) (shift_term 0 n s) t (constants-shift 0 n s h) k.0, parts-subst at s ps h k.1)

-- parts that bind nothing, before others
plain-constants : (ts : List Term) (ps : Parts) → Every HasConstants ts → PartsHaveConstants ps → PartsHaveConstants (plain ts ps)
plain-constants [] ps h k = k
plain-constants (t ∷ ts) ps h k = (h.0, plain-constants ts ps h.1 k)

-- and the other way
constants-plain : (ts : List Term) (ps : Parts) → PartsHaveConstants (plain ts ps) → Every HasConstants ts × PartsHaveConstants ps
constants-plain [] ps h = (tt, h)
constants-plain (t ∷ ts) ps h = let r = constants-plain ts ps h.1 in ((h.0, r.0), r.1)

-- shifted terms
shifted-list : (ts : List Term) → Every HasConstants ts → Every HasConstants (map (shift_term 0 1) ts)
shifted-list [] h = tt
shifted-list (t ∷ ts) h = (constants-shift 0 1 t h.0, shifted-list ts h.1)

-- lets and tests around a body
lets-constants : (n : ℕ) (is : List Term) (body : Term) → Every HasConstants is → HasConstants body → HasConstants (lets n is body)
lets-constants n [] body h k = k
lets-constants n (i ∷ is) body h k = (tt, (constants-shift 0 n i h.0, (lets-constants (suc n) is body h.1 k, tt)))

guarded-constants : (k : ℕ) (ds : List Term) (b : Term) → Every HasConstants ds → HasConstants b → HasConstants (guard k ds b)
guarded-constants k [] b h c = c
guarded-constants k (d ∷ ds) b h c = (tt, ((tt, ((tt, tt), (constants-shift 0 k d h.0, tt))), (guarded-constants k ds b h.1 c, ((tt, tt), tt))))

-- the sizes of a tabulation
sizes-constants : (ds : List Term) → Every HasConstants ds → HasConstants (sizes_term ds)
sizes-constants [] h = (tt, tt)
sizes-constants (d ∷ []) h = h.0
sizes-constants (d ∷ e ∷ ds) h = (tt, plain-constants (d ∷ e ∷ ds) none h tt)

-- the replacement of dimensions
chosen-constants : (b : Bool) (f : Form) (ps : Parts) (size : Term) → HasConstants (node f ps) → HasConstants size → HasConstants (if b then size else node f ps)
chosen-constants true f ps size h k = k
chosen-constants false f ps size h k = h

mutual
  -- the replacement of dimensions
  replaced-constants : (at : ℕ) (size t : Term) → HasConstants size → HasConstants t → HasConstants (replace_dims at size t)
  replaced-constants at size (node f ps) h k = chosen-constants (is_dim_of at f ps) f (replace_dims_parts at size ps) size (k.0, parts-replaced at size ps h k.1) h

  parts-replaced : (at : ℕ) (size : Term) (ps : Parts) → HasConstants size → PartsHaveConstants ps → PartsHaveConstants (replace_dims_parts at size ps)
  parts-replaced at size none h k = tt
  parts-replaced at size (part n t ps) h k = (replaced-constants (at + n) (shift_term 0 n size) t (constants-shift 0 n size h) k.0, parts-replaced at size ps h k.1)

-- the result of an operation on numbers
number-constant : (o : Option ℕ) → ((k : ℕ) → o ≡ Some k → k < 2 ^ 128) → HasConstants (number_or_bottom o)
number-constant None h = (tt, tt)
number-constant (Some k) h = (h k refl, tt)

folded : (op : ArithOp) (m n : ℕ) → m < 2 ^ 128 → n < 2 ^ 128 → (k : ℕ) → arith_by op m n ≡ Some k → k < 2 ^ 128
folded op m n h l k e = arith_of-valid op (natural m) (natural n) (natural k) h l (ap (λ o. o >>= λ j. Some (natural j)) e)

folds-constants : (l r : Term) → Folds l r → HasConstants l → HasConstants r
folds-constants l r (arithmetic op m n e k) h = let c = subst HasConstants e h in subst HasConstants (sym k) (number-constant (arith_by op m n) (folded op m n c.1.0.0 c.1.1.0.0))
folds-constants l r (numbers op m n e k) h = subst HasConstants (sym k) (tt, tt)
folds-constants l r (truths op a b e k) h = subst HasConstants (sym k) (tt, tt)
folds-constants l r (texts op s t e k) h = subst HasConstants (sym k) (tt, tt)
folds-constants l r (generated e k) h = subst HasConstants (sym k) (tt, tt)
folds-constants l r (member e k) h = subst HasConstants (sym k) (tt, tt)
folds-constants l r (misshapen ns cs e n k) h = subst HasConstants (sym k) (tt, tt)

-- the parts of a literal
literal-constants : (ns : List ℕ) (cs : List Term) → HasConstants (constant_literal ns cs) → Every HasConstants (map number ns) × Every HasConstants cs
literal-constants ns cs h = let r = constants-plain (map number ns) (plain cs none) h.1 in (r.0, (constants-plain cs none r.1).0)

-- a constant subscript of a literal
subscript-constants : (l r : Term) (ws : List Way) → Subscript l r ws → HasConstants l → HasConstants r
subscript-constants l r ws (inside ns cs is p e a b c d) h = let k = subst HasConstants e h in Every-get HasConstants cs p r (literal-constants ns cs k.1.0).1 c
subscript-constants l r ws (outside ns cs is e a b c d f) h = subst HasConstants (sym d) (tt, tt)

-- a loop's value over the empty set
loop-constants : (f : Form) (z : Term) → LoopOf f z → FormConstant f × HasConstants z
loop-constants Form.big_union z h = (tt, subst HasConstants (sym h) (tt, tt))
loop-constants Form.sum z h = (tt, subst HasConstants (sym h) (omega arith, tt))
loop-constants _ z h = absurd h

-- each rule
pub rule-constants : (R : Rule) (l r : Term) (ws : List Way) → Redex R l r ws → HasConstants l → HasConstants r
rule-constants B1 l r ws x h = subst HasConstants (sym x.3) (tt, tt)
rule-constants K1 l r ws x h = folds-constants l r x.0 h
rule-constants I1 l r ws x h = let k = subst HasConstants x.3 h in subst HasConstants (sym x.4) (taken x.0 k.1.1.0 k.1.1.1.0)
  where
    taken : (c : Bool) → HasConstants x.1 → HasConstants x.2 → HasConstants (if c then x.1 else x.2)
    taken true a b = a
    taken false a b = b
rule-constants I2 l r ws x h =
    let k = subst HasConstants x.6 h in
    let z = loop-constants x.0 x.1 x.5 in
    subst HasConstants (sym x.7) (tt, (k.1.0.1.0, ((z.0, (k.1.0.1.1.0, (k.1.1.0, tt))), (z.1, tt))))
rule-constants L1 l r ws x h = let k = subst HasConstants x.3 h in subst HasConstants (sym x.4) (constants-subst 0 x.0 x.1 k.1.0 k.1.1.0)
rule-constants L2 l r ws x h = let k = subst HasConstants x.4 h in subst HasConstants (sym x.5) (constants-subst 0 x.0 x.1 k.1.0 k.1.1.0)
rule-constants L3 l r ws x h = let k = subst HasConstants x.1 h in constants-unshift 0 1 r k.1.1.0
rule-constants P1 l r ws x h = let k = subst HasConstants x.2 h in Every-get HasConstants x.1 x.0 r (constants-plain x.1 none k.1.0.1).0 x.3
rule-constants P2 l r ws x h = let k = subst HasConstants x.4 h in subst HasConstants (sym x.5) (tt, (k.1.0.1.0, ((tt, (k.1.0.1.1.0, tt)), tt)))
rule-constants S1 l r ws x h = subst HasConstants (sym x.2) (tt, tt)
rule-constants S2 l r ws x h = let k = subst HasConstants x.2 h in subst HasConstants (sym x.3) (tt, (k.1.0.1.0, (k.1.1.0, tt)))
rule-constants S3 l r ws x h = let k = subst HasConstants x.3 h in subst HasConstants (sym x.4) (tt, (k.1.0.1.0, ((tt, (k.1.0.1.1.0, (constants-shift 1 1 x.2 k.1.1.0, tt))), tt)))
rule-constants S4 l r ws x h = subst HasConstants (sym x.2) (omega arith, tt)
rule-constants S5 l r ws x h = let k = subst HasConstants x.2 h in subst HasConstants (sym x.3) (tt, (k.1.0.1.0, (k.1.1.0, tt)))
rule-constants S6 l r ws x h = let k = subst HasConstants x.0 h in k.1.0
rule-constants S7 l r ws x h = elim x.0 [ inl e ↦ (let k = subst HasConstants e h in k.1.0) | inr e ↦ (let k = subst HasConstants e h in k.1.1.0) ]
rule-constants S8 l r ws x h = let k = subst HasConstants x.0 h in k.1.0.1.0
rule-constants S9 l r ws x h =
    let k = subst HasConstants x.6 h in
    let z = loop-constants x.0 x.1 x.5 in
    subst HasConstants (sym x.7) (tt, (k.1.0.1.0, ((z.0, (k.1.0.1.1.0, (constants-shift 1 1 x.4 k.1.1.0, tt))), tt)))
rule-constants A1 l r ws x h =
    let k = subst HasConstants x.4 h in
    let t = constants-plain x.0 (part (length x.0) x.1 none) k.1.0.1 in
    subst HasConstants (sym x.5) (lets-constants 0 x.2 (guard (length x.0) x.0 x.1) (constants-plain x.2 none k.1.1).0 (guarded-constants (length x.0) x.0 x.1 t.0 t.1.0))
rule-constants A2 l r ws x h =
    let k = subst HasConstants x.2 h in
    let t = constants-plain (dimension_terms x.0 r) (part (length (dimension_terms x.0 r)) (sub_term (shift_term 0 x.0 r) (index_variables x.0)) none) k.1 in
    constants-unshift 0 x.0 r t.1.0.1.0
rule-constants A3 l r ws x h =
    let k = subst HasConstants x.2 h in
    let t = constants-plain x.0 (part (length x.0) x.1 none) k.1.0.1 in
    subst HasConstants (sym x.3) (sizes-constants x.0 t.0)
rule-constants A4 l r ws x h =
    let k = subst HasConstants x.5 h in
    let t = constants-plain x.0 (part (length x.0) x.1 none) k.1.0.1 in
    subst HasConstants (sym x.6) (tt, (k.1.0, (replaced-constants 0 (shift_term 0 1 (sizes_term x.0)) x.2 (constants-shift 0 1 (sizes_term x.0) (sizes-constants x.0 t.0)) k.1.1.0, tt)))
rule-constants A5 l r ws x h = subscript-constants l r ws x h
rule-constants A6 l r ws x h = let k = subst HasConstants x.2 h in subst HasConstants (sym x.4) (sizes-constants (map number x.0) (literal-constants x.0 x.1 k.1.0).0)
rule-constants A7 l r ws x h =
    elim x.2 [
      | inl y ↦
          let k = subst HasConstants y.1 h in
          subst HasConstants (sym y.2) (tt, (k.1.0.1.0, ((tt, (k.1.0.1.1.0, plain-constants (map (shift_term 0 1) y.0) none (shifted-list y.0 (constants-plain y.0 none k.1.1).0) tt)), tt)))
      | inr y ↦ (let k = subst HasConstants y.1 h in subst HasConstants (sym y.2) (tt, (k.1.0.1.0, ((tt, (k.1.0.1.1.0, tt)), tt))))
    ]
rule-constants C1 l r ws x h = subst HasConstants (sym x.1) (tt, tt)
rule-constants C2 l r ws x h = subst HasConstants (sym x.1) (tt, tt)
rule-constants C3 l r ws x h = subst HasConstants (sym x.1) (tt, tt)
rule-constants C4 l r ws x h = subst HasConstants (sym x.1.1) (tt, tt)
rule-constants N1 l r ws x h = let k = subst HasConstants x.0 h in k.1.1.0
rule-constants N2 l r ws x h = let k = subst HasConstants x.1 h in k.1.0

-- the constants of the part at a place
pub constants-place : (path : List ℕ) (t s : Term) → HasConstants t → place_of t path ≡ Some s → HasConstants s
constants-place [] t s h e = let z : t ≡ s = cc in subst HasConstants z h
constants-place (i ∷ path) (node f ps) s h e = let r = through ps i path s e in constants-place path r.0 s (child-constants ps i r.0 h.1 r.1) r.2

-- the parts with another one
constants-on_child : (ps : Parts) (i : ℕ) (r : Term) (g : Term → Term) → child_of ps i ≡ Some r → PartsHaveConstants ps → (HasConstants r → HasConstants (g r)) → PartsHaveConstants (on_child ps i g)
constants-on_child none i r g e h k = tt
constants-on_child (part n t ps) zero r g e h k = let z : r ≡ t = cc in (subst (λ x. HasConstants x → HasConstants (g x)) z k h.0, h.1)
constants-on_child (part n t ps) (suc i) r g e h k = (h.0, constants-on_child ps i r g e h.1 k)

-- the constants of a term with another part at a place
pub constants-put_at : (path : List ℕ) (t s u : Term) → place_of t path ≡ Some s → HasConstants t → HasConstants u → HasConstants (put_at t path u)
constants-put_at [] t s u e h k = k
constants-put_at (i ∷ path) (node f ps) s u e h k = let r = through ps i path s e in (h.0, constants-on_child ps i r.0 (λ q. put_at q path u) r.1 h.1 (λ m. constants-put_at path r.0 s u r.2 m k))
