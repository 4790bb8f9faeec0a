-- Two of the code's nodes made one.
use Rattle.std.proofs.Common.{ℕ, ◌≡◌, ◌<◌, List, [], ◌++◌, length, set, get_or, true, false, refl, sym, ap, ◌∙◌, subst, arith, append-nil}
use Rattle.aql_types.specs.declared.node.Node.{Node}
use Rattle.aql_types.specs.declared.node.Node.TheVariants as node
use Rattle.aql_types.specs.declared.node.Equation.{Equation}
use Rattle.aql_types.specs.Shapes.{Valuation}
use Rattle.aql_types.specs.Forms.{Form, form_of, forms, at}
use Rattle.aql_types.specs.Forms as form
use Rattle.aql_types.specs.Valuations.{Says, Holds, IsOrdered, AreIn, IsRoot}
use Rattle.aql_types.specs.Steps.{is_var, alike_forms, form_parts, pair_parts, Steps}
use Rattle.aql_types.proofs.Bare.{forms_at, forms_set, forms_length}
use Rattle.aql_types.proofs.Joining.{Serves, joins, united, serves_high, serves_low, serves_alike, differs}

-- two roots that are to be one, and the equations beside theirs
pub record Joint (ps : List ℕ) (ns : List Node) (e : Equation) (low high : Node) (w : List Equation) : Type 0 where
  pub below : e.left < e.right
  pub right : e.right < length ns
  pub left_root : IsRoot (at (forms ps ns) e.left)
  pub right_root : IsRoot (at (forms ps ns) e.right)
  pub ordered : IsOrdered (forms ps ns)
  pub inside : AreIn (length ns) w
  pub low_is : low ≡ get_or ns e.left (node.Var 0)
  pub high_is : high ≡ get_or ns e.right (node.Var 0)

-- the nodes after
abbrev pub linked : List Node → Equation → Node → List Node
linked ns e n = set (set ns e.left n) e.right (node.Link e.left)

forms_linked : (ps : List ℕ) (ns : List Node) (e : Equation) (n : Node) → forms ps (linked ns e n) ≡ united (forms ps ns) e.left e.right (form_of ps n)
forms_linked ps ns e n = forms_set ps (set ns e.left n) e.right (node.Link e.left) ∙ ap (λ fs. set fs e.right (form.link e.left)) (forms_set ps ns e.left n)

is_low : (ps : List ℕ) (ns : List Node) (e : Equation) (low high : Node) (w : List Equation) → Joint ps ns e low high w → at (forms ps ns) e.left ≡ form_of ps low
is_low ps ns e low high w j = forms_at ps ns e.left ∙ ap (form_of ps) (sym j.low_is)

is_high : (ps : List ℕ) (ns : List Node) (e : Equation) (low high : Node) (w : List Equation) → Joint ps ns e low high w → at (forms ps ns) e.right ≡ form_of ps high
is_high ps ns e low high w j = forms_at ps ns e.right ∙ ap (form_of ps) (sym j.high_is)

serves_at : {f g a b k : Form} {x : List Equation} → f ≡ a → g ≡ b → Serves a b k x → Serves f g k x
serves_at {f} {g} {a} {b} {k} {x} e q s = subst (λ z. Serves z g k x) (sym e) (subst (λ z. Serves a z k x) (sym q) s)

pub joined : (ps : List ℕ) (ns : List Node) (e : Equation) (low high n : Node) (w x : List Equation) → Joint ps ns e low high w → Serves (form_of ps low) (form_of ps high) (form_of ps n) x → Steps (forms ps ns) (forms ps (linked ns e n)) e w (w ++ x)
joined ps ns e low high n w x j s =
    subst (λ gs. Steps (forms ps ns) gs e w (w ++ x)) (sym (forms_linked ps ns e n))
    (joins (forms ps ns) e (form_of ps n) w x j.below (omega (arith, j.right, forms_length ps ns)) j.ordered (subst (λ m. AreIn m w) (sym (forms_length ps ns)) j.inside)
    (serves_at (is_low ps ns e low high w j) (is_high ps ns e low high w j) s))

var_anywhere : (ps qs : List ℕ) (n : Node) → is_var (form_of ps n) ≡ is_var (form_of qs n)
var_anywhere ps qs (node.Var x) = refl
var_anywhere ps qs node.Nat = refl
var_anywhere ps qs node.Bool = refl
var_anywhere ps qs node.Text = refl
var_anywhere ps qs (node.Tuple first count) = refl
var_anywhere ps qs (node.Set p) = refl
var_anywhere ps qs (node.Array rank p) = refl
var_anywhere ps qs (node.Link k) = refl

-- a variable below
pub joined_high : (ps : List ℕ) (ns : List Node) (e : Equation) (low high : Node) (w : List Equation) → Joint ps ns e low high w → is_var (form_of [] low) ≡ true → Steps (forms ps ns) (forms ps (linked ns e high)) e w w
joined_high ps ns e low high w j v =
    subst (Steps (forms ps ns) (forms ps (linked ns e high)) e w) (append-nil w)
    (joined ps ns e low high high w [] j
    (serves_high (form_of ps low) (form_of ps high) (var_anywhere ps [] low ∙ v) (subst IsRoot (is_high ps ns e low high w j) j.right_root)))

-- a variable above
pub joined_low : (ps : List ℕ) (ns : List Node) (e : Equation) (low high : Node) (w : List Equation) → Joint ps ns e low high w → is_var (form_of [] high) ≡ true → Steps (forms ps ns) (forms ps (linked ns e low)) e w w
joined_low ps ns e low high w j v =
    subst (Steps (forms ps ns) (forms ps (linked ns e low)) e w) (append-nil w)
    (joined ps ns e low high low w [] j (serves_low (form_of ps low) (form_of ps high) (var_anywhere ps [] high ∙ v)))

-- two types of one form
pub joined_alike : (ps : List ℕ) (ns : List Node) (e : Equation) (low high : Node) (w : List Equation) → Joint ps ns e low high w → alike_forms (form_of ps low) (form_of ps high) ≡ true →
    Steps (forms ps ns) (forms ps (linked ns e low)) e w (w ++ pair_parts (form_parts (form_of ps low)) (form_parts (form_of ps high)))
joined_alike ps ns e low high w j v =
    joined ps ns e low high low w (pair_parts (form_parts (form_of ps low)) (form_parts (form_of ps high))) j (serves_alike (form_of ps low) (form_of ps high) v)

-- two types of different forms
pub clashes : (ps : List ℕ) (ns : List Node) (e : Equation) (low high : Node) (w : List Equation) → Joint ps ns e low high w → is_var (form_of [] low) ≡ false → is_var (form_of [] high) ≡ false → alike_forms (form_of ps low) (form_of ps high) ≡ false →
    (v : Valuation) → Holds v (forms ps ns) → v e.left ≡ v e.right → ⊥
clashes ps ns e low high w j a b d v h q =
    let l = is_low ps ns e low high w j in let r = is_high ps ns e low high w j in
    differs (form_of ps low) (form_of ps high) (var_anywhere ps [] low ∙ a) (var_anywhere ps [] high ∙ b) (subst IsRoot l j.left_root) (subst IsRoot r j.right_root) d v (v e.left)
    (subst (λ f. Says v f (v e.left)) l (h e.left)) (subst (λ f. Says v f (v e.left)) r (subst (Says v (at (forms ps ns) e.right)) (sym q) (h e.right)))
