-- Nameless core terms. A node is a form and its parts, and each part has a number of variables of its own.
use Rattle.std.specs.Prelude.{◌≡◌, ℕ, zero, suc, ◌+◌, ◌*◌, ◌<◌, ◌≤◌, List, [], ◌∷◌, nat_lt, if◌then◌else◌, Option, Some, None}
use Rattle.aql_value.specs.Strict.{Strict}

-- The forms. `strict` are those that evaluate every part and bind nothing: their values stand with the operations on values.
-- A variable, a position, let, if, default, big union, sum, tabulation of a rank, and the strict forms.
pub data Form : Type 0 where
  var : ℕ → Form
  global : ℕ → Form
  bind : Form
  choose : Form
  default : Form
  big_union : Form
  sum : Form
  tab : (rank : ℕ) → Form
  strict : Strict → Form

mutual
  -- a core term: a form and its parts
  pub data Term : Type 0 where
    node : Form → Parts → Term

  -- each part with the number of variables that it has beyond those around the node
  pub data Parts : Type 0 where
    none : Parts
    part : (binders : ℕ) → Term → Parts → Parts

-- parts that bind nothing, and then others
abbrev pub plain : List Term → Parts → Parts
plain [] ps = ps
plain (t ∷ ts) ps = part 0 t (plain ts ps)

-- the form of a term
abbrev pub form_of : Term → Form
form_of (node f ps) = f

-- the parts of a term
abbrev pub parts_of : Term → Parts
parts_of (node f ps) = ps

-- the number of parts
abbrev pub count : Parts → ℕ
count none = 0
count (part k t ps) = suc (count ps)

-- part i, counted from 0 in the order written
abbrev pub child_of : Parts → ℕ → Option Term
child_of none i = None
child_of (part k t ps) zero = Some t
child_of (part k t ps) (suc i) = child_of ps i

-- the terms of parts, in the order written
abbrev pub terms_in : Parts → List Term
terms_in none = []
terms_in (part k t ps) = t ∷ terms_in ps

-- the number of variables that part i has beyond those around the node
abbrev pub binders_of : Parts → ℕ → ℕ
binders_of none i = 0
binders_of (part k t ps) zero = k
binders_of (part k t ps) (suc i) = binders_of ps i

-- the parts with another term in the place of child i
abbrev pub set_child : Parts → ℕ → Term → Parts
set_child none i u = none
set_child (part k t ps) zero u = part k u ps
set_child (part k t ps) (suc i) u = part k t (set_child ps i u)

-- the term with another part i
abbrev pub with_part : Term → ℕ → Term → Term
with_part (node f ps) i u = node f (set_child ps i u)

-- the number of the variable, where the form is one
abbrev pub variable_of : Form → Option ℕ
variable_of (var i) = Some i
variable_of (global n) = None
variable_of bind = None
variable_of choose = None
variable_of default = None
variable_of big_union = None
variable_of sum = None
variable_of (tab rank) = None
variable_of (strict s) = None

-- the weight of a node by itself: 6k+6 for a tabulation of rank k, 2k+2 for its dimensions, 1 for every other
abbrev pub form_weight : Form → ℕ
form_weight (tab rank) = 6 * rank + 6
form_weight (strict (Strict.dim rank)) = 2 * rank + 2
form_weight _ = 1

abbrev mutual
  -- the weight of a term: the sum over all its nodes
  pub weight_of : Term → ℕ
  weight_of (node f ps) = form_weight f + parts_weight ps

  -- the weight of all parts
  pub parts_weight : Parts → ℕ
  parts_weight none = 0
  parts_weight (part k t ps) = weight_of t + parts_weight ps

-- the weight of all terms
abbrev pub list_weight : List Term → ℕ
list_weight [] = 0
list_weight (t ∷ ts) = weight_of t + list_weight ts

-- with so many variables around it: their number and the weight are together at most 1,280,000, 64 times 20,000
abbrev pub IsSmall : (around : ℕ) → Term → Type 0
IsSmall around t = weight_of t + around ≤ 1280000

-- the number of variables that a form binds in its part i
abbrev pub form_binders : Form → ℕ → ℕ
form_binders (var n) i = 0
form_binders (global n) i = 0
form_binders bind zero = 0
form_binders bind (suc i) = 1
form_binders choose i = 0
form_binders default i = 0
form_binders big_union zero = 0
form_binders big_union (suc i) = 1
form_binders sum zero = 0
form_binders sum (suc i) = 1
form_binders (tab rank) i = if nat_lt i rank then 0 else rank
form_binders (strict s) i = 0

-- a variable and a position have no parts
abbrev pub LeafIsBare : Form → Parts → Type 0
LeafIsBare (var n) ps = ps ≡ none
LeafIsBare (global n) ps = ps ≡ none
LeafIsBare _ ps = Unit {0}

abbrev mutual
  -- each part has the variables that its form binds there, and a variable and a position have no parts
  pub WellFormed : Term → Type 0
  WellFormed (node f ps) = LeafIsBare f ps × PartsWellFormed f 0 ps

  -- each part from number i on has the variables that the form binds there, and is well formed
  pub PartsWellFormed : Form → ℕ → Parts → Type 0
  PartsWellFormed f i none = Unit {0}
  PartsWellFormed f i (part k t ps) = (k ≡ form_binders f i) × WellFormed t × PartsWellFormed f (suc i) ps

-- the form's variable, if it is one, is among n
abbrev pub FormClosed : ℕ → Form → Type 0
FormClosed n (var i) = i < n
FormClosed n _ = Unit {0}

abbrev mutual
  -- each variable that is free in the term is below n; a closed term is `Closed 0`
  pub Closed : ℕ → Term → Type 0
  Closed n (node f ps) = FormClosed n f × PartsClosed n ps

  -- each part's variables are its own or among n
  pub PartsClosed : ℕ → Parts → Type 0
  PartsClosed n none = Unit {0}
  PartsClosed n (part k t ps) = Closed (n + k) t × PartsClosed n ps
