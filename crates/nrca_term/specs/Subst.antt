-- Shifting and substitution on nameless terms, as usually defined. There is a case for each form: a form other than a variable
-- is kept, and each part goes under the variables that its node binds there.
use Rattle.std.specs.Prelude.{ℕ, zero, suc, ◌+◌, ◌-◌, max, nat_lt, nat_eq, Bool, true, false, List, [], ◌∷◌, if◌then◌else◌}
use Rattle.nrca_term.specs.Term.{Term, Parts, node, none, part, Form}

-- a form whose own variable, if it is one from a number on, is raised
abbrev pub shift_form : ℕ → ℕ → Form → Form
shift_form from by (Form.var i) = Form.var (if nat_lt i from then i else i + by)
shift_form from by (Form.global n) = Form.global n
shift_form from by Form.bind = Form.bind
shift_form from by Form.choose = Form.choose
shift_form from by Form.default = Form.default
shift_form from by Form.big_union = Form.big_union
shift_form from by Form.sum = Form.sum
shift_form from by (Form.tab rank) = Form.tab rank
shift_form from by (Form.strict s) = Form.strict s

abbrev mutual
  -- `by` added to each variable that is free at `from` and above
  pub shift_term : ℕ → ℕ → Term → Term
  shift_term from by (node f ps) = node (shift_form from by f) (shift_parts from by ps)

  -- the parts shifted, each under its own variables
  pub shift_parts : ℕ → ℕ → Parts → Parts
  shift_parts from by none = none
  shift_parts from by (part k t ps) = part k (shift_term (from + k) by t) (shift_parts from by ps)

-- variable i, where variable `at` is replaced and those above it are lowered by one
abbrev pub subst_var : ℕ → Term → ℕ → Term
subst_var at with i =
    if nat_lt i at then node (Form.var i) none else (if nat_eq i at then with else node (Form.var (i - 1)) none)

-- a node after a substitution: the term in place of the variable, and each other form as it is
abbrev pub subst_node : ℕ → Term → Form → Parts → Term
subst_node at with (Form.var i) ps = subst_var at with i
subst_node at with (Form.global n) ps = node (Form.global n) ps
subst_node at with Form.bind ps = node Form.bind ps
subst_node at with Form.choose ps = node Form.choose ps
subst_node at with Form.default ps = node Form.default ps
subst_node at with Form.big_union ps = node Form.big_union ps
subst_node at with Form.sum ps = node Form.sum ps
subst_node at with (Form.tab rank) ps = node (Form.tab rank) ps
subst_node at with (Form.strict s) ps = node (Form.strict s) ps

abbrev mutual
  -- the term with variable `at` replaced by a term, which is shifted under binders, and the variables above it lowered by one
  pub subst_term : ℕ → Term → Term → Term
  subst_term at with (node f ps) = subst_node at with f (subst_parts at with ps)

  -- the substitution in each part, under its own variables
  pub subst_parts : ℕ → Term → Parts → Parts
  subst_parts at with none = none
  subst_parts at with (part k t ps) = part k (subst_term (at + k) (shift_term 0 k with) t) (subst_parts at with ps)

-- 1 where the form is the variable
abbrev pub form_uses : ℕ → Form → ℕ
form_uses at (Form.var i) = if nat_eq i at then 1 else 0
form_uses at (Form.global n) = 0
form_uses at Form.bind = 0
form_uses at Form.choose = 0
form_uses at Form.default = 0
form_uses at Form.big_union = 0
form_uses at Form.sum = 0
form_uses at (Form.tab rank) = 0
form_uses at (Form.strict s) = 0

abbrev mutual
  -- how often variable `at` is used
  pub uses_of : ℕ → Term → ℕ
  uses_of at (node f ps) = form_uses at f + parts_uses at ps

  -- how often the variable stands in the parts
  pub parts_uses : ℕ → Parts → ℕ
  parts_uses at none = 0
  parts_uses at (part k t ps) = uses_of (at + k) t + parts_uses at ps

-- whether the part is the first one
abbrev pub is_first : ℕ → Bool
is_first zero = true
is_first (suc i) = false

-- the strict parts of a form: those that it always evaluates and without whose value it has none
abbrev pub is_strict : Form → ℕ → Bool
is_strict (Form.var n) i = false
is_strict (Form.global n) i = false
is_strict Form.bind zero = true
is_strict Form.bind (suc i) = is_first i
is_strict Form.choose i = is_first i
is_strict Form.default i = false
is_strict Form.big_union i = is_first i
is_strict Form.sum i = is_first i
is_strict (Form.tab rank) i = nat_lt i rank
is_strict (Form.strict s) i = true

abbrev mutual
  -- how often variable `at` is used at a place that is reached by strict parts alone
  pub strict_uses : ℕ → Term → ℕ
  strict_uses at (node f ps) = form_uses at f + parts_strict_uses at f 0 ps

  -- how often the variable stands in the parts without whose value the node has none
  pub parts_strict_uses : ℕ → Form → ℕ → Parts → ℕ
  parts_strict_uses at f i none = 0
  parts_strict_uses at f i (part k t ps) = (if is_strict f i then strict_uses (at + k) t else 0) + parts_strict_uses at f (suc i) ps

-- the number of the form's variable, 0 where it is none
abbrev pub form_top : Form → ℕ
form_top (Form.var i) = i
form_top (Form.global n) = 0
form_top Form.bind = 0
form_top Form.choose = 0
form_top Form.default = 0
form_top Form.big_union = 0
form_top Form.sum = 0
form_top (Form.tab rank) = 0
form_top (Form.strict s) = 0

abbrev mutual
  -- the greatest variable number that stands in a term
  pub top_var : Term → ℕ
  top_var (node f ps) = max (form_top f) (parts_top ps)

  -- the greatest variable number in the parts
  pub parts_top : Parts → ℕ
  parts_top none = 0
  parts_top (part k t ps) = max (top_var t) (parts_top ps)

-- the greatest variable number that stands in some terms
abbrev pub list_top : List Term → ℕ
list_top [] = 0
list_top (t ∷ ts) = max (top_var t) (list_top ts)
