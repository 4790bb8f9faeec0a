-- The positions that a term uses.
use Rattle.std.specs.Prelude.{ℕ, Option, Some, None}
use Rattle.nrca_term.specs.Term.{Term, Parts, node, none, part, Form}

-- the number of the position, where the form is one
abbrev pub position_of : Form → Option ℕ
position_of (Form.var i) = None
position_of (Form.global n) = Some n
position_of Form.bind = None
position_of Form.choose = None
position_of Form.default = None
position_of Form.big_union = None
position_of Form.sum = None
position_of (Form.tab rank) = None
position_of (Form.strict s) = None

-- what is said of each position, of the one that the form is
abbrev pub IfPosition : (ℕ → Type 0) → Form → Type 0
IfPosition P (Form.global n) = P n
IfPosition P _ = Unit {0}

abbrev mutual
  -- it holds of each position that the term uses
  pub EachPosition : (ℕ → Type 0) → Term → Type 0
  EachPosition P (node f ps) = IfPosition P f × EachPositionIn P ps

  -- of each that the parts use
  pub EachPositionIn : (ℕ → Type 0) → Parts → Type 0
  EachPositionIn P none = Unit {0}
  EachPositionIn P (part k t ps) = EachPosition P t × EachPositionIn P ps
