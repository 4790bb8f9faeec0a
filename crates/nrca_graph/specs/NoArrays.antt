-- An array-free form has none of the five forms of arrays: no tabulation, subscript, dimensions, index or literal.
use Rattle.nrca_term.specs.Term.{Term, Parts, node, none, part, Form}
use Rattle.nrca_graph.specs.StrictForms.{IsPlain}

-- a form that is none of the five
abbrev pub IsKeptForm : Form → Type 0
IsKeptForm (Form.tab rank) = ⊥
IsKeptForm (Form.strict s) = IsPlain s
IsKeptForm _ = Unit {0}

abbrev mutual
  -- each node of a term has such a form
  pub HasNoArrays : Term → Type 0
  HasNoArrays (node f ps) = IsKeptForm f × PartsHaveNoArrays ps

  -- none of the forms on arrays stands in the parts
  pub PartsHaveNoArrays : Parts → Type 0
  PartsHaveNoArrays none = Unit {0}
  PartsHaveNoArrays (part k t ps) = HasNoArrays t × PartsHaveNoArrays ps
