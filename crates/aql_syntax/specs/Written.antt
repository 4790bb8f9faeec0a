-- Trees of the surface language. It has no form that takes a tuple's part by its number: of such a form, which only terms
-- have, the operand's type would be held by no other.
use Rattle.aql_value.specs.Strict.{Strict}
use Rattle.aql_syntax.specs.Tree.{Tree, name, op, members, comp, tab, bindings, choice, conjunction, disjunction, negation, default, apply, function, summap, Trees, no_tree, tree, Axes, no_axis, axis, Quals, no_qual, from, cells, same, test, Defs, no_def, def, Declaration, val, mac, read, bare}

-- an operation of the surface language: no part of a tuple is written as one
abbrev pub IsWrittenForm : Strict → Type 0
IsWrittenForm (Strict.proj at of) = ⊥
IsWrittenForm _ = Unit {0}

abbrev mutual
  -- no such form stands in it
  pub IsWritten : Tree → Type 0
  IsWritten (name x) = Unit {0}
  IsWritten (op o es) = IsWrittenForm o × AreWritten es
  IsWritten (members es) = AreWritten es
  IsWritten (comp head quals) = QualsWritten quals × IsWritten head
  IsWritten (tab xs body) = AxesWritten xs × IsWritten body
  IsWritten (bindings ds body) = DefsWritten ds × IsWritten body
  IsWritten (choice c a b) = IsWritten c × IsWritten a × IsWritten b
  IsWritten (conjunction a b) = IsWritten a × IsWritten b
  IsWritten (disjunction a b) = IsWritten a × IsWritten b
  IsWritten (negation a) = IsWritten a
  IsWritten (default a b) = IsWritten a × IsWritten b
  IsWritten (apply f a) = IsWritten a
  IsWritten (function p body a) = IsWritten body × IsWritten a
  IsWritten (summap p body e) = IsWritten body × IsWritten e

  -- all of some
  pub AreWritten : Trees → Type 0
  AreWritten no_tree = Unit {0}
  AreWritten (tree e es) = IsWritten e × AreWritten es

  -- the bounds of a tabulation
  pub AxesWritten : Axes → Type 0
  AxesWritten no_axis = Unit {0}
  AxesWritten (axis x e rest) = IsWritten e × AxesWritten rest

  -- the expressions of qualifiers
  pub QualsWritten : Quals → Type 0
  QualsWritten no_qual = Unit {0}
  QualsWritten (from p e rest) = IsWritten e × QualsWritten rest
  QualsWritten (cells p q e rest) = IsWritten e × QualsWritten rest
  QualsWritten (same p e rest) = IsWritten e × QualsWritten rest
  QualsWritten (test e rest) = IsWritten e × QualsWritten rest

  -- the expressions of bindings
  pub DefsWritten : Defs → Type 0
  DefsWritten no_def = Unit {0}
  DefsWritten (def p e rest) = IsWritten e × DefsWritten rest

-- the expression of a declaration, or the body of a macro
abbrev pub DeclWritten : Declaration → Type 0
DeclWritten (val x e) = IsWritten e
DeclWritten (mac f p body) = IsWritten body
DeclWritten (read x reader e) = IsWritten e
DeclWritten (bare e) = IsWritten e
