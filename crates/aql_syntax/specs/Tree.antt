-- The trees of the surface language, without where they lie in memory.
use Rattle.std.specs.Prelude.{ℕ, suc, Bool, List, [], ◌∷◌}
use Rattle.aql_value.specs.Strict.{Strict}
use Rattle.aql_syntax.specs.declared.ast.Kind.{Kind}

-- a name's bytes
abbrev pub Name : Type 0
Name = List ℕ

-- a constant of a pattern
pub data Constant : Type 0 where
  number : ℕ → Constant
  truth : Bool → Constant
  bytes : List ℕ → Constant

mutual
  -- `\x`, `_`, a constant, a name, a tuple of patterns
  pub data Pat : Type 0 where
    bind : Name → Pat
    any : Pat
    equals : Constant → Pat
    refers : Name → Pat
    tuple : Pats → Pat

  -- patterns, in order
  pub data Pats : Type 0 where
    no_pat : Pats
    pat : Pat → Pats → Pats

mutual
  -- An operation that evaluates all its parts and binds nothing is one form: constants, `{}`, tuples, arithmetic, comparisons,
  -- `union`, `gen`, `get`, subscripts, `len` (which is `dim_1`), `dim_k`, `index_k`, literal arrays (dimensions, then cells).
  pub data Tree : Type 0 where
    name : Name → Tree
    op : Strict → Trees → Tree
    members : Trees → Tree
    comp : Tree → Quals → Tree
    tab : Axes → Tree → Tree
    bindings : Defs → Tree → Tree
    choice : Tree → Tree → Tree → Tree
    conjunction : Tree → Tree → Tree
    disjunction : Tree → Tree → Tree
    negation : Tree → Tree
    default : Tree → Tree → Tree
    apply : Name → Tree → Tree
    function : Pat → Tree → Tree → Tree
    summap : Pat → Tree → Tree → Tree

  -- expressions, in order
  pub data Trees : Type 0 where
    no_tree : Trees
    tree : Tree → Trees → Trees

  -- a tabulation's indices with their bounds, the first the outermost
  pub data Axes : Type 0 where
    no_axis : Axes
    axis : Name → Tree → Axes → Axes

  -- qualifiers: `P <- e`, `[P:Q] <- e`, `P == e`, a test
  pub data Quals : Type 0 where
    no_qual : Quals
    from : Pat → Tree → Quals → Quals
    cells : Pat → Pat → Tree → Quals → Quals
    same : Pat → Tree → Quals → Quals
    test : Tree → Quals → Quals

  -- the bindings of a let
  pub data Defs : Type 0 where
    no_def : Defs
    def : Pat → Tree → Defs → Defs

-- `NETCDFk`, `NETCDFZk`, `NETCDFSk`; records, with a header or not, of fields of these kinds
pub data Reader : Type 0 where
  plain : (rank : ℕ) → Reader
  signed : (rank : ℕ) → Reader
  strided : (rank : ℕ) → Reader
  records : (header : Bool) → List Kind → Reader

-- a declaration: a value under a name, a macro, what a reader makes of an argument, or a bare expression
pub data Declaration : Type 0 where
  val : Name → Tree → Declaration
  mac : Name → Pat → Tree → Declaration
  read : Name → Reader → Tree → Declaration
  bare : Tree → Declaration

-- the name `it`, which a bare expression binds
abbrev pub it : Name
it = 105 ∷ 116 ∷ []

-- the name that a declaration binds
abbrev pub declared_name : Declaration → Name
declared_name (val x e) = x
declared_name (mac f p body) = f
declared_name (read x reader e) = x
declared_name (bare e) = it

-- the number of patterns
abbrev pub count_pats : Pats → ℕ
count_pats no_pat = 0
count_pats (pat p ps) = suc (count_pats ps)

-- the number of expressions
abbrev pub count_trees : Trees → ℕ
count_trees no_tree = 0
count_trees (tree e es) = suc (count_trees es)

-- the number of indices
abbrev pub count_axes : Axes → ℕ
count_axes no_axis = 0
count_axes (axis x e rest) = suc (count_axes rest)

-- one list and then another
abbrev pub append : Trees → Trees → Trees
append no_tree b = b
append (tree e a) b = tree e (append a b)

-- the first patterns and the second behind them
abbrev pub append_pats : Pats → Pats → Pats
append_pats no_pat b = b
append_pats (pat p a) b = pat p (append_pats a b)

-- the first qualifiers and the second behind them
abbrev pub append_quals : Quals → Quals → Quals
append_quals no_qual b = b
append_quals (from p e a) b = from p e (append_quals a b)
append_quals (cells p q e a) b = cells p q e (append_quals a b)
append_quals (same p e a) b = same p e (append_quals a b)
append_quals (test e a) b = test e (append_quals a b)

-- the first indices and the second behind them
abbrev pub append_axes : Axes → Axes → Axes
append_axes no_axis b = b
append_axes (axis x e a) b = axis x e (append_axes a b)

-- the first bindings and the second behind them
abbrev pub append_defs : Defs → Defs → Defs
append_defs no_def b = b
append_defs (def p e a) b = def p e (append_defs a b)

-- the patterns of the parts of an index: those of a tuple pattern, or any other pattern alone
abbrev pub axes : Pat → Pats
axes (bind x) = pat (bind x) no_pat
axes any = pat any no_pat
axes (equals c) = pat (equals c) no_pat
axes (refers x) = pat (refers x) no_pat
axes (tuple ps) = ps
