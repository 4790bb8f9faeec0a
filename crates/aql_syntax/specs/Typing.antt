-- Which types an expression, a pattern and a declaration have.
-- Each type that a typing uses is within the limits (`Laws/Uses`: `expression-uses`, `declaration-uses`), though few are asked to be:
-- those that are no part of a type that is within already.
use Rattle.std.specs.Prelude.{◌≡◌, List, [], ◌∷◌, Bool, true, false, Option, Some, None}
use Rattle.aql_value.specs.Strict.{Strict}
use Rattle.aql_ty.specs.Types as types
use Rattle.aql_ty.specs.Types.{Ty, natural, Tys, no_type, type, Subst, IsRank, IsWithin, Sort, value, macro, apply_sort, tys_of, index_type}
use Rattle.aql_ty.specs.OperationTypes.{strict_rule}
use Rattle.aql_syntax.specs.declared.ast.Kind.{Kind}
use Rattle.aql_syntax.specs.declared.ast.Kind.TheVariants as kinds
use Rattle.aql_syntax.specs.Tree.{Name, Constant, number, truth, bytes, Pat, bind, any, equals, refers, tuple, Pats, no_pat, pat, Tree, name, op, members, comp, tab, bindings, choice, conjunction, disjunction, negation, default, apply, function, summap, Trees, no_tree, tree, Axes, no_axis, axis, Quals, no_qual, from, cells, same, test, Defs, no_def, def, Reader, plain, signed, strided, records, Declaration, val, mac, read, bare, declared_name, count_pats, count_axes, axes}
use Rattle.aql_syntax.specs.Names.{names_equal, find}

-- the types, within the limits, that a name of an earlier position has, and the pairs of argument and result types of a macro
pub record Environment : Type 1 where
  pub has : Name → Ty → Type 0
  pub takes : Name → Ty → Ty → Type 0

-- local names with their types, the innermost first
abbrev pub Locals : Type 0
Locals = List (Name × Ty)

-- local names with the instances of their types
abbrev pub local_instances : Subst → Locals → Locals
local_instances u [] = []
local_instances u ((x, t) ∷ env) = (x, types.apply u t) ∷ local_instances u env

-- what a name has: the type of the innermost local name, else each type of the latest position that declares it
abbrev pub NameHas : Environment → Option Ty → Name → Ty → Type 0
NameHas g (Some s) x t = t ≡ s
NameHas g None x t = g.has x t

-- in head position a name means a macro of an earlier position, and no local name
abbrev pub MacroTakes : Environment → Option Ty → Name → Ty → Ty → Type 0
MacroTakes g (Some l) f s t = ⊥
MacroTakes g None f s t = g.takes f s t

-- the type of a constant in a pattern
abbrev pub constant_type : Constant → Ty
constant_type (number n) = natural
constant_type (truth b) = types.truth
constant_type (bytes s) = types.text

abbrev mutual
  -- PatternFits p g env t env': the pattern matches values of the type, and env' has the names that it binds before those of env
  pub PatternFits : Pat → Environment → Locals → Ty → Locals → Type 0
  PatternFits (bind x) g env t env' = env' ≡ (x, t) ∷ env
  PatternFits any g env t env' = env' ≡ env
  PatternFits (equals c) g env t env' = (t ≡ constant_type c) × (env' ≡ env)
  PatternFits (refers x) g env t env' = NameHas g (find x env) x t × (env' ≡ env)
  PatternFits (tuple ps) g env t env' = (ts : Tys) × (t ≡ types.product ts) × FitsAll ps g env ts env'

  -- the patterns of a tuple's parts, each under the names that those before it bind
  pub FitsAll : Pats → Environment → Locals → Tys → Locals → Type 0
  FitsAll no_pat g env ts env' = (ts ≡ no_type) × (env' ≡ env)
  FitsAll (pat p ps) g env ts env' =
      (s : Ty) × (rest : Tys) × (inner : Locals) × (ts ≡ type s rest) × PatternFits p g env s inner × FitsAll ps g inner rest env'

-- the patterns of the parts of an index, which are numbers
abbrev pub FitsAxes : Pats → Environment → Locals → Locals → Type 0
FitsAxes no_pat g env env' = env' ≡ env
FitsAxes (pat p ps) g env env' = (inner : Locals) × PatternFits p g env natural inner × FitsAxes ps g inner env'

-- the local names of a tabulation's body: its indices, which are numbers
abbrev pub with_indices : Axes → Locals → Locals
with_indices no_axis env = env
with_indices (axis x e rest) env = with_indices rest ((x, natural) ∷ env)

-- the first of some types is within the limits
abbrev pub FirstWithin : List Ty → Type 0
FirstWithin [] = Unit {0}
FirstWithin (t ∷ ts) = IsWithin t

-- of the operations whose operand's type is no part of the result's, the type of the first operand is within the limits
abbrev pub OperandWithin : Strict → List Ty → Type 0
OperandWithin (Strict.compare o) ts = FirstWithin ts
OperandWithin (Strict.proj at of) ts = FirstWithin ts
OperandWithin Strict.get ts = FirstWithin ts
OperandWithin Strict.sub ts = FirstWithin ts
OperandWithin (Strict.dim k) ts = FirstWithin ts
OperandWithin (Strict.index k) ts = FirstWithin ts
OperandWithin _ ts = Unit {0}

abbrev mutual
  -- the expression has the type, under the positions before and the local names
  pub Has : Tree → Environment → Locals → Ty → Type 0
  Has (name x) g env t = NameHas g (find x env) x t
  Has (op o es) g env t = (ts : List Ty) × strict_rule o ts t × OperandWithin o ts × HasAll es g env ts
  Has (members es) g env t = (s : Ty) × (t ≡ types.set_of s) × HasEach es g env s
  Has (comp head quals) g env t = (s : Ty) × (inner : Locals) × (t ≡ types.set_of s) × Rows quals g env inner × Has head g inner s
  Has (tab xs body) g env t =
      (s : Ty) × IsRank (count_axes xs) × (t ≡ types.array_of (count_axes xs) s) × BoundsHave xs g env × Has body g (with_indices xs env) s
  Has (bindings ds body) g env t = (inner : Locals) × Binds ds g env inner × Has body g inner t
  Has (choice c a b) g env t = Has c g env types.truth × Has a g env t × Has b g env t
  Has (conjunction a b) g env t = (t ≡ types.truth) × Has a g env types.truth × Has b g env types.truth
  Has (disjunction a b) g env t = (t ≡ types.truth) × Has a g env types.truth × Has b g env types.truth
  Has (negation a) g env t = (t ≡ types.truth) × Has a g env types.truth
  Has (default a b) g env t = Has a g env t × Has b g env t
  Has (apply f a) g env t = (s : Ty) × MacroTakes g (find f env) f s t × Has a g env s
  Has (function p body a) g env t = (s : Ty) × (inner : Locals) × IsWithin s × Has a g env s × PatternFits p g env s inner × Has body g inner t
  Has (summap p body e) g env t =
      (s : Ty) × (inner : Locals) × (t ≡ natural) × IsWithin (types.set_of s) × Has e g env (types.set_of s) × PatternFits p g env s inner
      × Has body g inner natural

  -- the expressions have these types, one each
  pub HasAll : Trees → Environment → Locals → List Ty → Type 0
  HasAll no_tree g env ts = ts ≡ []
  HasAll (tree e es) g env ts = (s : Ty) × (rest : List Ty) × (ts ≡ s ∷ rest) × Has e g env s × HasAll es g env rest

  -- all have one type
  pub HasEach : Trees → Environment → Locals → Ty → Type 0
  HasEach no_tree g env t = Unit {0}
  HasEach (tree e es) g env t = Has e g env t × HasEach es g env t

  -- a tabulation's bounds are numbers, and see none of its indices
  pub BoundsHave : Axes → Environment → Locals → Type 0
  BoundsHave no_axis g env = Unit {0}
  BoundsHave (axis x e rest) g env = Has e g env natural × BoundsHave rest g env

  -- env' has the names that the qualifiers bind before those of env
  pub Rows : Quals → Environment → Locals → Locals → Type 0
  Rows no_qual g env env' = env' ≡ env
  Rows (from p e rest) g env env' =
      (s : Ty) × (inner : Locals) × IsWithin (types.set_of s) × Has e g env (types.set_of s) × PatternFits p g env s inner × Rows rest g inner env'
  Rows (cells p q e rest) g env env' =
      (s : Ty) × (mid : Locals) × (inner : Locals) × IsWithin (types.array_of (count_pats (axes p)) s)
      × Has e g env (types.array_of (count_pats (axes p)) s) × FitsAxes (axes p) g env mid × PatternFits q g mid s inner × Rows rest g inner env'
  Rows (same p e rest) g env env' =
      (s : Ty) × (inner : Locals) × IsWithin s × Has e g env s × PatternFits p g env s inner × Rows rest g inner env'
  Rows (test e rest) g env env' = Has e g env types.truth × Rows rest g env env'

  -- env' has the names that a let's bindings bind before those of env
  pub Binds : Defs → Environment → Locals → Locals → Type 0
  Binds no_def g env env' = env' ≡ env
  Binds (def p e rest) g env env' =
      (s : Ty) × (inner : Locals) × IsWithin s × Has e g env s × PatternFits p g env s inner × Binds rest g inner env'

-- Readers.

-- the type of a field
abbrev pub field_type : Kind → Ty
field_type kinds.Number = natural
field_type kinds.Bytes = types.text

-- the types of fields of these kinds
abbrev pub field_types : List Kind → Tys
field_types [] = no_type
field_types (k ∷ ks) = type (field_type k) (field_types ks)

-- the type of a record: of its one field, or a tuple
abbrev pub record_type : List Kind → Ty
record_type [] = types.product no_type
record_type (k ∷ []) = field_type k
record_type (k ∷ l ∷ ks) = types.product (field_types (k ∷ l ∷ ks))

-- the type of what a reader gives
abbrev pub reader_type : Reader → Ty
reader_type (plain k) = types.array_of k natural
reader_type (signed k) = types.array_of k (types.product (type types.truth (type natural no_type)))
reader_type (strided k) = types.array_of k natural
reader_type (records header ks) = types.set_of (record_type ks)

-- the type of a reader's argument: file, variable, start, count, and with strides the stride; or the file alone
abbrev pub argument_type : Reader → Ty
argument_type (plain k) = types.product (tys_of (types.text ∷ types.text ∷ index_type k ∷ index_type k ∷ []))
argument_type (signed k) = types.product (tys_of (types.text ∷ types.text ∷ index_type k ∷ index_type k ∷ []))
argument_type (strided k) = types.product (tys_of (types.text ∷ types.text ∷ index_type k ∷ index_type k ∷ index_type k ∷ []))
argument_type (records header ks) = types.text

-- Declarations.

-- the declaration has the sort, over those of the positions before it
abbrev pub DeclHas : Declaration → Environment → Sort → Type 0
DeclHas (val x e) g (value t) = IsWithin t × Has e g [] t
DeclHas (val x e) g (macro s t) = ⊥
DeclHas (mac f p body) g (value t) = ⊥
DeclHas (mac f p body) g (macro s t) = (inner : Locals) × IsWithin s × IsWithin t × PatternFits p g [] s inner × Has body g inner t
DeclHas (read x reader e) g (value t) = (t ≡ reader_type reader) × IsWithin t × IsWithin (argument_type reader) × Has e g [] (argument_type reader)
DeclHas (read x reader e) g (macro s t) = ⊥
DeclHas (bare e) g (value t) = IsWithin t × Has e g [] t
DeclHas (bare e) g (macro s t) = ⊥

-- an instance of a sort that the declaration has
abbrev pub IsInstanceOf : Declaration → Environment → Sort → Type 0
IsInstanceOf d g s = (u : Subst) × (general : Sort) × DeclHas d g general × (s ≡ apply_sort u general)

-- the first statement where the test holds, and else the second
abbrev pub if_name : Bool → Type 0 → Type 0 → Type 0
if_name true a b = a
if_name false a b = b

-- the scope with one position more: its name means this position and hides the earlier ones
abbrev pub extend : Declaration → Environment → Environment
extend d g = record {
  has = λ x t. if_name (names_equal x (declared_name d)) (IsWithin t × IsInstanceOf d g (value t)) (g.has x t);
  takes = λ x s t. if_name (names_equal x (declared_name d)) (IsWithin s × IsWithin t × IsInstanceOf d g (macro s t)) (g.takes x s t);
}

-- the scope of positions, the latest first
abbrev pub environment_of : List Declaration → Environment
environment_of [] = record { has = λ x t. ⊥; takes = λ x s t. ⊥ }
environment_of (d ∷ earlier) = extend d (environment_of earlier)

-- the position has the sort, and each that it has is an instance of it
pub record IsPrincipal (d : Declaration) (g : Environment) (s : Sort) : Type 0 where
  pub has : DeclHas d g s
  pub general : (t : Sort) → DeclHas d g t → (u : Subst) × (t ≡ apply_sort u s)
