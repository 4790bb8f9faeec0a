-- The typing that asks at every expression and every pattern that its type is within the limits. So each type that it uses is:
-- a name that comes in has the type of its pattern, an index that of its bound, and a macro takes the type of its argument and
-- gives that of its application. `Typing` asks it in few places and means the same (`Laws/Uses`).
use Rattle.std.specs.Prelude.{◌≡◌, List, [], ◌∷◌, ◌↔◌}
use Rattle.aql_ty.specs.Types as types
use Rattle.aql_ty.specs.Types.{Ty, natural, Tys, no_type, type, IsRank, IsWithin, Sort, value, macro}
use Rattle.aql_ty.specs.OperationTypes.{strict_rule}
use Rattle.aql_syntax.specs.Tree.{Name, Pat, bind, any, equals, refers, tuple, Pats, no_pat, pat, Tree, name, op, members, comp, tab, bindings, choice, conjunction, disjunction, negation, default, apply, function, summap, Trees, no_tree, tree, Axes, no_axis, axis, Quals, no_qual, from, cells, same, test, Defs, no_def, def, Declaration, val, mac, read, bare, count_pats, count_axes, axes}
use Rattle.aql_syntax.specs.Names.{find}
use Rattle.aql_syntax.specs.Typing.{Environment, Locals, NameHas, MacroTakes, constant_type, with_indices, reader_type, argument_type, Has, DeclHas, environment_of}

-- the types that names have, and both types of each macro, are within the limits
pub record EnvironmentWithin (g : Environment) : Type 0 where
  pub has : (x : Name) (t : Ty) → g.has x t → IsWithin t
  pub takes : (f : Name) (s t : Ty) → g.takes f s t → IsWithin s × IsWithin t

abbrev mutual
  -- as Fits
  pub FitsWithin : Pat → Environment → Locals → Ty → Locals → Type 0
  FitsWithin (bind x) g env t env' = IsWithin t × (env' ≡ (x, t) ∷ env)
  FitsWithin any g env t env' = IsWithin t × (env' ≡ env)
  FitsWithin (equals c) g env t env' = IsWithin t × (t ≡ constant_type c) × (env' ≡ env)
  FitsWithin (refers x) g env t env' = IsWithin t × NameHas g (find x env) x t × (env' ≡ env)
  FitsWithin (tuple ps) g env t env' = IsWithin t × (ts : Tys) × (t ≡ types.product ts) × FitAllWithin ps g env ts env'

  -- as FitsAll
  pub FitAllWithin : Pats → Environment → Locals → Tys → Locals → Type 0
  FitAllWithin no_pat g env ts env' = (ts ≡ no_type) × (env' ≡ env)
  FitAllWithin (pat p ps) g env ts env' =
      (s : Ty) × (rest : Tys) × (inner : Locals) × (ts ≡ type s rest) × FitsWithin p g env s inner × FitAllWithin ps g inner rest env'

-- as FitsAxes
abbrev pub FitAxesWithin : Pats → Environment → Locals → Locals → Type 0
FitAxesWithin no_pat g env env' = env' ≡ env
FitAxesWithin (pat p ps) g env env' = (inner : Locals) × FitsWithin p g env natural inner × FitAxesWithin ps g inner env'

abbrev mutual
  -- as Has
  pub HasWithin : Tree → Environment → Locals → Ty → Type 0
  HasWithin (name x) g env t = IsWithin t × NameHas g (find x env) x t
  HasWithin (op o es) g env t = IsWithin t × (ts : List Ty) × strict_rule o ts t × HaveAllWithin es g env ts
  HasWithin (members es) g env t = IsWithin t × (s : Ty) × (t ≡ types.set_of s) × HaveEachWithin es g env s
  HasWithin (comp head quals) g env t =
      IsWithin t × (s : Ty) × (inner : Locals) × (t ≡ types.set_of s) × RowsWithin quals g env inner × HasWithin head g inner s
  HasWithin (tab xs body) g env t =
      IsWithin t × (s : Ty) × IsRank (count_axes xs) × (t ≡ types.array_of (count_axes xs) s) × BoundsWithin xs g env
      × HasWithin body g (with_indices xs env) s
  HasWithin (bindings ds body) g env t = IsWithin t × (inner : Locals) × BindsWithin ds g env inner × HasWithin body g inner t
  HasWithin (choice c a b) g env t = IsWithin t × HasWithin c g env types.truth × HasWithin a g env t × HasWithin b g env t
  HasWithin (conjunction a b) g env t = IsWithin t × (t ≡ types.truth) × HasWithin a g env types.truth × HasWithin b g env types.truth
  HasWithin (disjunction a b) g env t = IsWithin t × (t ≡ types.truth) × HasWithin a g env types.truth × HasWithin b g env types.truth
  HasWithin (negation a) g env t = IsWithin t × (t ≡ types.truth) × HasWithin a g env types.truth
  HasWithin (default a b) g env t = IsWithin t × HasWithin a g env t × HasWithin b g env t
  HasWithin (apply f a) g env t = IsWithin t × (s : Ty) × MacroTakes g (find f env) f s t × HasWithin a g env s
  HasWithin (function p body a) g env t =
      IsWithin t × (s : Ty) × (inner : Locals) × HasWithin a g env s × FitsWithin p g env s inner × HasWithin body g inner t
  HasWithin (summap p body e) g env t =
      IsWithin t × (s : Ty) × (inner : Locals) × (t ≡ natural) × HasWithin e g env (types.set_of s) × FitsWithin p g env s inner
      × HasWithin body g inner natural

  -- as HasAll
  pub HaveAllWithin : Trees → Environment → Locals → List Ty → Type 0
  HaveAllWithin no_tree g env ts = ts ≡ []
  HaveAllWithin (tree e es) g env ts = (s : Ty) × (rest : List Ty) × (ts ≡ s ∷ rest) × HasWithin e g env s × HaveAllWithin es g env rest

  -- as HasEach
  pub HaveEachWithin : Trees → Environment → Locals → Ty → Type 0
  HaveEachWithin no_tree g env t = Unit {0}
  HaveEachWithin (tree e es) g env t = HasWithin e g env t × HaveEachWithin es g env t

  -- as BoundsHave
  pub BoundsWithin : Axes → Environment → Locals → Type 0
  BoundsWithin no_axis g env = Unit {0}
  BoundsWithin (axis x e rest) g env = HasWithin e g env natural × BoundsWithin rest g env

  -- as Rows
  pub RowsWithin : Quals → Environment → Locals → Locals → Type 0
  RowsWithin no_qual g env env' = env' ≡ env
  RowsWithin (from p e rest) g env env' =
      (s : Ty) × (inner : Locals) × HasWithin e g env (types.set_of s) × FitsWithin p g env s inner × RowsWithin rest g inner env'
  RowsWithin (cells p q e rest) g env env' =
      (s : Ty) × (mid : Locals) × (inner : Locals) × HasWithin e g env (types.array_of (count_pats (axes p)) s)
      × FitAxesWithin (axes p) g env mid × FitsWithin q g mid s inner × RowsWithin rest g inner env'
  RowsWithin (same p e rest) g env env' = (s : Ty) × (inner : Locals) × HasWithin e g env s × FitsWithin p g env s inner × RowsWithin rest g inner env'
  RowsWithin (test e rest) g env env' = HasWithin e g env types.truth × RowsWithin rest g env env'

  -- as Binds
  pub BindsWithin : Defs → Environment → Locals → Locals → Type 0
  BindsWithin no_def g env env' = env' ≡ env
  BindsWithin (def p e rest) g env env' = (s : Ty) × (inner : Locals) × HasWithin e g env s × FitsWithin p g env s inner × BindsWithin rest g inner env'

-- as DeclHas
abbrev pub DeclHasWithin : Declaration → Environment → Sort → Type 0
DeclHasWithin (val x e) g (value t) = HasWithin e g [] t
DeclHasWithin (val x e) g (macro s t) = ⊥
DeclHasWithin (mac f p body) g (value t) = ⊥
DeclHasWithin (mac f p body) g (macro s t) = (inner : Locals) × FitsWithin p g [] s inner × HasWithin body g inner t
DeclHasWithin (read x reader e) g (value t) = IsWithin t × (t ≡ reader_type reader) × HasWithin e g [] (argument_type reader)
DeclHasWithin (read x reader e) g (macro s t) = ⊥
DeclHasWithin (bare e) g (value t) = HasWithin e g [] t
DeclHasWithin (bare e) g (macro s t) = ⊥

-- an expression whose type is within the limits has it by the one typing where it has it by the other, whatever stands before it
abbrev pub ExpressionUses : Type 0
ExpressionUses = (earlier : List Declaration) (e : Tree) (env : Locals) (t : Ty) → IsWithin t → Has e (environment_of earlier) env t ↔ HasWithin e (environment_of earlier) env t

-- and so has a declaration its sort
abbrev pub DeclarationUses : Type 0
DeclarationUses = (earlier : List Declaration) (d : Declaration) (s : Sort) → DeclHas d (environment_of earlier) s ↔ DeclHasWithin d (environment_of earlier) s
