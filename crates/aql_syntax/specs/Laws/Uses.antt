-- Each type that a typing uses is within the limits.
use Rattle.std.proofs.Common.{◌≡◌, ◌↔◌, ℕ, zero, suc, List, [], ◌∷◌, ◌++◌, replicate, Bool, true, false, Option, Some, None, sym, subst}
use Rattle.aql_value.specs.Strict.{Strict}
use Rattle.aql_ty.specs.Types as types
use Rattle.aql_ty.specs.Types.{Ty, natural, Tys, no_type, type, IsRank, IsWithin, Sort, value, macro, tys_of, index_type}
use Rattle.aql_ty.specs.Laws.Types.{natural_within, truth_within, member_within, cell_within, PartsWithin, parts_within, first_within, rest_within}
use Rattle.aql_ty.specs.OperationTypes.{strict_rule}
use Rattle.aql_syntax.specs.Tree as tree
use Rattle.aql_syntax.specs.Tree.{Name, Pat, Pats, Tree, Trees, Axes, Quals, Defs, Declaration, declared_name, count_pats, count_axes, axes}
use Rattle.aql_syntax.specs.Names.{names_equal, find}
use Rattle.aql_syntax.specs.Typing.{Environment, Locals, MacroTakes, PatternFits, FitsAll, FitsAxes, FirstWithin, OperandWithin, Has, HasAll, HasEach, BoundsHave, Rows, Binds, DeclHas, if_name, environment_of}
use Rattle.aql_syntax.specs.Uses.{EnvironmentWithin, FitsWithin, FitAllWithin, FitAxesWithin, HasWithin, HaveAllWithin, HaveEachWithin, BoundsWithin, RowsWithin, BindsWithin, DeclHasWithin}

-- The operands of an operation.

-- each type of a list is within the limits
abbrev pub EachWithin : List Ty → Type 0
EachWithin [] = Unit {0}
EachWithin (t ∷ ts) = IsWithin t × EachWithin ts

each-part : (ts : List Ty) → PartsWithin (tys_of ts) → EachWithin ts
each-part [] h = tt
each-part (t ∷ ts) h = (first_within t (tys_of ts) h, each-part ts (rest_within t (tys_of ts) h))

each-replicate : (n : ℕ) (t : Ty) → IsWithin t → EachWithin (replicate n t)
each-replicate zero t h = tt
each-replicate (suc n) t h = (h, each-replicate n t h)

each-append : (a b : List Ty) → EachWithin a → EachWithin b → EachWithin (a ++ b)
each-append [] b h k = k
each-append (t ∷ a) b h k = (h.0, each-append a b h.1 k)

along : {ts ss : List Ty} → ts ≡ ss → EachWithin ss → EachWithin ts
along e h = subst EachWithin (sym e) h

first-along : {ts ss : List Ty} → ts ≡ ss → FirstWithin ts → FirstWithin ss
first-along e h = subst FirstWithin e h

-- what is asked of the first operand holds all the operands within the limits
pub operands-within : (o : Strict) (ts : List Ty) (t : Ty) → IsWithin t → strict_rule o ts t → OperandWithin o ts → EachWithin ts
operands-within (Strict.nat n) ts t w r q = along r.0 tt
operands-within (Strict.bool b) ts t w r q = along r.0 tt
operands-within (Strict.text s) ts t w r q = along r.0 tt
operands-within Strict.bottom ts t w r q = along r tt
operands-within Strict.tuple ts t w r q = each-part ts (parts_within (tys_of ts) (subst IsWithin r.1 w))
operands-within (Strict.proj at of) ts t w r q = along r.2 (first-along r.2 q, tt)
operands-within (Strict.arith o) ts t w r q = along r.0 (natural_within, (natural_within, tt))
operands-within (Strict.compare o) ts t w r q = let k = first-along r.1 q in along r.1 (k, (k, tt))
operands-within Strict.empty ts t w r q = along r.1 tt
operands-within Strict.single ts t w r q = along r.1 (member_within r.0 (subst IsWithin r.2 w), tt)
operands-within Strict.union ts t w r q = let k = subst IsWithin r.2 w in along r.1 (k, (k, tt))
operands-within Strict.gen ts t w r q = along r.0 (natural_within, tt)
operands-within Strict.get ts t w r q = along r (first-along r q, tt)
operands-within Strict.sub ts t w r q = along r.2 (first-along r.2 q, each-replicate r.0 natural natural_within)
operands-within (Strict.dim k) ts t w r q = along r.2 (first-along r.2 q, tt)
operands-within (Strict.index k) ts t w r q = along r.2 (first-along r.2 q, tt)
operands-within (Strict.literal k) ts t w r q =
    along r.3 (each-append (replicate k natural) (replicate r.1 r.0) (each-replicate k natural natural_within)
    (each-replicate r.1 r.0 (cell_within k r.0 (subst IsWithin r.4 w))))

operand-within : (o : Strict) (ts : List Ty) → FirstWithin ts → OperandWithin o ts
operand-within (Strict.compare o) ts h = h
operand-within Strict.get ts h = h
operand-within Strict.sub ts h = h
operand-within (Strict.dim k) ts h = h
operand-within (Strict.index k) ts h = h
operand-within (Strict.proj at of) ts h = h
operand-within (Strict.nat n) ts h = tt
operand-within (Strict.bool b) ts h = tt
operand-within (Strict.text s) ts h = tt
operand-within Strict.bottom ts h = tt
operand-within Strict.tuple ts h = tt
operand-within (Strict.arith o) ts h = tt
operand-within Strict.empty ts h = tt
operand-within Strict.single ts h = tt
operand-within Strict.union ts h = tt
operand-within Strict.gen ts h = tt
operand-within (Strict.literal k) ts h = tt

-- Names.

takes-within : (g : Environment) → EnvironmentWithin g → (o : Option Ty) (f : Name) (s t : Ty) → MacroTakes g o f s t → IsWithin s
takes-within g w (Some l) f s t h = absurd h
takes-within g w None f s t h = (w.takes f s t h).0

-- the names of earlier positions have types within the limits
pub environment_of-within : (ds : List Declaration) → EnvironmentWithin (environment_of ds)
environment_of-within [] = record { has = λ x t h. absurd h; takes = λ x s t h. absurd h }
environment_of-within (d ∷ earlier) =
    let w = environment_of-within earlier in
    record {
      has = λ x t h. chosen (names_equal x (declared_name d)) (λ k. k.0) (λ k. w.has x t k) h;
      takes = λ x s t h. chosen (names_equal x (declared_name d)) (λ k. (k.0, k.1)) (λ k. w.takes x s t k) h;
    }
  where
    chosen : {A B C : Type 0} (b : Bool) → (A → C) → (B → C) → if_name b A B → C
    chosen true f k h = f h
    chosen false f k h = k h

-- Patterns.

mutual
  fits-uses : (g : Environment) (p : Pat) (env : Locals) (t : Ty) (env' : Locals) → IsWithin t → PatternFits p g env t env' → FitsWithin p g env t env'
  fits-uses g (tree.bind x) env t env' w h = (w, h)
  fits-uses g tree.any env t env' w h = (w, h)
  fits-uses g (tree.equals c) env t env' w h = (w, h.0, h.1)
  fits-uses g (tree.refers x) env t env' w h = (w, h.0, h.1)
  fits-uses g (tree.tuple ps) env t env' w h = (w, h.0, h.1, parts-use g ps env h.0 env' (parts_within h.0 (subst IsWithin h.1 w)) h.2)

  parts-use : (g : Environment) (ps : Pats) (env : Locals) (ts : Tys) (env' : Locals) → PartsWithin ts → FitsAll ps g env ts env' → FitAllWithin ps g env ts env'
  parts-use g tree.no_pat env ts env' w h = h
  parts-use g (tree.pat p ps) env ts env' w h =
      let k = subst PartsWithin h.3 w in
      (h.0, h.1, h.2, h.3, fits-uses g p env h.0 h.2 (first_within h.0 h.1 k) h.4, parts-use g ps h.2 h.1 env' (rest_within h.0 h.1 k) h.5)

axes-use : (g : Environment) (ps : Pats) (env env' : Locals) → FitsAxes ps g env env' → FitAxesWithin ps g env env'
axes-use g tree.no_pat env env' h = h
axes-use g (tree.pat p ps) env env' h = (h.0, fits-uses g p env natural h.0 natural_within h.1, axes-use g ps h.0 env' h.2)

mutual
  fits-only : (g : Environment) (p : Pat) (env : Locals) (t : Ty) (env' : Locals) → FitsWithin p g env t env' → PatternFits p g env t env'
  fits-only g (tree.bind x) env t env' h = h.1
  fits-only g tree.any env t env' h = h.1
  fits-only g (tree.equals c) env t env' h = (h.1, h.2)
  fits-only g (tree.refers x) env t env' h = (h.1, h.2)
  fits-only g (tree.tuple ps) env t env' h = (h.1, h.2, parts-only g ps env h.1 env' h.3)

  parts-only : (g : Environment) (ps : Pats) (env : Locals) (ts : Tys) (env' : Locals) → FitAllWithin ps g env ts env' → FitsAll ps g env ts env'
  parts-only g tree.no_pat env ts env' h = h
  parts-only g (tree.pat p ps) env ts env' h = (h.0, h.1, h.2, h.3, fits-only g p env h.0 h.2 h.4, parts-only g ps h.2 h.1 env' h.5)

axes-only : (g : Environment) (ps : Pats) (env env' : Locals) → FitAxesWithin ps g env env' → FitsAxes ps g env env'
axes-only g tree.no_pat env env' h = h
axes-only g (tree.pat p ps) env env' h = (h.0, fits-only g p env natural h.0 h.1, axes-only g ps h.0 env' h.2)

pattern-within : (g : Environment) (p : Pat) (env : Locals) (t : Ty) (env' : Locals) → FitsWithin p g env t env' → IsWithin t
pattern-within g (tree.bind x) env t env' h = h.0
pattern-within g tree.any env t env' h = h.0
pattern-within g (tree.equals c) env t env' h = h.0
pattern-within g (tree.refers x) env t env' h = h.0
pattern-within g (tree.tuple ps) env t env' h = h.0

-- Expressions.

mutual
  has-uses : (g : Environment) → EnvironmentWithin g → (e : Tree) (env : Locals) (t : Ty) → IsWithin t → Has e g env t → HasWithin e g env t
  has-uses g v (tree.name x) env t w h = (w, h)
  has-uses g v (tree.op o es) env t w h = (w, h.0, h.1, all-use g v es env h.0 (operands-within o h.0 t w h.1 h.2) h.3)
  has-uses g v (tree.members es) env t w h = (w, h.0, h.1, each-uses g v es env h.0 (member_within h.0 (subst IsWithin h.1 w)) h.2)
  has-uses g v (tree.comp head quals) env t w h =
      (w, h.0, h.1, h.2, rows-use g v quals env h.1 h.3, has-uses g v head h.1 h.0 (member_within h.0 (subst IsWithin h.2 w)) h.4)
  has-uses g v (tree.tab xs body) env t w h =
      (w, h.0, h.1, h.2, bounds-use g v xs env h.3, has-uses g v body _ h.0 (cell_within (count_axes xs) h.0 (subst IsWithin h.2 w)) h.4)
  has-uses g v (tree.bindings ds body) env t w h = (w, h.0, binds-use g v ds env h.0 h.1, has-uses g v body h.0 t w h.2)
  has-uses g v (tree.choice c a b) env t w h =
      (w, has-uses g v c env types.truth truth_within h.0, has-uses g v a env t w h.1, has-uses g v b env t w h.2)
  has-uses g v (tree.conjunction a b) env t w h =
      (w, h.0, has-uses g v a env types.truth truth_within h.1, has-uses g v b env types.truth truth_within h.2)
  has-uses g v (tree.disjunction a b) env t w h =
      (w, h.0, has-uses g v a env types.truth truth_within h.1, has-uses g v b env types.truth truth_within h.2)
  has-uses g v (tree.negation a) env t w h = (w, h.0, has-uses g v a env types.truth truth_within h.1)
  has-uses g v (tree.default a b) env t w h = (w, has-uses g v a env t w h.0, has-uses g v b env t w h.1)
  has-uses g v (tree.apply f a) env t w h = (w, h.0, h.1, has-uses g v a env h.0 (takes-within g v (find f env) f h.0 t h.1) h.2)
  has-uses g v (tree.function p body a) env t w h =
      (w, h.0, h.1, has-uses g v a env h.0 h.2 h.3, fits-uses g p env h.0 h.1 h.2 h.4, has-uses g v body h.1 t w h.5)
  has-uses g v (tree.summap p body e) env t w h =
      (w, h.0, h.1, h.2, has-uses g v e env (types.set_of h.0) h.3 h.4, fits-uses g p env h.0 h.1 (member_within h.0 h.3) h.5, has-uses g v body h.1 natural natural_within h.6)

  all-use : (g : Environment) → EnvironmentWithin g → (es : Trees) (env : Locals) (ts : List Ty) → EachWithin ts → HasAll es g env ts → HaveAllWithin es g env ts
  all-use g v tree.no_tree env ts w h = h
  all-use g v (tree.tree e es) env ts w h =
      let k = subst EachWithin h.2 w in (h.0, h.1, h.2, has-uses g v e env h.0 k.0 h.3, all-use g v es env h.1 k.1 h.4)

  each-uses : (g : Environment) → EnvironmentWithin g → (es : Trees) (env : Locals) (t : Ty) → IsWithin t → HasEach es g env t → HaveEachWithin es g env t
  each-uses g v tree.no_tree env t w h = tt
  each-uses g v (tree.tree e es) env t w h = (has-uses g v e env t w h.0, each-uses g v es env t w h.1)

  bounds-use : (g : Environment) → EnvironmentWithin g → (xs : Axes) (env : Locals) → BoundsHave xs g env → BoundsWithin xs g env
  bounds-use g v tree.no_axis env h = tt
  bounds-use g v (tree.axis x e rest) env h = (has-uses g v e env natural natural_within h.0, bounds-use g v rest env h.1)

  rows-use : (g : Environment) → EnvironmentWithin g → (qs : Quals) (env env' : Locals) → Rows qs g env env' → RowsWithin qs g env env'
  rows-use g v tree.no_qual env env' h = h
  rows-use g v (tree.from p e rest) env env' h =
      (h.0, h.1, has-uses g v e env (types.set_of h.0) h.2 h.3, fits-uses g p env h.0 h.1 (member_within h.0 h.2) h.4, rows-use g v rest h.1 env' h.5)
  rows-use g v (tree.cells p q e rest) env env' h = (
    h.0,
    h.1,
    h.2,
    has-uses g v e env (types.array_of (count_pats (axes p)) h.0) h.3 h.4,
    axes-use g (axes p) env h.1 h.5,
    fits-uses g q h.1 h.0 h.2 (cell_within (count_pats (axes p)) h.0 h.3) h.6,
    rows-use g v rest h.2 env' h.7,
  )
  rows-use g v (tree.same p e rest) env env' h =
      (h.0, h.1, has-uses g v e env h.0 h.2 h.3, fits-uses g p env h.0 h.1 h.2 h.4, rows-use g v rest h.1 env' h.5)
  rows-use g v (tree.test e rest) env env' h = (has-uses g v e env types.truth truth_within h.0, rows-use g v rest env env' h.1)

  binds-use : (g : Environment) → EnvironmentWithin g → (ds : Defs) (env env' : Locals) → Binds ds g env env' → BindsWithin ds g env env'
  binds-use g v tree.no_def env env' h = h
  binds-use g v (tree.def p e rest) env env' h =
      (h.0, h.1, has-uses g v e env h.0 h.2 h.3, fits-uses g p env h.0 h.1 h.2 h.4, binds-use g v rest h.1 env' h.5)

expression-within : (g : Environment) (e : Tree) (env : Locals) (t : Ty) → HasWithin e g env t → IsWithin t
expression-within g (tree.name x) env t h = h.0
expression-within g (tree.op o es) env t h = h.0
expression-within g (tree.members es) env t h = h.0
expression-within g (tree.comp head quals) env t h = h.0
expression-within g (tree.tab xs body) env t h = h.0
expression-within g (tree.bindings ds body) env t h = h.0
expression-within g (tree.choice c a b) env t h = h.0
expression-within g (tree.conjunction a b) env t h = h.0
expression-within g (tree.disjunction a b) env t h = h.0
expression-within g (tree.negation a) env t h = h.0
expression-within g (tree.default a b) env t h = h.0
expression-within g (tree.apply f a) env t h = h.0
expression-within g (tree.function p body a) env t h = h.0
expression-within g (tree.summap p body e) env t h = h.0

first-operand : (g : Environment) (es : Trees) (env : Locals) (ts : List Ty) → HaveAllWithin es g env ts → FirstWithin ts
first-operand g tree.no_tree env ts h = subst FirstWithin (sym h) tt
first-operand g (tree.tree e es) env ts h = subst FirstWithin (sym h.2) (expression-within g e env h.0 h.3)

mutual
  has-only : (g : Environment) (e : Tree) (env : Locals) (t : Ty) → HasWithin e g env t → Has e g env t
  has-only g (tree.name x) env t h = h.1
  has-only g (tree.op o es) env t h =
      (h.1, h.2, operand-within o h.1 (first-operand g es env h.1 h.3), all-only g es env h.1 h.3)
  has-only g (tree.members es) env t h = (h.1, h.2, each-only g es env h.1 h.3)
  has-only g (tree.comp head quals) env t h =
      (h.1, h.2, h.3, rows-only g quals env h.2 h.4, has-only g head h.2 h.1 h.5)
  has-only g (tree.tab xs body) env t h = (h.1, h.2, h.3, bounds-only g xs env h.4, has-only g body _ h.1 h.5)
  has-only g (tree.bindings ds body) env t h = (h.1, binds-only g ds env h.1 h.2, has-only g body h.1 t h.3)
  has-only g (tree.choice c a b) env t h = (has-only g c env types.truth h.1, has-only g a env t h.2, has-only g b env t h.3)
  has-only g (tree.conjunction a b) env t h = (h.1, has-only g a env types.truth h.2, has-only g b env types.truth h.3)
  has-only g (tree.disjunction a b) env t h = (h.1, has-only g a env types.truth h.2, has-only g b env types.truth h.3)
  has-only g (tree.negation a) env t h = (h.1, has-only g a env types.truth h.2)
  has-only g (tree.default a b) env t h = (has-only g a env t h.1, has-only g b env t h.2)
  has-only g (tree.apply f a) env t h = (h.1, h.2, has-only g a env h.1 h.3)
  has-only g (tree.function p body a) env t h =
      (h.1, h.2, expression-within g a env h.1 h.3, has-only g a env h.1 h.3, fits-only g p env h.1 h.2 h.4, has-only g body h.2 t h.5)
  has-only g (tree.summap p body e) env t h = (
    h.1,
    h.2,
    h.3,
    expression-within g e env (types.set_of h.1) h.4,
    has-only g e env (types.set_of h.1) h.4,
    fits-only g p env h.1 h.2 h.5,
    has-only g body h.2 natural h.6,
  )

  all-only : (g : Environment) (es : Trees) (env : Locals) (ts : List Ty) → HaveAllWithin es g env ts → HasAll es g env ts
  all-only g tree.no_tree env ts h = h
  all-only g (tree.tree e es) env ts h = (h.0, h.1, h.2, has-only g e env h.0 h.3, all-only g es env h.1 h.4)

  each-only : (g : Environment) (es : Trees) (env : Locals) (t : Ty) → HaveEachWithin es g env t → HasEach es g env t
  each-only g tree.no_tree env t h = tt
  each-only g (tree.tree e es) env t h = (has-only g e env t h.0, each-only g es env t h.1)

  bounds-only : (g : Environment) (xs : Axes) (env : Locals) → BoundsWithin xs g env → BoundsHave xs g env
  bounds-only g tree.no_axis env h = tt
  bounds-only g (tree.axis x e rest) env h = (has-only g e env natural h.0, bounds-only g rest env h.1)

  rows-only : (g : Environment) (qs : Quals) (env env' : Locals) → RowsWithin qs g env env' → Rows qs g env env'
  rows-only g tree.no_qual env env' h = h
  rows-only g (tree.from p e rest) env env' h = (
    h.0,
    h.1,
    expression-within g e env (types.set_of h.0) h.2,
    has-only g e env (types.set_of h.0) h.2,
    fits-only g p env h.0 h.1 h.3,
    rows-only g rest h.1 env' h.4,
  )
  rows-only g (tree.cells p q e rest) env env' h = (
    h.0,
    h.1,
    h.2,
    expression-within g e env (types.array_of (count_pats (axes p)) h.0) h.3,
    has-only g e env (types.array_of (count_pats (axes p)) h.0) h.3,
    axes-only g (axes p) env h.1 h.4,
    fits-only g q h.1 h.0 h.2 h.5,
    rows-only g rest h.2 env' h.6,
  )
  rows-only g (tree.same p e rest) env env' h =
      (h.0, h.1, expression-within g e env h.0 h.2, has-only g e env h.0 h.2, fits-only g p env h.0 h.1 h.3, rows-only g rest h.1 env' h.4)
  rows-only g (tree.test e rest) env env' h = (has-only g e env types.truth h.0, rows-only g rest env env' h.1)

  binds-only : (g : Environment) (ds : Defs) (env env' : Locals) → BindsWithin ds g env env' → Binds ds g env env'
  binds-only g tree.no_def env env' h = h
  binds-only g (tree.def p e rest) env env' h =
      (h.0, h.1, expression-within g e env h.0 h.2, has-only g e env h.0 h.2, fits-only g p env h.0 h.1 h.3, binds-only g rest h.1 env' h.4)

-- each type that the typing of an expression uses is within the limits, where its own is
pub expression-uses : (g : Environment) → EnvironmentWithin g → (e : Tree) (env : Locals) (t : Ty) → IsWithin t → Has e g env t ↔ HasWithin e g env t
expression-uses g v e env t w = ((λ h. has-uses g v e env t w h), (λ h. has-only g e env t h))

-- each type that the typing of a declaration uses is within the limits
pub declaration-uses : (g : Environment) → EnvironmentWithin g → (d : Declaration) (s : Sort) → DeclHas d g s ↔ DeclHasWithin d g s
declaration-uses g v (tree.val x e) (value t) =
    ((λ h. has-uses g v e [] t h.0 h.1), (λ h. (expression-within g e [] t h, has-only g e [] t h)))
declaration-uses g v (tree.val x e) (macro s t) = ((λ h. h), (λ h. h))
declaration-uses g v (tree.mac f p body) (value t) = ((λ h. h), (λ h. h))
declaration-uses g v (tree.mac f p body) (macro s t) = (
  (λ h. (h.0, fits-uses g p [] s h.0 h.1 h.3, has-uses g v body h.0 t h.2 h.4)),
  (λ h. (h.0, pattern-within g p [] s h.0 h.1, expression-within g body h.0 t h.2, fits-only g p [] s h.0 h.1, has-only g body h.0 t h.2)),
)
declaration-uses g v (tree.read x reader e) (value t) = (
  (λ h. (h.1, h.0, has-uses g v e [] _ h.2 h.3)),
  (λ h. (h.1, h.0, expression-within g e [] _ h.2, has-only g e [] _ h.2)),
)
declaration-uses g v (tree.read x reader e) (macro s t) = ((λ h. h), (λ h. h))
declaration-uses g v (tree.bare e) (value t) =
    ((λ h. has-uses g v e [] t h.0 h.1), (λ h. (expression-within g e [] t h, has-only g e [] t h)))
declaration-uses g v (tree.bare e) (macro s t) = ((λ h. h), (λ h. h))

-- so over the positions before it, whatever they are
pub position-uses : (earlier : List Declaration) (d : Declaration) (s : Sort) → DeclHas d (environment_of earlier) s ↔ DeclHasWithin d (environment_of earlier) s
position-uses earlier d s = declaration-uses (environment_of earlier) (environment_of-within earlier) d s
