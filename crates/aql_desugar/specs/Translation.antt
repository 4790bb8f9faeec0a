-- What translation answers for a declaration.
use Rattle.std.specs.Prelude.{◌≡◌, ℕ, ◌-◌, ◌*◌, ◌^◌, ◌≤◌, ◌++◌, min, List, [], map, take, Option, Some, None}
use Rattle.std.specs.List.{slice_get}
use Rattle.aql_ty.specs.Types.{Ty, Sort, IsType}
use Rattle.aql_syntax.specs.Tree.{Tree, Declaration}
use Rattle.aql_syntax.specs.View.{tree_of, decls_of}
use Rattle.aql_syntax.specs.declared.ast.Expr.{Expr}
use Rattle.aql_syntax.specs.declared.ast.Decl.{Decl}
use Rattle.aql_syntax.specs.declared.ast.Decls.{Decls}
use Rattle.aql_syntax.specs.Denotation.{den}
use Rattle.aql_syntax.specs.Work.{work}
use Rattle.aql_syntax.specs.Script.{Earlier, globals_of}
use Rattle.aql_syntax.specs.Sound.{declarations_of}
use Rattle.aql_syntax.specs.Typing.{Has, environment_of}
use Rattle.aql_syntax.specs.Size.{before, size, levels, extents_of, expanded_size, expanded_levels, PassLimits}
use Rattle.aql_syntax.specs.Measured.{latest}
use Rattle.aql_infer_steps.specs.Typed.{ArePrincipal, sorts_of}
use Rattle.aql_infer_steps.specs.declared.typed.Typed.{Typed}
use Rattle.nrca_term.specs.Term.{Term, Closed, WellFormed, weight_of, IsSmall}
use Rattle.nrca_term.specs.Meaning.{Outcomes, cden}
use Rattle.nrca_term.specs.Turns.{settle}
use Rattle.nrca_term.specs.Typing.{instances, ctyped}
use Rattle.aql_desugar_spec.specs.Start.{start, knowns_of, query}
use Rattle.aql_desugar_spec.specs.Positions.{outcomes_of, value_type}
use Rattle.aql_desugar.specs.declared.fault.Fault.{Fault}
use Rattle.aql_desugar.specs.declared.fault.Fault.TheVariants as faults

-- the expression of a declaration that is there
abbrev pub query_at : Option Declaration → Option Tree
query_at None = None
query_at (Some d) = query d

-- the expression of declaration n, counted from 1: of a readval its argument. A macro has none.
abbrev pub query_of : List Declaration → ℕ → Option Tree
query_of ds n = query_at (slice_get ds (n - 1))

-- the types of the positions before declaration n, in order
abbrev pub types_before : List Sort → ℕ → List Ty
types_before sorts n = map value_type (take (n - 1) sorts)

-- What the term is that translates the expression e of declaration n. What it says of types is said of the answer of inference,
-- a principal sort for each declaration.
pub record IsTranslated (ds : List Declaration) (sorts : List Sort) (n : ℕ) (e : Tree) (t : Term) : Type 0 where
  -- it is the start term, and nothing else
  pub exact : t ≡ start e (knowns_of (before ds n)) []
  -- it has no free variable, and each part of its nodes has the variables that the node's form binds there
  pub closed : Closed 0 t
  pub well_formed : WellFormed t
  -- It is worth what the expression denotes and undefined where that is, whatever outcomes the declarations before it have,
  -- and those after it.
  pub meaning : (earlier : Earlier) (later : Outcomes) → declarations_of earlier ≡ before ds n →
      cden (outcomes_of earlier ++ later) [] t ≡ den e (globals_of earlier) []
  -- it takes the turns of the expression as written
  pub turns : (earlier : Earlier) (later : Outcomes) → declarations_of earlier ≡ before ds n →
      settle (outcomes_of earlier ++ later) [] t ≡ work e (globals_of earlier) []
  -- it weighs at most 64 times the expanded size
  pub weight : ArePrincipal [] ds sorts → weight_of t ≤ 64 * expanded_size ds n
  -- each type of the expression that is one of the language is a type of it, over the principal types of the positions
  pub types : ArePrincipal [] ds sorts → (later : List Ty) (T : Ty) → IsType T → Has e (environment_of (before ds n)) [] T →
      ctyped (instances (types_before sorts n ++ later)) [] t T

-- the term translates declaration n of the code's, where that has an expression
abbrev pub Translates : Decls → Typed → ℕ → Term → Type 0
Translates decls typed n t =
    (e : Tree) → query_of (decls_of decls.items.items) n ≡ Some e → IsTranslated (decls_of decls.items.items) (sorts_of typed.items.items) n e t

-- The term, which has no variable around it, is small where the schemes are the answer of inference.
abbrev pub IsSmallWherePrincipal : Decls → Typed → Term → Type 0
IsSmallWherePrincipal decls typed t = ArePrincipal [] (decls_of decls.items.items) (sorts_of typed.items.items) → IsSmall 0 t

-- the size of an expression of the code after these declarations, every macro in its place
abbrev pub size_in : Expr → List Decl → ℕ
size_in e earlier = size (tree_of e) (extents_of (latest earlier))

-- and its levels
abbrev pub levels_in : Expr → List Decl → ℕ
levels_in e earlier = levels (tree_of e) (extents_of (latest earlier))

-- the fault of what passes a limit, with both numbers up to the greatest of 64 bits; nothing is said of want of memory
abbrev pub IsFaultAt : (size levels : ℕ) → Fault → Type 0
IsFaultAt size levels (faults.Large s l) = PassLimits size levels × (s ≡ min size (2 ^ 64 - 1)) × (l ≡ min levels (2 ^ 64 - 1))
IsFaultAt size levels faults.Memory = Unit {0}

-- the fault is that of declaration n
abbrev pub IsTranslationFault : List Declaration → ℕ → Fault → Type 0
IsTranslationFault ds n f = IsFaultAt (expanded_size ds n) (expanded_levels ds n) f
