-- What a name means, what an application of a macro is, and positions that an expression does not use.
use Rattle.std.specs.Prelude.{◌≡◌, false, [], ◌∷◌, ◌++◌, Option, Some, None}
use Rattle.aql_value.specs.Datum.{Datum}
use Rattle.aql_value.specs.Partial.{◌>>=◌}
use Rattle.aql_syntax.specs.Tree.{Name, Pat, bind, any, equals, refers, tuple, Pats, no_pat, pat, Tree, name, op, members, comp, tab, bindings, choice, conjunction, disjunction, negation, default, apply, function, summap, Trees, no_tree, tree, Axes, no_axis, axis, Quals, no_qual, from, cells, same, test, Defs, no_def, def, mac, axes}
use Rattle.aql_syntax.specs.Names.{names_equal, find}
use Rattle.aql_syntax.specs.Matching.{Env, Global, Globals, outcome_of, lookup, on_match, match}
use Rattle.aql_syntax.specs.Denotation.{den}
use Rattle.aql_syntax.specs.Script.{Earlier, globals_of}
use Rattle.aql_syntax.specs.Work.{work}

-- a name is the innermost local name
abbrev pub InnermostIsMeant : Type 0
InnermostIsMeant = (globals : Globals) (env : Env) (x : Name) (w : Datum) → find x env ≡ Some w → lookup globals env x ≡ Some w

-- else it is the latest position that declares it
abbrev pub LatestIsMeant : Type 0
LatestIsMeant = (globals : Globals) (env : Env) (x : Name) → find x env ≡ None → lookup globals env x ≡ outcome_of (find x globals)

-- the application of the latest macro: its body under the match of its pattern alone, over the positions before it
abbrev pub MacroIsItsBody : Type 0
MacroIsItsBody = (f : Name) (p : Pat) (body a : Tree) (o : Option Datum) (earlier : Earlier) (env : Env) → find f env ≡ None →
    den (apply f a) (globals_of ((mac f p body, o) ∷ earlier)) env
    ≡ (den a (globals_of ((mac f p body, o) ∷ earlier)) env >>= λ w. on_match (match p (globals_of earlier) w []) (den body (globals_of earlier)) None None)

abbrev mutual
  -- the pattern compares with no such name
  pub PatAvoids : Name → Pat → Type 0
  PatAvoids x (bind y) = Unit {0}
  PatAvoids x any = Unit {0}
  PatAvoids x (equals c) = Unit {0}
  PatAvoids x (refers y) = names_equal y x ≡ false
  PatAvoids x (tuple ps) = PatsAvoid x ps

  -- nor does any of these patterns
  pub PatsAvoid : Name → Pats → Type 0
  PatsAvoid x no_pat = Unit {0}
  PatsAvoid x (pat p ps) = PatAvoids x p × PatsAvoid x ps

abbrev mutual
  -- the expression uses no such name, be it as a value or in head position; what it binds itself may be called so
  pub Avoids : Name → Tree → Type 0
  Avoids x (name y) = names_equal y x ≡ false
  Avoids x (op o es) = AllAvoid x es
  Avoids x (members es) = AllAvoid x es
  Avoids x (comp head quals) = QualsAvoid x quals × Avoids x head
  Avoids x (tab xs body) = AxesAvoid x xs × Avoids x body
  Avoids x (bindings ds body) = DefsAvoid x ds × Avoids x body
  Avoids x (choice c a b) = Avoids x c × Avoids x a × Avoids x b
  Avoids x (conjunction a b) = Avoids x a × Avoids x b
  Avoids x (disjunction a b) = Avoids x a × Avoids x b
  Avoids x (negation a) = Avoids x a
  Avoids x (default a b) = Avoids x a × Avoids x b
  Avoids x (apply f a) = (names_equal f x ≡ false) × Avoids x a
  Avoids x (function p body a) = PatAvoids x p × Avoids x body × Avoids x a
  Avoids x (summap p body e) = PatAvoids x p × Avoids x body × Avoids x e

  -- nor does any of these expressions
  pub AllAvoid : Name → Trees → Type 0
  AllAvoid x no_tree = Unit {0}
  AllAvoid x (tree e es) = Avoids x e × AllAvoid x es

  -- nor does any of these bounds
  pub AxesAvoid : Name → Axes → Type 0
  AxesAvoid x no_axis = Unit {0}
  AxesAvoid x (axis y e rest) = Avoids x e × AxesAvoid x rest

  -- nor does any of these qualifiers
  pub QualsAvoid : Name → Quals → Type 0
  QualsAvoid x no_qual = Unit {0}
  QualsAvoid x (from p e rest) = PatAvoids x p × Avoids x e × QualsAvoid x rest
  QualsAvoid x (cells p q e rest) = PatsAvoid x (axes p) × PatAvoids x q × Avoids x e × QualsAvoid x rest
  QualsAvoid x (same p e rest) = PatAvoids x p × Avoids x e × QualsAvoid x rest
  QualsAvoid x (test e rest) = Avoids x e × QualsAvoid x rest

  -- nor does any of these definitions
  pub DefsAvoid : Name → Defs → Type 0
  DefsAvoid x no_def = Unit {0}
  DefsAvoid x (def p e rest) = PatAvoids x p × Avoids x e × DefsAvoid x rest

-- a position whose name an expression does not use changes nothing of its value, wherever it stands among the positions
abbrev pub UnusedKeepsValue : Type 0
UnusedKeepsValue = (x : Name) (a : Global) (later earlier : Globals) (e : Tree) → Avoids x e → (env : Env) →
    den e (later ++ (x, a) ∷ earlier) env ≡ den e (later ++ earlier) env

-- nor of its turns
abbrev pub UnusedKeepsTurns : Type 0
UnusedKeepsTurns = (x : Name) (a : Global) (later earlier : Globals) (e : Tree) → Avoids x e → (env : Env) →
    work e (later ++ (x, a) ∷ earlier) env ≡ work e (later ++ earlier) env
