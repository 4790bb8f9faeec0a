-- What names mean, and how patterns match values.
use Rattle.std.specs.Prelude.{ℕ, suc, List, [], ◌∷◌, Option, Some, None, if◌then◌else◌}
use Rattle.std.specs.Ordering.{is_eq}
use Rattle.aql_value.specs.Datum as datum
use Rattle.aql_value.specs.Datum.{Datum, natural}
use Rattle.aql_value.specs.Order.{datum_cmp}
use Rattle.aql_value.specs.Operations.{part_of}
use Rattle.aql_syntax.specs.Tree.{Name, Constant, number, truth, bytes, Pat, bind, any, equals, refers, tuple, Pats, no_pat, pat, count_pats}
use Rattle.aql_syntax.specs.Names.{find}

-- local names with their values, the innermost first
abbrev pub Env : Type 0
Env = List (Name × Datum)

-- what a position gives to those after it: the outcome of a value, or a macro's meaning and turns as functions of its argument
pub data Global : Type 0 where
  outcome : Option Datum → Global
  macro : (Datum → Option Datum) → (Datum → ℕ) → Global

-- the positions with their names, the latest first
abbrev pub Globals : Type 0
Globals = List (Name × Global)

-- a macro, and a name that nothing declares, have no value
abbrev pub outcome_of : Option Global → Option Datum
outcome_of None = None
outcome_of (Some (outcome o)) = o
outcome_of (Some (macro f turns)) = None

-- the value of a local name, or else that of a position
abbrev pub innermost : Option Datum → Option Global → Option Datum
innermost (Some w) g = Some w
innermost None g = outcome_of g

-- the value of a name: of the innermost local name, else of the latest position that declares it
abbrev pub lookup : Globals → Env → Name → Option Datum
lookup globals env x = innermost (find x env) (find x globals)

-- what a match gives: the names with those that it binds, no match, or undefined
pub data Match : Type 0 where
  hit : Env → Match
  miss : Match
  undefined : Match

-- by what a match gives: f of the names, or what stands for no match, or for undefined
abbrev pub on_match : {A : Type 0} → Match → (Env → A) → A → A → A
on_match (hit env) f a b = f env
on_match miss f a b = a
on_match undefined f a b = b

-- the match of a value that is there, undefined where there is none
abbrev pub with_value : Option Datum → (Datum → Match) → Match
with_value None f = undefined
with_value (Some w) f = f w

-- an equal value matches, and binds nothing
abbrev pub compare_with : Datum → Datum → Env → Match
compare_with w c env = if is_eq (datum_cmp w c) then hit env else miss

-- the value of a constant in a pattern
abbrev pub constant_value : Constant → Datum
constant_value (number n) = natural n
constant_value (truth b) = datum.truth b
constant_value (bytes s) = datum.text s

abbrev mutual
  -- the pattern against a value, under names
  pub match : Pat → Globals → Datum → Env → Match
  match (bind x) globals w env = hit ((x, w) ∷ env)
  match any globals w env = hit env
  match (equals c) globals w env = compare_with w (constant_value c) env
  match (refers x) globals w env = with_value (lookup globals env x) (λ c. compare_with w c env)
  match (tuple ps) globals w env = match_parts ps globals 1 (count_pats ps) w env

  -- the parts of w from part j on, w being a tuple of n parts, each under the names that those before it bind
  pub match_parts : Pats → Globals → (j n : ℕ) → Datum → Env → Match
  match_parts no_pat globals j n w env = hit env
  match_parts (pat p ps) globals j n w env =
      with_value (part_of j n w) (λ u. on_match (match p globals u env) (match_parts ps globals (suc j) n w) miss undefined)

-- the numbers of an index against the patterns of its parts
abbrev pub match_axes : Pats → Globals → List ℕ → Env → Match
match_axes no_pat globals at env = hit env
match_axes (pat p ps) globals [] env = undefined
match_axes (pat p ps) globals (i ∷ at) env = on_match (match p globals (natural i) env) (match_axes ps globals at) miss undefined
