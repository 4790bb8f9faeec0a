-- What the term of a match is worth, and the turns that it takes.
use Rattle.std.proofs.Common.{◌≡◌, ℕ, suc, ◌+◌, Bool, true, false, List, [], ◌∷◌, ◌++◌, length, Option, Some, None, if◌then◌else◌, refl, ap, ◌∙◌, arith}
use Rattle.std.specs.List.{slice_get}
use Rattle.std.specs.Ordering.{is_eq}
use Rattle.aql_value.specs.Datum.{Datum, truth}
use Rattle.aql_value.specs.Order.{datum_cmp}
use Rattle.aql_value.specs.Operations.{part_of}
use Rattle.aql_value.specs.Partial.{◌>>=◌, if_some}
use Rattle.aql_syntax.specs.Tree as tree
use Rattle.aql_syntax.specs.Tree.{Constant, Pat, bind, any, equals, refers, tuple, Pats, no_pat, pat, count_pats}
use Rattle.aql_syntax.specs.Names.{find}
use Rattle.aql_syntax.specs.Matching.{Env, Globals, lookup, Match, hit, miss, undefined, on_match, with_value, compare_with, constant_value, match, match_parts}
use Rattle.nrca_term.specs.Term.{Term}
use Rattle.nrca_term.specs.Meaning.{Outcomes, cden}
use Rattle.nrca_term.specs.Turns.{settle}
use Rattle.nrca_term.specs.Nodes.{variable, if_term, proj_term}
use Rattle.aql_desugar_spec.specs.Start.{Binders, Resolutions, index_of, name_term, constant_term, bind_pattern, bind_patterns, count_binders, count_all_binders, equal_term, match_term, parts_term, matching}
use Rattle.aql_desugar_spec.specs.Scopes.{env_of, Stand, IsInside}
use Rattle.aql_desugar_spec.specs.Laws.Scopes.{cden-name_term, settle-name_term, fits, inside_part, further}
use Rattle.aql_desugar_spec.specs.Laws.Nodes.{let-turns, choose-turns}

-- an equality decides
decided : {A : Type 0} (b : Bool) (env : Env) (k : Env → A) (a u : A) → (if b then k env else a) ≡ on_match (if b then hit env else miss) k a u
decided true env k a u = refl
decided false env k a u = refl

-- the parts that follow, after a part's match
pub on-then : {A : Type 0} (m : Match) (f : Env → Match) (k : Env → A) (a u : A) →
    on_match m (λ env. on_match (f env) k a u) a u ≡ on_match (on_match m f miss undefined) k a u
on-then (hit env) f k a u = refl
on-then miss f k a u = refl
on-then undefined f k a u = refl

with_each : {A : Type 0} (o : Option Datum) (f : Datum → Option A) (m : Datum → Match) (k : Env → Option A) (a : Option A) →
    ((u : Datum) → f u ≡ on_match (m u) k a None) → (o >>= f) ≡ on_match (with_value o m) k a None
with_each None f m k a h = refl
with_each (Some u) f m k a h = h u

with_turns : (o : Option Datum) (f : Datum → ℕ) (m : Datum → Match) (k : Env → ℕ) →
    ((u : Datum) → f u ≡ on_match (m u) k 0 0) → 0 + if_some o f ≡ on_match (with_value o m) k 0 0
with_turns None f m k h = refl
with_turns (Some u) f m k h = omega (arith, h u)

constant-worth : (V : Outcomes) (vals : List Datum) (c : Constant) → cden V vals (constant_term c) ≡ Some (constant_value c)
constant-worth V vals (tree.number n) = refl
constant-worth V vals (tree.truth b) = refl
constant-worth V vals (tree.bytes s) = refl

constant-turns : (V : Outcomes) (vals : List Datum) (c : Constant) → settle V vals (constant_term c) ≡ 0
constant-turns V vals (tree.number n) = refl
constant-turns V vals (tree.truth b) = refl
constant-turns V vals (tree.bytes s) = refl

test-worth : (V : Outcomes) (vals : List Datum) (at : ℕ) (w : Datum) (c inside other : Term) (o : Option Datum) (env : Env) (k : Env → Option Datum) (a : Option Datum) →
    slice_get vals at ≡ Some w → cden V vals c ≡ o → cden V vals inside ≡ k env → cden V vals other ≡ a →
    cden V vals (if_term (equal_term at c) inside other) ≡ on_match (with_value o (λ x. compare_with w x env)) k a None
test-worth V vals at w c inside other None env k a h e i n = rw (h, e) refl
test-worth V vals at w c inside other (Some x) env k a h e i n = rw (h, e, i, n) (decided (is_eq (datum_cmp w x)) env k a None)

test-turns : (V : Outcomes) (vals : List Datum) (at : ℕ) (w : Datum) (c inside other : Term) (o : Option Datum) (env : Env) (k : Env → ℕ) →
    slice_get vals at ≡ Some w → cden V vals c ≡ o → settle V vals c ≡ 0 → settle V vals inside ≡ k env → settle V vals other ≡ 0 →
    settle V vals (if_term (equal_term at c) inside other) ≡ on_match (with_value o (λ x. compare_with w x env)) k 0 0
test-turns V vals at w c inside other None env k h e z i n =
    choose-turns V vals (equal_term at c) inside other 0 None (k env) 0 (omega arith) (rw (h, e) refl) i n
test-turns V vals at w c inside other (Some x) env k h e z i n =
    choose-turns V vals (equal_term at c) inside other 0 (Some (truth (is_eq (datum_cmp w x)))) (k env) 0 (omega arith) (rw (h, e) refl) i n
    ∙ go (is_eq (datum_cmp w x))
  where
    go : (b : Bool) → 0 + (if b then k env else 0) ≡ on_match (if b then hit env else miss) k 0 0
    go true = omega arith
    go false = refl

mutual
  pub cden-match_term : (V : Outcomes) (globals : Globals) (known : Resolutions) → Stand V globals known →
      (p : Pat) (s : Binders) (vals : List Datum) (at : ℕ) (w : Datum) (inside other : Term) (k : Env → Option Datum) (a : Option Datum) →
      length s ≡ length vals → slice_get vals at ≡ Some w → ((l : List Datum) → cden V l other ≡ a) →
      IsInside (λ l. cden V l inside) (count_binders p) (bind_pattern p s) vals k →
      cden V vals (match_term p known s at inside other) ≡ on_match (match p globals w (env_of s vals)) k a None
  cden-match_term V globals known all (bind x) s vals at w inside other k a e h n i = rw h (i (w ∷ []) refl)
  cden-match_term V globals known all any s vals at w inside other k a e h n i = i [] refl
  cden-match_term V globals known all (equals c) s vals at w inside other k a e h n i =
      test-worth V vals at w (constant_term c) inside other (Some (constant_value c)) (env_of s vals) k a h (constant-worth V vals c) (i [] refl) (n vals)
  cden-match_term V globals known all (refers x) s vals at w inside other k a e h n i =
      test-worth V vals at w (name_term (index_of x s) (find x known)) inside other (lookup globals (env_of s vals) x) (env_of s vals) k a h
      (cden-name_term V globals known all x s vals e) (i [] refl) (n vals)
  cden-match_term V globals known all (tuple ps) s vals at w inside other k a e h n i =
      cden-parts_term V globals known all ps s vals at 1 (count_pats ps) w inside other k a e h n i

  pub cden-parts_term : (V : Outcomes) (globals : Globals) (known : Resolutions) → Stand V globals known →
      (ps : Pats) (s : Binders) (vals : List Datum) (at j c : ℕ) (w : Datum) (inside other : Term) (k : Env → Option Datum) (a : Option Datum) →
      length s ≡ length vals → slice_get vals at ≡ Some w → ((l : List Datum) → cden V l other ≡ a) →
      IsInside (λ l. cden V l inside) (count_all_binders ps) (bind_patterns ps s) vals k →
      cden V vals (parts_term ps known s at j c inside other) ≡ on_match (match_parts ps globals j c w (env_of s vals)) k a None
  cden-parts_term V globals known all no_pat s vals at j c w inside other k a e h n i = i [] refl
  cden-parts_term V globals known all (pat p ps) s vals at j c w inside other k a e h n i =
      rw h (with_each (part_of j c w)
      (λ u. cden V (u ∷ vals) (match_term p known (None ∷ s) 0 (parts_term ps known (bind_pattern p (None ∷ s)) (at + (count_binders p + 1)) (suc j) c inside other) other))
      (λ u. on_match (match p globals u (env_of s vals)) (match_parts ps globals (suc j) c w) miss undefined) k a
      (λ u.
      cden-match_term V globals known all p (None ∷ s) (u ∷ vals) 0 u
      (parts_term ps known (bind_pattern p (None ∷ s)) (at + (count_binders p + 1)) (suc j) c inside other) other
      (λ env. on_match (match_parts ps globals (suc j) c w env) k a None) a (ap suc e) refl n
      (λ new l.
      cden-parts_term V globals known all ps (bind_pattern p (None ∷ s)) (new ++ (u ∷ vals)) (at + (count_binders p + 1)) (suc j) c w inside other k a
      (fits p s vals u new e l) (further new vals at (count_binders p) w u l h) n
      (inside_part (λ l'. cden V l' inside) (count_binders p) (count_all_binders ps) (bind_patterns ps (bind_pattern p (None ∷ s))) vals k u new l i))
      ∙ on-then (match p globals u (env_of s vals)) (match_parts ps globals (suc j) c w) k a None))

mutual
  pub settle-match_term : (V : Outcomes) (globals : Globals) (known : Resolutions) → Stand V globals known →
      (p : Pat) (s : Binders) (vals : List Datum) (at : ℕ) (w : Datum) (inside other : Term) (k : Env → ℕ) →
      length s ≡ length vals → slice_get vals at ≡ Some w → ((l : List Datum) → settle V l other ≡ 0) →
      IsInside (λ l. settle V l inside) (count_binders p) (bind_pattern p s) vals k →
      settle V vals (match_term p known s at inside other) ≡ on_match (match p globals w (env_of s vals)) k 0 0
  settle-match_term V globals known all (bind x) s vals at w inside other k e h n i =
      let-turns V vals (variable at) inside 0 (Some w) (λ v. settle V (v ∷ vals) inside) refl h (λ v. refl) ∙ (let z = i (w ∷ []) refl in omega arith)
  settle-match_term V globals known all any s vals at w inside other k e h n i = i [] refl
  settle-match_term V globals known all (equals c) s vals at w inside other k e h n i =
      test-turns V vals at w (constant_term c) inside other (Some (constant_value c)) (env_of s vals) k h (constant-worth V vals c) (constant-turns V vals c) (i [] refl) (n vals)
  settle-match_term V globals known all (refers x) s vals at w inside other k e h n i =
      test-turns V vals at w (name_term (index_of x s) (find x known)) inside other (lookup globals (env_of s vals) x) (env_of s vals) k h
      (cden-name_term V globals known all x s vals e) (settle-name_term V vals (index_of x s) (find x known)) (i [] refl) (n vals)
  settle-match_term V globals known all (tuple ps) s vals at w inside other k e h n i =
      settle-parts_term V globals known all ps s vals at 1 (count_pats ps) w inside other k e h n i

  pub settle-parts_term : (V : Outcomes) (globals : Globals) (known : Resolutions) → Stand V globals known →
      (ps : Pats) (s : Binders) (vals : List Datum) (at j c : ℕ) (w : Datum) (inside other : Term) (k : Env → ℕ) →
      length s ≡ length vals → slice_get vals at ≡ Some w → ((l : List Datum) → settle V l other ≡ 0) →
      IsInside (λ l. settle V l inside) (count_all_binders ps) (bind_patterns ps s) vals k →
      settle V vals (parts_term ps known s at j c inside other) ≡ on_match (match_parts ps globals j c w (env_of s vals)) k 0 0
  settle-parts_term V globals known all no_pat s vals at j c w inside other k e h n i = i [] refl
  settle-parts_term V globals known all (pat p ps) s vals at j c w inside other k e h n i =
      let-turns V vals (proj_term j c (variable at))
      (match_term p known (None ∷ s) 0 (parts_term ps known (bind_pattern p (None ∷ s)) (at + (count_binders p + 1)) (suc j) c inside other) other)
      0 (part_of j c w)
      (λ u. settle V (u ∷ vals) (match_term p known (None ∷ s) 0 (parts_term ps known (bind_pattern p (None ∷ s)) (at + (count_binders p + 1)) (suc j) c inside other) other))
      refl (rw h refl) (λ u. refl)
      ∙ with_turns (part_of j c w) _ (λ u. on_match (match p globals u (env_of s vals)) (match_parts ps globals (suc j) c w) miss undefined) k
      (λ u.
      settle-match_term V globals known all p (None ∷ s) (u ∷ vals) 0 u
      (parts_term ps known (bind_pattern p (None ∷ s)) (at + (count_binders p + 1)) (suc j) c inside other) other
      (λ env. on_match (match_parts ps globals (suc j) c w env) k 0 0) (ap suc e) refl n
      (λ new l.
      settle-parts_term V globals known all ps (bind_pattern p (None ∷ s)) (new ++ (u ∷ vals)) (at + (count_binders p + 1)) (suc j) c w inside other k
      (fits p s vals u new e l) (further new vals at (count_binders p) w u l h) n
      (inside_part (λ l'. settle V l' inside) (count_binders p) (count_all_binders ps) (bind_patterns ps (bind_pattern p (None ∷ s))) vals k u new l i))
      ∙ on-then (match p globals u (env_of s vals)) (match_parts ps globals (suc j) c w) k 0 0)

-- a term in a scope is worth f of the names, wherever values stand for the variables
abbrev pub IsWorth : Outcomes → (Binders → Term) → (Env → Option Datum) → Type 0
IsWorth V t f = (s : Binders) (vals : List Datum) → length s ≡ length vals → cden V vals (t s) ≡ f (env_of s vals)

-- and takes the turns f of the names
abbrev pub TakesTurns : Outcomes → (Binders → Term) → (Env → ℕ) → Type 0
TakesTurns V t f = (s : Binders) (vals : List Datum) → length s ≡ length vals → settle V vals (t s) ≡ f (env_of s vals)

-- the match of a variable that a node binds
pub match-worth : (V : Outcomes) (globals : Globals) (known : Resolutions) → Stand V globals known →
    (p : Pat) (s : Binders) (vals : List Datum) (t : Binders → Term) (other : Term) (k : Env → Option Datum) (a : Option Datum) →
    length s ≡ length vals → ((l : List Datum) → cden V l other ≡ a) → IsWorth V t k → (w : Datum) →
    cden V (w ∷ vals) (matching p known s t other) ≡ on_match (match p globals w (env_of s vals)) k a None
match-worth V globals known all p s vals t other k a e n h w =
    cden-match_term V globals known all p (None ∷ s) (w ∷ vals) 0 w (t (bind_pattern p (None ∷ s))) other k a (ap suc e) refl n
    (λ new l. h (bind_pattern p (None ∷ s)) (new ++ (w ∷ vals)) (fits p s vals w new e l))

pub match-turns : (V : Outcomes) (globals : Globals) (known : Resolutions) → Stand V globals known →
    (p : Pat) (s : Binders) (vals : List Datum) (t : Binders → Term) (other : Term) (k : Env → ℕ) →
    length s ≡ length vals → ((l : List Datum) → settle V l other ≡ 0) → TakesTurns V t k → (w : Datum) →
    settle V (w ∷ vals) (matching p known s t other) ≡ on_match (match p globals w (env_of s vals)) k 0 0
match-turns V globals known all p s vals t other k e n h w =
    settle-match_term V globals known all p (None ∷ s) (w ∷ vals) 0 w (t (bind_pattern p (None ∷ s))) other k (ap suc e) refl n
    (λ new l. h (bind_pattern p (None ∷ s)) (new ++ (w ∷ vals)) (fits p s vals w new e l))
