-- What follows from the definitions of `Scopes`.
use Rattle.std.proofs.Common.{◌≡◌, ℕ, zero, suc, ◌+◌, true, false, List, [], ◌∷◌, ◌++◌, length, Option, Some, None, if◌then◌else◌, refl, ap, ◌∙◌, subst, arith, append_assoc, length-append}
use Rattle.std.specs.List.{slice_get}
use Rattle.aql_value.specs.Datum.{Datum, natural}
use Rattle.aql_value.specs.Operations.{push_index}
use Rattle.aql_syntax.specs.Tree.{Name, Pat, bind, any, equals, refers, tuple, Pats, no_pat, pat, Axes, no_axis, axis, count_axes}
use Rattle.aql_syntax.specs.Names.{names_equal, find}
use Rattle.aql_syntax.specs.Matching.{Global, Globals, outcome_of, innermost, lookup}
use Rattle.aql_syntax.specs.Denotation.{call, in_head, at_index}
use Rattle.aql_syntax.specs.Work.{turns_of_call}
use Rattle.nrca_term.specs.Meaning.{Outcomes, cden}
use Rattle.nrca_term.specs.Turns.{settle}
use Rattle.aql_desugar_spec.specs.Start.{Binders, Resolved, numbered, inlined, Resolutions, index_under, index_of, position_term, name_term, macro_term, call_term, bind_pattern, bind_patterns, count_binders, count_all_binders, under, bound_axes, grown_axes, under_axes}
use Rattle.aql_desugar_spec.specs.Scopes.{env_of, Stand, ResolvesTo, IsInside}

raise : {A : Type 0} (vals : List A) (v : A) (i : Option ℕ) (w : Option A) → ResolvesTo vals i w → ResolvesTo (v ∷ vals) (index_under i) w
raise vals v None None h = tt
raise vals v None (Some w) h = absurd h
raise vals v (Some i) None h = absurd h
raise vals v (Some i) (Some w) h = h

pub leads : {A : Type 0} (x : Name) (s : Binders) (vals : List A) → length s ≡ length vals → ResolvesTo vals (index_of x s) (find x (env_of s vals))
leads x [] [] e = tt
leads x [] (v ∷ vals) e = absurd (omega arith)
leads x (slot ∷ s) [] e = absurd (omega arith)
leads x (None ∷ s) (v ∷ vals) e = raise vals v (index_of x s) (find x (env_of s vals)) (leads x s vals (omega arith))
leads x (Some y ∷ s) (v ∷ vals) e =
    elim (names_equal x y) as (λ b. ResolvesTo (v ∷ vals) (if b then Some 0 else index_under (index_of x s)) (if b then Some v else find x (env_of s vals))) [
      | true ↦ refl
      | false ↦ raise vals v (index_of x s) (find x (env_of s vals)) (leads x s vals (omega arith))
    ]

name_worth : (V : Outcomes) (vals : List Datum) (i : Option ℕ) (w : Option Datum) (k : Option Resolved) (g : Option Global) →
    ResolvesTo vals i w → cden V vals (position_term k) ≡ outcome_of g → cden V vals (name_term i k) ≡ innermost w g
name_worth V vals (Some i) (Some w) k g h e = h
name_worth V vals (Some i) None k g h e = absurd h
name_worth V vals None (Some w) k g h e = absurd h
name_worth V vals None None k g h e = e

pub cden-name_term : (V : Outcomes) (globals : Globals) (known : Resolutions) → Stand V globals known → (x : Name) (s : Binders) (vals : List Datum) → length s ≡ length vals →
    cden V vals (name_term (index_of x s) (find x known)) ≡ lookup globals (env_of s vals) x
cden-name_term V globals known all x s vals e =
    name_worth V vals (index_of x s) (find x (env_of s vals)) (find x known) (find x globals) (leads x s vals e) (all.names x vals)

settle-position_term : (V : Outcomes) (vals : List Datum) (k : Option Resolved) → settle V vals (position_term k) ≡ 0
settle-position_term V vals None = refl
settle-position_term V vals (Some (numbered n)) = refl
settle-position_term V vals (Some (inlined t)) = refl

pub settle-name_term : (V : Outcomes) (vals : List Datum) (i : Option ℕ) (k : Option Resolved) → settle V vals (name_term i k) ≡ 0
settle-name_term V vals (Some i) k = refl
settle-name_term V vals None k = settle-position_term V vals k

call_worth : (V : Outcomes) (vals : List Datum) (w : Datum) (n : ℕ) (i : Option ℕ) (v : Option Datum) (k : Option Resolved) (g : Option Global) →
    ResolvesTo vals i v → cden V (w ∷ vals) (macro_term k n) ≡ call g w → cden V (w ∷ vals) (call_term i k n) ≡ call (in_head v g) w
call_worth V vals w n (Some i) (Some v) k g h e = refl
call_worth V vals w n (Some i) None k g h e = absurd h
call_worth V vals w n None (Some v) k g h e = absurd h
call_worth V vals w n None None k g h e = e

pub cden-call_term : (V : Outcomes) (globals : Globals) (known : Resolutions) → Stand V globals known → (f : Name) (s : Binders) (vals : List Datum) (w : Datum) → length s ≡ length vals →
    cden V (w ∷ vals) (call_term (index_of f s) (find f known) (length s)) ≡ call (in_head (find f (env_of s vals)) (find f globals)) w
cden-call_term V globals known all f s vals w e =
    ap (λ n. cden V (w ∷ vals) (call_term (index_of f s) (find f known) n)) e
    ∙ call_worth V vals w (length vals) (index_of f s) (find f (env_of s vals)) (find f known) (find f globals) (leads f s vals e) (all.calls f w vals)

call_turns : (V : Outcomes) (vals : List Datum) (w : Datum) (n : ℕ) (i : Option ℕ) (v : Option Datum) (k : Option Resolved) (g : Option Global) →
    ResolvesTo vals i v → settle V (w ∷ vals) (macro_term k n) ≡ turns_of_call g w → settle V (w ∷ vals) (call_term i k n) ≡ turns_of_call (in_head v g) w
call_turns V vals w n (Some i) (Some v) k g h e = refl
call_turns V vals w n (Some i) None k g h e = absurd h
call_turns V vals w n None (Some v) k g h e = absurd h
call_turns V vals w n None None k g h e = e

pub settle-call_term : (V : Outcomes) (globals : Globals) (known : Resolutions) → Stand V globals known → (f : Name) (s : Binders) (vals : List Datum) (w : Datum) → length s ≡ length vals →
    settle V (w ∷ vals) (call_term (index_of f s) (find f known) (length s)) ≡ turns_of_call (in_head (find f (env_of s vals)) (find f globals)) w
settle-call_term V globals known all f s vals w e =
    ap (λ n. settle V (w ∷ vals) (call_term (index_of f s) (find f known) n)) e
    ∙ call_turns V vals w (length vals) (index_of f s) (find f (env_of s vals)) (find f known) (find f globals) (leads f s vals e) (all.turns f w vals)

-- The lengths of scopes.
mutual
  pub length-bound : (p : Pat) (s : Binders) → length (bind_pattern p s) ≡ length s + count_binders p
  length-bound (bind x) s = omega arith
  length-bound any s = omega arith
  length-bound (equals c) s = omega arith
  length-bound (refers x) s = omega arith
  length-bound (tuple ps) s = length-bounds ps s

  pub length-bounds : (ps : Pats) (s : Binders) → length (bind_patterns ps s) ≡ length s + count_all_binders ps
  length-bounds no_pat s = omega arith
  length-bounds (pat p ps) s =
      let a : length (bind_patterns ps (bind_pattern p (None ∷ s))) ≡ length (bind_pattern p (None ∷ s)) + count_all_binders ps = length-bounds ps (bind_pattern p (None ∷ s)) in
      let b : length (bind_pattern p (None ∷ s)) ≡ suc (length s) + count_binders p = length-bound p (None ∷ s) in
      omega arith

pub length-under : (m : ℕ) (s : Binders) → length (under m s) ≡ m + length s
length-under zero s = omega arith
length-under (suc m) s = let a : length (under m (None ∷ s)) ≡ m + suc (length s) = length-under m (None ∷ s) in omega arith

pub length-bound_axes : (ps : Pats) (s : Binders) → length (bound_axes ps s) ≡ length s + grown_axes ps
length-bound_axes no_pat s = omega arith
length-bound_axes (pat p ps) s = omega (arith, length-bound_axes ps (bind_pattern p s), length-bound p s)

pub length-under_axes : (xs : Axes) (s : Binders) → length (under_axes xs s) ≡ length s + count_axes xs
length-under_axes no_axis s = omega arith
length-under_axes (axis x e rest) s = let a : length (under_axes rest (Some x ∷ s)) ≡ suc (length s) + count_axes rest = length-under_axes rest (Some x ∷ s) in omega arith

pub fits : {A : Type 0} (p : Pat) (s : Binders) (vals : List A) (u : A) (new : List A) → length s ≡ length vals → length new ≡ count_binders p →
    length (bind_pattern p (None ∷ s)) ≡ length (new ++ (u ∷ vals))
fits p s vals u new e l = omega (arith, length-bound p (None ∷ s), length-append new (u ∷ vals))

-- Values that are put on one by one.
pub fits-walked : (n : ℕ) (at : List ℕ) (s : Binders) (l : List Datum) → length at ≡ n → length s ≡ length l → length (under n s) ≡ length (push_index at l)
fits-walked zero [] s l e f = f
fits-walked zero (i ∷ at) s l e f = absurd (omega arith)
fits-walked (suc n) [] s l e f = absurd (omega arith)
fits-walked (suc n) (i ∷ at) s l e f = fits-walked n at (None ∷ s) (natural i ∷ l) (omega arith) (ap suc f)

pub env_of-walked : (n : ℕ) (at : List ℕ) (s : Binders) (l : List Datum) → length at ≡ n → env_of (under n s) (push_index at l) ≡ env_of s l
env_of-walked zero [] s l e = refl
env_of-walked zero (i ∷ at) s l e = absurd (omega arith)
env_of-walked (suc n) [] s l e = absurd (omega arith)
env_of-walked (suc n) (i ∷ at) s l e = env_of-walked n at (None ∷ s) (natural i ∷ l) (omega arith)

pub fits-index : (xs : Axes) (at : List ℕ) (s : Binders) (vals : List Datum) → length at ≡ count_axes xs → length s ≡ length vals → length (under_axes xs s) ≡ length (push_index at vals)
fits-index no_axis [] s vals e l = l
fits-index no_axis (i ∷ at) s vals e l = absurd (omega arith)
fits-index (axis x b rest) [] s vals e l = absurd (omega arith)
fits-index (axis x b rest) (i ∷ at) s vals e l = fits-index rest at (Some x ∷ s) (natural i ∷ vals) (omega arith) (ap suc l)

pub env_of-index : (xs : Axes) (at : List ℕ) (s : Binders) (vals : List Datum) → length at ≡ count_axes xs → env_of (under_axes xs s) (push_index at vals) ≡ at_index xs at (env_of s vals)
env_of-index no_axis [] s vals e = refl
env_of-index no_axis (i ∷ at) s vals e = absurd (omega arith)
env_of-index (axis x b rest) [] s vals e = absurd (omega arith)
env_of-index (axis x b rest) (i ∷ at) s vals e = env_of-index rest at (Some x ∷ s) (natural i ∷ vals) (omega arith)

pub rejoined : {A : Type 0} (after new : List A) (u : A) (vals : List A) → (after ++ (new ++ (u ∷ []))) ++ vals ≡ after ++ (new ++ (u ∷ vals))
rejoined after new u vals = append_assoc after (new ++ (u ∷ [])) vals ∙ ap (λ l. after ++ l) (append_assoc new (u ∷ []) vals)

pub inside_next : {A : Type 0} (f : List Datum → A) (m n : ℕ) (s : Binders) (vals : List Datum) (k : List (Name × Datum) → A) (new : List Datum) → length new ≡ m →
    IsInside f (n + m) s vals k → IsInside f n s (new ++ vals) k
inside_next f m n s vals k new e h after l =
    let long : length (after ++ new) ≡ n + m = omega (arith, length-append after new) in
    subst (λ l. f l ≡ k (env_of s l)) (append_assoc after new vals) (h (after ++ new) long)

pub inside_part : {A : Type 0} (f : List Datum → A) (m n : ℕ) (s : Binders) (vals : List Datum) (k : List (Name × Datum) → A) (u : Datum) (new : List Datum) → length new ≡ m →
    IsInside f (n + (m + 1)) s vals k → IsInside f n s (new ++ (u ∷ vals)) k
inside_part f m n s vals k u new e h after l =
    let long : length (after ++ (new ++ (u ∷ []))) ≡ n + (m + 1) = omega (arith, length-append after (new ++ (u ∷ [])), length-append new (u ∷ [])) in
    subst (λ l. f l ≡ k (env_of s l)) (rejoined after new u vals) (h (after ++ (new ++ (u ∷ []))) long)

-- a variable further out
pub further : {A : Type 0} (new vals : List A) (at m : ℕ) (w : A) (u : A) → length new ≡ m → slice_get vals at ≡ Some w →
    slice_get (new ++ (u ∷ vals)) (at + (m + 1)) ≡ Some w
further [] vals at zero w u e h = let z : at + (0 + 1) ≡ suc at = omega arith in ap (slice_get (u ∷ vals)) z ∙ h
further [] vals at (suc m) w u e h = absurd (omega arith)
further (v ∷ new) vals at zero w u e h = absurd (omega arith)
further (v ∷ new) vals at (suc m) w u e h =
    let z : at + (suc m + 1) ≡ suc (at + (m + 1)) = omega arith in
    ap (slice_get (v ∷ (new ++ (u ∷ vals)))) z ∙ further new vals at m w u (omega arith) h

pub past : {A : Type 0} (new l : List A) (n m : ℕ) → length new ≡ m → slice_get (new ++ l) (n + m) ≡ slice_get l n
past [] l n zero e = let z : n + 0 ≡ n = omega arith in ap (slice_get l) z
past [] l n (suc m) e = absurd (omega arith)
past (v ∷ new) l n zero e = absurd (omega arith)
past (v ∷ new) l n (suc m) e =
    let z : n + suc m ≡ suc (n + m) = omega arith in ap (slice_get (v ∷ (new ++ l))) z ∙ past new l n m (omega arith)
