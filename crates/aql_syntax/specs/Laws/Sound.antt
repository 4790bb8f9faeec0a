-- What follows from the definitions of `Sound`.
use Rattle.std.proofs.Common.{◌≡◌, ℕ, zero, suc, ◌+◌, Bool, true, false, List, [], ◌∷◌, ◌++◌, length, map, replicate, Option, Some, None, refl, sym, ap, subst, ◌∙◌, arith, if◌then◌else◌, ◌^◌, nat_lt, sum}
use Rattle.std.specs.List.{slice_get}
use Rattle.std.specs.Ordering.{is_eq}
use Rattle.std.proofs.lemmas.List.{length-map}
use Rattle.std.proofs.lemmas.Option.{same_Some}
use Rattle.aql_value.specs.Datum as datum
use Rattle.aql_value.specs.Datum.{Datum}
use Rattle.aql_value.specs.Order.{datum_cmp}
use Rattle.aql_value.specs.Indices.{indices}
use Rattle.aql_value.specs.Laws.RowMajor.{indices_lengths}
use Rattle.aql_value.specs.Lists.{Every, below}
use Rattle.aql_value.specs.Laws.Lists.{Every-all, Every-lists}
use Rattle.aql_value.specs.Partial.{◌>>=◌, each, concat, or_else}
use Rattle.aql_value.specs.Laws.Partial.{then-is, each-values, each-length}
use Rattle.aql_value.specs.Operations.{as_natural, as_truth, as_set, as_array, part_of, in_range, sum_of, array_of, dims_of, cell_of, set_of}
use Rattle.aql_value.specs.Indices.{cell}
use Rattle.aql_value.specs.Strict.{Strict, strict_value}
use Rattle.aql_ty.specs.Types as types
use Rattle.aql_ty.specs.Types.{Ty, Tys, no_type, type, natural, Subst, apply, apply_all, IsRank, IsWithin, Sort, value, macro, apply_sort, tys_of, index_type}
use Rattle.aql_ty.specs.Laws.Types.{apply-apply, apply_var}
use Rattle.aql_ty.specs.OperationTypes.{strict_rule}
use Rattle.aql_ty.specs.ValueTypes.{HasType, HaveTypes}
use Rattle.aql_ty.specs.Laws.Operation.{set-members, has-set, has-array, array-table, strict-sound, part-sound, cell-found}
use Rattle.aql_syntax.specs.Tree as tree
use Rattle.aql_syntax.specs.Tree.{Name, Pat, Pats, Tree, Trees, Axes, Quals, Defs, Declaration, count_pats, count_axes, axes}
use Rattle.aql_syntax.specs.Names.{names_equal, find}
use Rattle.aql_syntax.specs.Matching.{Env, Global, outcome, Globals, outcome_of, innermost, lookup, Match, hit, miss, undefined, on_match, with_value, compare_with, constant_value, match, match_parts, match_axes}
use Rattle.aql_syntax.specs.Matching as matching
use Rattle.aql_syntax.specs.Denotation.{call, in_head, over_indices, at_index, den, dens, bound_values, rows, defs}
use Rattle.std.specs.Option.{option_map}
use Rattle.aql_syntax.specs.declared.ast.Kind.{Kind}
use Rattle.aql_syntax.specs.declared.ast.Kind.TheVariants as kinds
use Rattle.aql_syntax.specs.Work.{work}
use Rattle.aql_syntax.specs.Script.{Earlier, entry, globals_of, ReaderMeaning, read_outcome, outcome_after}
use Rattle.aql_syntax.specs.Typing.{Environment, Locals, NameHas, MacroTakes, PatternFits, FitsAll, FitsAxes, with_indices, Has, HasAll, HasEach, Rows, Binds, DeclHas, IsInstanceOf, if_name, extend, environment_of, field_types, record_type, reader_type}
use Rattle.aql_syntax.specs.Sound.{declarations_of, OutcomesTyped, ReadsHave}

-- an array generator that has a typing walks an array of a rank from 1 to 8: its array's type is within the limits
pub generator-rank : (p q : Pat) (e : Tree) (rest : Quals) (g : Environment) (env env' : Locals) → Rows (tree.cells p q e rest) g env env' → IsRank (count_pats (axes p))
generator-rank p q e rest g env env' k = k.3.2.0

-- Instances of the rules of operations.
apply-tys_of : (u : Subst) (Ts : List Ty) → apply_all u (tys_of Ts) ≡ tys_of (map (apply u) Ts)
apply-tys_of u [] = refl
apply-tys_of u (T ∷ Ts) = ap (type (apply u T)) (apply-tys_of u Ts)

map-replicate : (u : Subst) (n : ℕ) (A : Ty) → map (apply u) (replicate n A) ≡ replicate n (apply u A)
map-replicate u zero A = refl
map-replicate u (suc n) A = ap (λ l. apply u A ∷ l) (map-replicate u n A)

map-append : (u : Subst) (As Bs : List Ty) → map (apply u) (As ++ Bs) ≡ map (apply u) As ++ map (apply u) Bs
map-append u [] Bs = refl
map-append u (A ∷ As) Bs = ap (λ l. apply u A ∷ l) (map-append u As Bs)

apply-index_type : (u : Subst) (k : ℕ) → apply u (index_type k) ≡ index_type k
apply-index_type u zero = refl
apply-index_type u (suc zero) = refl
apply-index_type u (suc (suc k)) =
    ap (λ ts. types.product (type natural (type natural ts))) (apply-tys_of u (replicate k natural) ∙ ap tys_of (map-replicate u k natural))

slice_get-instances : (u : Subst) (As : List Ty) (j : ℕ) (T : Ty) → slice_get As j ≡ Some T → slice_get (map (apply u) As) j ≡ Some (apply u T)
slice_get-instances u [] j T e = cc
slice_get-instances u (A ∷ As) zero T e = let z : A ≡ T = cc in ap (λ X. Some (apply u X)) z
slice_get-instances u (A ∷ As) (suc j) T e = slice_get-instances u As j T e

-- an instance of a rule is a rule
pub rule-instance : (u : Subst) (s : Strict) (Ts : List Ty) (T : Ty) → strict_rule s Ts T → strict_rule s (map (apply u) Ts) (apply u T)
rule-instance u (Strict.nat n) Ts T r = (ap (map (apply u)) r.0, ap (apply u) r.1)
rule-instance u (Strict.bool b) Ts T r = (ap (map (apply u)) r.0, ap (apply u) r.1)
rule-instance u (Strict.text s) Ts T r = (ap (map (apply u)) r.0, ap (apply u) r.1)
rule-instance u Strict.bottom Ts T r = ap (map (apply u)) r
rule-instance u Strict.tuple Ts T r = (omega (arith, r.0, length-map Ts (apply u)), ap (apply u) r.1 ∙ ap types.product (apply-tys_of u Ts))
rule-instance u (Strict.proj at of) Ts T r = (
  map (apply u) r.0,
  r.1,
  ap (map (apply u)) r.2 ∙ ap (λ ts. types.product ts ∷ []) (apply-tys_of u r.0),
  length-map r.0 (apply u) ∙ r.3,
  r.4,
  slice_get-instances u r.0 r.1 T r.5,
)
rule-instance u (Strict.arith op) Ts T r = (ap (map (apply u)) r.0, ap (apply u) r.1)
rule-instance u (Strict.compare op) Ts T r = (apply u r.0, ap (map (apply u)) r.1, ap (apply u) r.2)
rule-instance u Strict.empty Ts T r = (apply u r.0, ap (map (apply u)) r.1, ap (apply u) r.2)
rule-instance u Strict.single Ts T r = (apply u r.0, ap (map (apply u)) r.1, ap (apply u) r.2)
rule-instance u Strict.union Ts T r = (apply u r.0, ap (map (apply u)) r.1, ap (apply u) r.2)
rule-instance u Strict.gen Ts T r = (ap (map (apply u)) r.0, ap (apply u) r.1)
rule-instance u Strict.get Ts T r = ap (map (apply u)) r
rule-instance u Strict.sub Ts T r =
    (r.0, r.1, ap (map (apply u)) r.2 ∙ ap (λ l. types.array_of r.0 (apply u T) ∷ l) (map-replicate u r.0 natural))
rule-instance u (Strict.dim rank) Ts T r = (apply u r.0, r.1, ap (map (apply u)) r.2, ap (apply u) r.3 ∙ apply-index_type u rank)
rule-instance u (Strict.index rank) Ts T r = (
  apply u r.0,
  r.1,
  ap (map (apply u)) r.2 ∙ ap (λ I. types.set_of (types.product (tys_of (I ∷ apply u r.0 ∷ []))) ∷ []) (apply-index_type u rank),
  ap (apply u) r.3,
)
rule-instance u (Strict.literal rank) Ts T r = (
  apply u r.0,
  r.1,
  r.2,
  ap (map (apply u)) r.3 ∙ map-append u (replicate rank natural) (replicate r.1 r.0)
      ∙ ap (λ l. l ++ map (apply u) (replicate r.1 r.0)) (map-replicate u rank natural)
      ∙ ap (λ l. replicate rank natural ++ l) (map-replicate u r.1 r.0),
  ap (apply u) r.4,
)

-- Names.

-- the local names have values of their types
abbrev pub EnvHas : Subst → Locals → Env → Type 0
EnvHas u [] [] = Unit {0}
EnvHas u [] (b ∷ vals) = ⊥
EnvHas u (a ∷ env) [] = ⊥
EnvHas u ((x, t) ∷ env) ((y, v) ∷ vals) = (x ≡ y) × HasType (apply u t) v × EnvHas u env vals

-- the positions have values of each of their types, and their macros take values of the one to values of the other
pub record GlobalsHave (g : Environment) (globals : Globals) : Type 0 where
  pub values : (x : Name) (t : Ty) (v : Datum) → g.has x t → outcome_of (find x globals) ≡ Some v → (u : Subst) → HasType (apply u t) v
  pub macros : (f : Name) (s t : Ty) (w v : Datum) → g.takes f s t → (u : Subst) → HasType (apply u s) w → call (find f globals) w ≡ Some v → HasType (apply u t) v

abbrev FoundHave : Subst → Option Ty → Option Datum → Type 0
FoundHave u None None = Unit {0}
FoundHave u None (Some v) = ⊥
FoundHave u (Some t) None = ⊥
FoundHave u (Some t) (Some v) = HasType (apply u t) v

found : (u : Subst) (x : Name) (env : Locals) (vals : Env) → EnvHas u env vals → FoundHave u (find x env) (find x vals)
found u x [] [] h = tt
found u x [] (b ∷ vals) h = absurd h
found u x (a ∷ env) [] h = absurd h
found u x ((y, t) ∷ env) ((z, v) ∷ vals) h =
    subst (λ n. FoundHave u (if names_equal x y then Some t else find x env) (if names_equal x n then Some v else find x vals)) h.0
    (go (names_equal x y) (found u x env vals h.2))
  where
    go : (b : Bool) → FoundHave u (find x env) (find x vals) → FoundHave u (if b then Some t else find x env) (if b then Some v else find x vals)
    go true k = h.1
    go false k = k

name-sound : (u : Subst) (g : Environment) (globals : Globals) → GlobalsHave g globals → (x : Name) (t : Ty) (o : Option Ty) (p : Option Datum) → FoundHave u o p → NameHas g o x t →
    (v : Datum) → innermost p (find x globals) ≡ Some v → HasType (apply u t) v
name-sound u g globals gh x t None None k n v e = gh.values x t v n e u
name-sound u g globals gh x t None (Some w) k n v e = absurd k
name-sound u g globals gh x t (Some s) None k n v e = absurd k
name-sound u g globals gh x t (Some s) (Some w) k n v e =
    let z : w ≡ v = same_Some w v e in subst (λ X. HasType (apply u X) v) (sym n) (subst (HasType (apply u s)) z k)

call-sound : (u : Subst) (g : Environment) (globals : Globals) → GlobalsHave g globals → (f : Name) (s t : Ty) (o : Option Ty) (p : Option Datum) → FoundHave u o p → MacroTakes g o f s t →
    (w v : Datum) → HasType (apply u s) w → call (in_head p (find f globals)) w ≡ Some v → HasType (apply u t) v
call-sound u g globals gh f s t None None k n w v h e = gh.macros f s t w v n u h e
call-sound u g globals gh f s t None (Some y) k n w v h e = absurd k
call-sound u g globals gh f s t (Some r) p k n w v h e = absurd n

-- Matches.
hit-is : (a b : Env) → hit a ≡ hit b → a ≡ b
hit-is a b e = cc

compared : (b : Bool) (vals vals' : Env) → (if b then hit vals else miss) ≡ hit vals' → vals ≡ vals'
compared true vals vals' e = hit-is vals vals' e
compared false vals vals' e = cc

value-hit : (o : Option Datum) (f : Datum → Match) (vals : Env) → with_value o f ≡ hit vals → (w : Datum) × (o ≡ Some w) × (f w ≡ hit vals)
value-hit None f vals e = cc
value-hit (Some w) f vals e = (w, refl, e)

match-hit : (m : Match) (f : Env → Match) (vals : Env) → on_match m f miss undefined ≡ hit vals → (mid : Env) × (m ≡ hit mid) × (f mid ≡ hit vals)
match-hit (hit mid) f vals e = (mid, refl, e)
match-hit miss f vals e = cc
match-hit undefined f vals e = cc

-- the instances of a tuple's types
abbrev pub instance_list : Subst → Tys → List Ty
instance_list u no_type = []
instance_list u (type t ts) = apply u t ∷ instance_list u ts

pub tys_of-listed : (u : Subst) (ts : Tys) → tys_of (instance_list u ts) ≡ apply_all u ts
tys_of-listed u no_type = refl
tys_of-listed u (type t ts) = ap (type (apply u t)) (tys_of-listed u ts)

-- from a number on, the types of a list are those of another
abbrev pub Suffix : List Ty → List Ty → ℕ → Type 0
Suffix all rest j = (m : ℕ) (T : Ty) → slice_get rest m ≡ Some T → slice_get all (j + m) ≡ Some T

mutual
  pub match-sound : (p : Pat) (u : Subst) (g : Environment) (globals : Globals) → GlobalsHave g globals → (env : Locals) (vals : Env) → EnvHas u env vals → (t : Ty) (w : Datum) → HasType (apply u t) w →
      (env' : Locals) → PatternFits p g env t env' → (vals' : Env) → match p globals w vals ≡ hit vals' → EnvHas u env' vals'
  match-sound (tree.bind x) u g globals gh env vals h t w k env' f vals' e =
      subst (λ l. EnvHas u l vals') (sym f) (subst (EnvHas u ((x, t) ∷ env)) (hit-is _ _ e) (refl, k, h))
  match-sound tree.any u g globals gh env vals h t w k env' f vals' e =
      subst (λ l. EnvHas u l vals') (sym f) (subst (EnvHas u env) (hit-is _ _ e) h)
  match-sound (tree.equals c) u g globals gh env vals h t w k env' f vals' e =
      subst (λ l. EnvHas u l vals') (sym f.1) (subst (EnvHas u env) (compared (is_eq (datum_cmp w (constant_value c))) vals vals' e) h)
  match-sound (tree.refers x) u g globals gh env vals h t w k env' f vals' e =
      let r = value-hit (lookup globals vals x) (λ c. compare_with w c vals) vals' e in
      subst (λ l. EnvHas u l vals') (sym f.1) (subst (EnvHas u env) (compared (is_eq (datum_cmp w r.0)) vals vals' r.2) h)
  match-sound (tree.tuple ps) u g globals gh env vals h t w k env' f vals' e =
      parts-sound ps u g globals gh env vals h f.0 (instance_list u f.0) 0 (count_pats ps) w
      (subst (λ X. HasType X w) (ap types.product (sym (tys_of-listed u f.0))) (subst (λ X. HasType (apply u X) w) f.1 k))
      (λ m T q. let z : 0 + m ≡ m = omega arith in ap (slice_get (instance_list u f.0)) z ∙ q) env' f.2 vals' e

  pub parts-sound : (ps : Pats) (u : Subst) (g : Environment) (globals : Globals) → GlobalsHave g globals → (env : Locals) (vals : Env) → EnvHas u env vals → (ts : Tys) (all : List Ty) (j n : ℕ) (w : Datum) →
      HasType (types.product (tys_of all)) w → Suffix all (instance_list u ts) j → (env' : Locals) → FitsAll ps g env ts env' → (vals' : Env) → match_parts ps globals (suc j) n w vals ≡ hit vals' → EnvHas u env' vals'
  parts-sound tree.no_pat u g globals gh env vals h ts all j n w k s env' f vals' e =
      subst (λ l. EnvHas u l vals') (sym f.1) (subst (EnvHas u env) (hit-is _ _ e) h)
  parts-sound (tree.pat p ps) u g globals gh env vals h ts all j n w k s env' f vals' e =
      let r = value-hit (part_of (suc j) n w) (λ x. on_match (match p globals x vals) (match_parts ps globals (suc (suc j)) n w) miss undefined) vals' e in
      let m = match-hit (match p globals r.0 vals) (match_parts ps globals (suc (suc j)) n w) vals' r.2 in
      let s' : Suffix all (instance_list u (type f.0 f.1)) j = subst (λ l. Suffix all (instance_list u l) j) f.3 s in
      let z : j + 0 ≡ j = omega arith in
      let first : slice_get all j ≡ Some (apply u f.0) = ap (slice_get all) (sym z) ∙ s' 0 (apply u f.0) refl in
      parts-sound ps u g globals gh f.2 m.0
      (match-sound p u g globals gh env vals h f.0 r.0 (part-sound all n j (apply u f.0) w r.0 k first r.1) f.2 f.4 m.0 m.1)
      f.1 all (suc j) n w k (λ i T q. let y : suc j + i ≡ j + suc i = omega arith in ap (slice_get all) y ∙ s' (suc i) T q) env' f.5 vals' m.2

axes-sound : (ps : Pats) (u : Subst) (g : Environment) (globals : Globals) → GlobalsHave g globals → (env : Locals) (vals : Env) → EnvHas u env vals → (at : List ℕ) → (env' : Locals) → FitsAxes ps g env env' →
    (vals' : Env) → match_axes ps globals at vals ≡ hit vals' → EnvHas u env' vals'
axes-sound tree.no_pat u g globals gh env vals h at env' f vals' e = subst (λ l. EnvHas u l vals') (sym f) (subst (EnvHas u env) (hit-is _ _ e) h)
axes-sound (tree.pat p ps) u g globals gh env vals h [] env' f vals' e = cc
axes-sound (tree.pat p ps) u g globals gh env vals h (i ∷ at) env' f vals' e =
    let m = match-hit (match p globals (datum.natural i) vals) (match_axes ps globals at) vals' e in
    axes-sound ps u g globals gh f.0 m.0 (match-sound p u g globals gh env vals h natural (datum.natural i) (i, refl) f.0 f.1 m.0 m.1) at env' f.2 vals' m.2

-- what holds of a match's answer, from what holds where it hits
matched : {A : Type 0} (m : Match) (f : Env → Option A) (a : Option A) (P : A → Type 0) (x : A) →
    ((vals : Env) → m ≡ hit vals → f vals ≡ Some x → P x) → (a ≡ Some x → P x) → on_match m f a None ≡ Some x → P x
matched (hit vals) f a P x h k e = h vals refl e
matched miss f a P x h k e = k e
matched undefined f a P x h k e = cc

-- the loops over an array's indices
over_indices-every : {A : Type 0} (P : A → Type 0) (ds : List ℕ) (f : List ℕ → Option (List A)) → ((at : List ℕ) (l : List A) → f at ≡ Some l → Every P l) → (r : List A) → over_indices ds f ≡ Some r → Every P r
over_indices-every P [] f h r e = h [] r e
over_indices-every {A} P (d ∷ ds) f h r e =
    let a = then-is (each (λ i. over_indices ds (λ at. f (i ∷ at))) (below d)) (λ found. Some (concat found)) r e in
    let every = each-values (λ i. over_indices ds (λ at. f (i ∷ at))) (λ i. Unit {0}) (λ (l : List A). Every P l)
    (λ i l y q. over_indices-every P ds (λ at. f (i ∷ at)) (λ at m q'. h (i ∷ at) m q') l q) (below d) a.0 (Every-all (λ (i : ℕ). Unit {0}) (λ i. tt) (below d)) a.1 in
    subst (Every P) (same_Some (concat a.0) r a.2) (Every-lists P a.0 every)

-- the names of a tabulation's indices are numbers
indices-have : (xs : Axes) (u : Subst) (env : Locals) (vals : Env) (at : List ℕ) → EnvHas u env vals → length at ≡ count_axes xs → EnvHas u (with_indices xs env) (at_index xs at vals)
indices-have tree.no_axis u env vals at h e = h
indices-have (tree.axis x b rest) u env vals [] h e = absurd (omega (arith, e))
indices-have (tree.axis x b rest) u env vals (i ∷ at) h e = indices-have rest u ((x, natural) ∷ env) ((x, datum.natural i) ∷ vals) at (refl, (i, refl), h) (omega (arith, e))

bounds-length : (xs : Axes) (globals : Globals) (vals : Env) (ws : List Datum) → bound_values xs globals vals ≡ Some ws → length ws ≡ count_axes xs
bounds-length tree.no_axis globals vals ws e = let z : [] ≡ ws = same_Some _ _ e in ap length (sym z)
bounds-length (tree.axis x b rest) globals vals ws e =
    let a = then-is (den b globals vals) (λ w. bound_values rest globals vals >>= λ ws. Some (w ∷ ws)) ws e in
    let c = then-is (bound_values rest globals vals) (λ ws. Some (a.0 ∷ ws)) ws a.2 in
    ap length (sym (same_Some _ _ c.2)) ∙ ap suc (bounds-length rest globals vals c.0 c.1)

sum-has : (vs : List Datum) (v : Datum) → sum_of vs ≡ Some v → HasType natural v
sum-has vs v e =
    let a = then-is (each as_natural vs) (λ ns. in_range (sum ns)) v e in go (sum a.0) (nat_lt (sum a.0) (2 ^ 128)) a.2
  where
    go : (n : ℕ) (b : Bool) → (if b then Some (datum.natural n) else None) ≡ Some v → HasType natural v
    go n true k = (n, sym (same_Some _ _ k))
    go n false k = cc

test-sound : (o : Option Datum) (a b : Option Datum) (T : Ty) (v : Datum) → (a ≡ Some v → HasType T v) → (b ≡ Some v → HasType T v) →
    (o >>= as_truth >>= λ t. if t then a else b) ≡ Some v → HasType T v
test-sound o a b T v h k e = let r = then-is (o >>= as_truth) (λ t. if t then a else b) v e in go r.0 r.2
  where
    go : (t : Bool) → (if t then a else b) ≡ Some v → HasType T v
    go true m = h m
    go false m = k m

truth-has : (b : Bool) (v : Datum) → Some (datum.truth b) ≡ Some v → HasType types.truth v
truth-has b v e = (b, sym (same_Some _ _ e))

or_else-sound : (o p : Option Datum) (T : Ty) (v : Datum) → (o ≡ Some v → HasType T v) → (p ≡ Some v → HasType T v) → or_else o p ≡ Some v → HasType T v
or_else-sound (Some w) p T v h k e = h e
or_else-sound None p T v h k e = k e

instance-has : (u : Subst) (s t : Ty) (v : Datum) → t ≡ s → HasType (apply u s) v → HasType (apply u t) v
instance-has u s t v e h = subst (λ X. HasType (apply u X) v) (sym e) h

no-rows : (u : Subst) (env' : Locals) (rs : List Env) → Some [] ≡ Some rs → Every (EnvHas u env') rs
no-rows u env' rs e = subst (Every (EnvHas u env')) (same_Some _ _ e) tt

tested-rows : (u : Subst) (env' : Locals) (b : Bool) (o : Option (List Env)) (rs : List Env) → (o ≡ Some rs → Every (EnvHas u env') rs) →
    (if b then o else Some []) ≡ Some rs → Every (EnvHas u env') rs
tested-rows u env' true o rs f e = f e
tested-rows u env' false o rs f e = no-rows u env' rs e

mutual
  pub sound : (e : Tree) (u : Subst) (g : Environment) (globals : Globals) → GlobalsHave g globals → (env : Locals) (vals : Env) → EnvHas u env vals → (t : Ty) → Has e g env t →
      (v : Datum) → den e globals vals ≡ Some v → HasType (apply u t) v
  sound (tree.name x) u g globals gh env vals h t k v e = name-sound u g globals gh x t (find x env) (find x vals) (found u x env vals h) k v e
  sound (tree.op o es) u g globals gh env vals h t k v e =
      let a = then-is (dens es globals vals) (strict_value o) v e in
      strict-sound o (map (apply u) k.0) (apply u t) a.0 v (rule-instance u o k.0 t k.1) (all-sound es u g globals gh env vals h k.0 k.3 a.0 a.1) a.2
  sound (tree.members es) u g globals gh env vals h t k v e =
      let a = then-is (dens es globals vals) (λ ws. Some (set_of ws)) v e in
      instance-has u (types.set_of k.0) t v k.1 (subst (HasType (types.set_of (apply u k.0))) (same_Some _ _ a.2) (has-set (apply u k.0) a.0 (each-sound es u g globals gh env vals h k.0 k.2 a.0 a.1)))
  sound (tree.comp head quals) u g globals gh env vals h t k v e =
      let a = then-is (rows quals globals vals >>= each (den head globals)) (λ ws. Some (set_of ws)) v e in
      let b = then-is (rows quals globals vals) (each (den head globals)) a.0 a.1 in
      let every = each-values (den head globals) (EnvHas u k.1) (HasType (apply u k.0)) (λ inner w i q. sound head u g globals gh k.1 inner i k.0 k.4 w q) b.0 a.0
      (rows-sound quals u g globals gh env vals h k.1 k.3 b.0 b.1) b.2 in
      instance-has u (types.set_of k.0) t v k.2 (subst (HasType (types.set_of (apply u k.0))) (same_Some _ _ a.2) (has-set (apply u k.0) a.0 every))
  sound (tree.tab xs body) u g globals gh env vals h t k v e =
      let a = then-is (bound_values xs globals vals >>= each as_natural) (λ ds. each (λ at. den body globals (at_index xs at vals)) (indices ds) >>= array_of ds) v e in
      let b = then-is (bound_values xs globals vals) (each as_natural) a.0 a.1 in
      let c = then-is (each (λ at. den body globals (at_index xs at vals)) (indices a.0)) (array_of a.0) v a.2 in
      let n : length a.0 ≡ count_axes xs = each-length as_natural b.0 a.0 b.2 ∙ bounds-length xs globals vals b.0 b.1 in
      let every = each-values (λ at. den body globals (at_index xs at vals)) (λ at. length at ≡ length a.0) (HasType (apply u k.0))
      (λ at w l q. sound body u g globals gh (with_indices xs env) (at_index xs at vals) (indices-have xs u env vals at h (l ∙ n)) k.0 k.4 w q) (indices a.0) c.0 (indices_lengths a.0) c.1 in
      instance-has u (types.array_of (count_axes xs) k.0) t v k.2 (subst (λ m. HasType (types.array_of m (apply u k.0)) v) n (has-array (apply u k.0) a.0 c.0 v c.2 every))
  sound (tree.bindings ds body) u g globals gh env vals h t k v e =
      defs-sound ds u g globals gh env vals h k.0 k.1 (den body globals) (apply u t) (λ inner w i q. sound body u g globals gh k.0 inner i t k.2 w q) v e
  sound (tree.choice c a b) u g globals gh env vals h t k v e =
      test-sound (den c globals vals) (den a globals vals) (den b globals vals) (apply u t) v (λ q. sound a u g globals gh env vals h t k.1 v q) (λ q. sound b u g globals gh env vals h t k.2 v q) e
  sound (tree.conjunction a b) u g globals gh env vals h t k v e =
      instance-has u types.truth t v k.0
      (test-sound (den a globals vals) (den b globals vals) (Some (datum.truth false)) types.truth v (λ q. sound b u g globals gh env vals h types.truth k.2 v q) (λ q. truth-has false v q) e)
  sound (tree.disjunction a b) u g globals gh env vals h t k v e =
      instance-has u types.truth t v k.0
      (test-sound (den a globals vals) (Some (datum.truth true)) (den b globals vals) types.truth v (λ q. truth-has true v q) (λ q. sound b u g globals gh env vals h types.truth k.2 v q) e)
  sound (tree.negation a) u g globals gh env vals h t k v e =
      instance-has u types.truth t v k.0
      (test-sound (den a globals vals) (Some (datum.truth false)) (Some (datum.truth true)) types.truth v (λ q. truth-has false v q) (λ q. truth-has true v q) e)
  sound (tree.default a b) u g globals gh env vals h t k v e =
      or_else-sound (den a globals vals) (den b globals vals) (apply u t) v (λ q. sound a u g globals gh env vals h t k.0 v q) (λ q. sound b u g globals gh env vals h t k.1 v q) e
  sound (tree.apply f a) u g globals gh env vals h t k v e =
      let r = then-is (den a globals vals) (call (in_head (find f vals) (find f globals))) v e in
      call-sound u g globals gh f k.0 t (find f env) (find f vals) (found u f env vals h) k.1 r.0 v (sound a u g globals gh env vals h k.0 k.2 r.0 r.1) r.2
  sound (tree.function p body a) u g globals gh env vals h t k v e =
      let r = then-is (den a globals vals) (λ w. on_match (match p globals w vals) (den body globals) None None) v e in
      let w = sound a u g globals gh env vals h k.0 k.3 r.0 r.1 in
      matched (match p globals r.0 vals) (den body globals) None (HasType (apply u t)) v
      (λ inner m q. sound body u g globals gh k.1 inner (match-sound p u g globals gh env vals h k.0 r.0 w k.1 k.4 inner m) t k.5 v q) (λ q. cc) r.2
  sound (tree.summap p body a) u g globals gh env vals h t k v e =
      let r = then-is (den a globals vals >>= as_set >>= each (λ w. on_match (match p globals w vals) (den body globals) None None)) sum_of v e in
      instance-has u natural t v k.2 (sum-has r.0 v r.2)

  pub all-sound : (es : Trees) (u : Subst) (g : Environment) (globals : Globals) → GlobalsHave g globals → (env : Locals) (vals : Env) → EnvHas u env vals → (ts : List Ty) → HasAll es g env ts →
      (ws : List Datum) → dens es globals vals ≡ Some ws → HaveTypes (map (apply u) ts) ws
  all-sound tree.no_tree u g globals gh env vals h ts k ws e =
      subst (HaveTypes (map (apply u) ts)) (same_Some _ _ e) (subst (λ l. HaveTypes (map (apply u) l) []) (sym k) tt)
  all-sound (tree.tree a es) u g globals gh env vals h ts k ws e =
      let r = then-is (den a globals vals) (λ w. dens es globals vals >>= λ ws. Some (w ∷ ws)) ws e in
      let q = then-is (dens es globals vals) (λ ws. Some (r.0 ∷ ws)) ws r.2 in
      subst (HaveTypes (map (apply u) ts)) (same_Some _ _ q.2)
      (subst (λ l. HaveTypes (map (apply u) l) (r.0 ∷ q.0)) (sym k.2) (sound a u g globals gh env vals h k.0 k.3 r.0 r.1, all-sound es u g globals gh env vals h k.1 k.4 q.0 q.1))

  pub each-sound : (es : Trees) (u : Subst) (g : Environment) (globals : Globals) → GlobalsHave g globals → (env : Locals) (vals : Env) → EnvHas u env vals → (t : Ty) → HasEach es g env t →
      (ws : List Datum) → dens es globals vals ≡ Some ws → Every (HasType (apply u t)) ws
  each-sound tree.no_tree u g globals gh env vals h t k ws e = subst (Every (HasType (apply u t))) (same_Some _ _ e) tt
  each-sound (tree.tree a es) u g globals gh env vals h t k ws e =
      let r = then-is (den a globals vals) (λ w. dens es globals vals >>= λ ws. Some (w ∷ ws)) ws e in
      let q = then-is (dens es globals vals) (λ ws. Some (r.0 ∷ ws)) ws r.2 in
      subst (Every (HasType (apply u t))) (same_Some _ _ q.2) (sound a u g globals gh env vals h t k.0 r.0 r.1, each-sound es u g globals gh env vals h t k.1 q.0 q.1)

  pub rows-sound : (qs : Quals) (u : Subst) (g : Environment) (globals : Globals) → GlobalsHave g globals → (env : Locals) (vals : Env) → EnvHas u env vals → (env' : Locals) → Rows qs g env env' →
      (rs : List Env) → rows qs globals vals ≡ Some rs → Every (EnvHas u env') rs
  rows-sound tree.no_qual u g globals gh env vals h env' k rs e =
      subst (Every (EnvHas u env')) (same_Some _ _ e) (subst (λ l. EnvHas u l vals) (sym k) h, tt)
  rows-sound (tree.from p a rest) u g globals gh env vals h env' k rs e =
      let r = then-is (den a globals vals >>= as_set >>= each (λ w. on_match (match p globals w vals) (rows rest globals) (Some []) None)) (λ found. Some (concat found)) rs e in
      let q = then-is (den a globals vals >>= as_set) (each (λ w. on_match (match p globals w vals) (rows rest globals) (Some []) None)) r.0 r.1 in
      let s = then-is (den a globals vals) as_set q.0 q.1 in
      let members = (set-members (apply u k.0) s.0 q.0 (sound a u g globals gh env vals h (types.set_of k.0) k.3 s.0 s.1) s.2).1 in
      let every = each-values (λ w. on_match (match p globals w vals) (rows rest globals) (Some []) None) (HasType (apply u k.0)) (λ l. Every (EnvHas u env') l)
      (λ w l i j. matched (match p globals w vals) (rows rest globals) (Some []) (λ l. Every (EnvHas u env') l) l
      (λ inner m y. rows-sound rest u g globals gh k.1 inner (match-sound p u g globals gh env vals h k.0 w i k.1 k.4 inner m) env' k.5 l y) (λ y. no-rows u env' l y) j) q.0 r.0 members q.2 in
      subst (Every (EnvHas u env')) (same_Some _ _ r.2) (Every-lists (EnvHas u env') r.0 every)
  rows-sound (tree.cells p q a rest) u g globals gh env vals h env' k rs e =
      let r = then-is (den a globals vals) (λ x. dims_of (count_pats (axes p)) x >>= λ ds. over_indices ds (λ at. on_match (match_axes (axes p) globals at vals) (λ inner.
      cell_of x at >>= λ w. on_match (match q globals w inner) (rows rest globals) (Some []) None) (Some []) None)) rs e in
      let s = then-is (dims_of (count_pats (axes p)) r.0) (λ ds. over_indices ds (λ at. on_match (match_axes (axes p) globals at vals) (λ inner.
      cell_of r.0 at >>= λ w. on_match (match q globals w inner) (rows rest globals) (Some []) None) (Some []) None)) rs r.2 in
      let array = sound a u g globals gh env vals h (types.array_of (count_pats (axes p)) k.0) k.4 r.0 r.1 in
      over_indices-every (EnvHas u env') s.0 (λ at. on_match (match_axes (axes p) globals at vals) (λ inner.
      cell_of r.0 at >>= λ w. on_match (match q globals w inner) (rows rest globals) (Some []) None) (Some []) None)
      (λ at l i. matched (match_axes (axes p) globals at vals) (λ inner. cell_of r.0 at >>= λ w. on_match (match q globals w inner) (rows rest globals) (Some []) None) (Some [])
      (λ l. Every (EnvHas u env') l) l
      (λ mid m j. let c = then-is (cell_of r.0 at) (λ w. on_match (match q globals w mid) (rows rest globals) (Some []) None) l j in
      let d = then-is (as_array r.0) (λ t. cell t at) c.0 c.1 in
      let w = cell-found (apply u k.0) at (indices d.0.dims) d.0.cells c.0 (array-table (count_pats (axes p)) (apply u k.0) r.0 d.0 array d.1).cells_have d.2 in
      matched (match q globals c.0 mid) (rows rest globals) (Some []) (λ l. Every (EnvHas u env') l) l
      (λ inner m' y. rows-sound rest u g globals gh k.2 inner
      (match-sound q u g globals gh k.1 mid (axes-sound (axes p) u g globals gh env vals h at k.1 k.5 mid m) k.0 c.0 w k.2 k.6 inner m') env' k.7 l y)
      (λ y. no-rows u env' l y) c.2)
      (λ j. no-rows u env' l j) i) rs s.2
  rows-sound (tree.same p a rest) u g globals gh env vals h env' k rs e =
      let r = then-is (den a globals vals) (λ w. on_match (match p globals w vals) (rows rest globals) (Some []) None) rs e in
      let w = sound a u g globals gh env vals h k.0 k.3 r.0 r.1 in
      matched (match p globals r.0 vals) (rows rest globals) (Some []) (λ l. Every (EnvHas u env') l) rs
      (λ inner m y. rows-sound rest u g globals gh k.1 inner (match-sound p u g globals gh env vals h k.0 r.0 w k.1 k.4 inner m) env' k.5 rs y)
      (λ y. no-rows u env' rs y) r.2
  rows-sound (tree.test a rest) u g globals gh env vals h env' k rs e =
      let r = then-is (den a globals vals >>= as_truth) (λ t. if t then rows rest globals vals else Some []) rs e in
      tested-rows u env' r.0 (rows rest globals vals) rs (λ q. rows-sound rest u g globals gh env vals h env' k.1 rs q) r.2

  pub defs-sound : (ds : Defs) (u : Subst) (g : Environment) (globals : Globals) → GlobalsHave g globals → (env : Locals) (vals : Env) → EnvHas u env vals → (env' : Locals) → Binds ds g env env' →
      (f : Env → Option Datum) (T : Ty) → ((inner : Env) (w : Datum) → EnvHas u env' inner → f inner ≡ Some w → HasType T w) → (v : Datum) → defs ds f globals vals ≡ Some v → HasType T v
  defs-sound tree.no_def u g globals gh env vals h env' k f T c v e = c vals v (subst (λ l. EnvHas u l vals) (sym k) h) e
  defs-sound (tree.def p a rest) u g globals gh env vals h env' k f T c v e =
      let r = then-is (den a globals vals) (λ w. on_match (match p globals w vals) (defs rest f globals) None None) v e in
      let w = sound a u g globals gh env vals h k.0 k.3 r.0 r.1 in
      matched (match p globals r.0 vals) (defs rest f globals) None (HasType T) v
      (λ inner m q. defs-sound rest u g globals gh k.1 inner (match-sound p u g globals gh env vals h k.0 r.0 w k.1 k.4 inner m) env' k.5 f T c v q) (λ q. cc) r.2

pub value-is : (s t : Ty) → value s ≡ value t → s ≡ t
value-is s t e = cc

pub argument-is : (s t a b : Ty) → macro s t ≡ macro a b → s ≡ a
argument-is s t a b e = cc

pub result-is : (s t a b : Ty) → macro s t ≡ macro a b → t ≡ b
result-is s t a b e = cc

-- an instance of an instance
twice : (u k : Subst) (s t : Ty) (v : Datum) → t ≡ apply k s → HasType (apply (λ x. apply u (k x)) s) v → HasType (apply u t) v
twice u k s t v e h = subst (λ X. HasType (apply u X) v) (sym e) (subst (λ X. HasType X v) (sym (apply-apply u k s)) h)

untwice : (u k : Subst) (s t : Ty) (v : Datum) → t ≡ apply k s → HasType (apply u t) v → HasType (apply (λ x. apply u (k x)) s) v
untwice u k s t v e h = subst (λ X. HasType X v) (apply-apply u k s) (subst (λ X. HasType (apply u X) v) e h)

-- a position that gives a value
given-value : (d : Declaration) (g : Environment) (o : Option Datum) → ((t : Ty) (v : Datum) → DeclHas d g (value t) → o ≡ Some v → (u : Subst) → HasType (apply u t) v) →
    (t : Ty) (v : Datum) → IsInstanceOf d g (value t) → o ≡ Some v → (u : Subst) → HasType (apply u t) v
given-value d g o k t v h e u = go h.1 h.2 h.3
  where
    go : (s : Sort) → DeclHas d g s → value t ≡ apply_sort h.0 s → HasType (apply u t) v
    go (value s) i f = twice u h.0 s t v (value-is _ _ f) (k s v i e (λ x. apply u (h.0 x)))
    go (macro s r) i f = cc

no-macro : (d : Declaration) (g : Environment) (s t : Ty) → ((a b : Ty) → DeclHas d g (macro a b) → ⊥) → IsInstanceOf d g (macro s t) → ⊥
no-macro d g s t k h = go h.1 h.2 h.3
  where
    go : (r : Sort) → DeclHas d g r → macro s t ≡ apply_sort h.0 r → ⊥
    go (value a) i f = cc
    go (macro a b) i f = k a b i

no-value : (d : Declaration) (g : Environment) (t : Ty) → ((a : Ty) → DeclHas d g (value a) → ⊥) → IsInstanceOf d g (value t) → ⊥
no-value d g t k h = go h.1 h.2 h.3
  where
    go : (r : Sort) → DeclHas d g r → value t ≡ apply_sort h.0 r → ⊥
    go (value a) i f = k a i
    go (macro a b) i f = cc

macro-sound : (p : Pat) (body : Tree) (g : Environment) (globals : Globals) → GlobalsHave g globals → (f : Name) (s t : Ty) → IsInstanceOf (tree.mac f p body) g (macro s t) → (u : Subst) (w v : Datum) →
    HasType (apply u s) w → on_match (match p globals w []) (den body globals) None None ≡ Some v → HasType (apply u t) v
macro-sound p body g globals gh f s t h u w v k e = go h.1 h.2 h.3
  where
    go : (r : Sort) → DeclHas (tree.mac f p body) g r → macro s t ≡ apply_sort h.0 r → HasType (apply u t) v
    go (value a) i q = cc
    go (macro a b) i q =
        twice u h.0 b t v (result-is _ _ _ _ q)
        (matched (match p globals w []) (den body globals) None (HasType (apply (λ x. apply u (h.0 x)) b)) v
        (λ inner m y. sound body (λ x. apply u (h.0 x)) g globals gh i.0 inner
        (match-sound p (λ x. apply u (h.0 x)) g globals gh [] [] tt a w (untwice u h.0 a s w (argument-is _ _ _ _ q) k) i.0 i.3 inner m) b i.4 v y) (λ y. cc) e)

value-at : (o : Option Datum) (x y : Name) (t : Ty) (v : Datum) (G : Type 0) → (G → o ≡ Some v → (u : Subst) → HasType (apply u t) v) → (g : Environment) (globals : Globals) → GlobalsHave g globals →
    if_name (names_equal x y) (IsWithin t × G) (g.has x t) → outcome_of (find x ((y, outcome o) ∷ globals)) ≡ Some v → (u : Subst) → HasType (apply u t) v
value-at o x y t v G k g globals gh = go (names_equal x y)
  where
    go : (b : Bool) → if_name b (IsWithin t × G) (g.has x t) → outcome_of (if b then Some (outcome o) else find x globals) ≡ Some v → (u : Subst) → HasType (apply u t) v
    go true h e u = k h.1 e u
    go false h e u = gh.values x t v h e u

value-past : (x y : Name) (t : Ty) (v : Datum) (G : Type 0) → (G → ⊥) → (g : Environment) (globals : Globals) (a : Global) → GlobalsHave g globals →
    if_name (names_equal x y) (IsWithin t × G) (g.has x t) → outcome_of (find x ((y, a) ∷ globals)) ≡ Some v → (u : Subst) → HasType (apply u t) v
value-past x y t v G k g globals a gh = go (names_equal x y)
  where
    go : (b : Bool) → if_name b (IsWithin t × G) (g.has x t) → outcome_of (if b then Some a else find x globals) ≡ Some v → (u : Subst) → HasType (apply u t) v
    go true h e u = absurd (k h.1)
    go false h e u = gh.values x t v h e u

macro-past : (o : Option Datum) (x y : Name) (s t : Ty) (w v : Datum) (G : Type 0) → (G → ⊥) → (g : Environment) (globals : Globals) → GlobalsHave g globals →
    if_name (names_equal x y) (IsWithin s × IsWithin t × G) (g.takes x s t) → (u : Subst) → HasType (apply u s) w → call (find x ((y, outcome o) ∷ globals)) w ≡ Some v → HasType (apply u t) v
macro-past o x y s t w v G k g globals gh = go (names_equal x y)
  where
    go : (b : Bool) → if_name b (IsWithin s × IsWithin t × G) (g.takes x s t) → (u : Subst) → HasType (apply u s) w → call (if b then Some (outcome o) else find x globals) w ≡ Some v → HasType (apply u t) v
    go true h u i e = absurd (k h.2)
    go false h u i e = gh.macros x s t w v h u i e

macro-at : (x y : Name) (p : Pat) (body : Tree) (s t : Ty) (w v : Datum) (g : Environment) (globals : Globals) → GlobalsHave g globals →
    if_name (names_equal x y) (IsWithin s × IsWithin t × IsInstanceOf (tree.mac y p body) g (macro s t)) (g.takes x s t) → (u : Subst) → HasType (apply u s) w →
    call (find x ((y, matching.macro (λ w. on_match (match p globals w []) (den body globals) None None) (λ w. on_match (match p globals w []) (work body globals) 0 0)) ∷ globals)) w ≡ Some v → HasType (apply u t) v
macro-at x y p body s t w v g globals gh = go (names_equal x y)
  where
    go : (b : Bool) → if_name b (IsWithin s × IsWithin t × IsInstanceOf (tree.mac y p body) g (macro s t)) (g.takes x s t) → (u : Subst) → HasType (apply u s) w →
        call (if b then Some (matching.macro (λ w. on_match (match p globals w []) (den body globals) None None) (λ w. on_match (match p globals w []) (work body globals) 0 0)) else find x globals) w ≡ Some v → HasType (apply u t) v
    go true h u i e = macro-sound p body g globals gh y s t h.2 u w v i e
    go false h u i e = gh.macros x s t w v h u i e

-- one position more
extended-have : (d : Declaration) (o : Option Datum) (g : Environment) (globals : Globals) → GlobalsHave g globals →
    ((t : Ty) (v : Datum) → DeclHas d g (value t) → o ≡ Some v → (u : Subst) → HasType (apply u t) v) → GlobalsHave (extend d g) (entry d o globals ∷ globals)
extended-have (tree.val y e) o g globals gh k = record {
  values = λ x t v h q u. value-at o x y t v (IsInstanceOf (tree.val y e) g (value t)) (λ i. given-value (tree.val y e) g o k t v i) g globals gh h q u;
  macros = λ x s t w v h u i q. macro-past o x y s t w v (IsInstanceOf (tree.val y e) g (macro s t)) (no-macro (tree.val y e) g s t (λ a b j. j)) g globals gh h u i q;
}
extended-have (tree.mac y p body) o g globals gh k = record {
  values = λ x t v h q u. value-past x y t v (IsInstanceOf (tree.mac y p body) g (value t)) (no-value (tree.mac y p body) g t (λ a j. j)) g globals _ gh h q u;
  macros = λ x s t w v h u i q. macro-at x y p body s t w v g globals gh h u i q;
}
extended-have (tree.read y r e) o g globals gh k = record {
  values = λ x t v h q u. value-at o x y t v (IsInstanceOf (tree.read y r e) g (value t)) (λ i. given-value (tree.read y r e) g o k t v i) g globals gh h q u;
  macros = λ x s t w v h u i q. macro-past o x y s t w v (IsInstanceOf (tree.read y r e) g (macro s t)) (no-macro (tree.read y r e) g s t (λ a b j. j)) g globals gh h u i q;
}
extended-have (tree.bare e) o g globals gh k = record {
  values = λ x t v h q u. value-at o x tree.it t v (IsInstanceOf (tree.bare e) g (value t)) (λ i. given-value (tree.bare e) g o k t v i) g globals gh h q u;
  macros = λ x s t w v h u i q. macro-past o x tree.it s t w v (IsInstanceOf (tree.bare e) g (macro s t)) (no-macro (tree.bare e) g s t (λ a b j. j)) g globals gh h u i q;
}

-- the positions of a script whose outcomes have their types
pub globals-have : (earlier : Earlier) → OutcomesTyped earlier → GlobalsHave (environment_of (declarations_of earlier)) (globals_of earlier)
globals-have [] h = record { values = λ x t v k e u. absurd k; macros = λ f s t w v k u i e. absurd k }
globals-have ((d, o) ∷ earlier) h = extended-have d o (environment_of (declarations_of earlier)) (globals_of earlier) (globals-have earlier h.1) h.0

-- a query's value has each type of the query
pub typed-value : (earlier : Earlier) → OutcomesTyped earlier → (e : Tree) (t : Ty) (v : Datum) → Has e (environment_of (declarations_of earlier)) [] t →
    den e (globals_of earlier) [] ≡ Some v → HasType t v
typed-value earlier h e t v k q =
    subst (λ X. HasType X v) (apply_var t) (sound e types.var (environment_of (declarations_of earlier)) (globals_of earlier) (globals-have earlier h) [] [] tt t k v q)

apply-field_types : (u : Subst) (ks : List Kind) → apply_all u (field_types ks) ≡ field_types ks
apply-field_types u [] = refl
apply-field_types u (kinds.Number ∷ ks) = ap (type natural) (apply-field_types u ks)
apply-field_types u (kinds.Bytes ∷ ks) = ap (type types.text) (apply-field_types u ks)

apply-record_type : (u : Subst) (ks : List Kind) → apply u (record_type ks) ≡ record_type ks
apply-record_type u [] = refl
apply-record_type u (kinds.Number ∷ []) = refl
apply-record_type u (kinds.Bytes ∷ []) = refl
apply-record_type u (k ∷ l ∷ ks) = ap types.product (apply-field_types u (k ∷ l ∷ ks))

-- a reader's type has no variable
pub apply-reader_type : (u : Subst) (r : tree.Reader) → apply u (reader_type r) ≡ reader_type r
apply-reader_type u (tree.plain k) = refl
apply-reader_type u (tree.signed k) = refl
apply-reader_type u (tree.strided k) = refl
apply-reader_type u (tree.records header ks) = ap types.set_of (apply-record_type u ks)

-- the outcome of the next declaration has its types too
pub outcome-has : (reading : ReaderMeaning) → ReadsHave reading → (earlier : Earlier) → OutcomesTyped earlier → (d : Declaration) (o : Option Datum) →
    outcome_after reading d (globals_of earlier) ≡ Some o → OutcomesTyped ((d, o) ∷ earlier)
outcome-has reading rh earlier h (tree.val x e) o q =
    let z : den e (globals_of earlier) [] ≡ o = same_Some _ _ q in
    ((λ t v k m u. sound e u (environment_of (declarations_of earlier)) (globals_of earlier) (globals-have earlier h) [] [] tt t k.1 v (z ∙ m)), h)
outcome-has reading rh earlier h (tree.mac f p body) o q = ((λ t v k m u. absurd k), h)
outcome-has reading rh earlier h (tree.read x r e) o q = ((λ t v k m u. go (den e (globals_of earlier) []) t v k.0 m u q), h)
  where
    made : (p : Option Datum) (a : Datum) → reading r a ≡ p → (t : Ty) (v : Datum) → t ≡ reader_type r → o ≡ Some v → (u : Subst) → option_map (λ w. Some w) p ≡ Some o → HasType (apply u t) v
    made None a n t v k m u q = cc
    made (Some w) a n t v k m u q =
        let z : Some w ≡ o = same_Some _ _ q in
        let y : w ≡ v = same_Some _ _ (z ∙ m) in
        subst (λ X. HasType X v) (sym (ap (apply u) k ∙ apply-reader_type u r)) (subst (HasType (reader_type r)) y (rh r a w n))

    nothing : (t : Ty) (v : Datum) → o ≡ Some v → (u : Subst) → Some None ≡ Some o → HasType (apply u t) v
    nothing t v m u q = let z : None ≡ o = same_Some _ _ q in cc

    go : (p : Option Datum) (t : Ty) (v : Datum) → t ≡ reader_type r → o ≡ Some v → (u : Subst) → read_outcome (reading r) p ≡ Some o → HasType (apply u t) v
    go None t v k m u q = nothing t v m u q
    go (Some a) t v k m u q = made (reading r a) a refl t v k m u q
outcome-has reading rh earlier h (tree.bare e) o q =
    let z : den e (globals_of earlier) [] ≡ o = same_Some _ _ q in
    ((λ t v k m u. sound e u (environment_of (declarations_of earlier)) (globals_of earlier) (globals-have earlier h) [] [] tt t k.1 v (z ∙ m)), h)
