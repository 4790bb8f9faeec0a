-- What the loops of an array generator are worth, and the turns that they take.
use Rattle.std.proofs.Common.{◌≡◌, ℕ, zero, suc, ◌+◌, nat_eq, List, [], ◌∷◌, ◌++◌, length, map, Option, Some, None, if◌then◌else◌, refl, sym, ap, ◌∙◌, subst, arith, append_assoc, length-append, inl, inr}
use Rattle.std.proofs.Math.Path.{fun_ext}
use Rattle.std.proofs.lemmas.Bool.{cases_Bool, eqb-true}
use Rattle.std.proofs.lemmas.List.{length-map}
use Rattle.std.specs.List.{slice_get}
use Rattle.aql_value.specs.Datum.{Datum, natural, set, nil, Table}
use Rattle.aql_value.specs.Laws.Datum.{list_of-data_of}
use Rattle.aql_value.specs.Indices.{cell, offset_of}
use Rattle.aql_value.specs.Laws.RowMajor.{cell-offset_of}
use Rattle.aql_value.specs.Lists.{below}
use Rattle.aql_value.specs.Laws.Lists.{length-below}
use Rattle.aql_value.specs.Operations.{as_set, as_array, dims_of, cell_of, push_index, union_all}
use Rattle.aql_value.specs.Laws.Operations.{each-naturals}
use Rattle.aql_value.specs.Partial.{◌>>=◌, each, total, if_some}
use Rattle.aql_value.specs.Laws.Partial.{each-map, total-map}
use Rattle.aql_value.specs.Strict.{Strict}
use Rattle.aql_syntax.specs.Laws.Index.{part_natural}
use Rattle.aql_syntax.specs.Tree.{Pats, no_pat, pat, count_pats}
use Rattle.aql_syntax.specs.Matching.{Env, Globals, on_match, match, match_axes}
use Rattle.aql_syntax.specs.Denotation.{over_indices}
use Rattle.aql_syntax.specs.Work.{turns_over}
use Rattle.nrca_term.specs.Term.{Term, none, plain}
use Rattle.nrca_term.specs.Meaning.{Outcomes, cden, part_values, here}
use Rattle.nrca_term.specs.Turns.{settle}
use Rattle.nrca_term.specs.Nodes.{variable, gen_term, let_term, empty_term}
use Rattle.nrca_term.specs.Laws.Variants.{settle-strict}
use Rattle.aql_desugar_spec.specs.Start.{Binders, Resolutions, bind_pattern, count_binders, dimension, loops_term, under, bound_axes, grown_axes, axes_term, index_terms, cell_term, cell_binders, array_term}
use Rattle.aql_desugar_spec.specs.Scopes.{env_of, Stand, IsInside}
use Rattle.aql_desugar_spec.specs.Laws.Scopes.{inside_next, length-bound, length-bound_axes, fits-walked, env_of-walked, past}
use Rattle.aql_desugar_spec.specs.Laws.Nodes.{heads, union_all-heads, let-worth, let_heads, matched_heads, let-turns, big_union-turns}
use Rattle.aql_desugar_spec.specs.Laws.Matching.{on-then, cden-match_term, settle-match_term}

slice_get-middle : (pre ds : List ℕ) (d j : ℕ) → j ≡ length pre → slice_get (pre ++ (d ∷ ds)) j ≡ Some d
slice_get-middle [] ds d zero e = refl
slice_get-middle [] ds d (suc j) e = absurd (omega arith)
slice_get-middle (x ∷ pre) ds d zero e = absurd (omega arith)
slice_get-middle (x ∷ pre) ds d (suc j) e = slice_get-middle pre ds d j (omega arith)

-- a dimension, where the array has that rank
dim-worth : (V : Outcomes) (l : List Datum) (rank j at : ℕ) (a : Datum) (full : List ℕ) (d : ℕ) → slice_get l at ≡ Some a →
    dims_of rank a ≡ Some full → length full ≡ rank → slice_get full j ≡ Some d → cden V l (dimension rank (suc j) at) ≡ Some (natural d)
dim-worth V l zero j at a [] d h e n g = cc
dim-worth V l zero j at a (x ∷ full) d h e n g = absurd (omega arith)
dim-worth V l (suc zero) j at a [] d h e n g = absurd (omega arith)
dim-worth V l (suc zero) zero at a (x ∷ []) d h e n g = let z : x ≡ d = cc in rw (h, e) (ap (λ m. Some (natural m)) z)
dim-worth V l (suc zero) (suc j) at a (x ∷ []) d h e n g = cc
dim-worth V l (suc zero) j at a (x ∷ y ∷ full) d h e n g = absurd (omega arith)
dim-worth V l (suc (suc r)) j at a [] d h e n g = absurd (omega arith)
dim-worth V l (suc (suc r)) j at a (x ∷ []) d h e n g = absurd (omega arith)
dim-worth V l (suc (suc r)) j at a (x ∷ y ∷ full) d h e n g =
    rw (h, e) (part_natural (x ∷ y ∷ full) (suc (suc r)) j d n g)

dim-none : (V : Outcomes) (l : List Datum) (rank j at : ℕ) (a : Datum) → slice_get l at ≡ Some a → dims_of rank a ≡ None →
    cden V l (dimension rank j at) ≡ None
dim-none V l zero j at a h e = rw (h, e) refl
dim-none V l (suc zero) j at a h e = rw (h, e) refl
dim-none V l (suc (suc r)) j at a h e = rw (h, e) refl

settle-dimension : (V : Outcomes) (l : List Datum) (rank j at : ℕ) → settle V l (dimension rank j at) ≡ 0
settle-dimension V l zero j at = refl
settle-dimension V l (suc zero) j at = refl
settle-dimension V l (suc (suc r)) j at = refl

-- the members of `gen` of a number
members-worth : (V : Outcomes) (l : List Datum) (t : Term) (d : ℕ) → cden V l t ≡ Some (natural d) →
    (cden V l (gen_term t) >>= as_set) ≡ Some (map natural (below d))
members-worth V l t d e = rw (e, list_of-data_of (map natural (below d))) refl

pub cden-loops_term : (V : Outcomes) (g : Env → Option Datum) (rank : ℕ) (full : List ℕ) (inside : Term) (a : Datum) →
    dims_of rank a ≡ Some full → length full ≡ rank →
    (ds pre : List ℕ) (j : ℕ) → j ≡ length pre → full ≡ pre ++ ds → (l : List Datum) → slice_get l j ≡ Some a → (f : List ℕ → Option (List Env)) →
    ((is : List ℕ) → length is ≡ length ds → cden V (push_index is l) inside ≡ heads g (f is)) →
    cden V l (loops_term (length ds) j rank inside) ≡ heads g (over_indices ds f)
cden-loops_term V g rank full inside a e n [] pre j at is l h f i = i [] refl
cden-loops_term V g rank full inside a e n (d ∷ ds) pre j at is l h f i =
    rw (members-worth V l (dimension rank (suc j) j) d (dim-worth V l rank j j a full d h e n (ap (λ ns. slice_get ns j) is ∙ slice_get-middle pre ds d j at)))
    (ap (λ o. o >>= union_all)
    (each-map (λ m. cden V (m ∷ l) (loops_term (length ds) (suc j) rank inside)) natural (below d)
    ∙ ap (λ F. each F (below d)) (fun_ext (λ m.
    cden-loops_term V g rank full inside a e n ds (pre ++ (d ∷ [])) (suc j) (omega (arith, length-append pre (d ∷ []))) (is ∙ sym (append_assoc pre (d ∷ []) ds))
    (natural m ∷ l) h (λ ns. f (m ∷ ns)) (λ ns c. i (m ∷ ns) (ap suc c)))))
    ∙ union_all-heads (λ m. over_indices ds (λ ns. f (m ∷ ns))) g (below d))

-- without dimensions of that rank
pub cden-loops_none : (V : Outcomes) (rank m : ℕ) (inside : Term) (a : Datum) (l : List Datum) → slice_get l 0 ≡ Some a → dims_of rank a ≡ None →
    cden V l (loops_term (suc m) 0 rank inside) ≡ None
cden-loops_none V rank m inside a l h e = rw (dim-none V l rank 1 0 a h e) refl

gen-turns : (V : Outcomes) (l : List Datum) (t : Term) (d : ℕ) → cden V l t ≡ Some (natural d) → settle V l t ≡ 0 → settle V l (gen_term t) ≡ d
gen-turns V l t d e z = rw e (omega (arith, z))

loop-total : (d : ℕ) (g : Datum → ℕ) (f : ℕ → ℕ) → ((m : ℕ) → g (natural m) ≡ f m) → length (map natural (below d)) + total g (map natural (below d)) ≡ d + total f (below d)
loop-total d g f h =
    omega (arith, length-map (below d) natural, length-below d, total-map g natural (below d) ∙ ap (λ F. total F (below d)) (fun_ext h))

pub settle-loops_term : (V : Outcomes) (rank : ℕ) (full : List ℕ) (inside : Term) (a : Datum) →
    dims_of rank a ≡ Some full → length full ≡ rank →
    (ds pre : List ℕ) (j : ℕ) → j ≡ length pre → full ≡ pre ++ ds → (l : List Datum) → slice_get l j ≡ Some a → (f : List ℕ → ℕ) →
    ((is : List ℕ) → length is ≡ length ds → settle V (push_index is l) inside ≡ f is) →
    settle V l (loops_term (length ds) j rank inside) ≡ turns_over ds f
settle-loops_term V rank full inside a e n [] pre j at is l h f i = i [] refl
settle-loops_term V rank full inside a e n (d ∷ ds) pre j at is l h f i =
    let t = dim-worth V l rank j j a full d h e n (ap (λ ns. slice_get ns j) is ∙ slice_get-middle pre ds d j at) in
    big_union-turns V l (gen_term (dimension rank (suc j) j)) (loops_term (length ds) (suc j) rank inside) d (cden V l (gen_term (dimension rank (suc j) j)))
    (λ m. settle V (m ∷ l) (loops_term (length ds) (suc j) rank inside)) (gen-turns V l (dimension rank (suc j) j) d t (settle-dimension V l rank (suc j) j)) refl (λ m. refl)
    ∙ rw (members-worth V l (dimension rank (suc j) j) d t)
    (let bodies = loop-total d (λ m. settle V (m ∷ l) (loops_term (length ds) (suc j) rank inside)) (λ m. turns_over ds (λ ns. f (m ∷ ns)))
    (λ m.
    settle-loops_term V rank full inside a e n ds (pre ++ (d ∷ [])) (suc j) (omega (arith, length-append pre (d ∷ []))) (is ∙ sym (append_assoc pre (d ∷ []) ds))
    (natural m ∷ l) h (λ ns. f (m ∷ ns)) (λ ns c. i (m ∷ ns) (ap suc c))) in
    omega (arith, bodies))

pub settle-loops_none : (V : Outcomes) (rank m : ℕ) (inside : Term) (a : Datum) (l : List Datum) → slice_get l 0 ≡ Some a → dims_of rank a ≡ None →
    settle V l (loops_term (suc m) 0 rank inside) ≡ 0
settle-loops_none V rank m inside a l h e = rw (dim-none V l rank 1 0 a h e) (omega (arith, settle-dimension V l rank 1 0))

-- each number of an index is the value of its variable, under `added` further ones
abbrev pub Holds : List Datum → ℕ → List ℕ → Type 0
Holds l added [] = Unit {0}
Holds l added (i ∷ is) = (slice_get l (added + length is) ≡ Some (natural i)) × Holds l added is

pub holds-past : (new l : List Datum) (added m : ℕ) (is : List ℕ) → length new ≡ m → Holds l added is → Holds (new ++ l) (added + m) is
holds-past new l added m [] e h = tt
holds-past new l added m (i ∷ is) e h =
    let z : (added + m) + length is ≡ (added + length is) + m = omega arith in
    (ap (slice_get (new ++ l)) z ∙ past new l (added + length is) m e ∙ h.0, holds-past new l added m is e h.1)

pub walked-at : (is : List ℕ) (l : List Datum) (n : ℕ) → slice_get (push_index is l) (n + length is) ≡ slice_get l n
walked-at [] l n = let z : n + 0 ≡ n = omega arith in ap (slice_get l) z
walked-at (i ∷ is) l n =
    let z : n + suc (length is) ≡ suc n + length is = omega arith in
    ap (slice_get (push_index is (natural i ∷ l))) z ∙ walked-at is (natural i ∷ l) (suc n)

pub holds-walked : (is : List ℕ) (l : List Datum) → Holds (push_index is l) 0 is
holds-walked [] l = tt
holds-walked (i ∷ is) l = (walked-at is (natural i ∷ l) 0, holds-walked is (natural i ∷ l))

pub cden-axes_term : (V : Outcomes) (globals : Globals) (known : Resolutions) → Stand V globals known →
    (ps : Pats) (s : Binders) (l : List Datum) (added : ℕ) (is : List ℕ) (inside other : Term) (k : Env → Option Datum) (a : Option Datum) →
    length s ≡ length l → length is ≡ count_pats ps → Holds l added is → ((l : List Datum) → cden V l other ≡ a) →
    IsInside (λ l. cden V l inside) (grown_axes ps) (bound_axes ps s) l k →
    cden V l (axes_term ps known s added inside other) ≡ on_match (match_axes ps globals is (env_of s l)) k a None
cden-axes_term V globals known all no_pat s l added is inside other k a e c h n i = i [] refl
cden-axes_term V globals known all (pat p ps) s l added [] inside other k a e c h n i = absurd (omega arith)
cden-axes_term V globals known all (pat p ps) s l added (m ∷ is) inside other k a e c h n i =
    let z : added + count_pats ps ≡ added + length is = omega arith in
    cden-match_term V globals known all p s l (added + count_pats ps) (natural m) (axes_term ps known (bind_pattern p s) (added + count_binders p) inside other) other
    (λ env. on_match (match_axes ps globals is env) k a None) a e (ap (slice_get l) z ∙ h.0) n
    (λ new f.
    cden-axes_term V globals known all ps (bind_pattern p s) (new ++ l) (added + count_binders p) is inside other k a
    (omega (arith, length-bound p s, length-append new l)) (omega arith) (holds-past new l added (count_binders p) is f h.1) n
    (inside_next (λ l'. cden V l' inside) (count_binders p) (grown_axes ps) (bound_axes ps (bind_pattern p s)) l k new f i))
    ∙ on-then (match p globals (natural m) (env_of s l)) (match_axes ps globals is) k a None

pub settle-axes_term : (V : Outcomes) (globals : Globals) (known : Resolutions) → Stand V globals known →
    (ps : Pats) (s : Binders) (l : List Datum) (added : ℕ) (is : List ℕ) (inside other : Term) (k : Env → ℕ) →
    length s ≡ length l → length is ≡ count_pats ps → Holds l added is → ((l : List Datum) → settle V l other ≡ 0) →
    IsInside (λ l. settle V l inside) (grown_axes ps) (bound_axes ps s) l k →
    settle V l (axes_term ps known s added inside other) ≡ on_match (match_axes ps globals is (env_of s l)) k 0 0
settle-axes_term V globals known all no_pat s l added is inside other k e c h n i = i [] refl
settle-axes_term V globals known all (pat p ps) s l added [] inside other k e c h n i = absurd (omega arith)
settle-axes_term V globals known all (pat p ps) s l added (m ∷ is) inside other k e c h n i =
    let z : added + count_pats ps ≡ added + length is = omega arith in
    settle-match_term V globals known all p s l (added + count_pats ps) (natural m) (axes_term ps known (bind_pattern p s) (added + count_binders p) inside other) other
    (λ env. on_match (match_axes ps globals is env) k 0 0) e (ap (slice_get l) z ∙ h.0) n
    (λ new f.
    settle-axes_term V globals known all ps (bind_pattern p s) (new ++ l) (added + count_binders p) is inside other k
    (omega (arith, length-bound p s, length-append new l)) (omega arith) (holds-past new l added (count_binders p) is f h.1) n
    (inside_next (λ l'. settle V l' inside) (count_binders p) (grown_axes ps) (bound_axes ps (bind_pattern p s)) l k new f i))
    ∙ on-then (match p globals (natural m) (env_of s l)) (match_axes ps globals is) k 0 0

index-worth : (V : Outcomes) (l : List Datum) (added m : ℕ) (is : List ℕ) → length is ≡ m → Holds l added is →
    each here (part_values V l (plain (index_terms m added) none)) ≡ Some (map natural is)
index-worth V l added zero [] e h = refl
index-worth V l added zero (i ∷ is) e h = absurd (omega arith)
index-worth V l added (suc m) [] e h = absurd (omega arith)
index-worth V l added (suc m) (i ∷ is) e h =
    let z : added + m ≡ added + length is = omega arith in
    rw (ap (slice_get l) z ∙ h.0, index-worth V l added m is (omega arith) h.1) refl

cell-worth : (V : Outcomes) (l : List Datum) (added m : ℕ) (is : List ℕ) (a : Datum) → length is ≡ m → Holds l added is → slice_get l (added + m) ≡ Some a →
    cden V l (cell_term m added) ≡ cell_of a is
cell-worth V l added m is a e h at = rw (at, index-worth V l added m is e h, each-naturals is) refl

index-turns : (V : Outcomes) (l : List Datum) (m added : ℕ) → total (settle V l) (index_terms m added) ≡ 0
index-turns V l zero added = refl
index-turns V l (suc m) added = omega (arith, index-turns V l m added)

cell-turns : (V : Outcomes) (l : List Datum) (m added : ℕ) → settle V l (cell_term m added) ≡ 0
cell-turns V l m added = settle-strict V l Strict.sub (variable (added + m) ∷ index_terms m added) ∙ omega (arith, index-turns V l m added)

dims-length : (rank : ℕ) (a : Datum) (ds : List ℕ) → dims_of rank a ≡ Some ds → length ds ≡ rank
dims-length rank a ds = go (as_array a)
  where
    go : (o : Option Table) → (o >>= λ t. if nat_eq (length t.dims) rank then Some t.dims else None) ≡ Some ds → length ds ≡ rank
    go None e = cc
    go (Some t) e = elim (cases_Bool (nat_eq (length t.dims) rank)) [
      | inl b ↦ (let z : t.dims ≡ ds = (let y = (rw b at e) in cc) in subst (λ ns. length ns ≡ rank) z (eqb-true (length t.dims) rank b))
      | inr b ↦ (let y = (rw b at e) in cc)
    ]

-- without an index part, the array has no dimension
no_cell : (a : Datum) → dims_of 0 a ≡ None → cell_of a [] ≡ None
no_cell a = go (as_array a)
  where
    at_dims : (ds : List ℕ) (vs : List Datum) → (if nat_eq (length ds) 0 then Some ds else None) ≡ None → (offset_of ds [] >>= slice_get vs) ≡ None
    at_dims [] vs e = cc
    at_dims (d ∷ ds) vs e = refl

    go : (o : Option Table) → (o >>= λ t. if nat_eq (length t.dims) 0 then Some t.dims else None) ≡ None → (o >>= λ t. cell t []) ≡ None
    go None e = refl
    go (Some t) e = cell-offset_of t [] ∙ at_dims t.dims t.cells e

-- the term at an index that has matched
abbrev at_cell : Pats → Binders → (Binders → Term) → Term
at_cell ps s t =
    let_term (cell_term (count_pats ps) (grown_axes ps))
    (t (cell_binders ps s))

holds_here : (ps : Pats) (is : List ℕ) (l new : List Datum) → length new ≡ grown_axes ps → Holds (new ++ push_index is l) (grown_axes ps) is
holds_here ps is l new e =
    let z : 0 + grown_axes ps ≡ grown_axes ps = omega arith in
    subst (λ n. Holds (new ++ push_index is l) n is) z (holds-past new (push_index is l) 0 (grown_axes ps) is e (holds-walked is l))

array_here : (ps : Pats) (is : List ℕ) (a : Datum) (l new : List Datum) → length is ≡ count_pats ps → length new ≡ grown_axes ps →
    slice_get (new ++ push_index is (a ∷ l)) (grown_axes ps + count_pats ps) ≡ Some a
array_here ps is a l new c e =
    let z : grown_axes ps + count_pats ps ≡ (0 + length is) + grown_axes ps = omega arith in
    ap (slice_get (new ++ push_index is (a ∷ l))) z ∙ past new (push_index is (a ∷ l)) (0 + length is) (grown_axes ps) e ∙ walked-at is (a ∷ l) 0

fits_here : (ps : Pats) (is : List ℕ) (a : Datum) (s : Binders) (vals new : List Datum) → length is ≡ count_pats ps → length s ≡ length vals → length new ≡ grown_axes ps →
    length (cell_binders ps s) ≡ length (new ++ push_index is (a ∷ vals))
fits_here ps is a s vals new c l e =
    omega (arith, length-bound_axes ps (under (count_pats ps) (None ∷ s)), length-append new (push_index is (a ∷ vals)), fits-walked (count_pats ps) is (None ∷ s) (a ∷ vals) c (ap suc l))

index_worth : (V : Outcomes) (globals : Globals) (known : Resolutions) → Stand V globals known →
    (ps : Pats) (s : Binders) (vals : List Datum) (t : Binders → Term) (g : Env → Option Datum) (R : Datum → Env → Option (List Env)) → length s ≡ length vals →
    ((w : Datum) (s' : Binders) (vals' : List Datum) → length s' ≡ length vals' → cden V (w ∷ vals') (t s') ≡ heads g (R w (env_of s' vals'))) →
    (a : Datum) (is : List ℕ) → length is ≡ count_pats ps →
    cden V (push_index is (a ∷ vals)) (axes_term ps known (under (count_pats ps) (None ∷ s)) 0 (at_cell ps s t) empty_term)
    ≡ heads g (on_match (match_axes ps globals is (env_of s vals)) (λ inner. cell_of a is >>= λ w. R w inner) (Some []) None)
index_worth V globals known all ps s vals t g R l h a is c =
    cden-axes_term V globals known all ps (under (count_pats ps) (None ∷ s)) (push_index is (a ∷ vals)) 0 is (at_cell ps s t) empty_term
    (λ inner. heads g (cell_of a is >>= λ w. R w inner)) (Some (set nil))
    (fits-walked (count_pats ps) is (None ∷ s) (a ∷ vals) c (ap suc l)) c (holds-walked is (a ∷ vals)) (λ l. refl)
    (λ new e.
    let-worth (cell-worth V (new ++ push_index is (a ∷ vals)) (grown_axes ps) (count_pats ps) is a c (holds_here ps is (a ∷ vals) new e) (array_here ps is a vals new c e))
    (λ w. h w (cell_binders ps s) (new ++ push_index is (a ∷ vals)) (fits_here ps is a s vals new c l e))
    ∙ let_heads g (cell_of a is) (λ w. R w (env_of (cell_binders ps s) (new ++ push_index is (a ∷ vals)))))
    ∙ matched_heads g (match_axes ps globals is (env_of (under (count_pats ps) (None ∷ s)) (push_index is (a ∷ vals)))) (λ inner. cell_of a is >>= λ w. R w inner)
    ∙ ap (λ env. heads g (on_match (match_axes ps globals is env) (λ inner. cell_of a is >>= λ w. R w inner) (Some []) None)) (env_of-walked (count_pats ps) is (None ∷ s) (a ∷ vals) c)

pub array-worth : (V : Outcomes) (globals : Globals) (known : Resolutions) → Stand V globals known →
    (ps : Pats) (s : Binders) (vals : List Datum) (array : Term) (t : Binders → Term) (o : Option Datum) (g : Env → Option Datum) (R : Datum → Env → Option (List Env)) →
    length s ≡ length vals → cden V vals array ≡ o →
    ((w : Datum) (s' : Binders) (vals' : List Datum) → length s' ≡ length vals' → cden V (w ∷ vals') (t s') ≡ heads g (R w (env_of s' vals'))) →
    cden V vals (array_term ps known s array t empty_term)
    ≡ heads g (o >>= λ a. dims_of (count_pats ps) a >>= λ ds. over_indices ds (λ is.
    on_match (match_axes ps globals is (env_of s vals)) (λ inner. cell_of a is >>= λ w. R w inner) (Some []) None))
array-worth V globals known all ps s vals array t o g R l e h =
    let-worth e (λ a. at_array ps h a (dims_of (count_pats ps) a) refl) ∙ let_heads g o _
  where
    at_array : (ps : Pats) → ((w : Datum) (s' : Binders) (vals' : List Datum) → length s' ≡ length vals' → cden V (w ∷ vals') (t s') ≡ heads g (R w (env_of s' vals'))) →
        (a : Datum) (d : Option (List ℕ)) → dims_of (count_pats ps) a ≡ d →
        cden V (a ∷ vals) (loops_term (count_pats ps) 0 (count_pats ps) (axes_term ps known (under (count_pats ps) (None ∷ s)) 0 (at_cell ps s t) empty_term))
        ≡ heads g (d >>= λ ds. over_indices ds (λ is. on_match (match_axes ps globals is (env_of s vals)) (λ inner. cell_of a is >>= λ w. R w inner) (Some []) None))
    at_array no_pat h a None d = rw (no_cell a d) refl
    at_array (pat p ps) h a None d = cden-loops_none V (count_pats (pat p ps)) (count_pats ps) _ a (a ∷ vals) refl d
    at_array ps h a (Some ds) d =
        let n = dims-length (count_pats ps) a ds d in
        ap (λ m. cden V (a ∷ vals) (loops_term m 0 (count_pats ps) (axes_term ps known (under (count_pats ps) (None ∷ s)) 0 (at_cell ps s t) empty_term))) (sym n)
        ∙ cden-loops_term V g (count_pats ps) ds (axes_term ps known (under (count_pats ps) (None ∷ s)) 0 (at_cell ps s t) empty_term) a d n ds [] 0 refl refl (a ∷ vals) refl
        (λ is. on_match (match_axes ps globals is (env_of s vals)) (λ inner. cell_of a is >>= λ w. R w inner) (Some []) None)
        (λ is c. index_worth V globals known all ps s vals t g R l h a is (c ∙ n))

index_turns : (V : Outcomes) (globals : Globals) (known : Resolutions) → Stand V globals known →
    (ps : Pats) (s : Binders) (vals : List Datum) (t : Binders → Term) (R : Datum → Env → ℕ) → length s ≡ length vals →
    ((w : Datum) (s' : Binders) (vals' : List Datum) → length s' ≡ length vals' → settle V (w ∷ vals') (t s') ≡ R w (env_of s' vals')) →
    (a : Datum) (is : List ℕ) → length is ≡ count_pats ps →
    settle V (push_index is (a ∷ vals)) (axes_term ps known (under (count_pats ps) (None ∷ s)) 0 (at_cell ps s t) empty_term)
    ≡ on_match (match_axes ps globals is (env_of s vals)) (λ inner. if_some (cell_of a is) (λ w. R w inner)) 0 0
index_turns V globals known all ps s vals t R l h a is c =
    settle-axes_term V globals known all ps (under (count_pats ps) (None ∷ s)) (push_index is (a ∷ vals)) 0 is (at_cell ps s t) empty_term
    (λ inner. if_some (cell_of a is) (λ w. R w inner))
    (fits-walked (count_pats ps) is (None ∷ s) (a ∷ vals) c (ap suc l)) c (holds-walked is (a ∷ vals)) (λ l. refl)
    (λ new e.
    (let z = let-turns V (new ++ push_index is (a ∷ vals)) (cell_term (count_pats ps) (grown_axes ps))
    (t (cell_binders ps s)) 0 (cell_of a is) (λ w. R w (env_of (cell_binders ps s) (new ++ push_index is (a ∷ vals))))
    (cell-turns V (new ++ push_index is (a ∷ vals)) (count_pats ps) (grown_axes ps))
    (cell-worth V (new ++ push_index is (a ∷ vals)) (grown_axes ps) (count_pats ps) is a c (holds_here ps is (a ∷ vals) new e) (array_here ps is a vals new c e))
    (λ w. h w (cell_binders ps s) (new ++ push_index is (a ∷ vals)) (fits_here ps is a s vals new c l e)) in omega arith))
    ∙ ap (λ env. on_match (match_axes ps globals is env) (λ inner. if_some (cell_of a is) (λ w. R w inner)) 0 0) (env_of-walked (count_pats ps) is (None ∷ s) (a ∷ vals) c)

pub array-turns : (V : Outcomes) (globals : Globals) (known : Resolutions) → Stand V globals known →
    (ps : Pats) (s : Binders) (vals : List Datum) (array : Term) (t : Binders → Term) (o : Option Datum) (n : ℕ) (R : Datum → Env → ℕ) →
    length s ≡ length vals → settle V vals array ≡ n → cden V vals array ≡ o →
    ((w : Datum) (s' : Binders) (vals' : List Datum) → length s' ≡ length vals' → settle V (w ∷ vals') (t s') ≡ R w (env_of s' vals')) →
    settle V vals (array_term ps known s array t empty_term)
    ≡ n + if_some o (λ a. if_some (dims_of (count_pats ps) a) (λ ds. turns_over ds (λ is.
    on_match (match_axes ps globals is (env_of s vals)) (λ inner. if_some (cell_of a is) (λ w. R w inner)) 0 0)))
array-turns V globals known all ps s vals array t o n R l w e h =
    let-turns V vals array (loops_term (count_pats ps) 0 (count_pats ps) (axes_term ps known (under (count_pats ps) (None ∷ s)) 0 (at_cell ps s t) empty_term)) n o _ w e
    (λ a. at_array ps h a (dims_of (count_pats ps) a) refl)
  where
    at_array : (ps : Pats) → ((w : Datum) (s' : Binders) (vals' : List Datum) → length s' ≡ length vals' → settle V (w ∷ vals') (t s') ≡ R w (env_of s' vals')) →
        (a : Datum) (d : Option (List ℕ)) → dims_of (count_pats ps) a ≡ d →
        settle V (a ∷ vals) (loops_term (count_pats ps) 0 (count_pats ps) (axes_term ps known (under (count_pats ps) (None ∷ s)) 0 (at_cell ps s t) empty_term))
        ≡ if_some d (λ ds. turns_over ds (λ is. on_match (match_axes ps globals is (env_of s vals)) (λ inner. if_some (cell_of a is) (λ w. R w inner)) 0 0))
    at_array no_pat h a None d = rw (no_cell a d) refl
    at_array (pat p ps) h a None d = settle-loops_none V (count_pats (pat p ps)) (count_pats ps) _ a (a ∷ vals) refl d
    at_array ps h a (Some ds) d =
        let m = dims-length (count_pats ps) a ds d in
        ap (λ m. settle V (a ∷ vals) (loops_term m 0 (count_pats ps) (axes_term ps known (under (count_pats ps) (None ∷ s)) 0 (at_cell ps s t) empty_term))) (sym m)
        ∙ settle-loops_term V (count_pats ps) ds (axes_term ps known (under (count_pats ps) (None ∷ s)) 0 (at_cell ps s t) empty_term) a d m ds [] 0 refl refl (a ∷ vals) refl
        (λ is. on_match (match_axes ps globals is (env_of s vals)) (λ inner. if_some (cell_of a is) (λ w. R w inner)) 0 0)
        (λ is c. index_turns V globals known all ps s vals t R l h a is (c ∙ m))
