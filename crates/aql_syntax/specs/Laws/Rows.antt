-- The rows of qualifiers one after another.
use Rattle.std.proofs.Common.{◌≡◌, ℕ, Bool, true, false, List, [], ◌∷◌, ◌++◌, Option, Some, None, refl, sym, ap, ◌∙◌, if◌then◌else◌, append_assoc}
use Rattle.std.proofs.Math.Path.{fun_ext}
use Rattle.aql_value.specs.Datum.{Datum}
use Rattle.aql_value.specs.Partial.{◌>>=◌, each, concat}
use Rattle.aql_value.specs.Operations.{as_truth, as_set, dims_of, cell_of}
use Rattle.aql_value.specs.Lists.{below}
use Rattle.aql_syntax.specs.Tree.{Quals, no_qual, from, cells, same, test, append_quals, count_pats, axes}
use Rattle.aql_syntax.specs.Matching.{Env, Globals, Match, hit, miss, undefined, on_match, match, match_axes}
use Rattle.aql_syntax.specs.Denotation.{over_indices, den, rows}

-- f over the rows found, one after another
abbrev pub then_rows : Option (List Env) → (Env → Option (List Env)) → Option (List Env)
then_rows o f = o >>= each f >>= λ found. Some (concat found)

row-first : (f : Env → Option (List Env)) (env : Env) → f env ≡ then_rows (Some (env ∷ [])) f
row-first f env = go (f env)
  where
    nil : (xs : List Env) → xs ≡ xs ++ []
    nil [] = refl
    nil (x ∷ xs) = ap (λ l. x ∷ l) (nil xs)

    go : (o : Option (List Env)) → o ≡ ((o >>= λ y. Some (y ∷ [])) >>= λ found. Some (concat found))
    go None = refl
    go (Some xs) = ap (λ l. Some l) (nil xs)

then_rows-append : (f : Env → Option (List Env)) (xs ys : List Env) →
    then_rows (Some (xs ++ ys)) f ≡ (then_rows (Some xs) f >>= λ a. then_rows (Some ys) f >>= λ b. Some (a ++ b))
then_rows-append f [] ys = go (then_rows (Some ys) f)
  where
    go : (q : Option (List Env)) → q ≡ (q >>= λ b. Some b)
    go None = refl
    go (Some b) = refl
then_rows-append f (x ∷ xs) ys = start (f x) (each f (xs ++ ys)) (each f xs) (each f ys) (then_rows-append f xs ys)
  where
    start : (o : Option (List Env)) (all p q : Option (List (List Env))) →
        (all >>= λ found. Some (concat found)) ≡ ((p >>= λ found. Some (concat found)) >>= λ a. (q >>= λ found. Some (concat found)) >>= λ b. Some (a ++ b)) →
        ((o >>= λ y. all >>= λ ys. Some (y ∷ ys)) >>= λ found. Some (concat found))
        ≡ (((o >>= λ y. p >>= λ ys. Some (y ∷ ys)) >>= λ found. Some (concat found)) >>= λ a. (q >>= λ found. Some (concat found)) >>= λ b. Some (a ++ b))
    start None all p q e = refl
    start (Some y) None None q e = refl
    start (Some y) None (Some ps) None e = refl
    start (Some y) None (Some ps) (Some qs) e = cc
    start (Some y) (Some l) None q e = cc
    start (Some y) (Some l) (Some ps) None e = cc
    start (Some y) (Some l) (Some ps) (Some qs) e =
        let h : concat l ≡ concat ps ++ concat qs = cc in ap (λ m. Some (y ++ m)) h ∙ ap Some (sym (append_assoc y (concat ps) (concat qs)))

-- over lists that are found at each element
then_rows-concat : {A : Type 0} (F : A → Option (List Env)) (f : Env → Option (List Env)) (xs : List A) →
    then_rows (each F xs >>= λ found. Some (concat found)) f ≡ (each (λ x. then_rows (F x) f) xs >>= λ found. Some (concat found))
then_rows-concat F f [] = refl
then_rows-concat {A} F f (x ∷ xs) = go (F x) (each F xs) (then_rows-concat F f xs)
  where
    R : Option (List (List Env))
    R = each (λ x. then_rows (F x) f) xs

    tail : (o : Option (List Env)) (q : Option (List (List Env))) →
        (o >>= λ a. (q >>= λ found. Some (concat found)) >>= λ b. Some (a ++ b)) ≡ ((o >>= λ y. q >>= λ ys. Some (y ∷ ys)) >>= λ found. Some (concat found))
    tail None q = refl
    tail (Some y) None = refl
    tail (Some y) (Some ys) = refl

    none : (o : Option (List Env)) (q : Option (List (List Env))) → None ≡ (q >>= λ found. Some (concat found)) →
        None ≡ ((o >>= λ y. q >>= λ ys. Some (y ∷ ys)) >>= λ found. Some (concat found))
    none None q e = refl
    none (Some y) None e = refl
    none (Some y) (Some ys) e = cc

    go : (o : Option (List Env)) (p : Option (List (List Env))) →
        then_rows (p >>= λ found. Some (concat found)) f ≡ (each (λ x. then_rows (F x) f) xs >>= λ found. Some (concat found)) →
        then_rows ((o >>= λ y. p >>= λ ys. Some (y ∷ ys)) >>= λ found. Some (concat found)) f
        ≡ ((then_rows o f >>= λ y. each (λ x. then_rows (F x) f) xs >>= λ ys. Some (y ∷ ys)) >>= λ found. Some (concat found))
    go None p e = refl
    go (Some y) None e = none (then_rows (Some y) f) (each (λ x. then_rows (F x) f) xs) e
    go (Some y) (Some ys) e =
        then_rows-append f y (concat ys)
        ∙ ap (λ (q : Option (List Env)). then_rows (Some y) f >>= λ a. q >>= λ b. Some (a ++ b)) e
        ∙ tail (then_rows (Some y) f) (each (λ x. then_rows (F x) f) xs)

then_rows-over : (ds : List ℕ) (F : List ℕ → Option (List Env)) (f : Env → Option (List Env)) →
    then_rows (over_indices ds F) f ≡ over_indices ds (λ at. then_rows (F at) f)
then_rows-over [] F f = refl
then_rows-over (d ∷ ds) F f =
    then_rows-concat (λ i. over_indices ds (λ at. F (i ∷ at))) f (below d)
    ∙ ap (λ (G : ℕ → Option (List Env)). each G (below d) >>= λ found. Some (concat found)) (fun_ext (λ i. then_rows-over ds (λ at. F (i ∷ at)) f))

then_rows-match : (m : Match) (g : Env → Option (List Env)) (f : Env → Option (List Env)) →
    then_rows (on_match m g (Some []) None) f ≡ on_match m (λ env. then_rows (g env) f) (Some []) None
then_rows-match (hit env) g f = refl
then_rows-match miss g f = refl
then_rows-match undefined g f = refl

on_match-same : {A : Type 0} (m : Match) (g h : Env → A) (a b : A) → ((env : Env) → g env ≡ h env) → on_match m g a b ≡ on_match m h a b
on_match-same (hit env) g h a b e = e env
on_match-same miss g h a b e = refl
on_match-same undefined g h a b e = refl

then_rows-then : {A : Type 0} (o : Option A) (g : A → Option (List Env)) (f : Env → Option (List Env)) → then_rows (o >>= g) f ≡ (o >>= λ x. then_rows (g x) f)
then_rows-then None g f = refl
then_rows-then (Some x) g f = refl

then-same : {A B : Type 0} (o : Option A) (g h : A → Option B) → ((x : A) → g x ≡ h x) → (o >>= g) ≡ (o >>= h)
then-same None g h e = refl
then-same (Some x) g h e = e x

-- the rows of qualifiers followed by others: those of the others at each row
pub rows-append : (qs rest : Quals) (globals : Globals) (env : Env) →
    rows (append_quals qs rest) globals env ≡ then_rows (rows qs globals env) (rows rest globals)
rows-append no_qual rest globals env = row-first (rows rest globals) env
rows-append (from p e qs) rest globals env =
    ap (λ (F : Datum → Option (List Env)). den e globals env >>= as_set >>= each F >>= λ found. Some (concat found))
    (fun_ext (λ w. on_match-same (match p globals w env) (rows (append_quals qs rest) globals) (λ inner. then_rows (rows qs globals inner) (rows rest globals)) (Some []) None
    (λ inner. rows-append qs rest globals inner)
    ∙ sym (then_rows-match (match p globals w env) (rows qs globals) (rows rest globals))))
    ∙ go (den e globals env >>= as_set)
  where
    go : (o : Option (List Datum)) →
        (o >>= each (λ w. then_rows (on_match (match p globals w env) (rows qs globals) (Some []) None) (rows rest globals)) >>= λ found. Some (concat found))
        ≡ then_rows (o >>= each (λ w. on_match (match p globals w env) (rows qs globals) (Some []) None) >>= λ found. Some (concat found)) (rows rest globals)
    go None = refl
    go (Some ws) = sym (then_rows-concat (λ w. on_match (match p globals w env) (rows qs globals) (Some []) None) (rows rest globals) ws)
rows-append (cells p q e qs) rest globals env =
    then-same (den e globals env) _ _ (λ a.
    then-same (dims_of (count_pats (axes p)) a) _ _ (λ ds.
    ap (over_indices ds) (fun_ext (λ at.
    on_match-same (match_axes (axes p) globals at env) _ _ (Some []) None (λ inner.
    then-same (cell_of a at) _ _ (λ w.
    on_match-same (match q globals w inner) _ _ (Some []) None (λ env'. rows-append qs rest globals env')
    ∙ sym (then_rows-match (match q globals w inner) (rows qs globals) (rows rest globals)))
    ∙ sym (then_rows-then (cell_of a at) (λ w. on_match (match q globals w inner) (rows qs globals) (Some []) None) (rows rest globals)))
    ∙ sym (then_rows-match (match_axes (axes p) globals at env) (λ inner. cell_of a at >>= λ w. on_match (match q globals w inner) (rows qs globals) (Some []) None) (rows rest globals))))
    ∙ sym (then_rows-over ds (λ at. on_match (match_axes (axes p) globals at env) (λ inner. cell_of a at >>= λ w. on_match (match q globals w inner) (rows qs globals) (Some []) None) (Some []) None) (rows rest globals)))
    ∙ sym (then_rows-then (dims_of (count_pats (axes p)) a) (λ ds. over_indices ds (λ at. on_match (match_axes (axes p) globals at env)
    (λ inner. cell_of a at >>= λ w. on_match (match q globals w inner) (rows qs globals) (Some []) None) (Some []) None)) (rows rest globals)))
    ∙ sym (then_rows-then (den e globals env) (λ a. dims_of (count_pats (axes p)) a >>= λ ds. over_indices ds (λ at. on_match (match_axes (axes p) globals at env)
    (λ inner. cell_of a at >>= λ w. on_match (match q globals w inner) (rows qs globals) (Some []) None) (Some []) None)) (rows rest globals))
rows-append (same p e qs) rest globals env =
    then-same (den e globals env) _ _ (λ w.
    on_match-same (match p globals w env) _ _ (Some []) None (λ inner. rows-append qs rest globals inner)
    ∙ sym (then_rows-match (match p globals w env) (rows qs globals) (rows rest globals)))
    ∙ sym (then_rows-then (den e globals env) (λ w. on_match (match p globals w env) (rows qs globals) (Some []) None) (rows rest globals))
rows-append (test e qs) rest globals env = go (den e globals env >>= as_truth) (rows-append qs rest globals env)
  where
    go : (o : Option Bool) → rows (append_quals qs rest) globals env ≡ then_rows (rows qs globals env) (rows rest globals) →
        (o >>= λ t. if t then rows (append_quals qs rest) globals env else Some []) ≡ then_rows (o >>= λ t. if t then rows qs globals env else Some []) (rows rest globals)
    go None h = refl
    go (Some true) h = h
    go (Some false) h = refl
