-- The terms of the code's expressions, by those of their parts.
use Rattle.std.proofs.Common.{◌≡◌, ◌<◌, ◌≤◌, ℕ, suc, ◌+◌, ◌-◌, List, [], ◌∷◌, ◌++◌, length, map, take, drop, get_or, max, Option, Some, None, option_map, Result, Ok, Err, IfOk, IsOkAnd, OnOk, refl, sym, ap, ◌∙◌, arith, append_assoc, if◌then◌else◌, true, false}
use Rattle.std.specs.Global.{Vec}
use Rattle.std.proofs.lemmas.List.{take_all}
use Rattle.aql_value.specs.Strict.{Strict}
use Rattle.aql_syntax.specs.Tree as tree
use Rattle.aql_syntax.specs.Tree.{Name, Pat, Pats, Trees, Axes, Quals, Declaration, declared_name, append, count_trees, count_pats}
use Rattle.aql_syntax.specs.Names.{names_equal, find}
use Rattle.aql_syntax.specs.Size.{Extents, extent, extents_of, greatest, axes_greatest, levels}
use Rattle.aql_syntax.specs.View.{tree_of, trees_of, quals_of, axes_in, defs_in, pats_of}
use Rattle.aql_syntax.specs.Laws.View.{trees_from, trees_past, axes_from, axes_past, count_pats-list}
use Rattle.aql_syntax.specs.declared.ast.Expr as code
use Rattle.aql_syntax.specs.declared.ast.Expr.{Expr}
use Rattle.aql_syntax.specs.declared.ast.Bind.{Bind}
use Rattle.aql_syntax.specs.declared.ast.Qual.{Qual}
use Rattle.aql_syntax.specs.declared.ast.LetBind.{LetBind}
use Rattle.aql_syntax.specs.declared.ast.Pattern.{Pattern}
use Rattle.nrca_term.specs.Term.{Term, node, none, plain, Form}
use Rattle.nrca_term.specs.Nodes.{text_term, let_term, literal_term}
use Rattle.nrca_term.specs.Laws.Variants.{literal-parts}
use Rattle.nrca_term.specs.View.{term_of}
use Rattle.nrca_term.specs.declared.term.Core.{Core}
use Rattle.aql_desugar_spec.specs.Start.{Binders, Resolutions, bind_pattern, match_term, matching, under, under_axes, bound_axes, grown_axes, axes_term, loops_term, cell_term, array_term, start, starts, bound_terms}
use Rattle.aql_desugar_spec.specs.Laws.Scopes.{length-bound_axes}
use Rattle.aql_desugar.specs.Names.{binders_of, declaration_of}
use Rattle.aql_desugar.specs.Laws.Parts.{one_made, both_made}
use Rattle.aql_desugar.specs.Laws.Scopes.{binders_of-last, length-binders_of, goes_on, extends_all}
use Rattle.aql_desugar.proofs.QueryNodes.{list_made}

-- an expression of one part
pub one_arm : {E F : Type 0} (known : Resolutions) (s : Binders) (r : Result Core E) (p : Result Core F) (T : Term → Term) (e w x a : Expr) →
    IfOk r (λ c. IsOkAnd p (λ y. term_of c ≡ T (term_of y))) → IfOk p (λ y. term_of y ≡ start (tree_of x) known s) → x ≡ a → e ≡ w → T (start (tree_of a) known s) ≡ start (tree_of w) known s →
    IfOk r (λ c. term_of c ≡ start (tree_of e) known s)
one_arm known s r p T e w x a h k i j l =
    one_made r p T (start (tree_of x) known s) (start (tree_of e) known s) h k (ap (λ x. T (start (tree_of x) known s)) i ∙ l ∙ sym (ap (λ x. start (tree_of x) known s) j))

-- an expression of two parts
pub two_arm : {E F : Type 0} (known : Resolutions) (s : Binders) (r : Result Core E) (p : Result (Core × Core) F) (T : Term → Term → Term) (e w x y a b : Expr) →
    IfOk r (λ c. IsOkAnd p (λ u. term_of c ≡ T (term_of u.0) (term_of u.1))) → IfOk p (λ u. term_of u.0 ≡ start (tree_of x) known s) → IfOk p (λ u. term_of u.1 ≡ start (tree_of y) known s) → x ≡ a → y ≡ b → e ≡ w →
    T (start (tree_of a) known s) (start (tree_of b) known s) ≡ start (tree_of w) known s → IfOk r (λ c. term_of c ≡ start (tree_of e) known s)
two_arm known s r p T e w x y a b h k i j l m n =
    both_made r p T (start (tree_of x) known s) (start (tree_of y) known s) (start (tree_of e) known s) h k i
    (ap (λ x. T (start (tree_of x) known s) (start (tree_of y) known s)) j ∙ ap (λ y. T (start (tree_of a) known s) (start (tree_of y) known s)) l ∙ n ∙ sym (ap (λ x. start (tree_of x) known s) m))

-- an expression of a list of parts
pub list_arm : {E F : Type 0} (known : Resolutions) (s : Binders) (r : Result Core E) (p : Result (Vec Core) F) (T : List Term → Term) (e w : Expr) (es fs : List Expr) →
    IfOk r (λ c. IsOkAnd p (λ v. term_of c ≡ T (map term_of v.items))) → IfOk p (λ v. map term_of v.items ≡ starts (trees_of es) known s) → es ≡ fs → e ≡ w → T (starts (trees_of fs) known s) ≡ start (tree_of w) known s →
    IfOk r (λ c. term_of c ≡ start (tree_of e) known s)
list_arm known s r p T e w es fs h k i j l =
    list_made r p T (starts (trees_of es) known s) (start (tree_of e) known s) h k (ap (λ l. T (starts (trees_of l) known s)) i ∙ l ∙ sym (ap (λ x. start (tree_of x) known s) j))

-- what is made of a part and of one more, which is made under the names that the first leaves
pub then_made : {A C D V Z E F G : Type 0} (xs ys : List (Option A)) (W : C → V) (U : D → Z) (T : V → Z → Term) (B : List (Option A) → Z) (r : Result Core E) (p : Result C F) (q : Result D G) (m : V) (whole : Term) →
    IfOk r (λ c. IsOkAnd p (λ x. IsOkAnd q (λ y. term_of c ≡ T (W x) (U y)))) → IfOk p (λ x. W x ≡ m) → IfOk q (λ y. U y ≡ B ys) → OnOk p (ys ≡ xs) → T m (B xs) ≡ whole → IfOk r (λ c. term_of c ≡ whole)
then_made xs ys W U T B (Ok c) (Ok x) (Ok y) m whole h i k j l = h ∙ ap (λ a. T a (U y)) i ∙ ap (T m) (k ∙ ap B j) ∙ l
then_made xs ys W U T B (Ok c) (Ok x) (Err e) m whole h i k j l = absurd h
then_made xs ys W U T B (Ok c) (Err e) q m whole h i k j l = absurd h
then_made xs ys W U T B (Err e) p q m whole h i k j l = tt

-- the same with two further parts
pub then_two : {A E F G : Type 0} (xs ys : List (Option A)) (T : Term → Term → Term → Term) (B C : List (Option A) → Term) (r : Result Core E) (p : Result Core F) (q : Result (Core × Core) G) (m whole : Term) →
    IfOk r (λ c. IsOkAnd p (λ x. IsOkAnd q (λ u. term_of c ≡ T (term_of x) (term_of u.0) (term_of u.1)))) → IfOk p (λ x. term_of x ≡ m) → IfOk q (λ u. term_of u.0 ≡ B ys) → IfOk q (λ u. term_of u.1 ≡ C ys) → OnOk p (ys ≡ xs) →
    T m (B xs) (C xs) ≡ whole → IfOk r (λ c. term_of c ≡ whole)
then_two xs ys T B C (Ok c) (Ok x) (Ok u) m whole h i k n j l =
    h ∙ ap (λ a. T a (term_of u.0) (term_of u.1)) i ∙ ap (λ b. T m b (term_of u.1)) (k ∙ ap B j) ∙ ap (T m (B xs)) (n ∙ ap C j) ∙ l
then_two xs ys T B C (Ok c) (Ok x) (Err e) m whole h i k n j l = absurd h
then_two xs ys T B C (Ok c) (Err e) q m whole h i k n j l = absurd h
then_two xs ys T B C (Err e) p q m whole h i k n j l = tt

-- the loops over the cells of an array, which are made under the names that the array leaves
pub walk_of : {A E F G : Type 0} (xs ys : List (Option A)) (B : List (Option A) → Term → Term) (r : Result Core E) (p : Result Core F) (q : Result Core G) (m whole : Term) →
    IfOk r (λ c. IsOkAnd p (λ x. IsOkAnd q (λ y. term_of c ≡ let_term (term_of x) (term_of y)))) → IfOk p (λ x. term_of x ≡ m) → IfOk q (λ y. (array : Term) → let_term array (term_of y) ≡ B ys array) → OnOk p (ys ≡ xs) →
    B xs m ≡ whole → IfOk r (λ c. term_of c ≡ whole)
walk_of xs ys B (Ok c) (Ok x) (Ok y) m whole h i k j l = h ∙ k (term_of x) ∙ ap (λ us. B us (term_of x)) j ∙ ap (B xs) i ∙ l
walk_of xs ys B (Ok c) (Ok x) (Err e) m whole h i k j l = absurd h
walk_of xs ys B (Ok c) (Err e) q m whole h i k j l = absurd h
walk_of xs ys B (Err e) p q m whole h i k j l = tt

-- a text
pub text_arm : {E F : Type 0} (known : Resolutions) (s : Binders) (r : Result Core E) (p : Result (List ℕ) F) (e : Expr) (x : List ℕ) →
    IfOk r (λ c. IsOkAnd p (λ y. term_of c ≡ text_term y)) → IfOk p (λ y. y ≡ x) → e ≡ code.Text x → IfOk r (λ c. term_of c ≡ start (tree_of e) known s)
text_arm known s (Ok c) (Ok y) e x h k i = h ∙ ap text_term k ∙ sym (ap (λ x. start (tree_of x) known s) i)
text_arm known s (Ok c) (Err f) e x h k i = absurd h
text_arm known s (Err f) p e x h k i = tt

-- the match of the variable that a node binds, around what is made in the scope inside
pub matched_made : {A : Type 0} (f : A → Name) (p : Pat) (known : Resolutions) (xs zs ws : List (Option A)) (mark base : ℕ) (T : Binders → Term) (inner other t : Term) →
    ((b : ℕ) → binders_of f zs b ≡ bind_pattern p (None ∷ binders_of f xs b)) → take (length xs) zs ≡ xs → mark ≡ length xs → inner ≡ T (binders_of f zs base) → ws ≡ zs →
    ((b : ℕ) → t ≡ match_term p known (None ∷ binders_of f (take mark ws) b) 0 inner other) → t ≡ matching p known (binders_of f xs base) T other
matched_made f p known xs zs ws mark base T inner other t k around m i w c =
    let kept : take mark ws ≡ xs = ap (λ n. take n ws) m ∙ ap (take (length xs)) w ∙ around in
    c base ∙ ap (λ l. match_term p known (None ∷ binders_of f l base) 0 inner other) kept ∙ ap (λ u. match_term p known (None ∷ binders_of f xs base) 0 u other) (i ∙ ap T (k base))

pub matched_kept : {A : Type 0} (xs zs ws vs : List (Option A)) (mark : ℕ) → take (length xs) zs ≡ xs → mark ≡ length xs → ws ≡ zs → vs ≡ take mark ws → vs ≡ xs
matched_kept xs zs ws vs mark around m w v = v ∙ ap (λ n. take n ws) m ∙ ap (take (length xs)) w ∙ around

map_last : (l : List Core) (x : Core) → map term_of (l ++ x ∷ []) ≡ map term_of l ++ term_of x ∷ []
map_last [] x = refl
map_last (y ∷ l) x = ap (λ zs. term_of y ∷ zs) (map_last l x)

append_none : {A : Type 0} (xs : List A) → xs ++ [] ≡ xs
append_none [] = refl
append_none (x ∷ xs) = ap (λ ys. x ∷ ys) (append_none xs)

list_next : (xs ys : List Core) (x : Core) (u : Term) (us all : List Term) → ys ≡ xs ++ x ∷ [] → term_of x ≡ u → map term_of xs ++ (u ∷ us) ≡ all → map term_of ys ++ us ≡ all
list_next xs ys x u us all e h k =
    ap (λ zs. map term_of zs ++ us) e ∙ ap (λ zs. zs ++ us) (map_last xs x) ∙ append_assoc (map term_of xs) (term_of x ∷ []) us ∙ ap (λ v. map term_of xs ++ (v ∷ us)) h ∙ k

trees_next : (es : List Expr) (i : ℕ) (e : Expr) → i < length es → e ≡ get_or es i e → trees_of (drop i es) ≡ tree.tree (tree_of e) (trees_of (drop (i + 1) es))
trees_next es i e l h = trees_from es i e l ∙ ap (λ x. tree.tree (tree_of x) (trees_of (drop (i + 1) es))) (sym h)

-- one term more of a list
pub starts_next : (known : Resolutions) (s : Binders) (es : List Expr) (i : ℕ) (e : Expr) (xs ys : List Core) (x : Core) → i < length es → e ≡ get_or es i e → ys ≡ xs ++ x ∷ [] → term_of x ≡ start (tree_of e) known s →
    map term_of xs ++ starts (trees_of (drop i es)) known s ≡ starts (trees_of es) known s → map term_of ys ++ starts (trees_of (drop (i + 1) es)) known s ≡ starts (trees_of es) known s
starts_next known s es i e xs ys x l h p t k =
    list_next xs ys x (start (tree_of e) known s) (starts (trees_of (drop (i + 1) es)) known s) (starts (trees_of es) known s) p t
    (ap (λ ts. map term_of xs ++ starts ts known s) (sym (trees_next es i e l h)) ∙ k)

pub greatest_next : (ms : Extents) (es : List Expr) (i : ℕ) (e : Expr) → i < length es → e ≡ get_or es i e → greatest (trees_of (drop i es)) ms ≡ max (levels (tree_of e) ms) (greatest (trees_of (drop (i + 1) es)) ms)
greatest_next ms es i e l h = ap (λ ts. greatest ts ms) (trees_next es i e l h)

pub starts_done : (known : Resolutions) (s : Binders) (es : List Expr) (i : ℕ) (xs : List Core) → length es ≤ i → map term_of xs ++ starts (trees_of (drop i es)) known s ≡ starts (trees_of es) known s →
    map term_of xs ≡ starts (trees_of es) known s
starts_done known s es i xs l k = sym (append_none (map term_of xs)) ∙ sym (ap (λ ts. map term_of xs ++ starts ts known s) (trees_past es i l)) ∙ k

axes_next : (bs : List Bind) (i : ℕ) (b : Bind) → i < length bs → b ≡ get_or bs i b → axes_in (drop i bs) ≡ tree.axis b.name (tree_of b.bound) (axes_in (drop (i + 1) bs))
axes_next bs i b l h = axes_from bs i b l ∙ ap (λ x. tree.axis x.name (tree_of x.bound) (axes_in (drop (i + 1) bs))) (sym h)

pub bounds_next : (known : Resolutions) (s : Binders) (bs : List Bind) (i : ℕ) (b : Bind) (xs ys : List Core) (x : Core) → i < length bs → b ≡ get_or bs i b → ys ≡ xs ++ x ∷ [] → term_of x ≡ start (tree_of b.bound) known s →
    map term_of xs ++ bound_terms (axes_in (drop i bs)) known s ≡ bound_terms (axes_in bs) known s → map term_of ys ++ bound_terms (axes_in (drop (i + 1) bs)) known s ≡ bound_terms (axes_in bs) known s
bounds_next known s bs i b xs ys x l h p t k =
    list_next xs ys x (start (tree_of b.bound) known s) (bound_terms (axes_in (drop (i + 1) bs)) known s) (bound_terms (axes_in bs) known s) p t
    (ap (λ ts. map term_of xs ++ bound_terms ts known s) (sym (axes_next bs i b l h)) ∙ k)

pub bounds_greatest : (ms : Extents) (bs : List Bind) (i : ℕ) (b : Bind) → i < length bs → b ≡ get_or bs i b →
    axes_greatest (axes_in (drop i bs)) ms ≡ max (levels (tree_of b.bound) ms) (axes_greatest (axes_in (drop (i + 1) bs)) ms)
bounds_greatest ms bs i b l h = ap (λ ts. axes_greatest ts ms) (axes_next bs i b l h)

pub bounds_done : (known : Resolutions) (s : Binders) (bs : List Bind) (i : ℕ) (xs : List Core) → length bs ≤ i → map term_of xs ++ bound_terms (axes_in (drop i bs)) known s ≡ bound_terms (axes_in bs) known s →
    map term_of xs ≡ bound_terms (axes_in bs) known s
bounds_done known s bs i xs l k = sym (append_none (map term_of xs)) ∙ sym (ap (λ ts. map term_of xs ++ bound_terms ts known s) (axes_past bs i l)) ∙ k

pub axis_next : {A : Type 0} (f : A → Name) (bs : List Bind) (i : ℕ) (b : Bind) (v : A) (xs0 xs ys : List (Option A)) → i < length bs → b ≡ get_or bs i b → f v ≡ b.name → ys ≡ xs ++ Some v ∷ [] →
    ((base : ℕ) → under_axes (axes_in (drop i bs)) (binders_of f xs base) ≡ under_axes (axes_in bs) (binders_of f xs0 base)) → (base : ℕ) →
    under_axes (axes_in (drop (i + 1) bs)) (binders_of f ys base) ≡ under_axes (axes_in bs) (binders_of f xs0 base)
axis_next f bs i b v xs0 xs ys l h n e k base =
    ap (under_axes (axes_in (drop (i + 1) bs))) (ap (λ zs. binders_of f zs base) e ∙ binders_of-last f xs (Some v) base ∙ ap (λ y. Some y ∷ binders_of f xs base) n)
    ∙ sym (ap (λ a. under_axes a (binders_of f xs base)) (axes_next bs i b l h)) ∙ k base

length-starts : (es : Trees) (known : Resolutions) (s : Binders) → length (starts es known s) ≡ count_trees es
length-starts tree.no_tree known s = refl
length-starts (tree.tree e es) known s = ap suc (length-starts es known s)

starts-append : (a b : Trees) (known : Resolutions) (s : Binders) → starts (append a b) known s ≡ starts a known s ++ starts b known s
starts-append tree.no_tree b known s = refl
starts-append (tree.tree e a) b known s = ap (λ l. start e known s ∷ l) (starts-append a b known s)

-- a literal array
pub literal_made : (ds cs : Trees) (known : Resolutions) (s : Binders) → literal_term (starts ds known s) (starts cs known s) ≡ start (tree.op (Strict.literal (count_trees ds)) (append ds cs)) known s
literal_made ds cs known s =
    literal-parts (starts ds known s) (starts cs known s) ∙ ap (λ n. node (Form.strict (Strict.literal n)) (plain (starts ds known s ++ starts cs known s) none)) (length-starts ds known s)
    ∙ ap (λ us. node (Form.strict (Strict.literal (count_trees ds))) (plain us none)) (sym (starts-append ds cs known s))

-- the extent of what a name stands for is that of its latest declaration
find-extent : (x : Name) (ds : List Declaration) → find x (extents_of ds) ≡ option_map (λ r. extent r.0 (extents_of r.1)) (declaration_of x ds)
find-extent x [] = refl
find-extent x (d ∷ ds) =
    elim (names_equal x (declared_name d)) as (λ b. (if b then Some (extent d (extents_of ds)) else find x (extents_of ds)) ≡ option_map (λ r. extent r.0 (extents_of r.1)) (if b then Some (d, ds) else declaration_of x ds)) [
      | true ↦ refl
      | false ↦ find-extent x ds
    ]

pub extent_some : (x : Name) (ds : List Declaration) (d : Declaration) (before : List Declaration) → Some (d, before) ≡ declaration_of x ds → find x (extents_of ds) ≡ Some (extent d (extents_of before))
extent_some x ds d before e = find-extent x ds ∙ ap (option_map (λ r. extent r.0 (extents_of r.1))) (sym e)

-- the loops over an array
pub grid_made : {A : Type 0} (f : A → Name) (ps : List Pattern) (q : Pat) (known : Resolutions) (xs ys hs zs ws : List (Option A)) (base low added : ℕ) (T : Binders → Term) (array body walked other : Term) →
    ys ≡ xs ++ None ∷ [] → ((b : ℕ) → binders_of f hs b ≡ under (length ps) (binders_of f ys b)) → ((b : ℕ) → binders_of f zs b ≡ bound_axes (pats_of ps) (binders_of f hs b)) → take (length hs) zs ≡ hs → low ≡ length hs →
    added ≡ length zs - low → body ≡ matching q known (binders_of f zs base) T other → ws ≡ zs →
    ((b : ℕ) → walked ≡ loops_term (length ps) 0 (length ps) (axes_term (pats_of ps) known (binders_of f (take low ws) b) 0 (let_term (cell_term (length ps) added) body) other)) →
    let_term array walked ≡ array_term (pats_of ps) known (binders_of f xs base) array (λ inner. matching q known inner T other) other
grid_made f ps q known xs ys hs zs ws base low added T array body walked other e h k around m d i w o =
    let mid : binders_of f hs base ≡ under (count_pats (pats_of ps)) (None ∷ binders_of f xs base) =
    h base ∙ ap (under (length ps)) (ap (λ us. binders_of f us base) e ∙ binders_of-last f xs None base) ∙ ap (λ n. under n (None ∷ binders_of f xs base)) (sym (count_pats-list ps)) in
    let inside : binders_of f zs base ≡ bound_axes (pats_of ps) (under (count_pats (pats_of ps)) (None ∷ binders_of f xs base)) = k base ∙ ap (bound_axes (pats_of ps)) mid in
    let kept : take low ws ≡ hs = ap (λ n. take n ws) m ∙ ap (take (length hs)) w ∙ around in
    let more : added ≡ grown_axes (pats_of ps) = omega (arith, d, m, length-binders_of f zs 0, length-binders_of f hs 0, ap length (k 0), length-bound_axes (pats_of ps) (binders_of f hs 0)) in
    let many : length ps ≡ count_pats (pats_of ps) = sym (count_pats-list ps) in
    let F : ℕ → ℕ → Binders → Binders → Term = λ n g outer inner. let_term array (loops_term n 0 n (axes_term (pats_of ps) known outer 0 (let_term (cell_term n g) (matching q known inner T other)) other)) in
    ap (let_term array) (o base ∙ ap (λ us. loops_term (length ps) 0 (length ps) (axes_term (pats_of ps) known (binders_of f us base) 0 (let_term (cell_term (length ps) added) body) other)) kept
    ∙ ap (λ u. loops_term (length ps) 0 (length ps) (axes_term (pats_of ps) known (binders_of f hs base) 0 (let_term (cell_term (length ps) added) u) other)) i)
    ∙ (λ j. F (many j) (more j) (mid j) (inside j))

pub grid_kept : {A : Type 0} (xs ys hs zs ws us rs : List (Option A)) (low mark : ℕ) → ys ≡ xs ++ None ∷ [] → take (length ys) hs ≡ ys → take (length hs) zs ≡ hs → low ≡ length hs → mark ≡ length xs → ws ≡ zs → us ≡ take low ws →
    rs ≡ take mark us → rs ≡ xs
grid_kept xs ys hs zs ws us rs low mark e h k l m w u r =
    r ∙ ap (λ n. take n us) m ∙ ap (take (length xs)) (u ∙ ap (λ n. take n ws) l ∙ ap (take (length hs)) w ∙ k) ∙ extends_all xs ys hs h (goes_on xs xs ys None e (take_all (length xs) xs (omega arith)))

-- one part of a list that has a first
pub no_quals : (qs : List Qual) → length qs ≡ 0 → quals_of qs ≡ tree.no_qual
no_quals [] e = refl
no_quals (q ∷ qs) e = let bad : ⊥ = omega (arith, e) in absurd bad

pub no_defs : (ds : List LetBind) → length ds ≡ 0 → defs_in ds ≡ tree.no_def
no_defs [] e = refl
no_defs (d ∷ ds) e = let bad : ⊥ = omega (arith, e) in absurd bad
