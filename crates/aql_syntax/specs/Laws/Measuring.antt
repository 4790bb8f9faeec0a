-- Sizes along the code's lists.
use Rattle.std.proofs.Common.{ℕ, zero, suc, ◌≡◌, ◌+◌, ◌<◌, ◌≤◌, ◌*◌, ◌/◌, ◌==◌, ◌≢◌, max, Bool, true, false, List, [], ◌∷◌, ◌++◌, Some, refl, sym, ap, ◌∙◌, arith, length, take, get_or, reverse, append-nil, append_assoc, if◌then◌else◌}
use Rattle.std.proofs.lemmas.Bool.{eqb-true, eq-eqb}
use Rattle.std.specs.List.{slice_get}
use Rattle.std.proofs.lemmas.List.{reverse-append}
use Rattle.aql_syntax.specs.Tree as tree
use Rattle.aql_syntax.specs.Tree.{Declaration, Quals}
use Rattle.aql_syntax.specs.View.{decl_of, decls_of, qual_of}
use Rattle.aql_syntax.specs.Size.{Extents, binary_digits, digits_among, quals_sizes, quals_greatest, quals_patterns, count_quals, size, levels}
use Rattle.aql_syntax.specs.Laws.View.{quals_from, quals_past, count_trees-list, count_axes-list}
use Rattle.aql_syntax.specs.Measured.{onto, latest, qual_part, qual_pattern}
use Rattle.std.specs.Prelude.{Box}
use Rattle.std.specs.Global.{Global}
use Rattle.aql_syntax.specs.Tree.{Trees, count_axes}
use Rattle.aql_syntax.specs.View.{tree_of, trees_of, quals_of, axes_in, defs_in}
use Rattle.aql_syntax.specs.Size.{sizes, greatest, axes_sizes, defs_sizes, defs_greatest, defs_patterns, count_defs}
use Rattle.aql_syntax.specs.Laws.View.{tree_of-Row, tree_of-Members, tree_of-Comp, tree_of-Literal, tree_of-Sub, axes_of-items, defs_of-items}
use Rattle.aql_syntax.specs.declared.ast.Expr as code
use Rattle.aql_syntax.specs.declared.ast.Expr.{Expr}
use Rattle.aql_syntax.specs.declared.ast.Exprs.{Exprs}
use Rattle.aql_syntax.specs.declared.ast.Quals as code_quals
use Rattle.aql_syntax.specs.declared.ast.Binds as code_binds
use Rattle.aql_syntax.specs.declared.ast.Lets as code_lets
use Rattle.aql_syntax.specs.declared.ast.LetBind.{LetBind}
use Rattle.aql_syntax.specs.declared.ast.Decl.{Decl}
use Rattle.aql_syntax.specs.declared.ast.Qual as code_qual
use Rattle.aql_syntax.specs.declared.ast.Qual.{Qual}

onto_last : (ds : List Decl) (d : Decl) (acc : List Declaration) → onto (ds ++ d ∷ []) acc ≡ decl_of d ∷ onto ds acc
onto_last [] d acc = refl
onto_last (e ∷ ds) d acc = onto_last ds d (decl_of e ∷ acc)

-- the last declaration comes first
pub latest_last : (ds : List Decl) (d : Decl) → latest (ds ++ d ∷ []) ≡ decl_of d ∷ latest ds
latest_last ds d = onto_last ds d []

-- Qualifiers.

pub quals_sizes-qual_of : (q : Qual) (rest : Quals) (ms : Extents) → quals_sizes (qual_of q rest) ms ≡ size (qual_part q) ms + quals_sizes rest ms
quals_sizes-qual_of (code_qual.From p e) rest ms = refl
quals_sizes-qual_of (code_qual.Cells p q e) rest ms = refl
quals_sizes-qual_of (code_qual.Match p e) rest ms = refl
quals_sizes-qual_of (code_qual.Test e) rest ms = refl

pub quals_greatest-qual_of : (q : Qual) (rest : Quals) (ms : Extents) →
    quals_greatest (qual_of q rest) ms ≡ max (levels (qual_part q) ms) (quals_greatest rest ms)
quals_greatest-qual_of (code_qual.From p e) rest ms = refl
quals_greatest-qual_of (code_qual.Cells p q e) rest ms = refl
quals_greatest-qual_of (code_qual.Match p e) rest ms = refl
quals_greatest-qual_of (code_qual.Test e) rest ms = refl

pub quals_patterns-qual_of : (q : Qual) (rest : Quals) → quals_patterns (qual_of q rest) ≡ qual_pattern q + quals_patterns rest
quals_patterns-qual_of (code_qual.From p e) rest = refl
quals_patterns-qual_of (code_qual.Cells p q e) rest = refl
quals_patterns-qual_of (code_qual.Match p e) rest = refl
quals_patterns-qual_of (code_qual.Test e) rest = omega arith

pub count_quals-qual_of : (q : Qual) (rest : Quals) → count_quals (qual_of q rest) ≡ suc (count_quals rest)
count_quals-qual_of (code_qual.From p e) rest = refl
count_quals-qual_of (code_qual.Cells p q e) rest = refl
count_quals-qual_of (code_qual.Match p e) rest = refl
count_quals-qual_of (code_qual.Test e) rest = refl

-- Binary digits.

above_zero : (m : ℕ) → (m == 0) ≡ false → 0 < m
above_zero zero f = cc
above_zero (suc m) f = omega arith

digits_next : (a b n : ℕ) → (0 < n → a ≡ b) → (if n == 0 then 0 else 1 + a) ≡ (if n == 0 then 0 else 1 + b)
digits_next a b n h = go (n == 0) refl
  where
    go : (c : Bool) → (n == 0) ≡ c → (if c then 0 else 1 + a) ≡ (if c then 0 else 1 + b)
    go true e = refl
    go false e = ap (λ (m : ℕ). 1 + m) (h (above_zero n e))

-- any number of digits that is enough
digits_same : (j k n : ℕ) → n ≤ j → n ≤ k → digits_among j n ≡ digits_among k n
digits_same zero zero n h l = refl
digits_same zero (suc k) n h l = let z : (n == 0) ≡ true = eq-eqb n 0 (omega (arith, h)) in rw z refl
digits_same (suc j) zero n h l = let z : (n == 0) ≡ true = eq-eqb n 0 (omega (arith, l)) in rw z refl
digits_same (suc j) (suc k) n h l =
    digits_next (digits_among j (n / 2)) (digits_among k (n / 2)) n
    (λ p. digits_same j k (n / 2) (omega (arith, h, p)) (omega (arith, l, p)))

not_zero : (n : ℕ) → (suc n == 0) ≡ false
not_zero n = go (suc n == 0) refl
  where
    go : (b : Bool) → (suc n == 0) ≡ b → b ≡ false
    go true e = let z : suc n ≡ 0 = eqb-true (suc n) 0 e in let bad : ⊥ = omega (arith, z) in absurd bad
    go false e = refl

-- one digit more than the half
pub digits_step : (n : ℕ) → n ≢ 0 → binary_digits n ≡ 1 + binary_digits (n / 2)
digits_step zero h = absurd (h refl)
digits_step (suc n) h =
    rw (not_zero n) (ap (λ (m : ℕ). 1 + m) (digits_same n (suc n / 2) (suc n / 2) (omega arith) (omega arith)))

digits_few : (k n : ℕ) → digits_among k n ≤ k
digits_few zero n = omega arith
digits_few (suc k) n = go (n == 0) (digits_few k (n / 2))
  where
    go : (c : Bool) → digits_among k (n / 2) ≤ k → (if c then 0 else 1 + digits_among k (n / 2)) ≤ suc k
    go true h = omega arith
    go false h = omega arith

pub digits_at_most : (n : ℕ) → binary_digits n ≤ n
digits_at_most n = digits_few n n

pub digits_none : binary_digits 0 ≡ 0
digits_none = refl

pub ruleset digit_steps = (digits_step, digits_at_most, digits_none)

pub ruleset qual_sums = (quals_sizes-qual_of, quals_greatest-qual_of, quals_patterns-qual_of, count_quals-qual_of, quals_from, quals_past)

-- The sizes and levels of the variants with a list in them, by the list.

count_quals-list : (qs : List Qual) → count_quals (quals_of qs) ≡ length qs
count_quals-list [] = refl
count_quals-list (q ∷ qs) = count_quals-qual_of q (quals_of qs) ∙ ap suc (count_quals-list qs)

count_defs-list : (bs : List LetBind) → count_defs (defs_in bs) ≡ length bs
count_defs-list [] = refl
count_defs-list (b ∷ bs) = ap suc (count_defs-list bs)

sizes-append : (a b : Trees) (ms : Extents) → sizes (tree.append a b) ms ≡ sizes a ms + sizes b ms
sizes-append tree.no_tree b ms = omega arith
sizes-append (tree.tree e a) b ms = omega (arith, sizes-append a b ms)

pub greatest-append : (a b : Trees) (ms : Extents) → greatest (tree.append a b) ms ≡ max (greatest a ms) (greatest b ms)
greatest-append tree.no_tree b ms = omega arith
greatest-append (tree.tree e a) b ms = omega (arith, greatest-append a b ms)

pub levels-Members : (es : Exprs) (ms : Extents) →
    levels (tree_of (code.Members es)) ms ≡ 1 + binary_digits (length es.items.items) + greatest (trees_of es.items.items) ms
levels-Members es ms = ap (λ t. levels t ms) (tree_of-Members es) ∙ ap (λ n. 1 + binary_digits n + greatest (trees_of es.items.items) ms) (count_trees-list es.items.items)

pub size-Comp : (head : Box Expr Global) (quals : code_quals.Quals) (ms : Extents) → size (tree_of (code.Comp head quals)) ms
    ≡ 1 + length quals.items.items + quals_patterns (quals_of quals.items.items) + quals_sizes (quals_of quals.items.items) ms + size (tree_of head.value) ms
size-Comp head quals ms = omega (arith, ap (λ t. size t ms) (tree_of-Comp head quals), count_quals-list quals.items.items)

pub levels-Comp : (head : Box Expr Global) (quals : code_quals.Quals) (ms : Extents) → levels (tree_of (code.Comp head quals)) ms
    ≡ 1 + 4 * length quals.items.items + quals_patterns (quals_of quals.items.items) + max (quals_greatest (quals_of quals.items.items) ms) (levels (tree_of head.value) ms)
levels-Comp head quals ms = omega (arith, ap (λ t. levels t ms) (tree_of-Comp head quals), count_quals-list quals.items.items)

pub size-Tab : (body : Box Expr Global) (binds : code_binds.Binds) (ms : Extents) → size (tree_of (code.Tab body binds)) ms
    ≡ 1 + length (code_binds.out-Binds binds).items.items + axes_sizes (axes_in (code_binds.out-Binds binds).items.items) ms + size (tree_of body.value) ms
size-Tab body binds ms =
    ap (λ xs. 1 + count_axes xs + axes_sizes xs ms + size (tree_of body.value) ms) (axes_of-items binds)
    ∙ ap (λ n. 1 + n + axes_sizes (axes_in (code_binds.out-Binds binds).items.items) ms + size (tree_of body.value) ms) (count_axes-list (code_binds.out-Binds binds).items.items)

pub size-Literal : (dims cells : Exprs) (ms : Extents) → size (tree_of (code.Literal dims cells)) ms ≡ 1 + (sizes (trees_of dims.items.items) ms + sizes (trees_of cells.items.items) ms)
size-Literal dims cells ms = ap (λ t. size t ms) (tree_of-Literal dims cells) ∙ ap (λ n. 1 + n) (sizes-append (trees_of dims.items.items) (trees_of cells.items.items) ms)

pub levels-Literal : (dims cells : Exprs) (ms : Extents) →
    levels (tree_of (code.Literal dims cells)) ms ≡ 1 + max (greatest (trees_of dims.items.items) ms) (greatest (trees_of cells.items.items) ms)
levels-Literal dims cells ms = ap (λ t. levels t ms) (tree_of-Literal dims cells) ∙ ap (λ n. 1 + n) (greatest-append (trees_of dims.items.items) (trees_of cells.items.items) ms)

pub size-Let : (binds : code_lets.Lets) (body : Box Expr Global) (ms : Extents) → size (tree_of (code.Let binds body)) ms
    ≡ 1 + length (code_lets.out-Lets binds).items.items + defs_patterns (defs_in (code_lets.out-Lets binds).items.items)
    + defs_sizes (defs_in (code_lets.out-Lets binds).items.items) ms + size (tree_of body.value) ms
size-Let binds body ms =
    ap (λ ds. 1 + count_defs ds + defs_patterns ds + defs_sizes ds ms + size (tree_of body.value) ms) (defs_of-items binds)
    ∙ ap (λ n. 1 + n + defs_patterns (defs_in (code_lets.out-Lets binds).items.items) + defs_sizes (defs_in (code_lets.out-Lets binds).items.items) ms + size (tree_of body.value) ms)
    (count_defs-list (code_lets.out-Lets binds).items.items)

pub levels-Let : (binds : code_lets.Lets) (body : Box Expr Global) (ms : Extents) → levels (tree_of (code.Let binds body)) ms
    ≡ 1 + length (code_lets.out-Lets binds).items.items + defs_patterns (defs_in (code_lets.out-Lets binds).items.items)
    + max (defs_greatest (defs_in (code_lets.out-Lets binds).items.items) ms) (levels (tree_of body.value) ms)
levels-Let binds body ms =
    ap (λ ds. 1 + count_defs ds + defs_patterns ds + max (defs_greatest ds ms) (levels (tree_of body.value) ms)) (defs_of-items binds)
    ∙ ap (λ n. 1 + n + defs_patterns (defs_in (code_lets.out-Lets binds).items.items) + max (defs_greatest (defs_in (code_lets.out-Lets binds).items.items) ms) (levels (tree_of body.value) ms))
    (count_defs-list (code_lets.out-Lets binds).items.items)

pub size-Sub : (array : Box Expr Global) (at : Exprs) (ms : Extents) → size (tree_of (code.Sub array at)) ms ≡ 1 + (size (tree_of array.value) ms + sizes (trees_of at.items.items) ms)
size-Sub array at ms = ap (λ t. size t ms) (tree_of-Sub array at)

pub levels-Sub : (array : Box Expr Global) (at : Exprs) (ms : Extents) →
    levels (tree_of (code.Sub array at)) ms ≡ 1 + max (levels (tree_of array.value) ms) (greatest (trees_of at.items.items) ms)
levels-Sub array at ms = ap (λ t. levels t ms) (tree_of-Sub array at)

pub ruleset measure_views = (
  tree_of-Row,
  tree_of-Members,
  axes_of-items,
  defs_of-items,
  levels-Members,
  size-Comp,
  levels-Comp,
  size-Tab,
  size-Literal,
  levels-Literal,
  size-Let,
  levels-Let,
  size-Sub,
  levels-Sub,
)

-- Positions.

onto_rest : (ds : List Decl) (acc : List Declaration) → onto ds acc ≡ reverse (decls_of ds) ++ acc
onto_rest [] acc = refl
onto_rest (d ∷ ds) acc =
    onto_rest ds (decl_of d ∷ acc) ∙ sym (append_assoc (reverse (decls_of ds)) (decl_of d ∷ []) acc)
    ∙ ap (λ (l : List Declaration). l ++ acc) (sym (reverse-append (decl_of d ∷ []) (decls_of ds)))

decls_of-take : (i : ℕ) (ds : List Decl) → decls_of (take i ds) ≡ take i (decls_of ds)
decls_of-take zero ds = refl
decls_of-take (suc i) [] = refl
decls_of-take (suc i) (d ∷ ds) = ap (λ l. decl_of d ∷ l) (decls_of-take i ds)

-- the declarations before a place, the latest first
pub latest-take : (i : ℕ) (ds : List Decl) → latest (take i ds) ≡ reverse (take i (decls_of ds))
latest-take i ds = onto_rest (take i ds) [] ∙ append-nil (reverse (decls_of (take i ds))) ∙ ap reverse (decls_of-take i ds)

-- the declaration at a place
pub decl-at : (ds : List Decl) (i : ℕ) (d : Decl) → i < length ds → slice_get (decls_of ds) i ≡ Some (decl_of (get_or ds i d))
decl-at [] i d h = let bad : ⊥ = omega (arith, h) in absurd bad
decl-at (e ∷ ds) zero d h = refl
decl-at (e ∷ ds) (suc i) d h = decl-at ds i d (omega (arith, h))
