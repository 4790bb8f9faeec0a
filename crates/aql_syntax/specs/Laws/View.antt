-- Lists as the code has them inside a tree, and the variants that hold one.
use Rattle.std.specs.Prelude.{Vec, Box}
use Rattle.std.specs.Global.{Global}
use Rattle.std.proofs.Common.{ℕ, ◌≡◌, ◌+◌, ◌<◌, ◌≤◌, List, [], ◌∷◌, ◌++◌, refl, ap, sym, ◌∙◌, drop, get_or, length, add-one, suc}
use Rattle.std.proofs.lemmas.List.{at_drop_all}
use Rattle.std.proofs.Math.Seq.{drop-cons}
use Rattle.aql_value.specs.Strict.{Strict}
use Rattle.aql_syntax.specs.declared.ast.Expr as code
use Rattle.aql_syntax.specs.declared.ast.Expr.{Expr, Row_of-Expr, end_of-Expr, more_of-Expr, items-the_row-Expr, items_hidden-the_row-Expr-0, Row_of-Qual, end_of-Qual, more_of-Qual, items-the_row-Qual, items_hidden-the_row-Qual-1}
use Rattle.aql_syntax.specs.declared.ast.Expr.TheBlock.{hidden-the_row-Expr-0, hidden-the_row-Qual-1, hidden-the_row-Bind-2, hidden-the_row-LetBind-3}
use Rattle.aql_syntax.specs.declared.ast.Qual as code_qual
use Rattle.aql_syntax.specs.declared.ast.Qual.{Qual}
use Rattle.aql_syntax.specs.declared.ast.Bind.{Bind}
use Rattle.aql_syntax.specs.declared.ast.Decl.{Decl}
use Rattle.aql_syntax.specs.declared.ast.LetBind.{LetBind}
use Rattle.aql_syntax.specs.declared.ast.Binds.{Row_of-Bind, end_of-Bind, more_of-Bind, items-the_row-Bind, items_hidden-the_row-Bind-2}
use Rattle.aql_syntax.specs.declared.ast.Lets.{Row_of-LetBind, end_of-LetBind, more_of-LetBind, items-the_row-LetBind, items_hidden-the_row-LetBind-3}
use Rattle.aql_syntax.specs.declared.ast.Pattern as code_pattern
use Rattle.aql_syntax.specs.declared.ast.Pattern.{Pattern, Row_of-Pattern, end_of-Pattern, more_of-Pattern, items-the_row-Pattern, items_hidden-the_row-Pattern-0}
use Rattle.aql_syntax.specs.declared.ast.Pattern.TheBlock as pattern_block
use Rattle.aql_syntax.specs.declared.ast.Exprs.{Exprs}
use Rattle.aql_syntax.specs.declared.ast.Quals.{Quals}
use Rattle.aql_syntax.specs.declared.ast.Patterns.{Patterns}
use Rattle.aql_syntax.specs.declared.ast.Binds as code_binds
use Rattle.aql_syntax.specs.declared.ast.Lets as code_lets
use Rattle.aql_syntax.specs.Tree as tree
use Rattle.aql_syntax.specs.Tree.{Trees, Pats, count_trees, append_pats, append_quals, append_axes, append_defs, count_axes, count_pats}
use Rattle.aql_syntax.specs.View.{pat_of, pat_row, pats_of, tree_of, tree_row, trees_of, qual_of, qual_row, quals_of, axis_row, axes_of, axes_in, def_row, defs_of, defs_in, decl_of, decls_of}

-- what stands in a tree is what stands in its list

pub tree_row-items : {n : _} (k : Row_of-Expr n) → tree_row k ≡ trees_of (items-the_row-Expr n k)
tree_row-items end_of-Expr = refl
tree_row-items (more_of-Expr e es) = ap (tree.tree (tree_of e)) (tree_row-items es)

pub tree_row-vec : (v : Vec Expr Global) → tree_row (hidden-the_row-Expr-0 v) ≡ trees_of v.items
tree_row-vec v = tree_row-items (hidden-the_row-Expr-0 v) ∙ ap trees_of (items_hidden-the_row-Expr-0 v)

pub qual_row-items : {n : _} (k : Row_of-Qual n) → qual_row k ≡ quals_of (items-the_row-Qual n k)
qual_row-items end_of-Qual = refl
qual_row-items (more_of-Qual q qs) = ap (qual_of q) (qual_row-items qs)

pub qual_row-vec : (v : Vec Qual Global) → qual_row (hidden-the_row-Qual-1 v) ≡ quals_of v.items
qual_row-vec v = qual_row-items (hidden-the_row-Qual-1 v) ∙ ap quals_of (items_hidden-the_row-Qual-1 v)

pub pat_row-items : {n : _} (k : Row_of-Pattern n) → pat_row k ≡ pats_of (items-the_row-Pattern n k)
pat_row-items end_of-Pattern = refl
pat_row-items (more_of-Pattern p ps) = ap (tree.pat (pat_of p)) (pat_row-items ps)

pub pat_row-vec : (v : Vec Pattern Global) → pat_row (pattern_block.hidden-the_row-Pattern-0 v) ≡ pats_of v.items
pat_row-vec v = pat_row-items (pattern_block.hidden-the_row-Pattern-0 v) ∙ ap pats_of (items_hidden-the_row-Pattern-0 v)

pub axis_row-items : {n : _} (k : Row_of-Bind n) → axis_row k ≡ axes_in (items-the_row-Bind n k)
axis_row-items end_of-Bind = refl
axis_row-items (more_of-Bind x e bs) = ap (tree.axis x (tree_of e)) (axis_row-items bs)

pub axis_row-vec : (v : Vec Bind Global) → axis_row (hidden-the_row-Bind-2 v) ≡ axes_in v.items
axis_row-vec v = axis_row-items (hidden-the_row-Bind-2 v) ∙ ap axes_in (items_hidden-the_row-Bind-2 v)

pub def_row-items : {n : _} (k : Row_of-LetBind n) → def_row k ≡ defs_in (items-the_row-LetBind n k)
def_row-items end_of-LetBind = refl
def_row-items (more_of-LetBind p e bs) = ap (tree.def (pat_of p) (tree_of e)) (def_row-items bs)

pub def_row-vec : (v : Vec LetBind Global) → def_row (hidden-the_row-LetBind-3 v) ≡ defs_in v.items
def_row-vec v = def_row-items (hidden-the_row-LetBind-3 v) ∙ ap defs_in (items_hidden-the_row-LetBind-3 v)

-- the variants with a list in them

pub tree_of-Row : (es : Exprs) → tree_of (code.Row es) ≡ tree.op Strict.tuple (trees_of es.items.items)
tree_of-Row es = ap (tree.op Strict.tuple) (tree_row-vec es.items)

pub tree_of-Members : (es : Exprs) → tree_of (code.Members es) ≡ tree.members (trees_of es.items.items)
tree_of-Members es = ap tree.members (tree_row-vec es.items)

pub tree_of-Comp : (head : Box Expr Global) (quals : Quals) → tree_of (code.Comp head quals) ≡ tree.comp (tree_of head.value) (quals_of quals.items.items)
tree_of-Comp head quals = ap (tree.comp (tree_of head.value)) (qual_row-vec quals.items)

pub tree_of-Tab : (body : Box Expr Global) (binds : code_binds.Binds) → tree_of (code.Tab body binds) ≡ tree.tab (axes_of binds) (tree_of body.value)
tree_of-Tab body binds = refl

pub tree_of-Literal : (dims cells : Exprs) → tree_of (code.Literal dims cells)
    ≡ tree.op (Strict.literal (count_trees (trees_of dims.items.items))) (tree.append (trees_of dims.items.items) (trees_of cells.items.items))
tree_of-Literal dims cells =
    let e = tree_row-vec dims.items in let f = tree_row-vec cells.items in
    ap (λ (ds : Trees). tree.op (Strict.literal (count_trees ds)) (tree.append ds (tree_row (hidden-the_row-Expr-0 cells.items)))) e
    ∙ ap (λ (cs : Trees). tree.op (Strict.literal (count_trees (trees_of dims.items.items))) (tree.append (trees_of dims.items.items) cs)) f

pub tree_of-Let : (binds : code_lets.Lets) (body : Box Expr Global) → tree_of (code.Let binds body) ≡ tree.bindings (defs_of binds) (tree_of body.value)
tree_of-Let binds body = refl

pub tree_of-Sub : (array : Box Expr Global) (at : Exprs) → tree_of (code.Sub array at) ≡ tree.op Strict.sub (tree.tree (tree_of array.value) (trees_of at.items.items))
tree_of-Sub array at = ap (λ (es : Trees). tree.op Strict.sub (tree.tree (tree_of array.value) es)) (tree_row-vec at.items)

pub pat_of_row : (ps : Patterns) → pat_of (code_pattern.Row ps) ≡ tree.tuple (pats_of ps.items.items)
pat_of_row ps = ap tree.tuple (pat_row-vec ps.items)

-- the lists of indices and of bindings

pub axes_of-made : (v : Vec Bind Global) → axes_of (code_binds.roll-Binds (record { items = v })) ≡ axes_in v.items
axes_of-made v = ap axes_of (code_binds.rolls-Binds' (record { items = v })) ∙ axis_row-vec v

pub axes_of-items : (bs : code_binds.Binds) → axes_of bs ≡ axes_in (code_binds.out-Binds bs).items.items
axes_of-items bs = ap axes_of (sym (code_binds.roll-out-Binds bs)) ∙ axes_of-made (code_binds.out-Binds bs).items

pub defs_of-made : (v : Vec LetBind Global) → defs_of (code_lets.roll-Lets (record { items = v })) ≡ defs_in v.items
defs_of-made v = ap defs_of (code_lets.rolls-Lets' (record { items = v })) ∙ def_row-vec v

pub defs_of-items : (bs : code_lets.Lets) → defs_of bs ≡ defs_in (code_lets.out-Lets bs).items.items
defs_of-items bs = ap defs_of (sym (code_lets.roll-out-Lets bs)) ∙ defs_of-made (code_lets.out-Lets bs).items

-- as many parts as the list has elements

pub count_trees-list : (es : List Expr) → count_trees (trees_of es) ≡ length es
count_trees-list [] = refl
count_trees-list (e ∷ es) = ap suc (count_trees-list es)

pub count_axes-list : (bs : List Bind) → count_axes (axes_in bs) ≡ length bs
count_axes-list [] = refl
count_axes-list (b ∷ bs) = ap suc (count_axes-list bs)

pub count_pats-list : (ps : List Pattern) → count_pats (pats_of ps) ≡ length ps
count_pats-list [] = refl
count_pats-list (p ∷ ps) = ap suc (count_pats-list ps)

-- Loops over the lists: one more at the end, and the rest from a place on.

pub trees_last : (xs : List Expr) (x : Expr) → trees_of (xs ++ (x ∷ [])) ≡ tree.append (trees_of xs) (tree.tree (tree_of x) tree.no_tree)
trees_last [] x = refl
trees_last (y ∷ xs) x = ap (tree.tree (tree_of y)) (trees_last xs x)

pub append-assoc : (a b c : Trees) → tree.append (tree.append a b) c ≡ tree.append a (tree.append b c)
append-assoc tree.no_tree b c = refl
append-assoc (tree.tree e a) b c = ap (tree.tree e) (append-assoc a b c)

pub append-none : (a : Trees) → tree.append a tree.no_tree ≡ a
append-none tree.no_tree = refl
append-none (tree.tree e a) = ap (tree.tree e) (append-none a)

pub trees_from : (xs : List Expr) (i : ℕ) (d : Expr) → i < length xs →
    trees_of (drop i xs) ≡ tree.tree (tree_of (get_or xs i d)) (trees_of (drop (i + 1) xs))
trees_from xs i d h = rw (add-one, drop-cons xs i d h) refl

pub trees_past : (xs : List Expr) (i : ℕ) → length xs ≤ i → trees_of (drop i xs) ≡ tree.no_tree
trees_past xs i h = at_drop_all trees_of xs i h

pub ruleset trees_steps = (trees_last, append-assoc, append-none, trees_from, trees_past)

pub pats_last : (xs : List Pattern) (x : Pattern) → pats_of (xs ++ (x ∷ [])) ≡ append_pats (pats_of xs) (tree.pat (pat_of x) tree.no_pat)
pats_last [] x = refl
pats_last (y ∷ xs) x = ap (tree.pat (pat_of y)) (pats_last xs x)

pub append_pats-assoc : (a b c : Pats) → append_pats (append_pats a b) c ≡ append_pats a (append_pats b c)
append_pats-assoc tree.no_pat b c = refl
append_pats-assoc (tree.pat e a) b c = ap (tree.pat e) (append_pats-assoc a b c)

pub append_pats-none : (a : Pats) → append_pats a tree.no_pat ≡ a
append_pats-none tree.no_pat = refl
append_pats-none (tree.pat e a) = ap (tree.pat e) (append_pats-none a)

pub pats_from : (xs : List Pattern) (i : ℕ) (d : Pattern) → i < length xs →
    pats_of (drop i xs) ≡ tree.pat (pat_of (get_or xs i d)) (pats_of (drop (i + 1) xs))
pats_from xs i d h = rw (add-one, drop-cons xs i d h) refl

pub pats_past : (xs : List Pattern) (i : ℕ) → length xs ≤ i → pats_of (drop i xs) ≡ tree.no_pat
pats_past xs i h = at_drop_all pats_of xs i h

pub ruleset pats_steps = (pats_last, append_pats-assoc, append_pats-none, pats_from, pats_past)

-- a qualifier before others stays before what comes behind them
pub qual_before : (q : Qual) (a b : tree.Quals) → append_quals (qual_of q a) b ≡ qual_of q (append_quals a b)
qual_before (code_qual.From p e) a b = refl
qual_before (code_qual.Cells p q e) a b = refl
qual_before (code_qual.Match p e) a b = refl
qual_before (code_qual.Test e) a b = refl

pub quals_last : (xs : List Qual) (x : Qual) → quals_of (xs ++ (x ∷ [])) ≡ append_quals (quals_of xs) (qual_of x tree.no_qual)
quals_last [] x = refl
quals_last (y ∷ xs) x = ap (qual_of y) (quals_last xs x) ∙ sym (qual_before y (quals_of xs) (qual_of x tree.no_qual))

pub append_quals-assoc : (a b c : tree.Quals) → append_quals (append_quals a b) c ≡ append_quals a (append_quals b c)
append_quals-assoc tree.no_qual b c = refl
append_quals-assoc (tree.from p e a) b c = ap (tree.from p e) (append_quals-assoc a b c)
append_quals-assoc (tree.cells p q e a) b c = ap (tree.cells p q e) (append_quals-assoc a b c)
append_quals-assoc (tree.same p e a) b c = ap (tree.same p e) (append_quals-assoc a b c)
append_quals-assoc (tree.test e a) b c = ap (tree.test e) (append_quals-assoc a b c)

pub append_quals-none : (a : tree.Quals) → append_quals a tree.no_qual ≡ a
append_quals-none tree.no_qual = refl
append_quals-none (tree.from p e a) = ap (tree.from p e) (append_quals-none a)
append_quals-none (tree.cells p q e a) = ap (tree.cells p q e) (append_quals-none a)
append_quals-none (tree.same p e a) = ap (tree.same p e) (append_quals-none a)
append_quals-none (tree.test e a) = ap (tree.test e) (append_quals-none a)

pub quals_from : (xs : List Qual) (i : ℕ) (d : Qual) → i < length xs →
    quals_of (drop i xs) ≡ qual_of (get_or xs i d) (quals_of (drop (i + 1) xs))
quals_from xs i d h = rw (add-one, drop-cons xs i d h) refl

pub quals_past : (xs : List Qual) (i : ℕ) → length xs ≤ i → quals_of (drop i xs) ≡ tree.no_qual
quals_past xs i h = at_drop_all quals_of xs i h

pub ruleset quals_steps = (qual_before, quals_last, append_quals-assoc, append_quals-none, quals_from, quals_past)

pub axes_last : (xs : List Bind) (x : Bind) → axes_in (xs ++ (x ∷ [])) ≡ append_axes (axes_in xs) (tree.axis x.name (tree_of x.bound) tree.no_axis)
axes_last [] x = refl
axes_last (y ∷ xs) x = ap (tree.axis y.name (tree_of y.bound)) (axes_last xs x)

pub append_axes-assoc : (a b c : tree.Axes) → append_axes (append_axes a b) c ≡ append_axes a (append_axes b c)
append_axes-assoc tree.no_axis b c = refl
append_axes-assoc (tree.axis x e a) b c = ap (tree.axis x e) (append_axes-assoc a b c)

pub append_axes-none : (a : tree.Axes) → append_axes a tree.no_axis ≡ a
append_axes-none tree.no_axis = refl
append_axes-none (tree.axis x e a) = ap (tree.axis x e) (append_axes-none a)

pub axes_from : (xs : List Bind) (i : ℕ) (d : Bind) → i < length xs →
    axes_in (drop i xs) ≡ tree.axis (get_or xs i d).name (tree_of (get_or xs i d).bound) (axes_in (drop (i + 1) xs))
axes_from xs i d h = rw (add-one, drop-cons xs i d h) refl

pub axes_past : (xs : List Bind) (i : ℕ) → length xs ≤ i → axes_in (drop i xs) ≡ tree.no_axis
axes_past xs i h = at_drop_all axes_in xs i h

pub ruleset axes_steps = (axes_last, append_axes-assoc, append_axes-none, axes_from, axes_past)

pub defs_last : (xs : List LetBind) (x : LetBind) → defs_in (xs ++ (x ∷ [])) ≡ append_defs (defs_in xs) (tree.def (pat_of x.pattern) (tree_of x.expr) tree.no_def)
defs_last [] x = refl
defs_last (y ∷ xs) x = ap (tree.def (pat_of y.pattern) (tree_of y.expr)) (defs_last xs x)

pub append_defs-assoc : (a b c : tree.Defs) → append_defs (append_defs a b) c ≡ append_defs a (append_defs b c)
append_defs-assoc tree.no_def b c = refl
append_defs-assoc (tree.def p e a) b c = ap (tree.def p e) (append_defs-assoc a b c)

pub append_defs-none : (a : tree.Defs) → append_defs a tree.no_def ≡ a
append_defs-none tree.no_def = refl
append_defs-none (tree.def p e a) = ap (tree.def p e) (append_defs-none a)

pub defs_from : (xs : List LetBind) (i : ℕ) (d : LetBind) → i < length xs →
    defs_in (drop i xs) ≡ tree.def (pat_of (get_or xs i d).pattern) (tree_of (get_or xs i d).expr) (defs_in (drop (i + 1) xs))
defs_from xs i d h = rw (add-one, drop-cons xs i d h) refl

pub defs_past : (xs : List LetBind) (i : ℕ) → length xs ≤ i → defs_in (drop i xs) ≡ tree.no_def
defs_past xs i h = at_drop_all defs_in xs i h

pub ruleset defs_steps = (defs_last, append_defs-assoc, append_defs-none, defs_from, defs_past)

-- the declarations of the code's lists

pub decls_of-append : (a b : List Decl) → decls_of (a ++ b) ≡ decls_of a ++ decls_of b
decls_of-append [] b = refl
decls_of-append (d ∷ a) b = ap (λ l. decl_of d ∷ l) (decls_of-append a b)

pub length-decls_of : (ds : List Decl) → length (decls_of ds) ≡ length ds
length-decls_of [] = refl
length-decls_of (d ∷ ds) = ap suc (length-decls_of ds)

pub ruleset tree_views = (tree_of-Row, tree_of-Members, tree_of-Comp, tree_of-Literal, tree_of-Sub, axes_of-items, defs_of-items)
