-- What is made of copies of parts has the tree that the parts have.
use Rattle.std.specs.Prelude.{Box, Vec}
use Rattle.std.specs.Global.{Global}
use Rattle.std.proofs.Common.{◌≡◌, List, refl, ap, sym, ◌∙◌, Result, Ok, Err, IfOk, IsOkAnd}
use Rattle.aql_value.specs.Strict.{Strict}
use Rattle.aql_syntax.specs.Tree as tree
use Rattle.aql_syntax.specs.Tree.{Tree, Trees, Axes, Defs, count_trees, append}
use Rattle.aql_syntax.specs.View.{pat_of, tree_of, trees_of, quals_of, axes_in, defs_in, of_one, of_two}
use Rattle.aql_syntax.specs.Laws.View.{tree_of-Row, tree_of-Members, tree_of-Comp, tree_of-Literal, tree_of-Sub, axes_of-items, defs_of-items}
use Rattle.aql_syntax.specs.declared.ast.Expr.{Expr}
use Rattle.aql_syntax.specs.declared.ast.Qual.{Qual}
use Rattle.aql_syntax.specs.declared.ast.Bind.{Bind}
use Rattle.aql_syntax.specs.declared.ast.LetBind.{LetBind}
use Rattle.aql_syntax.specs.declared.ast.Pattern.{Pattern}
use Rattle.aql_syntax.proofs.+copy.Goals as goal

two_copied : {A B X Y E : Type 0} (F : X → Y → Tree) (v : A → X) (w : B → Y) (r : Result Expr E) (a : Result A E) (b : Result B E) (t : Tree) (x m : X) (y n : Y) →
    IfOk r (λ made. IsOkAnd a (λ u. IsOkAnd b (λ z. tree_of made ≡ F (v u) (w z)))) →
    IfOk a (λ u. v u ≡ x) → x ≡ m → IfOk b (λ z. w z ≡ y) → y ≡ n → F m n ≡ t → IfOk r (λ made. tree_of made ≡ t)
two_copied F v w (Err e) a b t x m y n h k i l j s = tt
two_copied F v w (Ok made) (Err e) b t x m y n h k i l j s = absurd h
two_copied F v w (Ok made) (Ok u) (Err e) t x m y n h k i l j s = absurd h
two_copied F v w (Ok made) (Ok u) (Ok z) t x m y n h k i l j s = h ∙ ap (λ p. F p (w z)) (k ∙ i) ∙ ap (F m) (l ∙ j) ∙ s

one_box : {E : Type 0} (F : Tree → Tree) (r : Result Expr E) (a : Result (Box Expr Global) E) (t : Tree) (e : Expr) (p : Box Expr Global) →
    IfOk r (λ made. IsOkAnd a (λ u. tree_of made ≡ F (tree_of u.value))) →
    IfOk a (λ u. tree_of u.value ≡ tree_of e) → e ≡ p.value → F (tree_of p.value) ≡ t → IfOk r (λ made. tree_of made ≡ t)
one_box F (Err m) a t e p h k i s = tt
one_box F (Ok made) (Err m) t e p h k i s = absurd h
one_box F (Ok made) (Ok u) t e p h k i s = h ∙ ap F (k ∙ ap tree_of i) ∙ s

two_boxes : {E : Type 0} (F : Tree → Tree → Tree) (r : Result Expr E) (a b : Result (Box Expr Global) E) (t : Tree) (e f : Expr) (p q : Box Expr Global) →
    IfOk r (λ made. IsOkAnd a (λ u. IsOkAnd b (λ z. tree_of made ≡ F (tree_of u.value) (tree_of z.value)))) →
    IfOk a (λ u. tree_of u.value ≡ tree_of e) → e ≡ p.value → IfOk b (λ u. tree_of u.value ≡ tree_of f) → f ≡ q.value →
    F (tree_of p.value) (tree_of q.value) ≡ t → IfOk r (λ made. tree_of made ≡ t)
two_boxes F r a b t e f p q h k i l j s =
    two_copied F (λ (u : Box Expr Global). tree_of u.value) (λ (u : Box Expr Global). tree_of u.value) r a b t _ _ _ _ h k (ap tree_of i) l (ap tree_of j) s

three_copied : {A E : Type 0} {X : Type 0} (F : X → Tree → Tree → Tree) (v : A → X) (r : Result Expr E) (a : Result A E) (b c : Result (Box Expr Global) E) (t : Tree)
    (x m : X) (e f : Expr) (p q : Box Expr Global) →
    IfOk r (λ made. IsOkAnd a (λ u. IsOkAnd b (λ y. IsOkAnd c (λ z. tree_of made ≡ F (v u) (tree_of y.value) (tree_of z.value))))) →
    IfOk a (λ u. v u ≡ x) → x ≡ m → IfOk b (λ u. tree_of u.value ≡ tree_of e) → e ≡ p.value → IfOk c (λ u. tree_of u.value ≡ tree_of f) → f ≡ q.value →
    F m (tree_of p.value) (tree_of q.value) ≡ t → IfOk r (λ made. tree_of made ≡ t)
three_copied F v (Err w) a b c t x m e f p q h k i l j n o s = tt
three_copied F v (Ok made) (Err w) b c t x m e f p q h k i l j n o s = absurd h
three_copied F v (Ok made) (Ok u) (Err w) c t x m e f p q h k i l j n o s = absurd h
three_copied F v (Ok made) (Ok u) (Ok y) (Err w) t x m e f p q h k i l j n o s = absurd h
three_copied F v (Ok made) (Ok u) (Ok y) (Ok z) t x m e f p q h k i l j n o s =
    h ∙ ap (λ d. F d (tree_of y.value) (tree_of z.value)) (k ∙ i) ∙ ap (λ d. F m d (tree_of z.value)) (l ∙ ap tree_of j) ∙ ap (F m (tree_of p.value)) (n ∙ ap tree_of o) ∙ s

list_copied : {E : Type 0} (F : Trees → Tree) (r : Result Expr E) (a : Result (Vec Expr Global) E) (t : Tree) (xs ys : List Expr) →
    IfOk r (λ made. IsOkAnd a (λ u. tree_of made ≡ F (trees_of u.items))) →
    IfOk a (λ u. trees_of u.items ≡ trees_of xs) → xs ≡ ys → F (trees_of ys) ≡ t → IfOk r (λ made. tree_of made ≡ t)
list_copied F (Err m) a t xs ys h k i s = tt
list_copied F (Ok made) (Err m) t xs ys h k i s = absurd h
list_copied F (Ok made) (Ok u) t xs ys h k i s = h ∙ ap F (k ∙ ap trees_of i) ∙ s

pub ast::Expr::copy-returns-in-Comp : goal.ast::Expr::copy-returns-in-Comp
ast::Expr::copy-returns-in-Comp t c =
    two_copied tree.comp (λ (u : Box Expr Global). tree_of u.value) (λ (z : Vec Qual Global). quals_of z.items) _ _ _ _ _ _ _ _
    c.make_comprehension.ensures c.copy_parts.ensures (ap tree_of c.deref-in-Comp.ensures) c.copy_quals.ensures (ap quals_of c.deref-in-Comp-2.ensures.value)
    (sym (ap tree_of c.in-Comp.is ∙ tree_of-Comp c.in-Comp.head c.in-Comp.quals))

pub ast::Expr::copy-returns-in-Literal : goal.ast::Expr::copy-returns-in-Literal
ast::Expr::copy-returns-in-Literal t c =
    two_copied (λ (ds : Trees) (cs : Trees). tree.op (Strict.literal (count_trees ds)) (append ds cs))
    (λ (u : Vec Expr Global). trees_of u.items) (λ (z : Vec Expr Global). trees_of z.items) _ _ _ _ _ _ _ _
    c.make_literal.ensures c.copy_exprs-in-Literal.ensures (ap trees_of c.deref-in-Literal.ensures.value)
    c.copy_exprs-in-Literal-2.ensures (ap trees_of c.deref-in-Literal-2.ensures.value)
    (sym (ap tree_of c.in-Literal.is ∙ tree_of-Literal c.in-Literal.dims c.in-Literal.cells))

pub ast::Expr::copy-returns-in-Sub : goal.ast::Expr::copy-returns-in-Sub
ast::Expr::copy-returns-in-Sub t c =
    two_copied (λ (a : Tree) (at : Trees). tree.op Strict.sub (tree.tree a at))
    (λ (u : Box Expr Global). tree_of u.value) (λ (z : Vec Expr Global). trees_of z.items) _ _ _ _ _ _ _ _
    c.make_subscript.ensures c.copy_parts-in-Sub.ensures (ap tree_of c.deref-in-Sub.ensures)
    c.copy_exprs-in-Sub.ensures (ap trees_of c.deref-in-Sub-2.ensures.value)
    (sym (ap tree_of c.in-Sub.is ∙ tree_of-Sub c.in-Sub.array c.in-Sub.at))

pub ast::Expr::copy-returns-in-And : goal.ast::Expr::copy-returns-in-And
ast::Expr::copy-returns-in-And t c =
    two_boxes tree.conjunction _ _ _ _ _ _ c.in-And.a c.in-And.b c.on_two.ensures
    c.copy_parts-in-And.ensures c.deref-in-And.ensures c.copy_parts-in-And-2.ensures c.deref-in-And-2.ensures (sym (ap tree_of c.in-And.is))

pub ast::Expr::copy-returns-in-Or : goal.ast::Expr::copy-returns-in-Or
ast::Expr::copy-returns-in-Or t c =
    two_boxes tree.disjunction _ _ _ _ _ _ c.in-Or.a c.in-Or.b c.on_two-in-Or.ensures
    c.copy_parts-in-Or.ensures c.deref-in-Or.ensures c.copy_parts-in-Or-2.ensures c.deref-in-Or-2.ensures (sym (ap tree_of c.in-Or.is))

pub ast::Expr::copy-returns-in-Compare : goal.ast::Expr::copy-returns-in-Compare
ast::Expr::copy-returns-in-Compare t c =
    two_boxes (of_two (Strict.compare c.in-Compare.o)) _ _ _ _ _ _ c.in-Compare.a c.in-Compare.b c.on_two-in-Compare.ensures
    c.copy_parts-in-Compare.ensures c.deref-in-Compare.ensures c.copy_parts-in-Compare-2.ensures c.deref-in-Compare-2.ensures (sym (ap tree_of c.in-Compare.is))

pub ast::Expr::copy-returns-in-Arith : goal.ast::Expr::copy-returns-in-Arith
ast::Expr::copy-returns-in-Arith t c =
    two_boxes (of_two (Strict.arith c.in-Arith.o)) _ _ _ _ _ _ c.in-Arith.a c.in-Arith.b c.on_two-in-Arith.ensures
    c.copy_parts-in-Arith.ensures c.deref-in-Arith.ensures c.copy_parts-in-Arith-2.ensures c.deref-in-Arith-2.ensures (sym (ap tree_of c.in-Arith.is))

pub ast::Expr::copy-returns-in-Union : goal.ast::Expr::copy-returns-in-Union
ast::Expr::copy-returns-in-Union t c =
    two_boxes (of_two Strict.union) _ _ _ _ _ _ c.in-Union.a c.in-Union.b c.on_two-in-Union.ensures
    c.copy_parts-in-Union.ensures c.deref-in-Union.ensures c.copy_parts-in-Union-2.ensures c.deref-in-Union-2.ensures (sym (ap tree_of c.in-Union.is))

pub ast::Expr::copy-returns-in-Default : goal.ast::Expr::copy-returns-in-Default
ast::Expr::copy-returns-in-Default t c =
    two_boxes tree.default _ _ _ _ _ _ c.in-Default.a c.in-Default.b c.make_default.ensures
    c.copy_parts-in-Default.ensures c.deref-in-Default.ensures c.copy_parts-in-Default-2.ensures c.deref-in-Default-2.ensures (sym (ap tree_of c.in-Default.is))

pub ast::Expr::copy-returns-in-Not : goal.ast::Expr::copy-returns-in-Not
ast::Expr::copy-returns-in-Not t c =
    one_box tree.negation _ _ _ _ c.in-Not.a c.make_negation.ensures c.copy_parts-in-Not.ensures c.deref-in-Not.ensures (sym (ap tree_of c.in-Not.is))

pub ast::Expr::copy-returns-in-Gen : goal.ast::Expr::copy-returns-in-Gen
ast::Expr::copy-returns-in-Gen t c =
    one_box (of_one Strict.gen) _ _ _ _ c.in-Gen.a c.on_one.ensures c.copy_parts-in-Gen.ensures c.deref-in-Gen.ensures (sym (ap tree_of c.in-Gen.is))

pub ast::Expr::copy-returns-in-Get : goal.ast::Expr::copy-returns-in-Get
ast::Expr::copy-returns-in-Get t c =
    one_box (of_one Strict.get) _ _ _ _ c.in-Get.a c.on_one-in-Get.ensures c.copy_parts-in-Get.ensures c.deref-in-Get.ensures (sym (ap tree_of c.in-Get.is))

pub ast::Expr::copy-returns-in-Len : goal.ast::Expr::copy-returns-in-Len
ast::Expr::copy-returns-in-Len t c =
    one_box (of_one (Strict.dim 1)) _ _ _ _ c.in-Len.a c.length.ensures c.copy_parts-in-Len.ensures c.deref-in-Len.ensures (sym (ap tree_of c.in-Len.is))

pub ast::Expr::copy-returns-in-Dim : goal.ast::Expr::copy-returns-in-Dim
ast::Expr::copy-returns-in-Dim t c =
    one_box (of_one (Strict.dim c.in-Dim.rank)) _ _ _ _ c.in-Dim.array c.on_one-in-Dim.ensures c.copy_parts-in-Dim.ensures c.deref-in-Dim.ensures (sym (ap tree_of c.in-Dim.is))

pub ast::Expr::copy-returns-in-Index : goal.ast::Expr::copy-returns-in-Index
ast::Expr::copy-returns-in-Index t c =
    one_box (of_one (Strict.index c.in-Index.rank)) _ _ _ _ c.in-Index.pairs c.on_one-in-Index.ensures c.copy_parts-in-Index.ensures c.deref-in-Index.ensures (sym (ap tree_of c.in-Index.is))

pub ast::Expr::copy-returns-in-If : goal.ast::Expr::copy-returns-in-If
ast::Expr::copy-returns-in-If t c =
    three_copied tree.choice (λ (u : Box Expr Global). tree_of u.value) _ _ _ _ _ _ _ _ _ c.in-If.a c.in-If.b c.choice.ensures
    c.copy_parts-in-If.ensures (ap tree_of c.deref-in-If.ensures) c.copy_parts-in-If-2.ensures c.deref-in-If-2.ensures c.copy_parts-in-If-3.ensures c.deref-in-If-3.ensures
    (sym (ap tree_of c.in-If.is))

pub ast::Expr::copy-returns-in-Fun : goal.ast::Expr::copy-returns-in-Fun
ast::Expr::copy-returns-in-Fun t c =
    three_copied tree.function (λ (u : Pattern). pat_of u) _ _ _ _ _ _ _ _ _ c.in-Fun.body c.in-Fun.argument c.function.ensures
    c.copy-in-Fun.ensures refl c.copy_parts-in-Fun.ensures c.deref-in-Fun.ensures c.copy_parts-in-Fun-2.ensures c.deref-in-Fun-2.ensures
    (sym (ap tree_of c.in-Fun.is))

pub ast::Expr::copy-returns-in-SumMap : goal.ast::Expr::copy-returns-in-SumMap
ast::Expr::copy-returns-in-SumMap t c =
    three_copied tree.summap (λ (u : Pattern). pat_of u) _ _ _ _ _ _ _ _ _ c.in-SumMap.body c.in-SumMap.over c.function-in-SumMap.ensures
    c.copy-in-SumMap.ensures refl c.copy_parts-in-SumMap.ensures c.deref-in-SumMap.ensures c.copy_parts-in-SumMap-2.ensures c.deref-in-SumMap-2.ensures
    (sym (ap tree_of c.in-SumMap.is))

pub ast::Expr::copy-returns-in-Row : goal.ast::Expr::copy-returns-in-Row
ast::Expr::copy-returns-in-Row t c =
    list_copied (tree.op Strict.tuple) _ _ _ _ _ c.tuple.ensures c.copy_exprs.ensures c.deref.ensures.value (sym (ap tree_of c.in-Row.is ∙ tree_of-Row c.in-Row.es))

pub ast::Expr::copy-returns-in-Members : goal.ast::Expr::copy-returns-in-Members
ast::Expr::copy-returns-in-Members t c =
    list_copied tree.members _ _ _ _ _ c.set.ensures c.copy_exprs-in-Members.ensures c.deref-in-Members.ensures.value
    (sym (ap tree_of c.in-Members.is ∙ tree_of-Members c.in-Members.es))

pub ast::Expr::copy-returns-in-Tab : goal.ast::Expr::copy-returns-in-Tab
ast::Expr::copy-returns-in-Tab t c =
    two_copied (λ (b : Tree) (xs : Axes). tree.tab xs b) (λ (u : Box Expr Global). tree_of u.value) (λ (z : Vec Bind Global). axes_in z.items) _ _ _ _ _ _ _ _
    c.make_tabulation.ensures c.copy_parts-in-Tab.ensures (ap tree_of c.deref-in-Tab.ensures) c.copy_binds.ensures (ap axes_in c.deref-in-Tab-2.ensures.value)
    (ap (λ (xs : Axes). tree.tab xs (tree_of c.in-Tab.body.value)) (sym (axes_of-items c.in-Tab.binds)) ∙ sym (ap tree_of c.in-Tab.is))

pub ast::Expr::copy-returns-in-Let : goal.ast::Expr::copy-returns-in-Let
ast::Expr::copy-returns-in-Let t c =
    two_copied (λ (ds : Defs) (b : Tree). tree.bindings ds b) (λ (z : Vec LetBind Global). defs_in z.items) (λ (u : Box Expr Global). tree_of u.value) _ _ _ _ _ _ _ _
    c.make_let.ensures c.copy_lets.ensures (ap defs_in c.deref-in-Let.ensures.value) c.copy_parts-in-Let.ensures (ap tree_of c.deref-in-Let-2.ensures)
    (ap (λ (ds : Defs). tree.bindings ds (tree_of c.in-Let.body.value)) (sym (defs_of-items c.in-Let.binds)) ∙ sym (ap tree_of c.in-Let.is))
