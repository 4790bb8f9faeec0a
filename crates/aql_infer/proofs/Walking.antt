-- The walk over the code's lists, and over the variants that hold one.
use Rattle.std.specs.Prelude.{Box}
use Rattle.std.specs.Global.{Global}
use Rattle.std.proofs.Common.{ℕ, ◌≡◌, ◌+◌, ◌<◌, List, [], ◌∷◌, ◌++◌, Option, Some, None, Result, Ok, Err, OnOk, refl, ap, sym, subst, ◌∙◌, length, drop, get_or, arith, append_assoc, append-nil, length-append}
use Rattle.aql_value.specs.Strict.{Strict}
use Rattle.aql_value.specs.declared.ops.ArithOp.{ArithOp}
use Rattle.aql_value.specs.declared.ops.CompareOp.{CompareOp}
use Rattle.aql_ty.specs.Types.{Ty, natural, truth}
use Rattle.aql_syntax.specs.Tree as tree
use Rattle.aql_syntax.specs.Tree.{Trees, no_tree, Tree, Quals, no_qual, Axes, Defs, count_pats, axes, append}
use Rattle.aql_syntax.specs.View.{pat_of, tree_of, trees_of, qual_of, quals_of, axes_in, defs_in}
use Rattle.aql_syntax.specs.Laws.View.{trees_from, trees_past, quals_from, quals_past, axes_from, axes_past, defs_from, defs_past, tree_of-Row, tree_of-Members, tree_of-Comp, tree_of-Literal, tree_of-Sub, axes_of-items, defs_of-items, count_trees-list, count_axes-list}
use Rattle.aql_syntax.specs.Typing.{Locals}
use Rattle.aql_syntax.specs.declared.ast.Expr as code
use Rattle.aql_syntax.specs.declared.ast.Expr.{Expr}
use Rattle.aql_syntax.specs.declared.ast.Exprs.{Exprs}
use Rattle.aql_syntax.specs.declared.ast.Quals as code_quals
use Rattle.aql_syntax.specs.declared.ast.Binds as code_binds
use Rattle.aql_syntax.specs.declared.ast.Lets as code_lets
use Rattle.aql_syntax.specs.declared.ast.Bind.{Bind}
use Rattle.aql_syntax.specs.declared.ast.LetBind.{LetBind}
use Rattle.aql_syntax.specs.declared.ast.Qual as code_qual
use Rattle.aql_infer_steps.specs.Constraints.{State, Made, Making, pure, after, equate, NumberedSchemes, make_op, made_tuple, made_sub, made_literal, made_choice, made_truth, made_truths, made_gen, made_get, made_dim, made_index, made_either, made_compare, made_arith, made_union, make, make_all, make_each, make_bounds, make_rows, make_binds, make_match, matched_member, matched_index, matched_cell}
use Rattle.aql_infer_steps.specs.View.{sketch_type, types_in, locals_of}
use Rattle.aql_infer_steps.specs.declared.sketch.Sketch.{Sketch}
use Rattle.aql_infer_steps.specs.declared.positions.Position.{Position}
use Rattle.aql_infer_steps.specs.View.{Makes, FailsTyping, state_of}
use Rattle.aql_infer_steps.specs.declared.fault.NoTyping.TheVariants as faults
use Rattle.aql_infer_steps.specs.declared.store.Store.{Store}
use Rattle.aql_infer_steps.specs.declared.fault.NoTyping.{NoTyping}
use Rattle.aql_infer.specs.Pairs.{make_two, choice_of, subscript_of, literal_of, Follows}
use Rattle.aql_infer_steps.specs.declared.names.Local.{Local}
use Rattle.aql_infer_steps.specs.Laws.Growing.{extends_itself, extends_extends, types_in_append}

-- steps one after another
after-after : {A B C : Type 0} (o : Option (Made A)) (f : A → Making B) (g : B → Making C) →
    after (after o f) g ≡ after o (λ a n. after (f a n) g)
unfolding after
after-after None f g = refl
after-after (Some m) f g = refl

after_same : {A B : Type 0} (o : Option (Made A)) (f g : A → Making B) → ((a : A) (n : State) → f a n ≡ g a n) → after o f ≡ after o g
unfolding after
after_same None f g h = refl
after_same (Some m) f g h = h m.result m.state

-- the same steps, without the last that changes nothing
after_made : {A : Type 0} (o : Option (Made A)) → after o (λ a. pure a) ≡ o
unfolding after
after_made None = refl
after_made (Some m) = refl

-- one qualifier and then others
pub make_rows-qual_of : (q : code_qual.Qual) (rest : Quals) (ss : NumberedSchemes) (env : Locals) (n : State) →
    make_rows (qual_of q rest) ss env n ≡ after (make_rows (qual_of q no_qual) ss env n) (λ inner. make_rows rest ss inner)
unfolding after
make_rows-qual_of (code_qual.From p e) rest ss env n =
    let k : Locals → Making Locals = λ inner. make_rows rest ss inner in
    sym (after-after (make (tree_of e) ss env n) (λ t n. after (matched_member (pat_of p) ss env t n) (λ inner. pure inner)) k
    ∙ after_same (make (tree_of e) ss env n) (λ t n. after (after (matched_member (pat_of p) ss env t n) (λ inner. pure inner)) k)
    (λ t n. after (matched_member (pat_of p) ss env t n) k)
    (λ t n. after-after (matched_member (pat_of p) ss env t n) (λ inner. pure inner) k))
make_rows-qual_of (code_qual.Cells p q e) rest ss env n =
    let k : Locals → Making Locals = λ inner. make_rows rest ss inner in
    let cell : Ty → Locals → Making Locals = λ t mid. matched_cell (pat_of q) (count_pats (axes (pat_of p))) ss mid t in
    let index : Making Locals = matched_index (axes (pat_of p)) ss env in
    sym (after-after (make (tree_of e) ss env n) (λ t n. after (index n) (λ mid n. after (cell t mid n) (λ inner. pure inner))) k
    ∙ after_same (make (tree_of e) ss env n) (λ t n. after (after (index n) (λ mid n. after (cell t mid n) (λ inner. pure inner))) k)
    (λ t n. after (index n) (λ mid n. after (cell t mid n) k))
    (λ t n.
    after-after (index n) (λ mid n. after (cell t mid n) (λ inner. pure inner)) k
    ∙ after_same (index n) (λ mid n. after (after (cell t mid n) (λ inner. pure inner)) k) (λ mid n. after (cell t mid n) k)
    (λ mid n. after-after (cell t mid n) (λ inner. pure inner) k)))
make_rows-qual_of (code_qual.Match p e) rest ss env n =
    let k : Locals → Making Locals = λ inner. make_rows rest ss inner in
    sym (after-after (make (tree_of e) ss env n) (λ t n. after (make_match (pat_of p) ss env t n) (λ inner. pure inner)) k
    ∙ after_same (make (tree_of e) ss env n) (λ t n. after (after (make_match (pat_of p) ss env t n) (λ inner. pure inner)) k)
    (λ t n. after (make_match (pat_of p) ss env t n) k)
    (λ t n. after-after (make_match (pat_of p) ss env t n) (λ inner. pure inner) k))
make_rows-qual_of (code_qual.Test e) rest ss env n =
    let k : Locals → Making Locals = λ inner. make_rows rest ss inner in
    sym (after-after (make (tree_of e) ss env n) (λ t n. after (equate t truth n) (λ _. pure env)) k
    ∙ after_same (make (tree_of e) ss env n) (λ t n. after (after (equate t truth n) (λ _. pure env)) k)
    (λ t n. after (equate t truth n) (λ _. k env))
    (λ t n. after-after (equate t truth n) (λ _. pure env) k))

-- the types of some, and then those of others behind them
abbrev pub join : Trees → NumberedSchemes → Locals → List Ty → Making (List Ty)
join b ss env ts n = after (make_all b ss env n) (λ us. pure (ts ++ us))

pub make_all-append : (a b : Trees) (ss : NumberedSchemes) (env : Locals) (n : State) →
    make_all (append a b) ss env n ≡ after (make_all a ss env n) (join b ss env)
unfolding after
make_all-append no_tree b ss env n = sym (after_made (make_all b ss env n))
make_all-append (tree.tree e a) b ss env n =
    after_same (make e ss env n) (λ t n. after (make_all (append a b) ss env n) (λ ts. pure (t ∷ ts)))
    (λ t n. after (after (make_all a ss env n) (λ ts. pure (t ∷ ts))) (join b ss env))
    (λ t n.
    ap (λ (o : Option (Made (List Ty))). after o (λ ts. pure (t ∷ ts))) (make_all-append a b ss env n)
    ∙ after-after (make_all a ss env n) (join b ss env) (λ ts. pure (t ∷ ts))
    ∙ after_same (make_all a ss env n) (λ ts n. after (join b ss env ts n) (λ ws. pure (t ∷ ws))) (λ ts. join b ss env (t ∷ ts))
    (λ ts n. after-after (make_all b ss env n) (λ us. pure (ts ++ us)) (λ ws. pure (t ∷ ws)))
    ∙ sym (after-after (make_all a ss env n) (λ ts. pure (t ∷ ts)) (join b ss env)))
    ∙ sym (after-after (make e ss env n) (λ t n. after (make_all a ss env n) (λ ts. pure (t ∷ ts))) (join b ss env))

-- an array and the numbers of an index
sub_steps : (a : Tree) (at : Trees) (ss : NumberedSchemes) (env : Locals) (n : State) → make (tree.op Strict.sub (tree.tree a at)) ss env n
    ≡ after (make a ss env n) (λ a n. after (make_all at ss env n) (λ ts. made_sub a ts))
unfolding after
sub_steps a at ss env n =
    after-after (make a ss env n) (λ t n. after (make_all at ss env n) (λ ts. pure (t ∷ ts))) (λ ts. make_op Strict.sub ts)
    ∙ after_same (make a ss env n) (λ t n. after (after (make_all at ss env n) (λ ts. pure (t ∷ ts))) (λ ts. make_op Strict.sub ts))
    (λ t n. after (make_all at ss env n) (λ ts. made_sub t ts))
    (λ t n. after-after (make_all at ss env n) (λ ts. pure (t ∷ ts)) (λ ts. make_op Strict.sub ts))

-- dimensions and then cells
literal_steps : (k : ℕ) (ds cs : Trees) (ss : NumberedSchemes) (env : Locals) (n : State) → make (tree.op (Strict.literal k) (append ds cs)) ss env n
    ≡ after (make_all ds ss env n) (λ ds n. after (make_all cs ss env n) (λ cs. made_literal k (ds ++ cs)))
unfolding after
literal_steps k ds cs ss env n =
    ap (λ (o : Option (Made (List Ty))). after o (λ ts. made_literal k ts)) (make_all-append ds cs ss env n)
    ∙ after-after (make_all ds ss env n) (join cs ss env) (λ ts. made_literal k ts)
    ∙ after_same (make_all ds ss env n) (λ ds n. after (join cs ss env ds n) (λ ts. made_literal k ts))
    (λ ds n. after (make_all cs ss env n) (λ cs. made_literal k (ds ++ cs)))
    (λ ds n. after-after (make_all cs ss env n) (λ cs. pure (ds ++ cs)) (λ ts. made_literal k ts))

-- two expressions, and what is made of their types
two_steps : (a b : Tree) (ss : NumberedSchemes) (env : Locals) (n : State) (f : Ty → Ty → Making Ty) →
    after (make a ss env n) (λ s n. after (make b ss env n) (λ r. f s r)) ≡ after (make_two a b ss env n) (λ p. f p.0 p.1)
unfolding after
two_steps a b ss env n f =
    sym (after-after (make a ss env n) (λ s n. after (make b ss env n) (λ r. pure (s, r))) (λ p. f p.0 p.1)
    ∙ after_same (make a ss env n) (λ s n. after (after (make b ss env n) (λ r. pure (s, r))) (λ p. f p.0 p.1)) (λ s n. after (make b ss env n) (λ r. f s r))
    (λ s n. after-after (make b ss env n) (λ r. pure (s, r)) (λ p. f p.0 p.1)))

-- an operation of two parts
op_two : (o : Strict) (a b : Tree) (ss : NumberedSchemes) (env : Locals) (n : State) →
    make (tree.op o (tree.tree a (tree.tree b no_tree))) ss env n ≡ after (make a ss env n) (λ s n. after (make b ss env n) (λ r. make_op o (s ∷ r ∷ [])))
unfolding after
op_two o a b ss env n = go (make a ss env n)
  where
    second : (t : Ty) (p : Option (Made Ty)) → after (after (after p (λ r n. after (make_all no_tree ss env n) (λ ts. pure (r ∷ ts)))) (λ ts. pure (t ∷ ts))) (λ ts. make_op o ts)
        ≡ after p (λ r. make_op o (t ∷ r ∷ []))
    second t None = refl
    second t (Some m) = refl

    go : (p : Option (Made Ty)) → after (after p (λ t n. after (make_all (tree.tree b no_tree) ss env n) (λ ts. pure (t ∷ ts)))) (λ ts. make_op o ts)
        ≡ after p (λ s n. after (make b ss env n) (λ r. make_op o (s ∷ r ∷ [])))
    go None = refl
    go (Some m) = second m.result (make b ss env m.state)

-- an operation of one part
op_one : (o : Strict) (a : Tree) (ss : NumberedSchemes) (env : Locals) (n : State) →
    make (tree.op o (tree.tree a no_tree)) ss env n ≡ after (make a ss env n) (λ s. make_op o (s ∷ []))
unfolding after
op_one o a ss env n = go (make a ss env n)
  where
    go : (p : Option (Made Ty)) → after (after p (λ t n. after (make_all no_tree ss env n) (λ ts. pure (t ∷ ts)))) (λ ts. make_op o ts) ≡ after p (λ s. make_op o (s ∷ []))
    go None = refl
    go (Some m) = refl

-- The variants with a list in them, and those with one part or two.

module _ (ss : NumberedSchemes) (env : Locals) (n : State) where
  pub make-Row : (es : Exprs) → make (tree_of (code.Row es)) ss env n ≡ after (make_all (trees_of es.items.items) ss env n) (λ ts. made_tuple ts)
  make-Row es = ap (λ e. make e ss env n) (tree_of-Row es)

  pub make-Members : (es : Exprs) → make (tree_of (code.Members es)) ss env n ≡ make (tree.members (trees_of es.items.items)) ss env n
  make-Members es = ap (λ e. make e ss env n) (tree_of-Members es)

  pub make-Comp : (head : Box Expr Global) (quals : code_quals.Quals) →
      make (tree_of (code.Comp head quals)) ss env n ≡ make (tree.comp (tree_of head.value) (quals_of quals.items.items)) ss env n
  make-Comp head quals = ap (λ e. make e ss env n) (tree_of-Comp head quals)

  pub make-Tab : (body : Box Expr Global) (binds : code_binds.Binds) →
      make (tree_of (code.Tab body binds)) ss env n ≡ make (tree.tab (axes_in (code_binds.out-Binds binds).items.items) (tree_of body.value)) ss env n
  make-Tab body binds = ap (λ xs. make (tree.tab xs (tree_of body.value)) ss env n) (axes_of-items binds)

  pub make-Let : (binds : code_lets.Lets) (body : Box Expr Global) →
      make (tree_of (code.Let binds body)) ss env n ≡ make (tree.bindings (defs_in (code_lets.out-Lets binds).items.items) (tree_of body.value)) ss env n
  make-Let binds body = ap (λ ds. make (tree.bindings ds (tree_of body.value)) ss env n) (defs_of-items binds)

  pub make-If : (c a b : Box Expr Global) → make (tree_of (code.If c a b)) ss env n
      ≡ after (make (tree_of c.value) ss env n) (λ t n. after (make_two (tree_of a.value) (tree_of b.value) ss env n) (λ p. made_choice t p.0 p.1))
  make-If c a b =
      after_same (make (tree_of c.value) ss env n) (λ t n. after (make (tree_of a.value) ss env n) (λ s n. after (make (tree_of b.value) ss env n) (λ r. made_choice t s r)))
      (λ t n. after (make_two (tree_of a.value) (tree_of b.value) ss env n) (λ p. made_choice t p.0 p.1))
      (λ t n. two_steps (tree_of a.value) (tree_of b.value) ss env n (made_choice t))

  pub make-And : (a b : Box Expr Global) → make (tree_of (code.And a b)) ss env n
      ≡ after (make_two (tree_of a.value) (tree_of b.value) ss env n) (λ p. made_truths p.0 p.1)
  make-And a b = two_steps (tree_of a.value) (tree_of b.value) ss env n made_truths

  pub make-Or : (a b : Box Expr Global) → make (tree_of (code.Or a b)) ss env n
      ≡ after (make_two (tree_of a.value) (tree_of b.value) ss env n) (λ p. made_truths p.0 p.1)
  make-Or a b = two_steps (tree_of a.value) (tree_of b.value) ss env n made_truths

  pub make-Default : (a b : Box Expr Global) → make (tree_of (code.Default a b)) ss env n
      ≡ after (make_two (tree_of a.value) (tree_of b.value) ss env n) (λ p. made_either p.0 p.1)
  make-Default a b = two_steps (tree_of a.value) (tree_of b.value) ss env n made_either

  pub make-Compare : (o : CompareOp) (a b : Box Expr Global) → make (tree_of (code.Compare o a b)) ss env n
      ≡ after (make_two (tree_of a.value) (tree_of b.value) ss env n) (λ p. made_compare p.0 p.1)
  make-Compare o a b = op_two (Strict.compare o) (tree_of a.value) (tree_of b.value) ss env n ∙ two_steps (tree_of a.value) (tree_of b.value) ss env n made_compare

  pub make-Arith : (o : ArithOp) (a b : Box Expr Global) → make (tree_of (code.Arith o a b)) ss env n
      ≡ after (make_two (tree_of a.value) (tree_of b.value) ss env n) (λ p. made_arith p.0 p.1)
  make-Arith o a b = op_two (Strict.arith o) (tree_of a.value) (tree_of b.value) ss env n ∙ two_steps (tree_of a.value) (tree_of b.value) ss env n made_arith

  pub make-Union : (a b : Box Expr Global) → make (tree_of (code.Union a b)) ss env n
      ≡ after (make_two (tree_of a.value) (tree_of b.value) ss env n) (λ p. made_union p.0 p.1)
  make-Union a b = op_two Strict.union (tree_of a.value) (tree_of b.value) ss env n ∙ two_steps (tree_of a.value) (tree_of b.value) ss env n made_union

  pub make-Not : (a : Box Expr Global) → make (tree_of (code.Not a)) ss env n ≡ after (make (tree_of a.value) ss env n) (λ s. made_truth s)
  make-Not a = refl

  pub make-Gen : (a : Box Expr Global) → make (tree_of (code.Gen a)) ss env n ≡ after (make (tree_of a.value) ss env n) (λ s. made_gen s)
  make-Gen a = op_one Strict.gen (tree_of a.value) ss env n

  pub make-Get : (a : Box Expr Global) → make (tree_of (code.Get a)) ss env n ≡ after (make (tree_of a.value) ss env n) (λ s. made_get s)
  make-Get a = op_one Strict.get (tree_of a.value) ss env n

  pub make-Len : (a : Box Expr Global) → make (tree_of (code.Len a)) ss env n ≡ after (make (tree_of a.value) ss env n) (λ s. made_dim 1 s)
  make-Len a = op_one (Strict.dim 1) (tree_of a.value) ss env n

  pub make-Dim : (k : ℕ) (a : Box Expr Global) → make (tree_of (code.Dim k a)) ss env n ≡ after (make (tree_of a.value) ss env n) (λ s. made_dim k s)
  make-Dim k a = op_one (Strict.dim k) (tree_of a.value) ss env n

  pub make-Index : (k : ℕ) (a : Box Expr Global) → make (tree_of (code.Index k a)) ss env n ≡ after (make (tree_of a.value) ss env n) (λ s. made_index k s)
  make-Index k a = op_one (Strict.index k) (tree_of a.value) ss env n

  pub make-Sub : (array : Box Expr Global) (at : Exprs) →
      make (tree_of (code.Sub array at)) ss env n
      ≡ after (make (tree_of array.value) ss env n) (λ a n. after (make_all (trees_of at.items.items) ss env n) (λ ts. made_sub a ts))
  make-Sub array at =
      ap (λ e. make e ss env n) (tree_of-Sub array at) ∙ sub_steps (tree_of array.value) (trees_of at.items.items) ss env n

  pub make-Literal : (dims cells : Exprs) →
      make (tree_of (code.Literal dims cells)) ss env n
      ≡ after (make_all (trees_of dims.items.items) ss env n) (λ ds n. after (make_all (trees_of cells.items.items) ss env n) (λ cs.
      made_literal (length dims.items.items) (ds ++ cs)))
  make-Literal dims cells =
      ap (λ e. make e ss env n) (tree_of-Literal dims cells)
      ∙ ap (λ (k : ℕ). make (tree.op (Strict.literal k) (append (trees_of dims.items.items) (trees_of cells.items.items))) ss env n) (count_trees-list dims.items.items)
      ∙ literal_steps (length dims.items.items) (trees_of dims.items.items) (trees_of cells.items.items) ss env n

-- one qualifier of a list, and then those behind it
pub rows_from : (qs : List code_qual.Qual) (i : ℕ) (d : code_qual.Qual) (ss : NumberedSchemes) (env : Locals) (n : State) → i < length qs →
    make_rows (quals_of (drop i qs)) ss env n
    ≡ after (make_rows (qual_of (get_or qs i d) no_qual) ss env n) (λ inner. make_rows (quals_of (drop (i + 1) qs)) ss inner)
rows_from qs i d ss env n h =
    ap (λ (q : Quals). make_rows q ss env n) (quals_from qs i d h) ∙ make_rows-qual_of (get_or qs i d) (quals_of (drop (i + 1) qs)) ss env n

rows_one : (qs : List code_qual.Qual) (i : ℕ) (q : code_qual.Qual) (ss : NumberedSchemes) (env : Locals) (n : State) → i < length qs → q ≡ get_or qs i q →
    make_rows (quals_of (drop i qs)) ss env n
    ≡ after (make_rows (qual_of q no_qual) ss env n) (λ inner. make_rows (quals_of (drop (i + 1) qs)) ss inner)
rows_one qs i q ss env n h e =
    rows_from qs i q ss env n h
    ∙ ap (λ q. after (make_rows (qual_of q no_qual) ss env n) (λ inner. make_rows (quals_of (drop (i + 1) qs)) ss inner)) (sym e)

pub rows_more : (qs : List code_qual.Qual) (i : ℕ) (q : code_qual.Qual) (ss : NumberedSchemes) (env inner : Locals) (n m : State) (all : Option (Made Locals)) →
    i < length qs → q ≡ get_or qs i q → make_rows (qual_of q no_qual) ss env n ≡ Some (record { result = inner; state = m }) →
    make_rows (quals_of (drop i qs)) ss env n ≡ all → make_rows (quals_of (drop (i + 1) qs)) ss inner m ≡ all
unfolding after
rows_more qs i q ss env inner n m all h e k total =
    sym (ap (λ (o : Option (Made Locals)). after o (λ inner. make_rows (quals_of (drop (i + 1) qs)) ss inner)) k) ∙ sym (rows_one qs i q ss env n h e) ∙ total

pub rows_none : (qs : List code_qual.Qual) (i : ℕ) (q : code_qual.Qual) (ss : NumberedSchemes) (env : Locals) (n : State) (all : Option (Made Locals)) →
    i < length qs → q ≡ get_or qs i q → make_rows (qual_of q no_qual) ss env n ≡ None → make_rows (quals_of (drop i qs)) ss env n ≡ all → all ≡ None
unfolding after
rows_none qs i q ss env n all h e k total =
    sym total ∙ rows_one qs i q ss env n h e ∙ ap (λ (o : Option (Made Locals)). after o (λ inner. make_rows (quals_of (drop (i + 1) qs)) ss inner)) k

pub rows_fail : (e : NoTyping) (qs : List code_qual.Qual) (i : ℕ) (q : code_qual.Qual) (ss : NumberedSchemes) (env : Locals) (n : State) (all : Option (Made Locals)) →
    i < length qs → q ≡ get_or qs i q → FailsTyping e (make_rows (qual_of q no_qual) ss env n) → make_rows (quals_of (drop i qs)) ss env n ≡ all → FailsTyping e all
rows_fail faults.Memory qs i q ss env n all h e k total = tt
rows_fail faults.NoType qs i q ss env n all h e k total = rows_none qs i q ss env n all h e k total

-- One turn of each loop over a list.

turn : {A B : Type 0} (o : Option (Made A)) (f : A → Making B) (a : A) (m : State) → o ≡ Some (record { result = a; state = m }) → after o f ≡ f a m
unfolding after
turn {A = A} o f a m e = ap (λ (o : Option (Made A)). after o f) e

pub all_more : (ps : List Position) (es : List Expr) (i : ℕ) (e : Expr) (ss : NumberedSchemes) (env new : List Local) (n m : State) (parts next : List Sketch) (y : Sketch) (all : Option (Made (List Ty))) →
    i < length es → e ≡ get_or es i e → make (tree_of e) ss (locals_of ps env) n ≡ Some (record { result = sketch_type ps y; state = m }) → new ≡ env → next ≡ parts ++ y ∷ [] →
    after (make_all (trees_of (drop i es)) ss (locals_of ps env) n) (λ ts. pure (types_in ps parts ++ ts)) ≡ all →
    after (make_all (trees_of (drop (i + 1) es)) ss (locals_of ps new) m) (λ ts. pure (types_in ps next ++ ts)) ≡ all
unfolding after
all_more ps es i e ss env new n m parts next y all h d k l g total =
    ap (λ (env : List Local). after (make_all rest ss (locals_of ps env) m) (λ ts. pure (types_in ps next ++ ts))) l
    ∙ go (make_all rest ss (locals_of ps env) m)
    ∙ sym (ap (λ (o : Option (Made (List Ty))). after o (λ ts. pure (types_in ps parts ++ ts)))
    (turn (make (tree_of e) ss (locals_of ps env) n) (λ t n. after (make_all rest ss (locals_of ps env) n) (λ ts. pure (t ∷ ts))) (sketch_type ps y) m k))
    ∙ sym (ap (λ (x : Trees). after (make_all x ss (locals_of ps env) n) (λ ts. pure (types_in ps parts ++ ts)))
    (trees_from es i e h ∙ ap (λ (e : Expr). tree.tree (tree_of e) rest) (sym d)))
    ∙ total
  where
    rest : Trees
    rest = trees_of (drop (i + 1) es)

    longer : (ts : List Ty) → types_in ps next ++ ts ≡ types_in ps parts ++ sketch_type ps y ∷ ts
    longer ts =
        ap (λ (l : List Sketch). types_in ps l ++ ts) g ∙ ap (λ (l : List Ty). l ++ ts) (types_in_append ps parts (y ∷ []))
        ∙ append_assoc (types_in ps parts) (sketch_type ps y ∷ []) ts

    go : (o : Option (Made (List Ty))) → after o (λ ts. pure (types_in ps next ++ ts)) ≡ after (after o (λ ts. pure (sketch_type ps y ∷ ts))) (λ ts. pure (types_in ps parts ++ ts))
    go None = refl
    go (Some q) = ap (λ (ts : List Ty). Some (record { result = ts; state = q.state })) (longer q.result)

pub count_more : (ts next : List Sketch) (t : Sketch) (k : ℕ) → length ts ≡ k → next ≡ ts ++ t ∷ [] → length next ≡ k + 1
count_more ts next t k e f = ap length f ∙ omega (arith, length-append ts (t ∷ []), e)

pub each_more : (ps : List Position) (es : List Expr) (i : ℕ) (e : Expr) (ss : NumberedSchemes) (env new : List Local) (n m last : State) (y t : Ty) (all : Option (Made (Unit {0}))) →
    i < length es → e ≡ get_or es i e → make (tree_of e) ss (locals_of ps env) n ≡ Some (record { result = y; state = m }) → new ≡ env →
    equate y t m ≡ Some (record { result = tt; state = last }) → make_each (trees_of (drop i es)) ss (locals_of ps env) t n ≡ all →
    make_each (trees_of (drop (i + 1) es)) ss (locals_of ps new) t last ≡ all
each_more ps es i e ss env new n m last y t all h d k l f total =
    let rest : Trees = trees_of (drop (i + 1) es) in
    ap (λ (env : List Local). make_each rest ss (locals_of ps env) t last) l
    ∙ sym (turn (equate y t m) (λ _. make_each rest ss (locals_of ps env) t) tt last f)
    ∙ sym (turn (make (tree_of e) ss (locals_of ps env) n) (λ s n. after (equate s t n) (λ _. make_each rest ss (locals_of ps env) t)) y m k)
    ∙ sym (ap (λ (x : Trees). make_each x ss (locals_of ps env) t n) (trees_from es i e h ∙ ap (λ (e : Expr). tree.tree (tree_of e) rest) (sym d))) ∙ total

pub bounds_more : (ps : List Position) (bs : List Bind) (i : ℕ) (b : Bind) (ss : NumberedSchemes) (env new : List Local) (n m last : State) (y : Ty) (all : Option (Made (Unit {0}))) →
    i < length bs → b ≡ get_or bs i b → make (tree_of b.bound) ss (locals_of ps env) n ≡ Some (record { result = y; state = m }) → new ≡ env →
    equate y natural m ≡ Some (record { result = tt; state = last }) → make_bounds (axes_in (drop i bs)) ss (locals_of ps env) n ≡ all →
    make_bounds (axes_in (drop (i + 1) bs)) ss (locals_of ps new) last ≡ all
bounds_more ps bs i b ss env new n m last y all h d k l f total =
    let rest : Axes = axes_in (drop (i + 1) bs) in
    ap (λ (env : List Local). make_bounds rest ss (locals_of ps env) last) l
    ∙ sym (turn (equate y natural m) (λ _. make_bounds rest ss (locals_of ps env)) tt last f)
    ∙ sym (turn (make (tree_of b.bound) ss (locals_of ps env) n) (λ t n. after (equate t natural n) (λ _. make_bounds rest ss (locals_of ps env))) y m k)
    ∙ sym (ap (λ (x : Axes). make_bounds x ss (locals_of ps env) n) (axes_from bs i b h ∙ ap (λ (b : Bind). tree.axis b.name (tree_of b.bound) rest) (sym d))) ∙ total

pub binds_more : (ps : List Position) (bs : List LetBind) (i : ℕ) (b : LetBind) (ss : NumberedSchemes) (env mid new : List Local) (n m last : State) (y : Ty) (all : Option (Made Locals)) →
    i < length bs → b ≡ get_or bs i b → make (tree_of b.expr) ss (locals_of ps env) n ≡ Some (record { result = y; state = m }) → mid ≡ env →
    make_match (pat_of b.pattern) ss (locals_of ps mid) y m ≡ Some (record { result = locals_of ps new; state = last }) → make_binds (defs_in (drop i bs)) ss (locals_of ps env) n ≡ all →
    make_binds (defs_in (drop (i + 1) bs)) ss (locals_of ps new) last ≡ all
binds_more ps bs i b ss env mid new n m last y all h d k l f total =
    let rest : Defs = defs_in (drop (i + 1) bs) in
    sym (turn (make_match (pat_of b.pattern) ss (locals_of ps env) y m) (λ inner. make_binds rest ss inner) (locals_of ps new) last
    (ap (λ (env : List Local). make_match (pat_of b.pattern) ss (locals_of ps env) y m) (sym l) ∙ f))
    ∙ sym (turn (make (tree_of b.expr) ss (locals_of ps env) n) (λ t n. after (make_match (pat_of b.pattern) ss (locals_of ps env) t n) (λ inner. make_binds rest ss inner)) y m k)
    ∙ sym (ap (λ (x : Defs). make_binds x ss (locals_of ps env) n) (defs_from bs i b h ∙ ap (λ (b : LetBind). tree.def (pat_of b.pattern) (tree_of b.expr) rest) (sym d))) ∙ total

-- the same, for an answer
pub along : (ps : List Position) (r : Result (Sketch × Store) NoTyping) (o p : Option (Made Ty)) → o ≡ p →
    Makes (λ r. record { result = sketch_type ps r.0; state = state_of ps r.1 }) r p → Makes (λ r. record { result = sketch_type ps r.0; state = state_of ps r.1 }) r o
along ps r o p e h = subst (λ (o : Option (Made Ty)). Makes (λ r. record { result = sketch_type ps r.0; state = state_of ps r.1 }) r o) (sym e) h

-- what comes of one part, or of two
pub one_made : (ps : List Position) (ss : NumberedSchemes) (env : Locals) (n : State) (K : Box Expr Global → Expr) (f : Ty → Making Ty) →
    ((a : Box Expr Global) → make (tree_of (K a)) ss env n ≡ after (make (tree_of a.value) ss env n) (λ s. f s)) →
    (e : Expr) (a : Box Expr Global) (x : Expr) (part r : Result (Sketch × Store) NoTyping) → e ≡ K a → x ≡ a.value →
    Makes (λ r. record { result = sketch_type ps r.0; state = state_of ps r.1 }) part (make (tree_of x) ss env n) →
    Follows part r (λ p. Makes (λ r. record { result = sketch_type ps r.0; state = state_of ps r.1 }) r (f (sketch_type ps p.0) (state_of ps p.1))) →
    Makes (λ r. record { result = sketch_type ps r.0; state = state_of ps r.1 }) r (make (tree_of e) ss env n)
unfolding after
one_made ps ss env n K f h e a x part r i j pure then =
    along ps r (make (tree_of e) ss env n) (after (make (tree_of x) ss env n) (λ s. f s))
    (ap (λ (e : Expr). make (tree_of e) ss env n) i ∙ h a ∙ sym (ap (λ (x : Expr). after (make (tree_of x) ss env n) (λ s. f s)) j))
    (go part (make (tree_of x) ss env n) pure then)
  where
    go : (part : Result (Sketch × Store) NoTyping) (o : Option (Made Ty)) → Makes (λ r. record { result = sketch_type ps r.0; state = state_of ps r.1 }) part o →
        Follows part r (λ p. Makes (λ r. record { result = sketch_type ps r.0; state = state_of ps r.1 }) r (f (sketch_type ps p.0) (state_of ps p.1))) →
        Makes (λ r. record { result = sketch_type ps r.0; state = state_of ps r.1 }) r (after o (λ s. f s))
    go (Ok p) o h k = along ps r (after o (λ s. f s)) (f (sketch_type ps p.0) (state_of ps p.1)) (ap (λ (o : Option (Made Ty)). after o (λ s. f s)) h) k
    go (Err faults.Memory) o h k = subst (λ (r : Result (Sketch × Store) NoTyping). Makes (λ r. record { result = sketch_type ps r.0; state = state_of ps r.1 }) r (after o (λ s. f s))) (sym k) tt
    go (Err faults.NoType) o h k =
        subst (λ (r : Result (Sketch × Store) NoTyping). Makes (λ r. record { result = sketch_type ps r.0; state = state_of ps r.1 }) r (after o (λ s. f s))) (sym k)
        (ap (λ (o : Option (Made Ty)). after o (λ s. f s)) h)

pub two_made : (ps : List Position) (ss : NumberedSchemes) (env : Locals) (n : State) (K : Box Expr Global → Box Expr Global → Expr) (f : Ty → Ty → Making Ty) →
    ((a b : Box Expr Global) → make (tree_of (K a b)) ss env n ≡ after (make_two (tree_of a.value) (tree_of b.value) ss env n) (λ p. f p.0 p.1)) →
    (e : Expr) (a b : Box Expr Global) (x y : Expr) (parts : Result (Sketch × Sketch × Store) NoTyping) (r : Result (Sketch × Store) NoTyping) →
    e ≡ K a b → x ≡ a.value → y ≡ b.value →
    Makes (λ r. record { result = (sketch_type ps r.0, sketch_type ps r.1); state = state_of ps r.2 }) parts (make_two (tree_of x) (tree_of y) ss env n) →
    Follows parts r (λ p. Makes (λ r. record { result = sketch_type ps r.0; state = state_of ps r.1 }) r (f (sketch_type ps p.0) (sketch_type ps p.1) (state_of ps p.2))) →
    Makes (λ r. record { result = sketch_type ps r.0; state = state_of ps r.1 }) r (make (tree_of e) ss env n)
unfolding after
two_made ps ss env n K f h e a b x y parts r i j k pure then =
    along ps r (make (tree_of e) ss env n) (after (make_two (tree_of x) (tree_of y) ss env n) (λ p. f p.0 p.1))
    (ap (λ (e : Expr). make (tree_of e) ss env n) i ∙ h a b
    ∙ sym (ap (λ (x : Expr). after (make_two (tree_of x) (tree_of y) ss env n) (λ p. f p.0 p.1)) j
    ∙ ap (λ (y : Expr). after (make_two (tree_of a.value) (tree_of y) ss env n) (λ p. f p.0 p.1)) k))
    (go parts (make_two (tree_of x) (tree_of y) ss env n) pure then)
  where
    go : (parts : Result (Sketch × Sketch × Store) NoTyping) (o : Option (Made (Ty × Ty))) →
        Makes (λ r. record { result = (sketch_type ps r.0, sketch_type ps r.1); state = state_of ps r.2 }) parts o →
        Follows parts r (λ p. Makes (λ r. record { result = sketch_type ps r.0; state = state_of ps r.1 }) r (f (sketch_type ps p.0) (sketch_type ps p.1) (state_of ps p.2))) →
        Makes (λ r. record { result = sketch_type ps r.0; state = state_of ps r.1 }) r (after o (λ p. f p.0 p.1))
    go (Ok p) o h k = along ps r (after o (λ p. f p.0 p.1)) (f (sketch_type ps p.0) (sketch_type ps p.1) (state_of ps p.2)) (ap (λ (o : Option (Made (Ty × Ty))). after o (λ p. f p.0 p.1)) h) k
    go (Err faults.Memory) o h k =
        subst (λ (r : Result (Sketch × Store) NoTyping). Makes (λ r. record { result = sketch_type ps r.0; state = state_of ps r.1 }) r (after o (λ p. f p.0 p.1))) (sym k) tt
    go (Err faults.NoType) o h k =
        subst (λ (r : Result (Sketch × Store) NoTyping). Makes (λ r. record { result = sketch_type ps r.0; state = state_of ps r.1 }) r (after o (λ p. f p.0 p.1))) (sym k)
        (ap (λ (o : Option (Made (Ty × Ty))). after o (λ p. f p.0 p.1)) h)

-- what holds where the parts were made holds where something came of them
pub follows_kept : {X Y : Type 0} (part : Result X NoTyping) (r : Result Y NoTyping) (P : Type 0) (Q : X → Type 0) → OnOk part P → Follows part r Q → OnOk r P
follows_kept (Ok x) (Ok y) P Q h k = h
follows_kept (Ok x) (Err e) P Q h k = tt
follows_kept (Err e) (Ok y) P Q h k = cc
follows_kept (Err e) (Err f) P Q h k = tt

pub members_arm : (e : Expr) (es : Exprs) (xs : List Expr) (ss : NumberedSchemes) (env : Locals) (n : State) → e ≡ code.Members es → xs ≡ es.items.items →
    make (tree_of e) ss env n ≡ make (tree.members (trees_of xs)) ss env n
members_arm e es xs ss env n i j =
    ap (λ (e : Expr). make (tree_of e) ss env n) i ∙ make-Members ss env n es ∙ sym (ap (λ (xs : List Expr). make (tree.members (trees_of xs)) ss env n) j)

pub tab_arm : (e : Expr) (body : Box Expr Global) (binds : code_binds.Binds) (b : Expr) (bs : List Bind) (ss : NumberedSchemes) (env : Locals) (n : State) →
    e ≡ code.Tab body binds → b ≡ body.value → bs ≡ (code_binds.out-Binds binds).items.items →
    make (tree_of e) ss env n ≡ make (tree.tab (axes_in bs) (tree_of b)) ss env n
tab_arm e body binds b bs ss env n i j k =
    ap (λ (e : Expr). make (tree_of e) ss env n) i ∙ make-Tab ss env n body binds
    ∙ sym (ap (λ (b : Expr). make (tree.tab (axes_in bs) (tree_of b)) ss env n) j
    ∙ ap (λ (bs : List Bind). make (tree.tab (axes_in bs) (tree_of body.value)) ss env n) k)

pub let_arm : (e : Expr) (body : Box Expr Global) (binds : code_lets.Lets) (b : Expr) (bs : List LetBind) (ss : NumberedSchemes) (env : Locals) (n : State) →
    e ≡ code.Let binds body → b ≡ body.value → bs ≡ (code_lets.out-Lets binds).items.items →
    make (tree_of e) ss env n ≡ make (tree.bindings (defs_in bs) (tree_of b)) ss env n
let_arm e body binds b bs ss env n i j k =
    ap (λ (e : Expr). make (tree_of e) ss env n) i ∙ make-Let ss env n binds body
    ∙ sym (ap (λ (b : Expr). make (tree.bindings (defs_in bs) (tree_of b)) ss env n) j
    ∙ ap (λ (bs : List LetBind). make (tree.bindings (defs_in bs) (tree_of body.value)) ss env n) k)

pub if_arm : (e : Expr) (c a b : Box Expr Global) (x y z : Expr) (ss : NumberedSchemes) (env : Locals) (n : State) →
    e ≡ code.If c a b → x ≡ c.value → y ≡ a.value → z ≡ b.value → make (tree_of e) ss env n ≡ choice_of (tree_of x) (tree_of y) (tree_of z) ss env n
if_arm e c a b x y z ss env n i j k l =
    ap (λ (e : Expr). make (tree_of e) ss env n) i ∙ make-If ss env n c a b
    ∙ sym (ap (λ (x : Expr). choice_of (tree_of x) (tree_of y) (tree_of z) ss env n) j
    ∙ ap (λ (y : Expr). choice_of (tree_of c.value) (tree_of y) (tree_of z) ss env n) k
    ∙ ap (λ (z : Expr). choice_of (tree_of c.value) (tree_of a.value) (tree_of z) ss env n) l)

pub comp_arm : (e : Expr) (head : Box Expr Global) (quals : code_quals.Quals) (h : Expr) (qs : List code_qual.Qual) (ss : NumberedSchemes) (env : Locals) (n : State) →
    e ≡ code.Comp head quals → h ≡ head.value → qs ≡ quals.items.items →
    make (tree_of e) ss env n ≡ make (tree.comp (tree_of h) (quals_of qs)) ss env n
comp_arm e head quals h qs ss env n i j k =
    ap (λ (e : Expr). make (tree_of e) ss env n) i ∙ make-Comp ss env n head quals
    ∙ sym (ap (λ (h : Expr). make (tree.comp (tree_of h) (quals_of qs)) ss env n) j
    ∙ ap (λ (qs : List code_qual.Qual). make (tree.comp (tree_of head.value) (quals_of qs)) ss env n) k)

pub sub_arm : (e : Expr) (array : Box Expr Global) (at : Exprs) (a : Expr) (es : List Expr) (ss : NumberedSchemes) (env : Locals) (n : State) →
    e ≡ code.Sub array at → a ≡ array.value → es ≡ at.items.items →
    make (tree_of e) ss env n ≡ subscript_of (tree_of a) (trees_of es) ss env n
sub_arm e array at a es ss env n i j k =
    ap (λ (e : Expr). make (tree_of e) ss env n) i ∙ make-Sub ss env n array at
    ∙ sym (ap (λ (a : Expr). subscript_of (tree_of a) (trees_of es) ss env n) j
    ∙ ap (λ (es : List Expr). subscript_of (tree_of array.value) (trees_of es) ss env n) k)

pub literal_arm : (e : Expr) (dims cells : Exprs) (ds cs : List Expr) (ss : NumberedSchemes) (env : Locals) (n : State) →
    e ≡ code.Literal dims cells → ds ≡ dims.items.items → cs ≡ cells.items.items →
    make (tree_of e) ss env n ≡ literal_of (length ds) (trees_of ds) (trees_of cs) ss env n
literal_arm e dims cells ds cs ss env n i j k =
    ap (λ (e : Expr). make (tree_of e) ss env n) i ∙ make-Literal ss env n dims cells
    ∙ sym (ap (λ (ds : List Expr). literal_of (length ds) (trees_of ds) (trees_of cs) ss env n) j
    ∙ ap (λ (cs : List Expr). literal_of (length dims.items.items) (trees_of dims.items.items) (trees_of cs) ss env n) k)

pub ruleset tree_steps = (make-Row)

pub ruleset tabulation_steps = (count_axes-list)

pub ruleset all_steps = (trees_from, trees_past, append-nil)

pub ruleset rows_steps = (extends_itself, extends_extends, rows_from, quals_past)

pub ruleset row_steps = (extends_itself, extends_extends)

pub ruleset binds_steps = (extends_itself, defs_from, defs_past)

pub ruleset indices_steps = (extends_itself, extends_extends, axes_from, axes_past)
