-- A node with another part in a place, and the part that was there.
use Rattle.std.proofs.Common.{◌≡◌, ℕ, zero, suc, refl, sym, ap, ◌∙◌}
use Rattle.aql_value.specs.Strict.{Strict}
use Rattle.nrca_term.specs.Term.{Term, Parts, Form, node, none, part, parts_of, child_of, set_child, with_part}
use Rattle.nrca_term.specs.View.{term_of}
use Rattle.nrca_term.specs.Laws.Equations.{term_of-Let, term_of-Default, term_of-Proj, term_of-Arith, term_of-Compare, term_of-Single, term_of-Union, term_of-BigUnion, term_of-Sum, term_of-Gen, term_of-Get, term_of-Dim, term_of-Index}
use Rattle.nrca_term.proofs.term.Core.swap_part.Goals as goal

swapped : (f : Form) (ps qs : Parts) (t u : Term) (i : ℕ) → ps ≡ set_child qs i u → t ≡ node f qs → node f ps ≡ with_part t i u
swapped f ps qs t u i h e = ap (node f) h ∙ sym (ap (λ x. with_part x i u) e)

-- which part stands in a place does not hang on the variables that it has
whatever_bound : (j k i : ℕ) (a b : Term) → child_of (part 0 a (part j b none)) i ≡ child_of (part 0 a (part k b none)) i
whatever_bound j k zero a b = refl
whatever_bound j k (suc zero) a b = refl
whatever_bound j k (suc (suc i)) a b = refl

pub returns-in-Let-clause-now : goal.returns-in-Let-clause-now
returns-in-Let-clause-now c =
    term_of-Let c.swap_two-a.result.0.0 c.swap_two-a.result.0.1
    ∙ swapped Form.bind _ _ _ _ c.args.i (c.swap_two-a.ensures.now 1) (ap term_of c.in-Let.is ∙ term_of-Let c.in-Let.a c.in-Let.b)

pub returns-in-Let-clause-before : goal.returns-in-Let-clause-before
returns-in-Let-clause-before c =
    c.swap_two-a.ensures.before ∙ whatever_bound 0 1 c.args.i (term_of c.in-Let.a.value) (term_of c.in-Let.b.value) ∙ sym (ap (λ x. child_of (parts_of x) c.args.i) (ap term_of c.in-Let.is ∙ term_of-Let c.in-Let.a c.in-Let.b))

pub returns-in-Default-clause-now : goal.returns-in-Default-clause-now
returns-in-Default-clause-now c =
    term_of-Default c.swap_two-a-in-Default.result.0.0 c.swap_two-a-in-Default.result.0.1
    ∙ swapped Form.default _ _ _ _ c.args.i (c.swap_two-a-in-Default.ensures.now 0) (ap term_of c.in-Default.is ∙ term_of-Default c.in-Default.a c.in-Default.b)

pub returns-in-Default-clause-before : goal.returns-in-Default-clause-before
returns-in-Default-clause-before c = c.swap_two-a-in-Default.ensures.before ∙ sym (ap (λ x. child_of (parts_of x) c.args.i) (ap term_of c.in-Default.is ∙ term_of-Default c.in-Default.a c.in-Default.b))

pub returns-in-Arith-clause-now : goal.returns-in-Arith-clause-now
returns-in-Arith-clause-now c =
    term_of-Arith c.in-Arith.op c.swap_two-a-in-Arith.result.0.0 c.swap_two-a-in-Arith.result.0.1
    ∙ swapped (Form.strict (Strict.arith c.in-Arith.op)) _ _ _ _ c.args.i (c.swap_two-a-in-Arith.ensures.now 0) (ap term_of c.in-Arith.is ∙ term_of-Arith c.in-Arith.op c.in-Arith.a c.in-Arith.b)

pub returns-in-Arith-clause-before : goal.returns-in-Arith-clause-before
returns-in-Arith-clause-before c = c.swap_two-a-in-Arith.ensures.before ∙ sym (ap (λ x. child_of (parts_of x) c.args.i) (ap term_of c.in-Arith.is ∙ term_of-Arith c.in-Arith.op c.in-Arith.a c.in-Arith.b))

pub returns-in-Compare-clause-now : goal.returns-in-Compare-clause-now
returns-in-Compare-clause-now c =
    term_of-Compare c.in-Compare.op c.swap_two-a-in-Compare.result.0.0 c.swap_two-a-in-Compare.result.0.1
    ∙ swapped (Form.strict (Strict.compare c.in-Compare.op)) _ _ _ _ c.args.i (c.swap_two-a-in-Compare.ensures.now 0) (ap term_of c.in-Compare.is ∙ term_of-Compare c.in-Compare.op c.in-Compare.a c.in-Compare.b)

pub returns-in-Compare-clause-before : goal.returns-in-Compare-clause-before
returns-in-Compare-clause-before c = c.swap_two-a-in-Compare.ensures.before ∙ sym (ap (λ x. child_of (parts_of x) c.args.i) (ap term_of c.in-Compare.is ∙ term_of-Compare c.in-Compare.op c.in-Compare.a c.in-Compare.b))

pub returns-in-Union-clause-now : goal.returns-in-Union-clause-now
returns-in-Union-clause-now c =
    term_of-Union c.swap_two-a-in-Union.result.0.0 c.swap_two-a-in-Union.result.0.1
    ∙ swapped (Form.strict Strict.union) _ _ _ _ c.args.i (c.swap_two-a-in-Union.ensures.now 0) (ap term_of c.in-Union.is ∙ term_of-Union c.in-Union.a c.in-Union.b)

pub returns-in-Union-clause-before : goal.returns-in-Union-clause-before
returns-in-Union-clause-before c = c.swap_two-a-in-Union.ensures.before ∙ sym (ap (λ x. child_of (parts_of x) c.args.i) (ap term_of c.in-Union.is ∙ term_of-Union c.in-Union.a c.in-Union.b))

pub returns-in-BigUnion-clause-now : goal.returns-in-BigUnion-clause-now
returns-in-BigUnion-clause-now c =
    term_of-BigUnion c.swap_two-over.result.0.0 c.swap_two-over.result.0.1
    ∙ swapped Form.big_union _ _ _ _ c.args.i (c.swap_two-over.ensures.now 1) (ap term_of c.in-BigUnion.is ∙ term_of-BigUnion c.in-BigUnion.over c.in-BigUnion.body)

pub returns-in-BigUnion-clause-before : goal.returns-in-BigUnion-clause-before
returns-in-BigUnion-clause-before c =
    c.swap_two-over.ensures.before ∙ whatever_bound 0 1 c.args.i (term_of c.in-BigUnion.over.value) (term_of c.in-BigUnion.body.value) ∙ sym (ap (λ x. child_of (parts_of x) c.args.i) (ap term_of c.in-BigUnion.is ∙ term_of-BigUnion c.in-BigUnion.over c.in-BigUnion.body))

pub returns-in-Sum-clause-now : goal.returns-in-Sum-clause-now
returns-in-Sum-clause-now c =
    term_of-Sum c.swap_two-over-in-Sum.result.0.0 c.swap_two-over-in-Sum.result.0.1
    ∙ swapped Form.sum _ _ _ _ c.args.i (c.swap_two-over-in-Sum.ensures.now 1) (ap term_of c.in-Sum.is ∙ term_of-Sum c.in-Sum.over c.in-Sum.body)

pub returns-in-Sum-clause-before : goal.returns-in-Sum-clause-before
returns-in-Sum-clause-before c =
    c.swap_two-over-in-Sum.ensures.before ∙ whatever_bound 0 1 c.args.i (term_of c.in-Sum.over.value) (term_of c.in-Sum.body.value) ∙ sym (ap (λ x. child_of (parts_of x) c.args.i) (ap term_of c.in-Sum.is ∙ term_of-Sum c.in-Sum.over c.in-Sum.body))

pub returns-in-Single-clause-now : goal.returns-in-Single-clause-now
returns-in-Single-clause-now c =
    term_of-Single c.swap_one-a.result.0
    ∙ swapped (Form.strict Strict.single) _ _ _ _ c.args.i c.swap_one-a.ensures.now (ap term_of c.in-Single.is ∙ term_of-Single c.in-Single.a)

pub returns-in-Single-clause-before : goal.returns-in-Single-clause-before
returns-in-Single-clause-before c = c.swap_one-a.ensures.before ∙ sym (ap (λ x. child_of (parts_of x) c.args.i) (ap term_of c.in-Single.is ∙ term_of-Single c.in-Single.a))

pub returns-in-Gen-clause-now : goal.returns-in-Gen-clause-now
returns-in-Gen-clause-now c =
    term_of-Gen c.swap_one-a-in-Gen.result.0
    ∙ swapped (Form.strict Strict.gen) _ _ _ _ c.args.i c.swap_one-a-in-Gen.ensures.now (ap term_of c.in-Gen.is ∙ term_of-Gen c.in-Gen.a)

pub returns-in-Gen-clause-before : goal.returns-in-Gen-clause-before
returns-in-Gen-clause-before c = c.swap_one-a-in-Gen.ensures.before ∙ sym (ap (λ x. child_of (parts_of x) c.args.i) (ap term_of c.in-Gen.is ∙ term_of-Gen c.in-Gen.a))

pub returns-in-Get-clause-now : goal.returns-in-Get-clause-now
returns-in-Get-clause-now c =
    term_of-Get c.swap_one-a-in-Get.result.0
    ∙ swapped (Form.strict Strict.get) _ _ _ _ c.args.i c.swap_one-a-in-Get.ensures.now (ap term_of c.in-Get.is ∙ term_of-Get c.in-Get.a)

pub returns-in-Get-clause-before : goal.returns-in-Get-clause-before
returns-in-Get-clause-before c = c.swap_one-a-in-Get.ensures.before ∙ sym (ap (λ x. child_of (parts_of x) c.args.i) (ap term_of c.in-Get.is ∙ term_of-Get c.in-Get.a))

pub returns-in-Proj-clause-now : goal.returns-in-Proj-clause-now
returns-in-Proj-clause-now c =
    term_of-Proj c.in-Proj.at c.in-Proj.of c.swap_one-part.result.0
    ∙ swapped (Form.strict (Strict.proj c.in-Proj.at c.in-Proj.of)) _ _ _ _ c.args.i c.swap_one-part.ensures.now (ap term_of c.in-Proj.is ∙ term_of-Proj c.in-Proj.at c.in-Proj.of c.in-Proj.part)

pub returns-in-Proj-clause-before : goal.returns-in-Proj-clause-before
returns-in-Proj-clause-before c = c.swap_one-part.ensures.before ∙ sym (ap (λ x. child_of (parts_of x) c.args.i) (ap term_of c.in-Proj.is ∙ term_of-Proj c.in-Proj.at c.in-Proj.of c.in-Proj.part))

pub returns-in-Dim-clause-now : goal.returns-in-Dim-clause-now
returns-in-Dim-clause-now c =
    term_of-Dim c.in-Dim.rank c.swap_one-array.result.0
    ∙ swapped (Form.strict (Strict.dim c.in-Dim.rank)) _ _ _ _ c.args.i c.swap_one-array.ensures.now (ap term_of c.in-Dim.is ∙ term_of-Dim c.in-Dim.rank c.in-Dim.array)

pub returns-in-Dim-clause-before : goal.returns-in-Dim-clause-before
returns-in-Dim-clause-before c = c.swap_one-array.ensures.before ∙ sym (ap (λ x. child_of (parts_of x) c.args.i) (ap term_of c.in-Dim.is ∙ term_of-Dim c.in-Dim.rank c.in-Dim.array))

pub returns-in-Index-clause-now : goal.returns-in-Index-clause-now
returns-in-Index-clause-now c =
    term_of-Index c.in-Index.rank c.swap_one-pairs.result.0
    ∙ swapped (Form.strict (Strict.index c.in-Index.rank)) _ _ _ _ c.args.i c.swap_one-pairs.ensures.now (ap term_of c.in-Index.is ∙ term_of-Index c.in-Index.rank c.in-Index.pairs)

pub returns-in-Index-clause-before : goal.returns-in-Index-clause-before
returns-in-Index-clause-before c = c.swap_one-pairs.ensures.before ∙ sym (ap (λ x. child_of (parts_of x) c.args.i) (ap term_of c.in-Index.is ∙ term_of-Index c.in-Index.rank c.in-Index.pairs))
