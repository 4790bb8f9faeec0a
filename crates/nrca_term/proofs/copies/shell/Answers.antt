-- A node whose parts are all Bottom is the hollow node of the term.
use Rattle.std.proofs.Common.{◌≡◌, Box, Global, sym, ap, ◌∙◌}
use Rattle.nrca_term.specs.declared.term.Core.{Core}
use Rattle.nrca_term.specs.Term.{Term}
use Rattle.nrca_term.specs.Hollow.{hollow}
use Rattle.nrca_term.specs.View.{term_of}
use Rattle.nrca_term.specs.Nodes.{bottom_term, let_term, if_term, default_term, proj_term, arith_term, compare_term, single_term, union_term, big_union_term, sum_term, gen_term, get_term, dim_term, index_term}
use Rattle.nrca_term.specs.Laws.Equations.{term_of-Let, term_of-If, term_of-Default, term_of-Proj, term_of-Arith, term_of-Compare, term_of-Single, term_of-Union, term_of-BigUnion, term_of-Sum, term_of-Gen, term_of-Get, term_of-Dim, term_of-Index}
use Rattle.nrca_term.proofs.Filling.{hollow-Tuple, hollow-Tab, hollow-Sub, hollow-Literal}
use Rattle.nrca_term.proofs.copies.shell.Goals as goal

one_hollow : (F : Term → Term) (t : Term) (a : Box Core Global) → term_of a.value ≡ bottom_term → F bottom_term ≡ hollow t → F (term_of a.value) ≡ hollow t
one_hollow F t a e h = ap F e ∙ h

two_hollow : (F : Term → Term → Term) (t : Term) (a b : Box Core Global) → term_of a.value ≡ bottom_term → term_of b.value ≡ bottom_term →
    F bottom_term bottom_term ≡ hollow t → F (term_of a.value) (term_of b.value) ≡ hollow t
two_hollow F t a b e f h = ap (λ x. F x (term_of b.value)) e ∙ ap (F bottom_term) f ∙ h

three_hollow : (F : Term → Term → Term → Term) (t : Term) (a b c : Box Core Global) → term_of a.value ≡ bottom_term → term_of b.value ≡ bottom_term → term_of c.value ≡ bottom_term →
    F bottom_term bottom_term bottom_term ≡ hollow t → F (term_of a.value) (term_of b.value) (term_of c.value) ≡ hollow t
three_hollow F t a b c e f g h =
    ap (λ x. F x (term_of b.value) (term_of c.value)) e ∙ ap (λ x. F bottom_term x (term_of c.value)) f ∙ ap (F bottom_term bottom_term) g ∙ h

pub returns-in_ok-hole-in-Let-2 : goal.returns-in_ok-hole-in-Let-2
returns-in_ok-hole-in-Let-2 c =
    term_of-Let c.in_ok-hole-in-Let.field-0 c.in_ok-hole-in-Let-2.field-0
    ∙ two_hollow let_term _ c.in_ok-hole-in-Let.field-0 c.in_ok-hole-in-Let-2.field-0 c.in_ok-hole-in-Let.ensures c.in_ok-hole-in-Let-2.ensures
    (sym (ap hollow (ap term_of c.in-Let.is ∙ term_of-Let c.in-Let.field-0 c.in-Let.field-1)))

pub returns-in_ok-hole-in-Default-2 : goal.returns-in_ok-hole-in-Default-2
returns-in_ok-hole-in-Default-2 c =
    term_of-Default c.in_ok-hole-in-Default.field-0 c.in_ok-hole-in-Default-2.field-0
    ∙ two_hollow default_term _ c.in_ok-hole-in-Default.field-0 c.in_ok-hole-in-Default-2.field-0 c.in_ok-hole-in-Default.ensures c.in_ok-hole-in-Default-2.ensures
    (sym (ap hollow (ap term_of c.in-Default.is ∙ term_of-Default c.in-Default.field-0 c.in-Default.field-1)))

pub returns-in_ok-hole-in-Arith-2 : goal.returns-in_ok-hole-in-Arith-2
returns-in_ok-hole-in-Arith-2 c =
    term_of-Arith c.in-Arith.op c.in_ok-hole-in-Arith.field-0 c.in_ok-hole-in-Arith-2.field-0
    ∙ two_hollow (arith_term c.in-Arith.op) _ c.in_ok-hole-in-Arith.field-0 c.in_ok-hole-in-Arith-2.field-0 c.in_ok-hole-in-Arith.ensures c.in_ok-hole-in-Arith-2.ensures
    (sym (ap hollow (ap term_of c.in-Arith.is ∙ term_of-Arith c.in-Arith.op c.in-Arith.field-1 c.in-Arith.field-2)))

pub returns-in_ok-hole-in-Compare-2 : goal.returns-in_ok-hole-in-Compare-2
returns-in_ok-hole-in-Compare-2 c =
    term_of-Compare c.in-Compare.op c.in_ok-hole-in-Compare.field-0 c.in_ok-hole-in-Compare-2.field-0
    ∙ two_hollow (compare_term c.in-Compare.op) _ c.in_ok-hole-in-Compare.field-0 c.in_ok-hole-in-Compare-2.field-0 c.in_ok-hole-in-Compare.ensures c.in_ok-hole-in-Compare-2.ensures
    (sym (ap hollow (ap term_of c.in-Compare.is ∙ term_of-Compare c.in-Compare.op c.in-Compare.field-1 c.in-Compare.field-2)))

pub returns-in_ok-hole-in-Union-2 : goal.returns-in_ok-hole-in-Union-2
returns-in_ok-hole-in-Union-2 c =
    term_of-Union c.in_ok-hole-in-Union.field-0 c.in_ok-hole-in-Union-2.field-0
    ∙ two_hollow union_term _ c.in_ok-hole-in-Union.field-0 c.in_ok-hole-in-Union-2.field-0 c.in_ok-hole-in-Union.ensures c.in_ok-hole-in-Union-2.ensures
    (sym (ap hollow (ap term_of c.in-Union.is ∙ term_of-Union c.in-Union.field-0 c.in-Union.field-1)))

pub returns-in_ok-hole-in-BigUnion-2 : goal.returns-in_ok-hole-in-BigUnion-2
returns-in_ok-hole-in-BigUnion-2 c =
    term_of-BigUnion c.in_ok-hole-in-BigUnion.field-0 c.in_ok-hole-in-BigUnion-2.field-0
    ∙ two_hollow big_union_term _ c.in_ok-hole-in-BigUnion.field-0 c.in_ok-hole-in-BigUnion-2.field-0 c.in_ok-hole-in-BigUnion.ensures c.in_ok-hole-in-BigUnion-2.ensures
    (sym (ap hollow (ap term_of c.in-BigUnion.is ∙ term_of-BigUnion c.in-BigUnion.over c.in-BigUnion.body)))

pub returns-in_ok-hole-in-Sum-2 : goal.returns-in_ok-hole-in-Sum-2
returns-in_ok-hole-in-Sum-2 c =
    term_of-Sum c.in_ok-hole-in-Sum.field-0 c.in_ok-hole-in-Sum-2.field-0
    ∙ two_hollow sum_term _ c.in_ok-hole-in-Sum.field-0 c.in_ok-hole-in-Sum-2.field-0 c.in_ok-hole-in-Sum.ensures c.in_ok-hole-in-Sum-2.ensures
    (sym (ap hollow (ap term_of c.in-Sum.is ∙ term_of-Sum c.in-Sum.over c.in-Sum.body)))

pub returns-in_ok-hole-in-If-3 : goal.returns-in_ok-hole-in-If-3
returns-in_ok-hole-in-If-3 c =
    term_of-If c.in_ok-hole-in-If.field-0 c.in_ok-hole-in-If-2.field-0 c.in_ok-hole-in-If-3.field-0
    ∙ three_hollow if_term _ c.in_ok-hole-in-If.field-0 c.in_ok-hole-in-If-2.field-0 c.in_ok-hole-in-If-3.field-0
    c.in_ok-hole-in-If.ensures c.in_ok-hole-in-If-2.ensures c.in_ok-hole-in-If-3.ensures (sym (ap hollow (ap term_of c.in-If.is ∙ term_of-If c.in-If.field-0 c.in-If.field-1 c.in-If.field-2)))

pub returns-in_ok-hole-in-Single : goal.returns-in_ok-hole-in-Single
returns-in_ok-hole-in-Single c =
    term_of-Single c.in_ok-hole-in-Single.field-0
    ∙ one_hollow single_term _ c.in_ok-hole-in-Single.field-0 c.in_ok-hole-in-Single.ensures (sym (ap hollow (ap term_of c.in-Single.is ∙ term_of-Single c.in-Single.field-0)))

pub returns-in_ok-hole-in-Gen : goal.returns-in_ok-hole-in-Gen
returns-in_ok-hole-in-Gen c =
    term_of-Gen c.in_ok-hole-in-Gen.field-0
    ∙ one_hollow gen_term _ c.in_ok-hole-in-Gen.field-0 c.in_ok-hole-in-Gen.ensures (sym (ap hollow (ap term_of c.in-Gen.is ∙ term_of-Gen c.in-Gen.field-0)))

pub returns-in_ok-hole-in-Get : goal.returns-in_ok-hole-in-Get
returns-in_ok-hole-in-Get c =
    term_of-Get c.in_ok-hole-in-Get.field-0
    ∙ one_hollow get_term _ c.in_ok-hole-in-Get.field-0 c.in_ok-hole-in-Get.ensures (sym (ap hollow (ap term_of c.in-Get.is ∙ term_of-Get c.in-Get.field-0)))

pub returns-in_ok-hole-in-Proj : goal.returns-in_ok-hole-in-Proj
returns-in_ok-hole-in-Proj c =
    term_of-Proj c.in-Proj.at c.in-Proj.of c.in_ok-hole-in-Proj.field-0
    ∙ one_hollow (proj_term c.in-Proj.at c.in-Proj.of) _ c.in_ok-hole-in-Proj.field-0 c.in_ok-hole-in-Proj.ensures (sym (ap hollow (ap term_of c.in-Proj.is ∙ term_of-Proj c.in-Proj.at c.in-Proj.of c.in-Proj.part)))

pub returns-in_ok-hole-in-Dim : goal.returns-in_ok-hole-in-Dim
returns-in_ok-hole-in-Dim c =
    term_of-Dim c.in-Dim.rank c.in_ok-hole-in-Dim.field-0
    ∙ one_hollow (dim_term c.in-Dim.rank) _ c.in_ok-hole-in-Dim.field-0 c.in_ok-hole-in-Dim.ensures (sym (ap hollow (ap term_of c.in-Dim.is ∙ term_of-Dim c.in-Dim.rank c.in-Dim.array)))

pub returns-in_ok-hole-in-Index : goal.returns-in_ok-hole-in-Index
returns-in_ok-hole-in-Index c =
    term_of-Index c.in-Index.rank c.in_ok-hole-in-Index.field-0
    ∙ one_hollow (index_term c.in-Index.rank) _ c.in_ok-hole-in-Index.field-0 c.in_ok-hole-in-Index.ensures (sym (ap hollow (ap term_of c.in-Index.is ∙ term_of-Index c.in-Index.rank c.in-Index.pairs)))

pub returns-in_ok-holes-in-Tuple : goal.returns-in_ok-holes-in-Tuple
returns-in_ok-holes-in-Tuple c =
    hollow-Tuple c.in-Tuple.ts c.in_ok-holes-in-Tuple.field-0 c.in_ok-holes-in-Tuple.ensures ∙ sym (ap (λ x. hollow (term_of x)) c.in-Tuple.is)

pub returns-in_ok-hole-in-Tab : goal.returns-in_ok-hole-in-Tab
returns-in_ok-hole-in-Tab c =
    hollow-Tab c.in-Tab.bounds c.in_ok-holes-in-Tab.field-0 c.in-Tab.body c.in_ok-hole-in-Tab.field-0 c.in_ok-holes-in-Tab.ensures c.in_ok-hole-in-Tab.ensures
    ∙ sym (ap (λ x. hollow (term_of x)) c.in-Tab.is)

pub returns-in_ok-holes-in-Sub : goal.returns-in_ok-holes-in-Sub
returns-in_ok-holes-in-Sub c =
    hollow-Sub c.in-Sub.array c.in_ok-hole-in-Sub.field-0 c.in-Sub.at c.in_ok-holes-in-Sub.field-0 c.in_ok-hole-in-Sub.ensures c.in_ok-holes-in-Sub.ensures
    ∙ sym (ap (λ x. hollow (term_of x)) c.in-Sub.is)

pub returns-in_ok-holes-in-Literal-2 : goal.returns-in_ok-holes-in-Literal-2
returns-in_ok-holes-in-Literal-2 c =
    hollow-Literal c.in-Literal.dims c.in_ok-holes-in-Literal.field-0 c.in-Literal.cells c.in_ok-holes-in-Literal-2.field-0
    c.in_ok-holes-in-Literal.ensures c.in_ok-holes-in-Literal-2.ensures ∙ sym (ap (λ x. hollow (term_of x)) c.in-Literal.is)
