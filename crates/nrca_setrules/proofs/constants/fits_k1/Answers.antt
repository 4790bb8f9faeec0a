use Rattle.std.proofs.Common.{rules, true, ◌≡◌, ◌↔◌}
use Rattle.nrca_term.specs.View.{term_of, terms_of}
use Rattle.nrca_term.specs.Nodes.{number, empty_term}
use Rattle.nrca_term.specs.Laws.AsVariant.{as-Arith, as-Compare, as-Gen, as-Get, as-Literal}
use Rattle.nrca_setrules.proofs.ConstantSides.{k1_arith, k1_compare, k1_gen, k1_get, k1_literal}
use Rattle.nrca_setrules.specs.Constants.{AreNumbers, AreAlike, IsMisshapen}
use Rattle.nrca_setrules.proofs.constants.fits_k1.Goals as goal

pub returns-in-Arith : goal.returns-in-Arith
returns-in-Arith c =
    let k : (c.are_numbers-constant.result ≡ true) ↔ AreNumbers (term_of c.in-Arith.left.value) (term_of c.in-Arith.right.value) = search rules in
    k1_arith c.are_numbers-constant.result c.in-Arith.field-0 (term_of c.args.term.now) (term_of c.in-Arith.left.value) (term_of c.in-Arith.right.value) (as-Arith c.args.term.now c.in-Arith.field-0 c.in-Arith.left c.in-Arith.right c.in-Arith.is) k.0 k.1

pub returns-in-Compare : goal.returns-in-Compare
returns-in-Compare c =
    let k : (c.are_alike-constant.result ≡ true) ↔ AreAlike (term_of c.in-Compare.left.value) (term_of c.in-Compare.right.value) = search rules in
    k1_compare c.are_alike-constant.result c.in-Compare.field-0 (term_of c.args.term.now) (term_of c.in-Compare.left.value) (term_of c.in-Compare.right.value) (as-Compare c.args.term.now c.in-Compare.field-0 c.in-Compare.left c.in-Compare.right c.in-Compare.is) k.0 k.1

pub returns-in-Gen : goal.returns-in-Gen
returns-in-Gen c =
    let k : (c.is_zero-zero.result ≡ true) ↔ (term_of c.in-Gen.bound.value ≡ number 0) = search rules in
    k1_gen c.is_zero-zero.result (term_of c.args.term.now) (term_of c.in-Gen.bound.value) (as-Gen c.args.term.now c.in-Gen.bound c.in-Gen.is) k.0 k.1

pub returns-in-Get : goal.returns-in-Get
returns-in-Get c =
    let k : (c.is_empty-empty.result ≡ true) ↔ (term_of c.in-Get.set.value ≡ empty_term) = search rules in
    k1_get c.is_empty-empty.result (term_of c.args.term.now) (term_of c.in-Get.set.value) (as-Get c.args.term.now c.in-Get.set c.in-Get.is) k.0 k.1

pub returns-in-Literal : goal.returns-in-Literal
returns-in-Literal c =
    let k : (c.is_misshapen-wrong.result ≡ true) ↔ IsMisshapen (terms_of c.in-Literal.dims) (terms_of c.in-Literal.cells) = search rules in
    k1_literal c.is_misshapen-wrong.result (term_of c.args.term.now) (terms_of c.in-Literal.dims) (terms_of c.in-Literal.cells) (as-Literal c.args.term.now c.in-Literal.dims c.in-Literal.cells c.in-Literal.is) k.0 k.1
