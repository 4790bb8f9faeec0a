use Rattle.std.proofs.Common.{rules}
use Rattle.nrca_term.specs.View.{term_of, terms_of}
use Rattle.nrca_term.specs.Laws.Equations.{term_of-Bottom, term_of-Empty}
use Rattle.nrca_term.specs.Laws.AsVariant.{as-Arith, as-Compare, as-Gen, as-Get, as-Literal}
use Rattle.nrca_setrules.proofs.ConstantSides.{k1_computed, k1_compared, k1_none, k1_memberless, k1_misshapen}
use Rattle.nrca_setrules.proofs.constants.k1.Goals as goal

pub returns-in-Arith : goal.returns-in-Arith
returns-in-Arith c = k1_computed c.in-Arith.op (term_of c.args.term) (term_of c.in-Arith.left.value) (term_of c.in-Arith.right.value) _ (as-Arith c.args.term c.in-Arith.op c.in-Arith.left c.in-Arith.right c.in-Arith.is) c.requires (search rules)

pub returns-in-Compare : goal.returns-in-Compare
returns-in-Compare c = k1_compared c.in-Compare.op (term_of c.args.term) (term_of c.in-Compare.left.value) (term_of c.in-Compare.right.value) _ (as-Compare c.args.term c.in-Compare.op c.in-Compare.left c.in-Compare.right c.in-Compare.is) c.requires (search rules)

pub returns-in-Gen : goal.returns-in-Gen
returns-in-Gen c = k1_none (term_of c.args.term) (term_of c.in-Gen.field-0.value) _ (as-Gen c.args.term c.in-Gen.field-0 c.in-Gen.is) c.requires term_of-Empty

pub returns-in-Get : goal.returns-in-Get
returns-in-Get c = k1_memberless (term_of c.args.term) (term_of c.in-Get.field-0.value) _ (as-Get c.args.term c.in-Get.field-0 c.in-Get.is) c.requires term_of-Bottom

pub returns-in-Literal : goal.returns-in-Literal
returns-in-Literal c = k1_misshapen (term_of c.args.term) _ (terms_of c.in-Literal.dims) (terms_of c.in-Literal.cells) (as-Literal c.args.term c.in-Literal.dims c.in-Literal.cells c.in-Literal.is) c.requires term_of-Bottom
