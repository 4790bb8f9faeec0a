use Rattle.std.proofs.Common.{◌∙◌, arith}
use Rattle.nrca_ranges.proofs.Lists.{full-is}
use Rattle.nrca_ranges.proofs.certain.is_full.Goals as goal

pub returns : goal.returns
returns c =
    c.are_so_many.ensures
    ∙ full-is c.args.shapes.now c.args.rank c.min-end.result c.all_single-single.result c.least_product-product.result _ (omega arith) (omega arith) (omega arith) c.all_single-single.ensures c.least_product-product.ensures
