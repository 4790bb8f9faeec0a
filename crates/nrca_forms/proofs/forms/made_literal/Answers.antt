use Rattle.std.proofs.Common.{sym, arith}
use Rattle.std.proofs.lemmas.List.{length-map}
use Rattle.nrca_array.specs.Held.{held_datum}
use Rattle.nrca_loops.specs.Parts.{held_values}
use Rattle.nrca_forms.proofs.Arities.{literal_short}
use Rattle.nrca_forms.proofs.forms.made_literal.Goals as goal

pub returns-then-len-rank : goal.returns-then-len-rank
returns-then-len-rank c = sym (literal_short c.args.rank (held_values c.args.parts) (omega (arith, length-map c.args.parts.items held_datum)))
