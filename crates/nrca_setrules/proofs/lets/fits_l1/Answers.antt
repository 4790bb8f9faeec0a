use Rattle.std.proofs.Common.{rules, [], ◌∷◌, refl}
use Rattle.nrca_term.specs.View.{term_of}
use Rattle.nrca_term.specs.Nodes.{variable, position, number, truth_term, text_term, empty_term}
use Rattle.nrca_term.specs.Laws.AsVariant.{as-Bool, as-Empty, as-Global, as-Let, as-Nat, as-Text, as-Var}
use Rattle.nrca_setrules.proofs.LetSides.{l1_fits}
use Rattle.nrca_setrules.proofs.lets.fits_l1.Goals as goal

pub returns-in-Var : goal.returns-in-Var
returns-in-Var c = l1_fits (term_of c.args.term.now) (term_of c.in-Let.bound.value) (variable c.in-Var.field-0) (term_of c.in-Let.field-1.value) [] (as-Let c.args.term.now c.in-Let.bound c.in-Let.field-1 c.in-Let.is) (as-Var c.in-Let.bound.value c.in-Var.field-0 (search rules)) (refl, refl)

pub returns-in-Global : goal.returns-in-Global
returns-in-Global c = l1_fits (term_of c.args.term.now) (term_of c.in-Let.bound.value) (position c.in-Global.field-0) (term_of c.in-Let.field-1.value) ((0 ∷ []) ∷ []) (as-Let c.args.term.now c.in-Let.bound c.in-Let.field-1 c.in-Let.is) (as-Global c.in-Let.bound.value c.in-Global.field-0 (search rules)) (refl, refl)

pub returns-in-Nat : goal.returns-in-Nat
returns-in-Nat c = l1_fits (term_of c.args.term.now) (term_of c.in-Let.bound.value) (number c.in-Nat.field-0) (term_of c.in-Let.field-1.value) [] (as-Let c.args.term.now c.in-Let.bound c.in-Let.field-1 c.in-Let.is) (as-Nat c.in-Let.bound.value c.in-Nat.field-0 (search rules)) (refl, refl)

pub returns-in-Bool : goal.returns-in-Bool
returns-in-Bool c = l1_fits (term_of c.args.term.now) (term_of c.in-Let.bound.value) (truth_term c.in-Bool.field-0) (term_of c.in-Let.field-1.value) [] (as-Let c.args.term.now c.in-Let.bound c.in-Let.field-1 c.in-Let.is) (as-Bool c.in-Let.bound.value c.in-Bool.field-0 (search rules)) (refl, refl)

pub returns-in-Text : goal.returns-in-Text
returns-in-Text c = l1_fits (term_of c.args.term.now) (term_of c.in-Let.bound.value) (text_term c.in-Text.field-0) (term_of c.in-Let.field-1.value) [] (as-Let c.args.term.now c.in-Let.bound c.in-Let.field-1 c.in-Let.is) (as-Text c.in-Let.bound.value c.in-Text.field-0 (search rules)) (refl, refl)

pub returns-in-Empty : goal.returns-in-Empty
returns-in-Empty c = l1_fits (term_of c.args.term.now) (term_of c.in-Let.bound.value) empty_term (term_of c.in-Let.field-1.value) [] (as-Let c.args.term.now c.in-Let.bound c.in-Let.field-1 c.in-Let.is) (as-Empty c.in-Let.bound.value (search rules)) (refl, refl)
