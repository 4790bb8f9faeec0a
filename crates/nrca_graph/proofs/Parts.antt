-- Nodes of parts as these were made.
use Rattle.std.proofs.Common.{◌≡◌, List, [], ◌∷◌, map, Result, Ok, Err, IsOkAnd, ap, ◌∙◌}
use Rattle.aql_value.specs.declared.memory.Memory.{Memory}
use Rattle.nrca_term.specs.declared.term.Core.{Core}
use Rattle.nrca_term.specs.Term.{Term}
use Rattle.nrca_term.specs.View.{term_of}
use Rattle.nrca_graph.specs.Made.{Makes}

-- a list of two parts
pub pair_made : (a b : Result Core Memory) (vs : List Core) (x y : Term) → IsOkAnd a (λ v. IsOkAnd b (λ w. vs ≡ v ∷ w ∷ [])) → Makes a x → Makes b y → map term_of vs ≡ x ∷ y ∷ []
pair_made (Err e) b vs x y h k m = absurd h
pair_made (Ok v) (Err e) vs x y h k m = absurd h
pair_made (Ok v) (Ok w) vs x y h k m = ap (map term_of) h ∙ ap (λ t. t ∷ term_of w ∷ []) k ∙ ap (λ t. x ∷ t ∷ []) m
