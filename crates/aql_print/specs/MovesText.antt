-- The text of the moves that led to a term, in ASCII bytes.
use Rattle.std.specs.Prelude.{ℕ, List, [], ◌∷◌, map, codes}
use Rattle.nrca_motion.specs.declared.moves.Move.{Move}
use Rattle.nrca_motion.specs.declared.moves.MoveRule.{MoveRule}
use Rattle.nrca_motion.specs.declared.moves.MoveRule.TheVariants as rules
use Rattle.aql_print.specs.Joined.{join_texts}

-- the name of a rule
abbrev pub move_text : MoveRule → List ℕ
move_text rules.M1 = codes "M1"
move_text rules.M2 = codes "M2"
move_text rules.M3 = codes "M3"
move_text rules.M4 = codes "M4"

-- the names of the rules, the first one first
abbrev pub move_texts : List Move → List (List ℕ)
move_texts moves = map (λ m. move_text m.rule) moves

-- the names with single spaces, and `none` where there is no move
abbrev pub moves_text : List Move → List ℕ
moves_text [] = codes "none"
moves_text (m ∷ rest) = join_texts (codes " ") (move_texts (m ∷ rest))
