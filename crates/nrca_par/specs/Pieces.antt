-- How the members of a loop are cut into pieces.
use Rattle.std.specs.Prelude.{◌≡◌, ℕ, ◌+◌, ◌*◌, ◌/◌, ◌<◌, ◌≤◌, List, [], ◌∷◌, slice_index_or, Result, Ok, Err}
use denote.Param.Members.{Shared}
use Rattle.nrca_par.specs.declared.fault.EvalFault.{EvalFault}
use Rattle.nrca_par.specs.declared.fault.EvalFault.TheVariants.{Spent}

-- where piece j of count begins, and the piece before it ends
abbrev pub piece_start : ℕ → ℕ → ℕ → ℕ
piece_start n count j = j * n / count

-- the runs from one number to another that follow each other have these answers, where P a b x says that x is an answer of the run from a up to b
abbrev pub Joins : {T : Type 0} → (ℕ → ℕ → T → Type 0) → ℕ → ℕ → List T → Type 0
Joins P from to [] = from ≡ to
Joins P from to (x ∷ xs) = (mid : ℕ) × (from ≤ mid) × (mid ≤ to) × P from mid x × Joins P mid to xs

module _ {F T : Type 0} (g : Shared F (ℕ × (ℕ × Unit {0})) (Result T EvalFault)) (f : F) where
  -- x is an answer that f may give on the run from a up to b
  abbrev pub IsPieceAnswer : ℕ → ℕ → Result T EvalFault → Type 0
  IsPieceAnswer a b r = g.post f (a, (b, tt)) r

  -- in place j of xs stands an answer that f may give on piece j
  abbrev pub GivesPieces : ℕ → ℕ → List T → Type 0
  GivesPieces n count xs = (j : ℕ) (d : T) → j < count → IsPieceAnswer (piece_start n count j) (piece_start n count (j + 1)) (Ok (slice_index_or xs j d))

  -- f may give Spent on some piece
  abbrev pub SpentSomewhere : ℕ → ℕ → Type 0
  SpentSomewhere n count = (j : ℕ) × (j < count) × IsPieceAnswer (piece_start n count j) (piece_start n count (j + 1)) (Err Spent)

  -- f may give Spent on some run within the first n members
  abbrev pub SpentOnRun : ℕ → Type 0
  SpentOnRun n = (a b : ℕ) × (a < b) × (b ≤ n) × IsPieceAnswer a b (Err Spent)
