-- What holds between two moves, and what one changes.
use Rattle.std.proofs.Common.{◌≡◌, ℕ, ◌≤◌, ◌<◌, ◌+◌, Bool, true, false, List, [], ◌∷◌, ◌++◌, length, Option, reverse}
use Rattle.nrca_term.specs.Term.{Term, weight_of}
use Rattle.nrca_term.specs.View.{term_of}
use Rattle.nrca_term.specs.Typing.{IsTyped}
use Rattle.nrca_term.specs.Facts.{no_facts}
use Rattle.nrca_term.specs.TypedPlaces.{KeepsTypes}
use Rattle.nrca_ranges.specs.Bounds.{Bounds, at_root}
use Rattle.nrca_ranges.specs.Context.{context_of}
use Rattle.nrca_ranges.specs.Shapes.{known_shapes, ranges_of}
use Rattle.nrca_motion.specs.declared.moves.Move.{Move}
use Rattle.nrca_motion.specs.declared.still.Progress.{Progress}
use Rattle.nrca_motion.specs.declared.search.Site.{Site}
use Rattle.nrca_motion.specs.Counting.{number_of}
use Rattle.nrca_motion.specs.Lowering.{in_loops, measure_of}
use Rattle.nrca_motion.specs.Found.{QuietBefore, QuietEverywhere, MovesAt}
use Rattle.nrca_motion.specs.Moved.{IsChained}

-- a typed small term, no move left before the place of the last one, and the context of the root
pub record IsReady (p : Progress) : Type 0 where
  pub typed : IsTyped (term_of p.term)
  pub small : weight_of (term_of p.term) ≤ 1280000
  pub root : context_of p.ctx ≡ no_facts
  pub variables : ranges_of p.ctx ≡ at_root (known_shapes p.ctx)
  pub behind : QuietBefore (ranges_of p.ctx) no_facts (term_of p.term) p.from.items

-- nothing has been moved
pub record IsBegun (gs : List (Option Bounds)) (t : Term) (p : Progress) : Type 0 where
  pub globals : (known_shapes p.ctx) ≡ gs
  pub root : context_of p.ctx ≡ no_facts
  pub variables : ranges_of p.ctx ≡ at_root (known_shapes p.ctx)
  pub term : term_of p.term ≡ t
  pub moves : p.moves.items ≡ []
  pub from : p.from.items ≡ []

-- the site is one of the term, and no move is left before it
pub record IsSiteOf (p : Progress) (s : Site) : Type 0 where
  pub ready : IsReady p
  pub moves : MovesAt (ranges_of p.ctx) no_facts (term_of p.term) (reverse s.way.items) s.fit
  pub behind : QuietBefore (ranges_of p.ctx) no_facts (term_of p.term) (reverse s.way.items)

-- the nodes and the weight stay, and the measure is lower, counted with at least as many nodes as there are
pub record Lowers (t u : Term) : Type 0 where
  pub weighs : weight_of u ≡ weight_of t
  pub nodes : number_of in_loops u ≡ number_of in_loops t
  pub lower : (N : ℕ) → number_of in_loops t ≤ N → measure_of N u < measure_of N t

-- one move more
pub record HasGone (old new : Progress) : Type 0 where
  pub globals : (known_shapes new.ctx) ≡ (known_shapes old.ctx)
  pub root : context_of new.ctx ≡ no_facts
  pub variables : ranges_of new.ctx ≡ at_root (known_shapes new.ctx)
  pub move : Move
  pub moves : new.moves.items ≡ old.moves.items ++ move ∷ []
  pub chained : IsChained (known_shapes old.ctx) (term_of old.term) (move ∷ []) (term_of new.term)
  pub types : KeepsTypes (term_of old.term) (term_of new.term)
  pub lowers : Lowers (term_of old.term) (term_of new.term)
  pub behind : QuietBefore (ranges_of new.ctx) no_facts (term_of new.term) new.from.items

-- no move is left anywhere, and nothing was changed
pub record IsAtEnd (old new : Progress) : Type 0 where
  pub term : term_of new.term ≡ term_of old.term
  pub moves : new.moves.items ≡ old.moves.items
  pub quiet : QuietEverywhere (ranges_of old.ctx) no_facts (term_of old.term)

-- whether a move was made
abbrev pub GoesOn : Progress → Progress → Bool → Type 0
GoesOn old new true = HasGone old new
GoesOn old new false = IsAtEnd old new

-- The moves made so far lead from the plan to the term, which keeps the plan's types, weight and nodes; each has lowered the measure.
pub record IsUnderWay (gs : List (Option Bounds)) (t : Term) (p : Progress) : Type 0 where
  pub globals : (known_shapes p.ctx) ≡ gs
  pub root : context_of p.ctx ≡ no_facts
  pub variables : ranges_of p.ctx ≡ at_root (known_shapes p.ctx)
  pub chained : IsChained gs t p.moves.items (term_of p.term)
  pub types : KeepsTypes t (term_of p.term)
  pub weighs : weight_of (term_of p.term) ≡ weight_of t
  pub nodes : number_of in_loops (term_of p.term) ≡ number_of in_loops t
  pub falls : length p.moves.items + measure_of (number_of in_loops t) (term_of p.term) ≤ measure_of (number_of in_loops t) t
  pub behind : QuietBefore (ranges_of p.ctx) no_facts (term_of p.term) p.from.items
