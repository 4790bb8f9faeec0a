-- Rewritings of a term in a context, one after another.
use Rattle.std.proofs.Common.{◌≡◌, ℕ, List, [], ◌∷◌, ◌++◌, Some}
use Rattle.nrca_term.specs.declared.trace.Step.{Step}
use Rattle.nrca_term.specs.Term.{Term}
use Rattle.nrca_term.specs.Places.{place_of, put_at}
use Rattle.nrca_term.specs.Facts.{Context, enter_facts, context_at}
use Rattle.nrca_ranges.specs.Bounds.{Ranges}
use Rattle.nrca_ranges.specs.Transfer.{ranges_at}
use Rattle.nrca_normal.specs.declared.firing.Firing.{Firing}
use Rattle.nrca_normal.specs.Conditions.{MayFire, IsMade, name_of}

-- One rewriting, in the context of the term's root: at the step's place stands a term to which its rule may be applied there, and the
-- right side takes its place.
pub record IsRewriting (gs : Ranges) (c : Context) (t : Term) (s : Step) (u : Term) : Type 0 where
  pub firing : Firing
  pub from : Term
  pub to : Term
  pub rule : s.rule ≡ name_of firing
  pub found : place_of t s.path ≡ Some from
  pub fires : MayFire (ranges_at gs c t s.path) (context_at enter_facts c t s.path) from firing
  pub made : IsMade firing from to
  pub put : u ≡ put_at t s.path to

-- rewritings that lead from the first term to the second
unfoldable pub Leads : Ranges → Context → Term → List Step → Term → Type 0
Leads gs c t [] u = t ≡ u
Leads gs c t (s ∷ steps) u = (m : Term) × IsRewriting gs c t s m × Leads gs c m steps u

-- the same step of a term that stands at the end of a way
abbrev pub behind : List ℕ → Step → Step
behind way s = record { rule = s.rule; path = way ++ s.path }
