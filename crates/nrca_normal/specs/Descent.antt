-- What the descent has done between two moments, and what holds where it is.
use Rattle.std.proofs.Common.{◌≡◌, ℕ, ◌+◌, ◌-◌, ◌*◌, ◌≤◌, ◌⊎◌, Bool, true, false, List, [], ◌∷◌, ◌++◌, map, length, take, Option}
use Rattle.aql_ty.specs.Types.{Ty}
use Rattle.nrca_term.specs.declared.trace.Rule.{Rule}
use Rattle.nrca_term.specs.declared.trace.Step.{Step}
use Rattle.nrca_term.specs.Term.{Term, weight_of}
use Rattle.nrca_term.specs.Typing.{ctyped, instances}
use Rattle.nrca_term.specs.Places.{put_at}
use Rattle.nrca_term.specs.Facts.{enter_facts, no_facts}
use Rattle.nrca_term.specs.Measure.{left_of}
use Rattle.nrca_ranges.specs.declared.context.Mark.{Mark}
use Rattle.nrca_ranges.specs.Bounds.{Bounds, at_root}
use Rattle.nrca_ranges.specs.Context.{context_of, at_mark, ranges_at_mark}
use Rattle.nrca_ranges.specs.Shapes.{ranges_of}
use Rattle.nrca_ranges.specs.Transfer.{enter_ranges}
use Rattle.nrca_normal.specs.declared.descent.Descent.{Descent}
use Rattle.nrca_normal.specs.declared.firing.Firing.{Firing}
use Rattle.nrca_normal.specs.Conditions.{MayFire, IsQuietAt}
use Rattle.nrca_normal.specs.Rewriting.{Leads, behind}
use Rattle.nrca_normal.specs.Quiet.{QuietEverywhere, QuietParts}

-- the term has a type under types of n variables, and with these it weighs at most 1,280,000
pub record IsTypedAmong (n : ℕ) (t : Term) : Type 0 where
  pub given : List Ty
  pub env : List Ty
  pub type : Ty
  pub typed : ctyped (instances given) env t type
  pub among : length env ≡ n
  pub small : n + weight_of t ≤ 1280000

-- the term has a type under types of the variables of the place, and is small with them
abbrev pub IsTypedThere : Descent → Term → Type 0
IsTypedThere d t = IsTypedAmong d.ctx.depth t

-- a rule may be applied to the term that stands there
abbrev pub MayFireThere : Descent → Term → Firing → Type 0
MayFireThere d t f = MayFire (ranges_of d.ctx) (context_of d.ctx) t f

-- no rule may be applied to it
abbrev pub IsQuietThere : Descent → Term → Type 0
IsQuietThere d t = IsQuietAt (ranges_of d.ctx) (context_of d.ctx) t

-- the root of a closed term, before any rewriting
pub record IsAtRoot (gs : List (Option Bounds)) (d : Descent) : Type 0 where
  pub globals : ranges_of d.ctx ≡ at_root gs
  pub context : context_of d.ctx ≡ no_facts
  pub way : d.way.items ≡ []
  pub steps : d.steps.items ≡ []

-- what the rewriting by a rule at the place is recorded as
abbrev pub step_at : Descent → Rule → Step
step_at d R = record { rule = R; path = d.way.items }

-- whether there are steps
abbrev pub AreSome : Bool → List Step → Type 0
AreSome true steps = 1 ≤ length steps
AreSome false steps = steps ≡ []

-- The descent is where it was, the steps that were recorded lead from the first term that stands there to the second, and the answer
-- is whether there are any.
pub record HasRewritten (old : Descent) (t : Term) (new : Descent) (u : Term) (changed : Bool) : Type 0 where
  pub globals : ranges_of new.ctx ≡ ranges_of old.ctx
  pub context : context_of new.ctx ≡ context_of old.ctx
  pub way : new.way.items ≡ old.way.items
  pub steps : List Step
  pub leads : Leads (ranges_of old.ctx) (context_of old.ctx) t steps u
  pub recorded : new.steps.items ≡ old.steps.items ++ map (behind old.way.items) steps
  pub some : AreSome changed steps

-- the term was rewritten until no rule may be applied at any of its places
abbrev pub HasSettled : Descent → Term → Descent → Term → Bool → Type 0
HasSettled old t new u changed = HasRewritten old t new u changed × QuietEverywhere (ranges_of old.ctx) (context_of old.ctx) u

-- so was its part i, and the term is as before but for that
abbrev pub HasSettledPart : Descent → Term → ℕ → Descent → Term → Bool → Type 0
HasSettledPart old t i new u changed =
    HasRewritten old t new u changed × ((q : Term) × (u ≡ put_at t (i ∷ []) q) × QuietEverywhere (ranges_of old.ctx) (enter_facts (context_of old.ctx) t i) q)

-- so were its first n parts, and no rule may be applied at the node
abbrev pub HasSettledParts : Descent → Term → ℕ → Descent → Term → Bool → Type 0
HasSettledParts old t n new u changed = HasRewritten old t new u changed × IsQuietThere old u × QuietParts (ranges_of old.ctx) (context_of old.ctx) u n

-- The node was rewritten until no rule may be applied there. The answer is whether it was, and how many of its first parts are settled.
abbrev pub HasSettledNode : Descent → Term → Descent → Term → Bool × ℕ → Type 0
HasSettledNode old t new u r = HasSettledParts old t r.1 new u r.0

-- so many of the first parts were settled, whether or not something was rewritten
abbrev pub HasSettledFirst : Descent → Term → Descent → Term → ℕ → Type 0
HasSettledFirst old t new u n = (changed : Bool) × HasRewritten old t new u changed × QuietParts (ranges_of old.ctx) (context_of old.ctx) u n

-- where nothing was rewritten below the node, no rule may be applied there
abbrev pub IsQuietIfUnchanged : Bool → Descent → Term → Type 0
IsQuietIfUnchanged below d t = below ≡ false → IsQuietThere d t

-- Behind part i: the node was rewritten, which is so only where something below it was, and the first part that is not settled comes
-- next; or it was not, and the next one does. No rule may be applied at the node.
abbrev pub GoesOn : ℕ → Bool → Descent → Term → Descent → Term → ℕ → Type 0
GoesOn i below old t new u next = ((below ≡ true) × HasSettledParts old t next new u true) ⊎ ((next ≡ i + 1) × HasRewritten old t new u false × IsQuietThere old u)

-- the descent has gone down to part i of the term; the mark gives back the context
pub record HasEntered (old : Descent) (t : Term) (i : ℕ) (new : Descent) (m : Mark) : Type 0 where
  pub globals : ranges_of new.ctx ≡ enter_ranges (ranges_of old.ctx) (context_of old.ctx) t i
  pub context : context_of new.ctx ≡ enter_facts (context_of old.ctx) t i
  pub back : at_mark m (context_of new.ctx) ≡ context_of old.ctx
  pub values : ranges_at_mark m (ranges_of new.ctx) ≡ ranges_of old.ctx
  pub way : new.way.items ≡ old.way.items ++ i ∷ []
  pub steps : new.steps.items ≡ old.steps.items

-- the descent has come back to the node, with the context of the mark
pub record HasLeft (old : Descent) (m : Mark) (new : Descent) : Type 0 where
  pub globals : ranges_of new.ctx ≡ ranges_at_mark m (ranges_of old.ctx)
  pub context : context_of new.ctx ≡ at_mark m (context_of old.ctx)
  pub way : new.way.items ≡ take (length old.way.items - 1) old.way.items
  pub steps : new.steps.items ≡ old.steps.items

-- what is left to fall of a term that weighs at most 1,280,000
unfoldable pub steps_left : Term → ℕ
steps_left t = left_of (1280000 * 1280000) t
