-- What is claimed of the rules, of their conditions, of steps, of chains of steps and of the search for the next step.
pub mod Arrays
pub mod Beta
pub mod Chains
pub mod Constants
pub mod Dims
pub mod Firms
pub mod Fitting
pub mod Keeping
pub mod Lefts
pub mod Lowering
pub mod Meanings
pub mod Operations
pub mod Search
pub mod Sets
pub mod Spans
pub mod Steps
pub mod Typed
pub mod Types
pub mod Unique
pub mod Unused
pub mod Uses
pub mod Ways
pub mod Weights
use Rattle.std.specs.Prelude.{◌≡◌, ℕ, ◌+◌, ◌^◌, ◌≤◌, true, List, [], length, Some}
use Rattle.aql_value.specs.Datum.{Datum}
use Rattle.aql_value.specs.Lists.{Every}
use Rattle.aql_ty.specs.Types.{Ty}
use Rattle.aql_ty.specs.ValueTypes.{HaveTypes}
use Rattle.nrca_term.specs.declared.trace.Rule.{Rule}
use Rattle.nrca_term.specs.declared.trace.Step as code
use Rattle.nrca_term.specs.Term.{Term, weight_of}
use Rattle.nrca_term.specs.Meaning.{Outcomes, cden}
use Rattle.nrca_term.specs.Places.{place_of, reach, put_at}
use Rattle.nrca_term.specs.Typing.{instances, ctyped, OutcomesHave}
use Rattle.nrca_term.specs.TypedPlaces.{Keeps}
use Rattle.nrca_term.specs.Measure.{Below, Lowers}
use Rattle.nrca_term.specs.Facts.{Context, facts_at, FactsHold}
use Rattle.nrca_term.specs.Firm.{span, firm, is_defined}
use Rattle.nrca_term.specs.Rules.{Way, Redex, IsDefined, DefinedAt, Step, Replay}
use Rattle.nrca_term.specs.Normal.{FirmAt, IsNormalAt}
use Rattle.nrca_term.specs.Valid.{HasConstants, AreValidOutcomes}
use Rattle.nrca_rule_laws.specs.Spans.{IsInSpan}
use Rattle.nrca_rule_laws.specs.Search.{AllBefore}
use Rattle.nrca_rule_laws.specs.Fitting.{HasMeaning}

-- The right side of a rule is worth what the left side is wherever the condition holds: at outcomes and variables that are values of
-- their types and of the language, where the facts of the place hold.
abbrev pub RulesKeepMeaning : Type 0
RulesKeepMeaning = (R : Rule) (l r : Term) (ws : List Way) → Redex R l r ws → HasMeaning R l r

-- the right side has every type of the left side
abbrev pub RulesKeepTypes : Type 0
RulesKeepTypes = (R : Rule) (l r : Term) (ws : List Way) → Redex R l r ws → (given : List Ty) → Keeps (instances given) l r

-- the constants of the right side are values of the language where those of the left side are
abbrev pub RulesKeepConstants : Type 0
RulesKeepConstants = (R : Rule) (l r : Term) (ws : List Way) → Redex R l r ws → HasConstants l → HasConstants r

-- the right side weighs less than a typed left side, or has its weight and nodes and fewer pairs
abbrev pub RulesLower : Type 0
RulesLower = (R : Rule) (l r : Term) (ws : List Way) → Redex R l r ws →
    (given : List Ty) (env : List Ty) (T : Ty) → ctyped (instances given) env l T → Lowers l r

-- the ways to what must be defined are those of the left side, whatever the right side
abbrev pub RulesFixWays : Type 0
RulesFixWays = (R : Rule) (l r s : Term) (ws us : List Way) → Redex R l r ws → Redex R l s us → ws ≡ us

-- the value of a term is a number within its span, wherever the facts hold
abbrev pub SpansHold : Type 0
SpansHold = (V : Outcomes) (vals : List Datum) (c : Context) → FactsHold V c vals →
    (t : Term) (x : ℕ × ℕ) (v : Datum) → span c t ≡ Some x → cden V vals t ≡ Some v → IsInSpan x v

-- a firm typed term has a value, wherever the facts hold
abbrev pub FirmTermsAreDefined : Type 0
FirmTermsAreDefined = (given : List Ty) (V : Outcomes) → OutcomesHave (instances given) V →
    (c : Context) (t : Term) (env : List Ty) (vals : List Datum) (T : Ty) → HaveTypes env vals → FactsHold V c vals →
    ctyped (instances given) env t T → firm (is_defined V) c t ≡ true → IsDefined V vals t

-- where the ways from a place of a closed typed term lead to firm terms, these are defined whenever an evaluation comes there
abbrev pub FirmWaysAreDefined : Type 0
FirmWaysAreDefined = (given : List Ty) (V : Outcomes) → OutcomesHave (instances given) V →
    (t : Term) (T : Ty) → ctyped (instances given) [] t T → (path : List ℕ) (l : Term) → place_of t path ≡ Some l →
    (ws : List Way) → Every (FirmAt (is_defined V) (facts_at t path) l) ws → Every (λ vals. Every (DefinedAt V vals l) ws) (reach V [] t path)

-- a step keeps the meaning of a closed typed term with valid constants, at outcomes that are values of their types
abbrev pub StepsKeepMeaning : Type 0
StepsKeepMeaning = (given : List Ty) (V : Outcomes) → OutcomesHave (instances given) V → AreValidOutcomes V →
    (R : Rule) (path : List ℕ) (t u : Term) (T : Ty) → ctyped (instances given) [] t T → HasConstants t →
    Step V R path t u → cden V [] t ≡ cden V [] u

-- a step keeps every type
abbrev pub StepsKeepTypes : Type 0
StepsKeepTypes = (given : List Ty) (V : Outcomes) (R : Rule) (path : List ℕ) (t u : Term) → Step V R path t u → Keeps (instances given) t u

-- a step keeps valid constants
abbrev pub StepsKeepConstants : Type 0
StepsKeepConstants = (V : Outcomes) (R : Rule) (path : List ℕ) (t u : Term) → Step V R path t u → HasConstants t → HasConstants u

-- a step lowers the measure of a closed typed term
abbrev pub StepsLower : Type 0
StepsLower = (given : List Ty) (V : Outcomes) (R : Rule) (path : List ℕ) (t u : Term) (T : Ty) → ctyped (instances given) [] t T →
    Step V R path t u → Below u t

-- a chain of steps keeps the meaning, as a step does
abbrev pub ChainsKeepMeaning : Type 0
ChainsKeepMeaning = (given : List Ty) (V : Outcomes) → OutcomesHave (instances given) V → AreValidOutcomes V →
    (trace : List code.Step) (t u : Term) (T : Ty) → ctyped (instances given) [] t T → HasConstants t →
    Replay V trace t u → cden V [] t ≡ cden V [] u

-- a chain keeps the type
abbrev pub ChainsKeepTypes : Type 0
ChainsKeepTypes = (given : List Ty) (V : Outcomes) (trace : List code.Step) (t u : Term) (T : Ty) → ctyped (instances given) [] t T →
    Replay V trace t u → ctyped (instances given) [] u T

-- a chain has at most (W + 1)^3 steps, W being the weight of its first term
abbrev pub ChainsAreShort : Type 0
ChainsAreShort = (given : List Ty) (V : Outcomes) (trace : List code.Step) (t u : Term) (T : Ty) → ctyped (instances given) [] t T →
    Replay V trace t u → length trace ≤ (weight_of t + 1) ^ 3

-- places that come before a place and are not above it stay normal where that place is rewritten
abbrev pub SearchKeeps : Type 0
SearchKeeps = (V : Outcomes) (c : Context) (t u : Term) (path : List ℕ) → AllBefore (IsNormalAt (is_defined V)) c t path →
    AllBefore (IsNormalAt (is_defined V)) c (put_at t path u) path
