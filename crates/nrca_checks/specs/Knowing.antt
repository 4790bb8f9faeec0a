-- How a comparison is known among the facts of a place.
use Rattle.std.specs.Prelude.{◌≡◌, ℕ, ◌-◌, List, Option, Some, None}
use Rattle.nrca_term.specs.declared.term.Core.{Core}
use Rattle.nrca_term.specs.Term.{Term}
use Rattle.nrca_term.specs.View.{term_of}
use Rattle.nrca_term.specs.Subst.{shift_term}
use Rattle.nrca_term.specs.Facts as facts
use Rattle.nrca_term.specs.Facts.{Context, SomeFact, LiterallyKnown}
use Rattle.nrca_ranges.specs.Context.{known_of, fact_of, context_of}
use Rattle.nrca_ranges.specs.declared.context.Ctx.{Ctx}
use Rattle.nrca_ranges.specs.declared.context.Fact.{Fact}
use Rattle.nrca_ranges.specs.declared.context.Known.{Known}
use Rattle.nrca_ranges.specs.declared.context.Known.TheVariants.{Domain, Test, Denied}

-- the term is a fact of this kind, shifted to a place with d variables
abbrev pub IsFactOf : facts.Known → ℕ → Term → facts.Fact → Type 0
IsFactOf k d t f = (f.known ≡ k) × (t ≡ shift_term 0 (d - f.depth) f.comparison)

-- the same of a kept fact and a term of the code
abbrev pub IsKeptFact : Known → ℕ → Core → Fact → Type 0
IsKeptFact k d t f = IsFactOf (known_of k) d (term_of t) (fact_of f)

-- one of the facts is the term
abbrev pub IsAmong : facts.Known → ℕ → Term → List facts.Fact → Type 0
IsAmong k d t fs = SomeFact fs (IsFactOf k d t)

-- the term is no fact of this kind
abbrev pub IsUnknown : facts.Known → Context → Term → Type 0
IsUnknown k c t = LiterallyKnown k c t → ⊥

-- how the term is known, the first of the three kinds
abbrev pub IsKnown : Context → Term → Option Known → Type 0
IsKnown c t (Some Domain) = LiterallyKnown facts.domain c t
IsKnown c t (Some Test) = IsUnknown facts.domain c t × LiterallyKnown facts.test c t
IsKnown c t (Some Denied) = IsUnknown facts.domain c t × IsUnknown facts.test c t × LiterallyKnown facts.denied c t
IsKnown c t None = IsUnknown facts.domain c t × IsUnknown facts.test c t × IsUnknown facts.denied c t

-- it is a fact of this kind in the context
abbrev pub IsKnownAs : Known → Ctx → Core → Type 0
IsKnownAs k c t = LiterallyKnown (known_of k) (context_of c) (term_of t)
