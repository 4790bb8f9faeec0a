-- What a search answers that goes on from a place, and what is known of the places that it has left behind.
use Rattle.std.proofs.Common.{◌≡◌, ℕ, ◌+◌, ◌<◌, ◌⊎◌, List, [], ◌∷◌, ◌++◌, length, reverse, Option, Some, None}
use Rattle.nrca_term.specs.Term.{Term}
use Rattle.nrca_term.specs.Places.{place_of}
use Rattle.nrca_term.specs.Facts.{Context, enter_facts, context_at}
use Rattle.nrca_rule_laws.specs.Search.{AllPlaces, AllBefore, FirstParts}
use Rattle.nrca_ranges.specs.declared.context.Ctx.{Ctx}
use Rattle.nrca_ranges.specs.Bounds.{Ranges}
use Rattle.nrca_ranges.specs.Context.{context_of}
use Rattle.nrca_ranges.specs.Shapes.{ranges_of}
use Rattle.nrca_ranges.specs.Transfer.{ranges_at}
use Rattle.nrca_motion.specs.declared.fitting.Fit.{Fit}
use Rattle.nrca_motion.specs.declared.search.Site.{Site}
use Rattle.nrca_motion.specs.Fitting.{IsQuietAt, MayMove}

-- no move is left at the places that come before a path and are not above it
unfoldable pub QuietBefore : Ranges → Context → Term → List ℕ → Type 0
QuietBefore gs c t p = AllBefore (IsQuietAt gs) c t p

-- no move is left at any place
unfoldable pub QuietEverywhere : Ranges → Context → Term → Type 0
QuietEverywhere gs c t = AllPlaces (IsQuietAt gs) c t

-- no move is left in the first n parts
unfoldable pub QuietParts : Ranges → Context → Term → ℕ → Type 0
QuietParts gs c t n = FirstParts (IsQuietAt gs) c t n

-- a move may be made at the end of the path
unfoldable pub MovesAt : Ranges → Context → Term → List ℕ → Fit → Type 0
MovesAt gs c t p f = (s : Term) × (place_of t p ≡ Some s) × MayMove (ranges_at gs c t p) (context_at enter_facts c t p) s f

-- the first place, if there is one
unfoldable pub TellsPlace : Ranges → Context → Term → Option Site → Type 0
TellsPlace gs c t None = QuietEverywhere gs c t
TellsPlace gs c t (Some site) = MovesAt gs c t (reverse site.way.items) site.fit × QuietBefore gs c t (reverse site.way.items)

-- the same in a context: of the places before a path
abbrev pub IsBehind : Ctx → Term → List ℕ → Type 0
IsBehind c t p = QuietBefore (ranges_of c) (context_of c) t p

-- of the node itself
abbrev pub IsQuiet : Ctx → Term → Type 0
IsQuiet c t = IsQuietAt (ranges_of c) (context_of c) t

-- of the first place
abbrev pub TellsSite : Ctx → Term → Option Site → Type 0
TellsSite c t o = TellsPlace (ranges_of c) (context_of c) t o

-- the part with which a path goes on
abbrev pub next : List ℕ → ℕ
next [] = 0
next (j ∷ p) = j

-- where a path goes on in part i, `first` being the part that it leads to
abbrev pub GoesOnward : List ℕ → (at i first : ℕ) → ℕ → Type 0
GoesOnward path at i first onward = ((i ≡ first) × (at < length path) × (onward ≡ at + 1)) ⊎ (onward ≡ length path)

-- the same site, its way one part longer
abbrev pub IsAbove : Site → ℕ → Site → Type 0
IsAbove s i r = (r.way.items ≡ s.way.items ++ i ∷ []) × (r.fit ≡ s.fit)
