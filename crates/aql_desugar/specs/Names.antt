-- The scope that the code's names make, and the position that a name stands for.
use Rattle.std.proofs.Common.{Bor}
use Rattle.std.specs.Prelude.{ℕ, ◌≡◌, ◌+◌, Bool, false, List, [], ◌∷◌, Option, Some, None, option_map, if◌then◌else◌}
use Rattle.aql_syntax.specs.Tree.{Name, Declaration, declared_name}
use Rattle.aql_syntax.specs.Names.{names_equal}
use Rattle.nrca_term.specs.Term.{Term}
use Rattle.nrca_term.specs.View.{term_of}
use Rattle.nrca_term.specs.declared.term.Core.{Core}
use Rattle.nrca_term.specs.Nodes.{bottom_term, empty_term}
use Rattle.aql_syntax.specs.Measured.{latest}
use Rattle.aql_syntax.specs.declared.ast.Decl.{Decl}
use Rattle.aql_desugar_spec.specs.Start.{Binders, Resolutions, unnamed_binders, knowns_of}
use Rattle.aql_desugar.specs.declared.matches.Missing.{Missing}
use Rattle.aql_desugar.specs.declared.matches.Missing.TheVariants as missing

-- variables put on others one by one
abbrev pub put_on : {A : Type 0} → (A → Name) → List (Option A) → Binders → Binders
put_on f [] s = s
put_on f (x ∷ xs) s = put_on f xs (option_map f x ∷ s)

-- the variables of a list, the innermost last, around which are some without a name
abbrev pub binders_of : {A : Type 0} → (A → Name) → List (Option A) → (base : ℕ) → Binders
binders_of f xs base = put_on f xs (unnamed_binders base)

-- the variables that the code's names are
abbrev pub binders_in : List (Option (Bor Name)) → (base : ℕ) → Binders
binders_in names base = binders_of (λ x. x.now) names base

-- what the code's declarations are to the terms after them
abbrev pub knowns_in : List Decl → Resolutions
knowns_in ds = knowns_of (latest ds)

-- the scope after is f of the one before, whatever stands around
abbrev pub Enters : (Binders → Binders) → (old new : List (Option (Bor Name))) → Type 0
Enters f old new = (base : ℕ) → binders_in new base ≡ f (binders_in old base)

-- the term is f of the declarations before it and of the variables around it
abbrev pub IsTermIn : (Resolutions → Binders → Term) → List Decl → List (Option (Bor Name)) → (base : ℕ) → Core → Type 0
IsTermIn f earlier names base c = term_of c ≡ f (knowns_in earlier) (binders_in names base)

-- whether a variable has the name
abbrev pub has_name : Name → Option Name → Bool
has_name x None = false
has_name x (Some y) = names_equal x y

-- a number further out
abbrev pub further_by : ℕ → Option ℕ → Option ℕ
further_by n None = None
further_by n (Some i) = Some (n + i)

-- the latest declaration of that name, with those before it
abbrev pub declaration_of : Name → List Declaration → Option (Declaration × List Declaration)
declaration_of x [] = None
declaration_of x (d ∷ ds) = if names_equal x (declared_name d) then Some (d, ds) else declaration_of x ds

-- what stands where a pattern does not match
abbrev pub missing_term : Missing → Term
missing_term missing.Undefined = bottom_term
missing_term missing.Empty = empty_term
