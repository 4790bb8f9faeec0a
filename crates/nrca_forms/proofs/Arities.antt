-- The strict forms, by the number of their parts.
use Rattle.std.proofs.Common.{◌≡◌, ℕ, ◌<◌, List, [], ◌∷◌, length, take, drop, Option, None, Box, Global, vec_len, refl, ◌∙◌, ap, arith}
use Rattle.std.specs.Prelude.{nat_eq, if◌then◌else◌, Result, Ok, Err, IfOk, IsOkAnd, MatchResult}
use Rattle.std.proofs.lemmas.Bool.{ne_eqb}
use Rattle.std.proofs.lemmas.List.{length-take}
use Rattle.aql_value.specs.Datum.{Datum}
use Rattle.aql_value.specs.Operations.{as_natural, array_of, only, literal_of}
use Rattle.aql_value.specs.Partial.{◌>>=◌, each, if_some}
use Rattle.aql_value.specs.Laws.Partial.{each-length, then-none}
use Rattle.aql_value.specs.Strict.{Strict, unary, binary, gen_turns, index_turns}
use Rattle.nrca_array.specs.declared.held.Held.{Held}
use Rattle.aql_value.specs.declared.memory.Memory.{Memory}
use Rattle.nrca_par.specs.declared.fault.EvalFault.{EvalFault}
use Rattle.nrca_par.specs.declared.fault.EvalFault.TheVariants as fault
use Rattle.nrca_term.specs.Term.{form_of}
use Rattle.nrca_term.specs.View.{term_of}
use Rattle.nrca_term.specs.Laws.Equations.{term_of-Tuple, term_of-Tab, term_of-Sub, term_of-Literal, length-terms_of}
use Rattle.nrca_term.specs.declared.term.Core.{Core}
use Rattle.nrca_term.specs.declared.term.Terms.{Terms}
use Rattle.nrca_term.specs.declared.term.Core.TheVariants as core
use Rattle.nrca_loops.specs.declared.done.Counted.{Counted}
use Rattle.nrca_loops.specs.Parts.{pair_in, strict_of}
use Rattle.nrca_loops.specs.Values.{held_value}
use Rattle.nrca_loops.specs.Within.{Within}

pub tuple_form : (ts : Terms) → strict_of (form_of (term_of (core.Tuple ts))) ≡ Strict.tuple
tuple_form ts = ap (λ t. strict_of (form_of t)) (term_of-Tuple ts)

pub tab_form : (ts : Terms) (b : Box Core Global) → strict_of (form_of (term_of (core.Tab ts b))) ≡ Strict.bottom
tab_form ts b = ap (λ t. strict_of (form_of t)) (term_of-Tab ts b)

pub sub_form : (a : Box Core Global) (ts : Terms) → strict_of (form_of (term_of (core.Sub a ts))) ≡ Strict.sub
sub_form a ts = ap (λ t. strict_of (form_of t)) (term_of-Sub a ts)

pub literal_form : (ds cs : Terms) → strict_of (form_of (term_of (core.Literal ds cs))) ≡ Strict.literal (vec_len ds.0)
literal_form ds cs = ap (λ t. strict_of (form_of t)) (term_of-Literal ds cs) ∙ ap Strict.literal (length-terms_of ds)

-- a value that is made without turns of its own
pub freed_within : (value : Result (Option Held) Memory) (r : Result (Counted (Option Held)) EvalFault) (budget : ℕ) (x : Option Datum) → MatchResult r (λ d. IsOkAnd value (λ v. d.answer ≡ v) × (d.turns ≡ 0)) (λ e. e ≡ fault.Memory) → IfOk value (λ v. held_value v ≡ x) → Within held_value budget x 0 r
freed_within (Ok v) (Ok d) budget x f e = (ap held_value f.0 ∙ e, f.1, omega arith)
freed_within (Err m) (Ok d) budget x f e = absurd f.0
freed_within value (Err f) budget x m e = λ s. absurd cc

pub ruleset made_forms = (tuple_form, tab_form, sub_form, literal_form, freed_within)

-- the one part, and the two parts
pub unary_only : (f : Datum → Option Datum) (vs : List Datum) → unary f vs ≡ (only vs >>= f)
unary_only f [] = refl
unary_only f (v ∷ []) = refl
unary_only f (v ∷ w ∷ vs) = refl

pub binary_pair : (f : Datum → Datum → Option Datum) (vs : List Datum) → binary f vs ≡ (pair_in vs >>= λ p. f p.0 p.1)
binary_pair f [] = refl
binary_pair f (v ∷ []) = refl
binary_pair f (v ∷ w ∷ []) = refl
binary_pair f (v ∷ w ∷ x ∷ vs) = refl

pub gen_turns_only : (vs : List Datum) → gen_turns vs ≡ if_some (only vs) (λ v. if_some (as_natural v) (λ n. n))
gen_turns_only [] = refl
gen_turns_only (v ∷ []) = refl
gen_turns_only (v ∷ w ∷ vs) = refl

pub index_turns_only : (rank : ℕ) (vs : List Datum) → index_turns rank vs ≡ if_some (only vs) (λ v. index_turns rank (v ∷ []))
index_turns_only rank [] = refl
index_turns_only rank (v ∷ []) = refl
index_turns_only rank (v ∷ w ∷ vs) = refl

pub ruleset arities = (unary_only, binary_pair, gen_turns_only, index_turns_only)

pub pair_else : (vs : List Datum) → (length vs ≡ 2 → ⊥) → pair_in vs ≡ None
pair_else [] h = refl
pair_else (v ∷ []) h = refl
pair_else (v ∷ w ∷ []) h = absurd (h refl)
pair_else (v ∷ w ∷ x ∷ vs) h = refl

pub ruleset two = pair_else

-- fewer parts than dimensions
pub literal_short : (rank : ℕ) (vs : List Datum) → length vs < rank → literal_of rank vs ≡ None
literal_short rank vs h =
    then-none (each as_natural (take rank vs)) (λ ds. if nat_eq (length ds) rank then array_of ds (drop rank vs) else None) (λ ds e.
    let n : length ds ≡ rank → ⊥ = λ k. absurd (omega (arith, h, k, each-length as_natural (take rank vs) ds e, length-take rank vs)) in
    ap (λ c. if c then array_of ds (drop rank vs) else None) (ne_eqb (length ds) rank n))
