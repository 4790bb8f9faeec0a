-- Substitution under a number of binders that is kept only as far as variable numbers reach.
use Rattle.std.specs.Prelude.{◌≡◌, ℕ, ◌+◌, ◌-◌, ◌<◌, ◌^◌, ◌↔◌, min, Bool, IsTrue}
use Rattle.std.proofs.Common.{Box, Global}
use Rattle.nrca_term.specs.declared.term.Core.{Core}
use Rattle.nrca_term.specs.Nodes.{variable}
use Rattle.nrca_term.specs.Term.{Term}
use Rattle.nrca_term.specs.View.{term_of}
use Rattle.nrca_term.specs.Subst.{shift_term, subst_term, uses_of, top_var}

-- two boxed terms
abbrev pub Boxes : Type 0
Boxes = Box Core Global × Box Core Global

-- a number of binders that is kept as `depth`: the same number below 2^64, and any from there on
abbrev pub IsDepth : ℕ → ℕ → Type 0
IsDepth depth n = min n (2 ^ 64) ≡ min depth (2 ^ 64)

-- for one such number of binders no variable number passes 64 bits
abbrev pub DepthFits : ℕ → ℕ → Term → Term → Type 0
DepthFits at depth w t = (n : ℕ) × IsDepth depth n × (top_var (subst_term (at + n) (shift_term 0 n w) t) < 2 ^ 64)

-- the same under k binders more
abbrev pub FitsDeeper : ℕ → ℕ → ℕ → Core → Core → Type 0
FitsDeeper at depth k w t = DepthFits at (min (depth + k) (2 ^ 128 - 1)) (term_of w) (term_of t)

-- for every such number of binders u is t with w put in
abbrev pub Substitutes : ℕ → ℕ → Term → Term → Term → Type 0
Substitutes at depth w t u = (n : ℕ) → IsDepth depth n → u ≡ subst_term (at + n) (shift_term 0 n w) t

-- the same of terms of the code
abbrev pub SubstitutesIn : ℕ → ℕ → Core → Core → Core → Type 0
SubstitutesIn at depth w t u = Substitutes at depth (term_of w) (term_of t) (term_of u)

-- the same of both parts of a node, the second under so many binders more
abbrev pub SubstitutesBoth : ℕ → ℕ → ℕ → Core → Boxes → Boxes → Type 0
SubstitutesBoth at depth k w old new =
    SubstitutesIn at depth w old.0.value new.0.value × Substitutes at (min (depth + k) (2 ^ 128 - 1)) (term_of w) (term_of old.1.value) (term_of new.1.value)

-- the same of a variable
abbrev pub ReplacesVariable : ℕ → ℕ → Core → ℕ → Core → Type 0
ReplacesVariable at depth w i u = Substitutes at depth (term_of w) (variable i) (term_of u)

-- for every such number of binders the answer says whether u is t shifted
abbrev pub TellsShifted : ℕ → ℕ → Term → Term → Bool → Type 0
TellsShifted depth by t u b = (n : ℕ) → IsDepth depth n → IsTrue b ↔ (u ≡ shift_term n by t)

-- for every such number of a variable the answer is its uses, as far as 64 bits reach
abbrev pub CountsUses : ℕ → Term → ℕ → Type 0
CountsUses at t count = (n : ℕ) → IsDepth at n → count ≡ min (uses_of n t) (2 ^ 64 - 1)
