-- What the usual definitions of shifting and substitution keep, as the contracts say it.
use Rattle.std.proofs.Common.{◌≡◌, ℕ, ◌++◌, length, sym, ap, subst, ◌∙◌, arith}
use Rattle.nrca_term.specs.Term.{Term, WellFormed}
use Rattle.nrca_term.specs.Meaning.{cden}
use Rattle.nrca_term.specs.Turns.{settle}
use Rattle.nrca_term.specs.Typing.{instances, ctyped}
use Rattle.nrca_term.specs.Subst.{shift_term, subst_term, strict_uses}
use Rattle.nrca_term.specs.Laws.Shifting.{cden-shift_term}
use Rattle.nrca_term.specs.Laws.TurnsShift.{settle-shift_term}
use Rattle.nrca_term.specs.Laws.TypingShift.{ctyped-shift_term}
use Rattle.nrca_term.specs.Laws.Substituting.{cden-subst_term}
use Rattle.nrca_term.specs.Laws.Undefined.{cden-subst_term-undefined}
use Rattle.nrca_term.specs.Laws.TypingSubst.{ctyped-subst_term}
use Rattle.nrca_subst.specs.Kept.{IsShifted, KeepsTypesShifted, IsSubstituted, IsUndefinedWith, KeepsTypesSubstituted}

shift_at : (from by m n : ℕ) (t u : Term) → m ≡ from → n ≡ by → u ≡ shift_term from by t → u ≡ shift_term m n t
shift_at from by m n t u e f h = h ∙ ap (λ k. shift_term k by t) (sym e) ∙ ap (λ k. shift_term m k t) (sym f)

pub is_shifted : (from by : ℕ) (t u : Term) → WellFormed t → u ≡ shift_term from by t → IsShifted from by t u
is_shifted from by t u w h V pre new post e f =
    let z = shift_at from by (length pre) (length new) t u e f h in
    (ap (cden V (pre ++ (new ++ post))) z ∙ cden-shift_term V pre new post t, ap (settle V (pre ++ (new ++ post))) z ∙ settle-shift_term V pre new post t w)

pub keeps_types_shifted : (from by : ℕ) (t u : Term) → u ≡ shift_term from by t → KeepsTypesShifted from by t u
keeps_types_shifted from by t u h given pre new post T e f c =
    let z = shift_at from by (length pre) (length new) t u e f h in
    subst (λ x. ctyped (instances given) (pre ++ (new ++ post)) x T) (sym z) (ctyped-shift_term (instances given) pre new post t T c)

subst_at : (at m : ℕ) (w t u : Term) → m ≡ at → u ≡ subst_term at w t → u ≡ subst_term m w t
subst_at at m w t u e h = h ∙ ap (λ k. subst_term k w t) (sym e)

pub is_substituted : (at : ℕ) (w t u : Term) → u ≡ subst_term at w t → IsSubstituted at w t u
is_substituted at w t u h V pre post v e d = ap (cden V (pre ++ post)) (subst_at at (length pre) w t u e h) ∙ cden-subst_term V pre post v w d t

pub is_undefined_with : (at : ℕ) (w t u : Term) → u ≡ subst_term at w t → IsUndefinedWith at w t u
is_undefined_with at w t u h V pre post e d l =
    ap (cden V (pre ++ post)) (subst_at at (length pre) w t u e h) ∙ cden-subst_term-undefined V pre post w d t (omega (arith, l, ap (λ k. strict_uses k t) e))

pub keeps_types_substituted : (at : ℕ) (w t u : Term) → u ≡ subst_term at w t → KeepsTypesSubstituted at w t u
keeps_types_substituted at w t u h given pre post A T e c d =
    subst (λ x. ctyped (instances given) (pre ++ post) x T) (sym (subst_at at (length pre) w t u e h)) (ctyped-subst_term (instances given) pre post w A c t T d)
