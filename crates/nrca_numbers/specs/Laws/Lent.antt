-- A subscript whose array a variable or a position holds, and terms in a row by their places.
use Rattle.std.proofs.Common.{◌≡◌, ℕ, ◌<◌, List, ◌∷◌, length, map, get_or, Option, Some, None, refl, sym, ◌∙◌, ap, arith}
use Rattle.std.specs.Prelude.{slice_get}
use Rattle.std.specs.Option.{option_map}
use Rattle.std.proofs.lemmas.Option.{slice_get-map, slice_get_read}
use Rattle.aql_value.specs.Datum.{Datum}
use Rattle.aql_value.specs.Partial.{◌>>=◌, each, total}
use Rattle.aql_value.specs.Strict.{Strict, sub_value, strict_value}
use Rattle.nrca_term.specs.Laws.Variants.{cden-strict, settle-strict}
use Rattle.nrca_term.specs.Meaning.{Outcomes, cden}
use Rattle.nrca_term.specs.Nodes.{sub_term}
use Rattle.nrca_term.specs.Term.{Term}
use Rattle.nrca_term.specs.Turns.{settle}
use Rattle.nrca_term.specs.View.{term_of}
use Rattle.nrca_term.specs.declared.term.Core.{Core}
use Rattle.nrca_loops.specs.Parts.{cell_in, numbers_in}

-- a term of a row
pub term_at : (cs ds : List Core) (i : ℕ) (x : Core) → cs ≡ ds → i < length cs → x ≡ get_or cs i x → slice_get (map term_of ds) i ≡ Some (term_of x)
term_at cs ds i x s h e =
    ap (λ l. slice_get (map term_of l) i) (sym s) ∙ slice_get-map term_of cs i ∙ ap (option_map term_of) (slice_get_read cs (length cs) i x refl h e)

sub_value-some : (v : Datum) (o : Option (List Datum)) → ((o >>= λ ys. Some (v ∷ ys)) >>= sub_value) ≡ cell_in v (numbers_in o)
sub_value-some v None = refl
sub_value-some v (Some ys) = refl

-- a subscript by the value of its array
module _ (V : Outcomes) (vals : List Datum) (a : Term) (v : Datum) (holds : cden V vals a ≡ Some v) (free : settle V vals a ≡ 0) where
  pub sub_lent : (at : List Term) → cden V vals (sub_term a at) ≡ cell_in v (numbers_in (each (cden V vals) at))
  sub_lent at =
      cden-strict V vals Strict.sub (a ∷ at)
      ∙ ap (λ o. (o >>= λ y. each (cden V vals) at >>= λ ys. Some (y ∷ ys)) >>= strict_value Strict.sub) holds
      ∙ sub_value-some v (each (cden V vals) at)

  pub sub_free : (at : List Term) → settle V vals (sub_term a at) ≡ total (settle V vals) at
  sub_free at = omega (arith, settle-strict V vals Strict.sub (a ∷ at), free)
