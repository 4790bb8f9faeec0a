-- What the term that is made keeps.
use Rattle.std.proofs.Common.{◌≡◌, ◌≤◌, ◌<◌, ◌^◌, List, map, sym, subst, arith}
use Rattle.nrca_term.specs.Term.{Term, WellFormed, weight_of}
use Rattle.nrca_term.specs.Typing.{instances, ctyped}
use Rattle.nrca_graph.specs.Encoding.{encoding_type}
use Rattle.nrca_graph.specs.ArrayFree.{array_free}
use Rattle.nrca_graph.specs.NoArrays.{HasNoArrays}
use Rattle.nrca_graph.specs.Kept.{MeansEncoded, HasEncodedTypes, KeepsSums, HasLoops, TurnsWithin}
use Rattle.nrca_graph.specs.Laws.Means.{array_free-means}
use Rattle.nrca_graph.specs.Laws.ArrayFreeTypes.{array_free-typed, instances-kept}
use Rattle.nrca_graph.specs.Laws.NoArrays.{array_free-has_none}
use Rattle.aql_ty.specs.Types.{Ty}
use Rattle.nrca_term.specs.Laws.TypedForm.{well_formed-typed}
use Rattle.nrca_graph.specs.Laws.Turns.{array_free-turns}
use Rattle.nrca_graph.specs.Laws.LoopCounts.{array_free-sums, array_free-big_unions}

pub means_encoded : (t g : Term) → weight_of t ≤ 1280000 → g ≡ array_free t → MeansEncoded t g
means_encoded t g w e = subst (MeansEncoded t) (sym e) (λ given V o env vals T h k. array_free-means (instances given) V o t (omega (arith, w)) env vals T h k)

pub has_encoded_types : (t g : Term) → g ≡ array_free t → HasEncodedTypes t g
has_encoded_types t g e =
    subst (HasEncodedTypes t) (sym e) (λ given env T h. array_free-typed (instances given) (instances (map encoding_type given)) (instances-kept given) t env T h)

pub has_no_arrays : (t g : Term) → g ≡ array_free t → HasNoArrays g
has_no_arrays t g e = subst HasNoArrays (sym e) (array_free-has_none t)

pub keeps_sums : (t g : Term) → g ≡ array_free t → KeepsSums t g
keeps_sums t g e = subst (KeepsSums t) (sym e) (λ given env T h. array_free-sums (instances given) env t T h)

pub has_loops : (t g : Term) → g ≡ array_free t → HasLoops t g
has_loops t g e = subst (HasLoops t) (sym e) (λ given env T h. array_free-big_unions (instances given) env t T h)

-- the array-free form of a typed term is well formed
pub free_formed : (given env : List Ty) (t : Term) (T : Ty) → ctyped (instances given) env t T → WellFormed (array_free t)
free_formed given env t T h =
    well_formed-typed (instances (map encoding_type given)) (map encoding_type env) (array_free t) (encoding_type T)
    (array_free-typed (instances given) (instances (map encoding_type given)) (instances-kept given) t env T h)

pub turns_free : (t : Term) → weight_of t < 2 ^ 128 → TurnsWithin t (array_free t)
turns_free t w given V o env vals T h k = array_free-turns (instances given) V o (free_formed given) t w env vals T h k

pub turns_within : (t g : Term) → weight_of t ≤ 1280000 → g ≡ array_free t → TurnsWithin t g
turns_within t g w e = subst (TurnsWithin t) (sym e) (turns_free t (omega (arith, w)))
