-- The pairs that the members of a set are, and the array that they make.
use Rattle.std.specs.Prelude.{◌≡◌, ℕ, zero, suc, ◌+◌, ◌≤◌, Bool, true, false, nat_eq, List, [], ◌∷◌, length, Option, Some, None, refl, if◌then◌else◌}
use Rattle.std.specs.List.{slice_range, slice_get}
use Rattle.std.proofs.Common.{ap, sym, ◌∙◌, eqb-true}
use Rattle.aql_value.specs.Datum.{Datum}
use Rattle.aql_value.specs.Laws.Lists.{Every-all}
use Rattle.aql_value.specs.Operations.{as_natural, as_tuple, as_indexed, part_of, index_numbers}
use Rattle.aql_value.specs.Partial.{◌>>=◌, each}
use Rattle.aql_value.specs.Laws.Partial.{each-values, then-is}
use Rattle.nrca_forms.specs.Indexing.{pairs_run, AreRanked}
use Rattle.nrca_loops.specs.Runs.{list_with, lists_join}
use Rattle.nrca_loops.specs.Laws.Run.{each-range_split, each-more}
use Rattle.aql_value.specs.Laws.Lists.{range_more}

checked : (rank : ℕ) (b : Bool) (ns at : List ℕ) → nat_eq (length ns) rank ≡ b → (if b then Some ns else None) ≡ Some at → length at ≡ rank
checked rank true ns at t e = let z : ns ≡ at = cc in ap length (sym z) ∙ eqb-true (length ns) rank t
checked rank false ns at t e = cc

tuple_ranked : (rank : ℕ) (o : Option (List Datum)) (at : List ℕ) → (o >>= each as_natural >>= λ ns. if nat_eq (length ns) rank then Some ns else None) ≡ Some at → length at ≡ rank
tuple_ranked rank o at e = let r = then-is (o >>= each as_natural) (λ ns. if nat_eq (length ns) rank then Some ns else None) at e in checked rank (nat_eq (length r.0) rank) r.0 at refl r.2

-- an index that is read has as many numbers as the rank
index_ranked : (rank : ℕ) (v : Datum) (at : List ℕ) → index_numbers rank v ≡ Some at → length at ≡ rank
index_ranked zero v at e = tuple_ranked zero (as_tuple v) at e
index_ranked (suc zero) v at e = let r = then-is (as_natural v) (λ n. Some (n ∷ [])) at e in (let z : r.0 ∷ [] ≡ at = cc in ap length (sym z))
index_ranked (suc (suc n)) v at e = tuple_ranked (suc (suc n)) (as_tuple v) at e

pair_ranked : (rank : ℕ) (v : Datum) (p : List ℕ × Datum) → as_indexed rank v ≡ Some p → length p.0 ≡ rank
pair_ranked rank v p e =
    let r = then-is (part_of 1 2 v >>= index_numbers rank) (λ at. part_of 2 2 v >>= λ w. Some (at, w)) p e in
    let s = then-is (part_of 2 2 v) (λ w. Some (r.0, w)) p r.2 in
    let q = then-is (part_of 1 2 v) (index_numbers rank) r.0 r.1 in
    let z : (r.0, s.0) ≡ p = cc in
    ap (λ y. length y.0) (sym z) ∙ index_ranked rank q.0 r.0 q.2

-- the pairs of a run have the rank
pub run_ranked : (rank : ℕ) (ms : List Datum) (a b : ℕ) (o : Option (List (List ℕ × Datum))) → pairs_run rank ms a b ≡ o → AreRanked rank o
run_ranked rank ms a b None e = tt
run_ranked rank ms a b (Some ps) e =
    each-values (as_indexed rank) (λ v. Unit {0}) (λ p. length p.0 ≡ rank) (λ v p u k. pair_ranked rank v p k) (slice_range ms a b) ps (Every-all (λ v. Unit {0}) (λ v. tt) (slice_range ms a b)) e

-- a member more, and runs that follow each other
pub pairs_more : (rank : ℕ) (ms : List Datum) (a i : ℕ) (m : Datum) → a ≤ i → slice_get ms i ≡ Some m → pairs_run rank ms a (i + 1) ≡ list_with (pairs_run rank ms a i) (as_indexed rank m)
pairs_more rank ms a i m h e = ap (each (as_indexed rank)) (range_more ms a i m h e) ∙ each-more (as_indexed rank) (slice_range ms a i) m

pub pairs_split : (rank : ℕ) (ms : List Datum) (a m b : ℕ) → a ≤ m → m ≤ b → lists_join (pairs_run rank ms a m) (pairs_run rank ms m b) ≡ pairs_run rank ms a b
pairs_split rank ms a m b h k = each-range_split ms a m b h k (as_indexed rank)
