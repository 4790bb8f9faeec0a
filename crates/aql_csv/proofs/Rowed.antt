-- One more field, one more record.
use Rattle.std.proofs.Common.{◌≡◌, ◌≤◌, ◌<◌, ◌+◌, ℕ, zero, suc, List, [], ◌∷◌, ◌++◌, length, drop, Some, None, Ok, Err, Result, Bool, true, false, refl, sym, ap, ◌∙◌, arith, append_assoc, if◌then◌else◌, add-one, get_or, drop-cons}
use Rattle.std.specs.Prelude.{nat_eq, ◌&&◌}
use Rattle.std.proofs.lemmas.List.{append-nil}
use Rattle.csv.specs.Records.{field_at}
use Rattle.aql_value.specs.Canon.{canon}
use Rattle.aql_value.specs.Datum.{Datum}
use Rattle.aql_value.specs.Laws.Set.{canon_append_left}
use Rattle.aql_csv.specs.Records.{Record}
use Rattle.aql_csv.specs.Rows.{in_front, all_in_front, field_value, field_values, or_fault, rows_from, rows_behind, result_map, StopsAt}
use Rattle.aql_syntax.specs.declared.ast.Kind.{Kind}
use Rattle.aql_csv.specs.declared.fault.CsvFault.{CsvFault}
use Rattle.aql_csv.specs.declared.fault.CsvFault.TheVariants as faults

-- one more value in front is one more behind those that are there
pub front_more : {A E : Type 0} (front : List A) (a : A) (rest : Result (List A) E) → all_in_front front (in_front (Ok a) rest) ≡ all_in_front (front ++ (a ∷ [])) rest
front_more front a (Err e) = refl
front_more front a (Ok rest) = ap Ok (sym (append_assoc front (a ∷ []) rest))

-- none in front
pub front_none : {A E : Type 0} (rest : Result (List A) E) → all_in_front [] rest ≡ rest
front_none (Err e) = refl
front_none (Ok rest) = refl

-- ---- fields

-- the fields from a place on
field_at_there : (xs : List (List ℕ)) (i : ℕ) (x : List ℕ) → field_at xs i ≡ Some x → drop i xs ≡ x ∷ drop (suc i) xs
unfolding field_at
field_at_there [] i x e = cc e
field_at_there (y ∷ xs) zero x e = let k : y ≡ x = cc e in rw k refl
field_at_there (y ∷ xs) (suc i) x e = field_at_there xs i x e

-- the same by the word of the call
pub field_there : (xs : List (List ℕ)) (i : ℕ) (x : List ℕ) → Some x ≡ field_at xs i → drop i xs ≡ x ∷ drop (i + 1) xs
field_there xs i x e = rw (add-one) (field_at_there xs i x (sym e))

-- the kinds from a place on
pub kind_there : (ks : List Kind) (i : ℕ) (k : Kind) → i < length ks → drop i ks ≡ get_or ks i k ∷ drop (i + 1) ks
kind_there ks i k h = rw (add-one) (drop-cons ks i k h)

-- where there is no field at a place, the place is past the last
pub field_past : (xs : List (List ℕ)) (i : ℕ) → field_at xs i ≡ None → length xs ≤ i
unfolding field_at
field_past [] i e = omega arith
field_past (y ∷ xs) zero e = cc e
field_past (y ∷ xs) (suc i) e = omega (arith, field_past xs i e)

-- a field with a value: one more value in front of those of the later fields
pub field_good : (r i : ℕ) (ks : List Kind) (xs : Record) (k : Kind) (x : List ℕ) (front : List Datum) (v : Datum)
    → drop i ks ≡ k ∷ drop (i + 1) ks → drop i xs ≡ x ∷ drop (i + 1) xs → or_fault (faults.Number r (i + 1)) (field_value k x) ≡ Ok v
    → all_in_front front (field_values r (i + 1) (drop i ks) (drop i xs)) ≡ all_in_front (front ++ (v ∷ [])) (field_values r (i + 1 + 1) (drop (i + 1) ks) (drop (i + 1) xs))
field_good r i ks xs k x front v a b e = rw (a, b, e) (front_more front v (field_values r (i + 1 + 1) (drop (i + 1) ks) (drop (i + 1) xs)))

-- a field with a fault: the fault, whatever the later fields are
pub field_wrong : (r i : ℕ) (ks : List Kind) (xs : Record) (k : Kind) (x : List ℕ) (front : List Datum) (e : CsvFault)
    → drop i ks ≡ k ∷ drop (i + 1) ks → drop i xs ≡ x ∷ drop (i + 1) xs → or_fault (faults.Number r (i + 1)) (field_value k x) ≡ Err e
    → all_in_front front (field_values r (i + 1) (drop i ks) (drop i xs)) ≡ Err e
field_wrong r i ks xs k x front e a b f = rw (a, b, f) refl

-- ---- records

-- before the first record no value is in front
pub started : (header : Bool) (ks : List Kind) (records : List Record)
    → (if header then rows_from ks 2 (drop 1 records) else rows_from ks 1 records) ≡ all_in_front [] (rows_behind header ks 1 records)
started true ks records = sym (front_none (rows_from ks 2 (drop 1 records)))
started false ks records = sym (front_none (rows_from ks 1 records))

-- behind the last record the values in front are all
pub ended : (header : Bool) (ks : List Kind) (r : ℕ) (front : List Datum) → all_in_front front (rows_behind header ks r []) ≡ Ok front
ended header ks r front = go (header && nat_eq r 1)
  where
    go : (b : Bool) → all_in_front front (if b then rows_from ks (r + 1) (drop 1 []) else rows_from ks r []) ≡ Ok front
    go true = ap Ok (append-nil front)
    go false = ap Ok (append-nil front)

-- a fault of a part is that of the whole, unless it is want of memory
pub stops_as : {A B : Type 0} (e : CsvFault) (meant : Result A CsvFault) (whole : Result B CsvFault) → (meant ≡ Err e → whole ≡ Err e) → StopsAt e meant → StopsAt e whole
stops_as faults.Absent meant whole f h = f h
stops_as (faults.Long n) meant whole f h = f h
stops_as (faults.Cut n) meant whole f h = f h
stops_as (faults.Fields r n) meant whole f h = f h
stops_as (faults.Number r n) meant whole f h = f h
stops_as faults.Device meant whole f h = f h
stops_as faults.Memory meant whole f h = tt

-- values in front may be exchanged for others that make the same set
pub swap_front : {E : Type 0} (one other : List Datum) (more : Result (List Datum) E) → canon one ≡ canon other
    → result_map canon (all_in_front one more) ≡ result_map canon (all_in_front other more)
swap_front one other (Err e) same = refl
swap_front one other (Ok rest) same =
    ap Ok (sym (canon_append_left one rest) ∙ ap (λ front. canon (front ++ rest)) same ∙ canon_append_left other rest)
