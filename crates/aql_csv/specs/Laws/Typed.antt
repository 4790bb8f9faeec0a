-- What follows from the definitions of `Typed`.
use Rattle.std.specs.Prelude.{◌≡◌, ℕ, ◌+◌, List, [], ◌∷◌, length, Bool, true, false, Option, Some, None, option_map, Result, Ok, Err, nat_eq, refl, if◌then◌else◌}
use Rattle.std.proofs.lemmas.Bool.{eqb-true}
use Rattle.std.proofs.Common.{sym, ap, ◌∙◌, arith, drop}
use Rattle.aql_value.specs.Canon.{canon}
use Rattle.aql_value.specs.Laws.Canon.{ascending_canon}
use Rattle.aql_value.specs.Laws.Set.{Every-canon}
use Rattle.aql_value.specs.Lists.{Every}
use Rattle.aql_value.specs.Datum as datum
use Rattle.aql_value.specs.Datum.{Datum, data_of}
use Rattle.aql_ty.specs.Types as types
use Rattle.aql_ty.specs.ValueTypes.{AllHaveTypes, HasType}
use Rattle.aql_syntax.specs.Typing.{field_type, field_types, record_type}
use Rattle.aql_syntax.specs.declared.ast.Kind.{Kind}
use Rattle.aql_syntax.specs.declared.ast.Kind.TheVariants as kinds
use Rattle.aql_csv.specs.File.{set_of}
use Rattle.aql_csv.specs.Number.{number_of}
use Rattle.aql_csv.specs.Records.{Record, records_of}
use Rattle.aql_csv.specs.Rows.{field_value, field_values, in_front, or_fault, record_value, result_map, row, rows, rows_from}
use Rattle.aql_csv.specs.declared.fault.CsvFault.TheVariants as faults

-- what a field means has the type of its kind
field_typed : (k : Kind) (x : List ℕ) (v : Datum) → field_value k x ≡ Some v → HasType (field_type k) v
field_typed kinds.Number x v e = go (number_of x) e
  where
    go : (o : Option ℕ) → option_map datum.natural o ≡ Some v → HasType types.natural v
    go None h = cc h
    go (Some n) h = (n, cc h)
field_typed kinds.Bytes x v e = (x, cc e)

-- a value in front of others, where both are there, is the first of the list
front_parts : {E : Type 0} (a : Result Datum E) (rest : Result (List Datum) E) (vs : List Datum) → in_front a rest ≡ Ok vs
    → (v : Datum) × (ws : List Datum) × (a ≡ Ok v) × (rest ≡ Ok ws) × (vs ≡ v ∷ ws)
front_parts (Err e) rest vs h = cc h
front_parts (Ok v) (Err e) vs h = cc h
front_parts (Ok v) (Ok ws) vs h = (v, ws, refl, refl, cc h)

-- where a value or a fault is a value, the value is there
there : {E : Type 0} (e : E) (o : Option Datum) (v : Datum) → or_fault e o ≡ Ok v → o ≡ Some v
there e None v h = cc h
there e (Some w) v h = cc h

-- the values of a record's fields have the types of the kinds
fields_typed : (r f : ℕ) (ks : List Kind) (xs : Record) (vs : List Datum) → length xs ≡ length ks → field_values r f ks xs ≡ Ok vs → AllHaveTypes (field_types ks) vs
fields_typed r f [] xs vs n e = let k : vs ≡ [] = cc e in rw k tt
fields_typed r f (k ∷ ks) [] vs n e = absurd (omega arith)
fields_typed r f (k ∷ ks) (x ∷ xs) vs n e =
    let p = front_parts (or_fault (faults.Number r f) (field_value k x)) (field_values r (f + 1) ks xs) vs e in
    rw p.4 (field_typed k x p.0 (there (faults.Number r f) (field_value k x) p.0 p.2), fields_typed r (f + 1) ks xs p.1 (omega arith) p.3)

-- where the function of a result is there, the result is
mapped : {A B E : Type 0} (f : A → B) (a : Result A E) (b : B) → result_map f a ≡ Ok b → (x : A) × (a ≡ Ok x) × (b ≡ f x)
mapped f (Ok x) b h = (x, refl, cc h)
mapped f (Err e) b h = cc h

-- the value of a record has the type of records
record_typed : (ks : List Kind) (vs : List Datum) → AllHaveTypes (field_types ks) vs → HasType (record_type ks) (record_value vs)
record_typed [] [] h = ([], refl, h)
record_typed [] (v ∷ vs) h = absurd h
record_typed (k ∷ []) [] h = absurd h
record_typed (k ∷ []) (v ∷ []) h = h.0
record_typed (k ∷ []) (v ∷ w ∷ vs) h = absurd h.1
record_typed (k ∷ l ∷ ks) [] h = absurd h
record_typed (k ∷ l ∷ ks) (v ∷ []) h = absurd h.1
record_typed (k ∷ l ∷ ks) (v ∷ w ∷ vs) h = (v ∷ w ∷ vs, refl, h)

-- the same of what a record means
row_typed : (ks : List Kind) (r : ℕ) (x : Record) (d : Datum) → row ks r x ≡ Ok d → HasType (record_type ks) d
row_typed ks r x d e = go (nat_eq (length x) (length ks)) refl e
  where
    go : (b : Bool) → nat_eq (length x) (length ks) ≡ b
        → (if b then result_map record_value (field_values r 1 ks x) else Err (faults.Fields r (length x))) ≡ Ok d → HasType (record_type ks) d
    go true t h =
        let p = mapped record_value (field_values r 1 ks x) d h in
        rw p.2 (record_typed ks p.0 (fields_typed r 1 ks x p.0 (eqb-true (length x) (length ks) t) p.1))
    go false t h = cc h

-- the same of all of them
pub rows_typed : (ks : List Kind) (r : ℕ) (xs : List Record) (ds : List Datum) → rows_from ks r xs ≡ Ok ds → Every (HasType (record_type ks)) ds
rows_typed ks r [] ds e = let k : ds ≡ [] = cc e in rw k tt
rows_typed ks r (x ∷ xs) ds e =
    let p = front_parts (row ks r x) (rows_from ks (r + 1) xs) ds e in
    rw p.4 (row_typed ks r x p.0 p.2, rows_typed ks (r + 1) xs p.1 p.3)

-- the set that bytes give is one of records
pub set_typed : (header : Bool) (ks : List Kind) (bytes : List ℕ) (d : Datum) → set_of header ks bytes ≡ Ok d → HasType (types.set_of (record_type ks)) d
set_typed header ks bytes d e =
    let p = mapped (λ values. datum.set (data_of (canon values))) (rows header ks bytes) d e in
    (canon p.0, p.2, ascending_canon p.0, Every-canon (HasType (record_type ks)) p.0 (all header p.0 p.1))
  where
    all : (b : Bool) (ds : List Datum) → (if b then rows_from ks 2 (drop 1 (records_of bytes)) else rows_from ks 1 (records_of bytes)) ≡ Ok ds → Every (HasType (record_type ks)) ds
    all true ds h = rows_typed ks 2 (drop 1 (records_of bytes)) ds h
    all false ds h = rows_typed ks 1 (records_of bytes) ds h

-- the same of the set with the members that the values of the records make
pub members_typed : (header : Bool) (ks : List Kind) (bytes : List ℕ) (members : List Datum) → result_map canon (rows header ks bytes) ≡ Ok members
    → HasType (types.set_of (record_type ks)) (datum.set (data_of members))
members_typed header ks bytes members e =
    let p = mapped canon (rows header ks bytes) members e in
    set_typed header ks bytes (datum.set (data_of members))
    (ap (result_map (λ values. datum.set (data_of (canon values)))) p.1 ∙ ap (λ ms. Ok (datum.set (data_of ms))) (sym p.2))
