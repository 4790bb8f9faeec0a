-- Reading a file of records, beside the definitions.
use Rattle.std.proofs.Common.{◌≡◌, ◌∙◌, ℕ, ◌+◌, ◌≤◌, ◌⊎◌, Bool, true, false, List, [], ◌∷◌, length, drop, Option, Some, None, Result, Ok, Err, refl, sym, ap, subst, arith, inl, inr, if◌then◌else◌}
use Rattle.std.specs.Prelude.{nat_eq, nat_lt, option_map}
use Rattle.std.specs.Option.{ForSome}
use Rattle.std.specs.Result.{result_ok}
use Rattle.std.specs.Str.{IsUtf8, is_utf8}
use Rattle.std.proofs.lemmas.Bool.{cases_Bool, ltb-false}
use Rattle.std.proofs.lemmas.Str.{IsUtf8-from_is_utf8, is_utf8-from_IsUtf8}
use Rattle.aql_outside.specs.Causes.{Rose}
use Rattle.aql_outside.specs.Contents.{Content}
use Rattle.aql_ty.specs.Types as types
use Rattle.aql_ty.specs.ValueTypes.{HasType}
use Rattle.aql_value.specs.Datum.{Datum}
use Rattle.aql_value.specs.Valid.{IsValue}
use Rattle.aql_syntax.specs.Typing.{record_type}
use Rattle.aql_syntax.specs.declared.ast.CsvReader.{CsvReader}
use Rattle.aql_syntax.specs.declared.ast.Kind.{Kind}
use Rattle.aql_csv.specs.File.{FoundSet, IsGiven, IsTold, outcome, set_of}
use Rattle.aql_csv.specs.Records.{Record, records_of}
use Rattle.aql_csv.specs.Rows.{IsOfRecords, field_value, field_values, in_front, or_fault, record_value, result_map, row, rows, rows_from}
use Rattle.aql_csv.specs.declared.fault.CsvFault.{CsvFault}
use Rattle.aql_csv.specs.declared.fault.CsvFault.TheVariants as csv_faults
use Rattle.nrca_loops.specs.Values.{held_value}
use Rattle.aql_session.specs.Asked.{table}
use Rattle.aql_session.specs.Reading.{file_in, in_table, read_table}
use Rattle.aql_session.specs.Executions.{IsReadCause, IsReadOf, table_handed_on}
use Rattle.aql_session.specs.Step.{GivesTable, HasTableFault, IsOfBytes, IsOfTable}
use Rattle.aql_session.specs.declared.readings.Read.{Read}
use Rattle.aql_session.proofs.Opening.{utf8-is}

-- ---- the faults of records

-- a fault of values one in front of the others is one of these
front-fault : {A : Type 0} (P : CsvFault → Type 0) (a : Result A CsvFault) (rest : Result (List A) CsvFault) (f : CsvFault) → ((g : CsvFault) → a ≡ Err g → P g) →
    ((g : CsvFault) → rest ≡ Err g → P g) → in_front a rest ≡ Err f → P f
front-fault P (Err g) rest f h k e = subst P (let z : g ≡ f = cc in z) (h g refl)
front-fault P (Ok a) (Err g) f h k e = subst P (let z : g ≡ f = cc in z) (k g refl)
front-fault P (Ok a) (Ok rest) f h k e = absurd (cc)

mapped-fault : {A B : Type 0} (g : A → B) (a : Result A CsvFault) (f : CsvFault) → result_map g a ≡ Err f → a ≡ Err f
mapped-fault g (Ok a) f e = cc
mapped-fault g (Err d) f e = cc

fields-fault : (r i : ℕ) (ks : List Kind) (xs : Record) (f : CsvFault) → field_values r i ks xs ≡ Err f → IsOfRecords f
fields-fault r i [] xs f e = absurd (cc)
fields-fault r i (k ∷ ks) [] f e = absurd (cc)
fields-fault r i (k ∷ ks) (x ∷ xs) f e =
    front-fault IsOfRecords (or_fault (csv_faults.Number r i) (field_value k x)) (field_values r (i + 1) ks xs) f (λ g q. there (field_value k x) g q)
    (λ g q. fields-fault r (i + 1) ks xs g q) e
  where
    there : (o : Option Datum) (g : CsvFault) → or_fault (csv_faults.Number r i) o ≡ Err g → IsOfRecords g
    there None g q = subst IsOfRecords (let z : csv_faults.Number r i ≡ g = cc in z) tt
    there (Some v) g q = absurd (cc)

row-fault : (ks : List Kind) (r : ℕ) (x : Record) (f : CsvFault) → row ks r x ≡ Err f → IsOfRecords f
row-fault ks r x f e = go (nat_eq (length x) (length ks)) e
  where
    go : (b : Bool) → (if b then result_map record_value (field_values r 1 ks x) else Err (csv_faults.Fields r (length x))) ≡ Err f → IsOfRecords f
    go true q = fields-fault r 1 ks x f (mapped-fault record_value (field_values r 1 ks x) f q)
    go false q = subst IsOfRecords (let z : csv_faults.Fields r (length x) ≡ f = cc in z) tt

rows-fault : (ks : List Kind) (r : ℕ) (xs : List Record) (f : CsvFault) → rows_from ks r xs ≡ Err f → IsOfRecords f
rows-fault ks r [] f e = absurd (cc)
rows-fault ks r (x ∷ xs) f e = front-fault IsOfRecords (row ks r x) (rows_from ks (r + 1) xs) f (row-fault ks r x) (rows-fault ks (r + 1) xs) e

-- the fault of the records of bytes is one of records
set-fault : (header : Bool) (ks : List Kind) (bytes : List ℕ) (f : CsvFault) → set_of header ks bytes ≡ Err f → IsOfRecords f
set-fault header ks bytes f e = go header (mapped-fault _ (rows header ks bytes) f e)
  where
    go : (b : Bool) → (if b then rows_from ks 2 (drop 1 (records_of bytes)) else rows_from ks 1 (records_of bytes)) ≡ Err f → IsOfRecords f
    go true q = rows-fault ks 2 (drop 1 (records_of bytes)) f q
    go false q = rows-fault ks 1 (records_of bytes) f q

-- ---- what bytes give within a budget

module _ (header : Bool) (ks : List Kind) (budget : ℕ) where
  -- the set that bytes give
  record Gives (bytes : List ℕ) (found : FoundSet) : Type 0 where
    pub gives : set_of header ks bytes ≡ Ok found.value
    pub many : found.bytes ≡ length bytes
    pub within : length bytes ≤ budget

  found-set : (bytes : List ℕ) (found : FoundSet) → outcome header ks budget (Some bytes) ≡ Ok found → Gives bytes found
  found-set bytes found e = go (nat_lt budget (length bytes)) refl e
    where
      made : (r : Result Datum CsvFault) → set_of header ks bytes ≡ r → result_map (λ (value : Datum). let s : FoundSet = record { value = value; bytes = length bytes } in s) r ≡ Ok found →
          (set_of header ks bytes ≡ Ok found.value) × (found.bytes ≡ length bytes)
      made (Ok v) q h = (let z : (let s : FoundSet = record { value = v; bytes = length bytes } in s) ≡ found = cc in (q ∙ ap (λ s. Ok s.value) z, sym (ap (λ s. s.bytes) z)))
      made (Err d) q h = absurd (cc)

      go : (b : Bool) → nat_lt budget (length bytes) ≡ b →
          (if b then Err (csv_faults.Long (length bytes)) else result_map (λ (value : Datum). let s : FoundSet = record { value = value; bytes = length bytes } in s) (set_of header ks bytes)) ≡ Ok found → Gives bytes found
      go true t h = absurd (cc)
      go false t h = let m = made (set_of header ks bytes) refl h in record { gives = m.0; many = m.1; within = ltb-false budget (length bytes) t }

  -- the fault that they give: of the size, or else that of their records
  record Fails (bytes : List ℕ) (f : CsvFault) : Type 0 where
    pub fails : set_of header ks bytes ≡ Err f
    pub within : length bytes ≤ budget

  found-fault : (bytes : List ℕ) (f : CsvFault) → outcome header ks budget (Some bytes) ≡ Err f → (f ≡ csv_faults.Long (length bytes)) ⊎ Fails bytes f
  found-fault bytes f e = go (nat_lt budget (length bytes)) refl e
    where
      go : (b : Bool) → nat_lt budget (length bytes) ≡ b →
          (if b then Err (csv_faults.Long (length bytes)) else result_map (λ (value : Datum). let s : FoundSet = record { value = value; bytes = length bytes } in s) (set_of header ks bytes)) ≡ Err f →
          (f ≡ csv_faults.Long (length bytes)) ⊎ Fails bytes f
      go true t h = inl cc
      go false t h = inr (record { fails = mapped-fault _ (set_of header ks bytes) f h; within = ltb-false budget (length bytes) t })

-- ---- what is read of a file

-- the bytes of a file with a name that is UTF-8, and none of another
named-file : (files : Content) (name : List ℕ) → IsUtf8 name → file_in files name ≡ files name
named-file files name u = ap (λ b. if b then files name else None) (is_utf8-from_IsUtf8 name u)

unnamed-file : (files : Content) (name : List ℕ) → is_utf8 name ≡ false → file_in files name ≡ None
unnamed-file files name e = ap (λ b. if b then files name else None) e

-- a fault of a file of records is none that its size passes the budget
not-long : (f : CsvFault) (n : ℕ) → IsOfTable f → f ≡ csv_faults.Long n → ⊥
not-long f n own e = subst IsOfTable e own

-- one of records alone is neither the size's
long-not : (f : CsvFault) (n : ℕ) → f ≡ csv_faults.Long n → IsOfRecords f → ⊥
long-not f n e h = subst IsOfRecords e h

module _ (file : List ℕ) (header : Bool) (ks : List Kind) (budget : ℕ) (holds : Option Content) where
  -- some bytes that give what was found; where the files are told they are the file's
  record HasBytes (found : FoundSet) : Type 0 where
    pub bytes : List ℕ
    pub gives : GivesTable file header ks holds found.value bytes
    pub many : found.bytes ≡ length bytes
    pub within : found.bytes ≤ budget

  told-bytes : (files : Content) (found : FoundSet) → holds ≡ Some files → outcome header ks budget (files file) ≡ Ok found → HasBytes found
  told-bytes files found l e = go (files file) refl e
    where
      go : (o : Option (List ℕ)) → files file ≡ o → outcome header ks budget o ≡ Ok found → HasBytes found
      go None q h = absurd (cc)
      go (Some bytes) q h =
          let g = found-set header ks budget bytes found h in
          record {
            bytes = bytes;
            gives = record { gives = g.gives; told = λ others k. subst (λ (c : Content). c file ≡ Some bytes) (let y = sym l ∙ k in let z : files ≡ others = cc in z) q };
            many = g.many;
            within = omega (arith, g.many, g.within);
          }

  given-bytes : (bytes : List ℕ) (found : FoundSet) → holds ≡ None → outcome header ks budget (Some bytes) ≡ Ok found → HasBytes found
  given-bytes bytes found l e =
      let g = found-set header ks budget bytes found e in
      record {
        bytes = bytes;
        gives = record { gives = g.gives; told = λ files k. (let y = sym l ∙ k in cc) };
        many = g.many;
        within = omega (arith, g.many, g.within);
      }

  has-bytes : (found : FoundSet) → ((bytes : List ℕ) × (outcome header ks budget (Some bytes) ≡ Ok found)) →
      ((files : Content) → holds ≡ Some files → outcome header ks budget (files file) ≡ Ok found) → HasBytes found
  has-bytes found given told = go holds refl
    where
      go : (o : Option Content) → holds ≡ o → HasBytes found
      go None l = given-bytes given.0 found l given.1
      go (Some files) l = told-bytes files found l (told files l)

  -- a table that was read
  pub table-of : (x : Read) (found : FoundSet) → held_value x.value ≡ Some found.value → x.turns ≡ found.bytes → ((IsUtf8 file → ⊥) → ⊥) →
      ((bytes : List ℕ) × (outcome header ks budget (Some bytes) ≡ Ok found)) →
      (IsUtf8 file → (files : Content) → holds ≡ Some files → outcome header ks budget (files file) ≡ Ok found) → HasType (types.set_of (record_type ks)) found.value → IsValue found.value → IsReadOf (table file header ks) budget holds x
  table-of x found e n unnamed given told typed valid =
      let u = utf8-is file unnamed in
      let h = has-bytes found given (told u) in
      let read : (files : Content) → holds ≡ Some files → read_table files file header ks ≡ Ok found.value =
      λ (files : Content) (l : holds ≡ Some files). ap (in_table header ks) (named-file files file u ∙ h.gives.told files l) ∙ h.gives.gives in
      record {
        value = found.value;
        is = e;
        counts = (h.bytes, h.gives, n ∙ h.many, omega (arith, n, h.within));
        few = omega (arith, n, h.within);
        readable = record {
          within = λ files l bytes q. omega (arith, h.many, h.within, ap length (same files bytes h.bytes l (sym (named-file files file u) ∙ q) (h.gives.told files l)));
          named = u;
          strides = tt;
          file = λ files l. (found.value, read files l);
        };
        typed = typed;
        form = (h.bytes, h.gives);
        told = λ files l. ap result_ok (read files l);
        valid = valid;
      }
    where
      same : (files : Content) (a b : List ℕ) → holds ≡ Some files → files file ≡ Some a → files file ≡ Some b → a ≡ b
      same files a b l p q = let y = sym p ∙ q in cc

  -- a file that is told gives the fault that was found
  read-fails : (files : Content) (f : CsvFault) → IsOfTable f → outcome header ks budget (files file) ≡ Err f →
      ForSome (files file) (λ bytes. length bytes ≤ budget) × (in_table header ks (files file) ≡ Err f)
  read-fails files f own e = go (files file) e
    where
      go : (o : Option (List ℕ)) → outcome header ks budget o ≡ Err f → ForSome o (λ bytes. length bytes ≤ budget) × (in_table header ks o ≡ Err f)
      go None h = ((λ bytes q. cc), ap Err (let z : csv_faults.Absent ≡ f = cc in z))
      go (Some bytes) h = elim (found-fault header ks budget bytes f h) [
        | inl z ↦ absurd (not-long f (length bytes) own z)
        | inr g ↦ ((λ others q. subst (λ b. length b ≤ budget) (let z : bytes ≡ others = cc in z) g.within), g.fails)
      ]

  -- a fault of the file that was found
  table-fault : (f : CsvFault) → IsOfTable f → IsOfBytes header ks budget f → ((IsUtf8 file → ⊥) → f ≡ csv_faults.Absent) →
      (IsUtf8 file → (files : Content) → holds ≡ Some files → outcome header ks budget (files file) ≡ Err f) → HasTableFault budget holds f (table file header ks)
  table-fault f own given unnamed told = (
    λ files l. (at files l (cases_Bool (is_utf8 file))).0,
    record { own = own; unnamed = unnamed; given = given },
    λ files l. (at files l (cases_Bool (is_utf8 file))).1,
  )
    where
      at : (files : Content) → holds ≡ Some files → (is_utf8 file ≡ true) ⊎ (is_utf8 file ≡ false) →
          ForSome (file_in files file) (λ bytes. length bytes ≤ budget) × (read_table files file header ks ≡ Err f)
      at files l (inl e) =
          let u = IsUtf8-from_is_utf8 file e in
          let h = read-fails files f own (told u files l) in
          let s = named-file files file u in
          (subst (λ o. ForSome o (λ bytes. length bytes ≤ budget)) (sym s) h.0, ap (in_table header ks) s ∙ h.1)
      at files l (inr e) =
          let s = unnamed-file files file e in
          let n : f ≡ csv_faults.Absent = unnamed (λ u. (let z : true ≡ false = sym (is_utf8-from_IsUtf8 file u) ∙ e in cc)) in
          (subst (λ o. ForSome o (λ bytes. length bytes ≤ budget)) (sym s) (λ bytes q. cc), ap (in_table header ks) s ∙ ap Err (sym n))

  long-told : (files : Content) (n : ℕ) → outcome header ks budget (files file) ≡ Err (csv_faults.Long n) → option_map length (files file) ≡ Some n
  long-told files n e = go (files file) e
    where
      go : (o : Option (List ℕ)) → outcome header ks budget o ≡ Err (csv_faults.Long n) → option_map length o ≡ Some n
      go None h = absurd (cc)
      go (Some bytes) h = elim (found-fault header ks budget bytes (csv_faults.Long n) h) [
        | inl z ↦ ap Some (let y : length bytes ≡ n = cc in y)
        | inr g ↦ absurd (long-not (csv_faults.Long n) n refl (set-fault header ks bytes (csv_faults.Long n) g.fails))
      ]

  within-fault : (f : CsvFault) → IsOfTable f → ((bytes : List ℕ) × (outcome header ks budget (Some bytes) ≡ Err f)) → (bytes : List ℕ) × (length bytes ≤ budget) × (set_of header ks bytes ≡ Err f)
  within-fault f own (bytes, e) = elim (found-fault header ks budget bytes f e) [
    | inl z ↦ absurd (not-long f (length bytes) own z)
    | inr g ↦ (bytes, g.within, g.fails)
  ]

-- why a table was not read
module _ (file : List ℕ) (reader : CsvReader) (budget : ℕ) (holds : Option Content) where
  abbrev header : Bool
  header = reader.header

  abbrev ks : List Kind
  ks = reader.kinds.items.items

  pub table-cause : (before now : ℕ) (f : CsvFault) → (f ≡ csv_faults.Device → Rose before now) → ((IsUtf8 file → ⊥) → f ≡ csv_faults.Absent) →
      IsGiven reader budget (Err f) → (IsUtf8 file → IsTold holds file reader budget (Err f)) → IsReadCause (table file header ks) budget holds before now (table_handed_on f)
  table-cause before now csv_faults.Absent rose unnamed given told = table-fault file header ks budget holds csv_faults.Absent tt tt unnamed told
  table-cause before now (csv_faults.Long n) rose unnamed given told =
      let u = utf8-is file (λ v. (let z = unnamed v in cc)) in (given, u, λ files l. long-told file header ks budget holds files n (told u files l))
  table-cause before now (csv_faults.Cut k) rose unnamed given told = table-fault file header ks budget holds (csv_faults.Cut k) tt given unnamed told
  table-cause before now (csv_faults.Fields r n) rose unnamed given told =
      table-fault file header ks budget holds (csv_faults.Fields r n) tt (within-fault file header ks budget holds (csv_faults.Fields r n) tt given) unnamed told
  table-cause before now (csv_faults.Number r i) rose unnamed given told =
      table-fault file header ks budget holds (csv_faults.Number r i) tt (within-fault file header ks budget holds (csv_faults.Number r i) tt given) unnamed told
  table-cause before now csv_faults.Device rose unnamed given told = (utf8-is file (λ v. (let z = unnamed v in cc)), rose refl)
  table-cause before now csv_faults.Memory rose unnamed given told = tt
