-- What the definitions give on a small file, by computing.
use Rattle.std.specs.Prelude.{ℕ, ◌≡◌, List, [], ◌∷◌, codes, Some, None, Ok, Err, true, false, refl}
use Rattle.csv.specs.Machine.{next_record}
use Rattle.csv.specs.Reading.{records_from, strip_bom}
use Rattle.aql_value.specs.Datum.{Datum, natural, text, tuple, set, data_of}
use Rattle.aql_syntax.specs.declared.ast.Kind.TheVariants.{Number, Bytes}
use Rattle.aql_csv.specs.File.{outcome}
use Rattle.aql_csv.specs.declared.fault.CsvFault.TheVariants as faults

-- three records, of which two are equal, in 18 bytes
pairs : List ℕ
pairs = codes "1,ab\n2,\"c,d\"\n1,ab\n"

-- the set of the two pairs
two : Datum
two = set (data_of (tuple (data_of (natural 1 ∷ text (codes "ab") ∷ [])) ∷ tuple (data_of (natural 2 ∷ text (codes "c,d") ∷ [])) ∷ []))

-- a number and a string
number-string : outcome false (Number ∷ Bytes ∷ []) 18 (Some pairs) ≡ Ok (record { value = two; bytes = 18 })
unfolding pairs two next_record records_from strip_bom
number-string = refl

-- the same where the first record names the fields
named-fields : outcome true (Number ∷ Bytes ∷ []) 18 (Some pairs) ≡ Ok (record { value = two; bytes = 18 })
unfolding pairs two next_record records_from strip_bom
named-fields = refl

-- one field where there are two
one-field : outcome false (Number ∷ []) 18 (Some pairs) ≡ Err (faults.Fields 1 2)
unfolding pairs next_record records_from strip_bom
one-field = refl

-- two numbers, of which the second is none
two-numbers : outcome false (Number ∷ Number ∷ []) 18 (Some pairs) ≡ Err (faults.Number 1 2)
unfolding pairs next_record records_from strip_bom
two-numbers = refl

-- one byte past the budget
too-long : outcome false (Number ∷ Bytes ∷ []) 17 (Some pairs) ≡ Err (faults.Long 18)
unfolding pairs
too-long = refl

-- a file without bytes, and none
empty : outcome false (Number ∷ Bytes ∷ []) 17 (Some []) ≡ Ok (record { value = set (data_of []); bytes = 0 })
unfolding next_record records_from strip_bom
empty = refl

absent : outcome false (Number ∷ Bytes ∷ []) 17 None ≡ Err faults.Absent
absent = refl

-- no number begins with a sign
sign : outcome false (Number ∷ []) 17 (Some (codes "7\n+1\n")) ≡ Err (faults.Number 2 1)
unfolding next_record records_from strip_bom
sign = refl
