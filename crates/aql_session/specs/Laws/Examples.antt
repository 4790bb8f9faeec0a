-- What the definitions give on small cases, by computing.
use Rattle.std.specs.Prelude.{take, List, ◌≡◌, ℕ, ◌-◌, ◌*◌, ◌^◌, true, false, [], ◌∷◌, Some, None, Err, refl}
use Rattle.aql_value.specs.Datum.{Datum, natural, text, tuple, array, data_of}
use Rattle.aql_syntax.specs.Tree.{plain, signed, strided, records}
use Rattle.aql_syntax.specs.declared.ast.Kind.TheVariants as kinds
use Rattle.aql_syntax.specs.Script.{read_outcome}
use Rattle.aql_outside.specs.Contents.{Content}
use Rattle.aql_csv.specs.declared.fault.CsvFault.TheVariants as csv_faults
use Rattle.aql_session.specs.Asked.{Hyperslab, hyperslab, table, asked_of, cells}
use Rattle.aql_session.specs.Bound.{latest_of}
use Rattle.aql_value.specs.Indices.{indices}
use Rattle.cdf_header.specs.Format as format
use Rattle.cdf_header.specs.Format.{num, str, name, list, many, times, dimension, dims, skip, attribute, attributes, id, ids, vars, header}
use Rattle.cdf_header.specs.declared.fault.CdfFault.TheVariants as faults
use Rattle.aql_session.specs.Reading.{at_name, fault_in, in_table, reading, value_in}
use Rattle.aql_session.specs.Step.{choice}
use Rattle.aql_session.specs.declared.answer.Ran.TheVariants as ran

-- `s.nc`
file : Datum
file = text (115 ∷ 46 ∷ 110 ∷ 99 ∷ [])

-- `v`
variable : Datum
variable = text (118 ∷ [])

-- a pair of numbers
pair : ℕ → ℕ → Datum
pair m n = tuple (data_of (natural m ∷ natural n ∷ []))

-- ("s.nc", "v", (0, 1), (2, 3)) by NETCDF2: each stride is 1
plain-two : asked_of (plain 2) (tuple (data_of (file ∷ variable ∷ pair 0 1 ∷ pair 2 3 ∷ []))) ≡
    Some (hyperslab (record { file = 115 ∷ 46 ∷ 110 ∷ 99 ∷ []; variable = 118 ∷ []; start = 0 ∷ 1 ∷ []; count = 2 ∷ 3 ∷ []; stride = 1 ∷ 1 ∷ []; signed = false }))
unfolding file variable pair
plain-two = refl

-- ("s.nc", "v", 4, 5) by NETCDFZ1: one number is an index of rank 1
signed-one : asked_of (signed 1) (tuple (data_of (file ∷ variable ∷ natural 4 ∷ natural 5 ∷ []))) ≡
    Some (hyperslab (record { file = 115 ∷ 46 ∷ 110 ∷ 99 ∷ []; variable = 118 ∷ []; start = 4 ∷ []; count = 5 ∷ []; stride = 1 ∷ []; signed = true }))
unfolding file variable
signed-one = refl

-- ("s.nc", "v", (0, 1), (2, 3), (6, 7)) by NETCDFS2
strided-two : asked_of (strided 2) (tuple (data_of (file ∷ variable ∷ pair 0 1 ∷ pair 2 3 ∷ pair 6 7 ∷ []))) ≡
    Some (hyperslab (record { file = 115 ∷ 46 ∷ 110 ∷ 99 ∷ []; variable = 118 ∷ []; start = 0 ∷ 1 ∷ []; count = 2 ∷ 3 ∷ []; stride = 6 ∷ 7 ∷ []; signed = false }))
unfolding file variable pair
strided-two = refl

-- a rank 1 has no tuples as indices
plain-one : asked_of (plain 1) (tuple (data_of (file ∷ variable ∷ pair 0 1 ∷ pair 2 3 ∷ []))) ≡ None
unfolding file variable pair
plain-one = refl

-- strides stand in no other reader's argument
plain-strides : asked_of (plain 2) (tuple (data_of (file ∷ variable ∷ pair 0 1 ∷ pair 2 3 ∷ pair 1 1 ∷ []))) ≡ None
unfolding file variable pair
plain-strides = refl

-- "s.nc" by CSVHNS: the table of that file
all-records : asked_of (records true (kinds.Number ∷ kinds.Bytes ∷ [])) file ≡ Some (table (115 ∷ 46 ∷ 110 ∷ 99 ∷ []) true (kinds.Number ∷ kinds.Bytes ∷ []))
unfolding file
all-records = refl

-- a number names no file
no-name : asked_of (records false (kinds.Number ∷ [])) (natural 1) ≡ None
no-name = refl

-- without a file
no-file : in_table false (kinds.Number ∷ []) None ≡ Err csv_faults.Absent
no-file = refl

-- what asks for these counts
counts : ℕ → ℕ → Hyperslab
counts m n = record { file = []; variable = []; start = 0 ∷ 0 ∷ []; count = m ∷ n ∷ []; stride = 1 ∷ 1 ∷ []; signed = false }

-- a 0 makes the number of cells 0, however large the other count
cells-none : cells (counts (2 ^ 128 - 1) 0) ≡ 0
unfolding counts
cells-none = refl

-- a product past 2^128-1 is kept as it is
cells-many : cells (counts (2 ^ 128 - 1) 2) ≡ 2 * (2 ^ 128 - 1)
unfolding counts
cells-many = refl

-- an undefined argument gives an undefined outcome, whatever the files
undefined : (files : Content) → read_outcome (reading files (plain 1)) None ≡ Some None
undefined files = refl

-- the second `x` hides the first
latest-hides : latest_of ((120 ∷ [], Some (natural 1)) ∷ (121 ∷ [], None) ∷ (120 ∷ [], None) ∷ []) (120 ∷ []) ≡ Some 3
latest-hides = refl

-- a name that no position bound has none
latest-none : latest_of ((120 ∷ [], None) ∷ []) (122 ∷ []) ≡ None
latest-none = refl

-- a file of version 1 with a record dimension `x`, a dimension `y` of length 3, and a variable `v` of shorts over both, of two records
records_file : List ℕ
records_file =
    67 ∷ 68 ∷ 70 ∷ 1 ∷ 0 ∷ 0 ∷ 0 ∷ 2 ∷ 0 ∷ 0 ∷ 0 ∷ 10 ∷ 0 ∷ 0 ∷ 0 ∷ 2
    ∷ 0 ∷ 0 ∷ 0 ∷ 1 ∷ 120 ∷ 0 ∷ 0 ∷ 0 ∷ 0 ∷ 0 ∷ 0 ∷ 0
    ∷ 0 ∷ 0 ∷ 0 ∷ 1 ∷ 121 ∷ 0 ∷ 0 ∷ 0 ∷ 0 ∷ 0 ∷ 0 ∷ 3
    ∷ 0 ∷ 0 ∷ 0 ∷ 0 ∷ 0 ∷ 0 ∷ 0 ∷ 0 ∷ 0 ∷ 0 ∷ 0 ∷ 11 ∷ 0 ∷ 0 ∷ 0 ∷ 1
    ∷ 0 ∷ 0 ∷ 0 ∷ 1 ∷ 118 ∷ 0 ∷ 0 ∷ 0 ∷ 0 ∷ 0 ∷ 0 ∷ 2 ∷ 0 ∷ 0 ∷ 0 ∷ 0 ∷ 0 ∷ 0 ∷ 0 ∷ 1 ∷ 0 ∷ 0 ∷ 0 ∷ 0 ∷ 0 ∷ 0 ∷ 0 ∷ 0
    ∷ 0 ∷ 0 ∷ 0 ∷ 3 ∷ 0 ∷ 0 ∷ 0 ∷ 8 ∷ 0 ∷ 0 ∷ 0 ∷ 96
    ∷ 0 ∷ 1 ∷ 0 ∷ 2 ∷ 0 ∷ 3 ∷ 0 ∷ 4 ∷ 0 ∷ 5 ∷ 0 ∷ 6 ∷ []

-- what asks for the first cells of `v`
wanted : ℕ → ℕ → Hyperslab
wanted m n = record { file = 115 ∷ 46 ∷ 110 ∷ 99 ∷ []; variable = 118 ∷ []; start = 0 ∷ 0 ∷ []; count = m ∷ n ∷ []; stride = 1 ∷ 1 ∷ []; signed = false }

-- both records: the second slab stands right behind the first, unpadded, since there is one record variable
reads-both : value_in (wanted 2 3) (at_name (wanted 2 3) (Some records_file)) ≡
    Some (array (2 ∷ 3 ∷ []) (data_of (natural 1 ∷ natural 2 ∷ natural 3 ∷ natural 4 ∷ natural 5 ∷ natural 6 ∷ [])))
unfolding records_file wanted num str name list many times dimension dims skip attribute attributes id ids format.variable vars header indices
reads-both = refl

-- and there is no fault
faultless : fault_in (wanted 2 3) (at_name (wanted 2 3) (Some records_file)) ≡ None
unfolding records_file wanted num str name list many times dimension dims skip attribute attributes id ids format.variable vars header indices
faultless = refl

-- four cells of the second dimension, which has three
outside : fault_in (wanted 2 4) (at_name (wanted 2 4) (Some records_file)) ≡ Some (faults.Outside 2)
unfolding records_file wanted num str name list many times dimension dims skip attribute attributes id ids format.variable vars header indices
outside = refl

-- without its last byte the last cell, at offset 106, is cut
cut_off : fault_in (wanted 2 3) (at_name (wanted 2 3) (Some (take 107 records_file))) ≡ Some (faults.Cut 106)
unfolding records_file wanted num str name list many times dimension dims skip attribute attributes id ids format.variable vars header indices
cut_off = refl

-- a file of three bytes
short : fault_in (wanted 2 3) (at_name (wanted 2 3) (Some (take 3 records_file))) ≡ Some faults.NotClassic
unfolding records_file wanted
short = refl

-- a header that ends within a field: the first that fails begins at offset 40
malformed : fault_in (wanted 2 3) (at_name (wanted 2 3) (Some (take 42 records_file))) ≡ Some (faults.Malformed 40)
unfolding records_file wanted num str name list many times dimension dims skip attribute attributes id ids format.variable vars header indices
malformed = refl

-- the turns of the plan pass the budget: the start term counts, though the moved term takes fewer
start-counts : choice 10 20 8 (Some 3) ≡ Some (ran.Start, 8)
start-counts = refl

-- those of the start term pass it too: the moved term counts
moved-counts : choice 10 20 30 (Some 8) ≡ Some (ran.Moved, 8)
moved-counts = refl

-- none counts: the turns of all three pass it
none-counts : choice 10 20 30 (Some 11) ≡ None
none-counts = refl

-- without a moved term there are two
two-terms : choice 10 20 30 None ≡ None
two-terms = refl
