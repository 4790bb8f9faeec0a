-- The lines of faults.
use Rattle.std.specs.Prelude.{ℕ, List, [], ◌++◌, codes, decimal}
use Rattle.aql_csv.specs.declared.fault.CsvFault.{CsvFault}
use Rattle.aql_csv.specs.declared.fault.CsvFault.TheVariants as csv
use Rattle.cdf_header.specs.declared.fault.CdfFault.{CdfFault}
use Rattle.cdf_header.specs.declared.fault.CdfFault.TheVariants as cdf

-- a fault at a byte
abbrev pub at_byte : List ℕ → ℕ → List ℕ
at_byte fault k = codes "fault " ++ (fault ++ (codes " at byte " ++ (decimal k ++ codes "\n")))

-- a fault in a declaration
abbrev pub in_declaration : List ℕ → ℕ → List ℕ
in_declaration fault n = codes "fault " ++ (fault ++ (codes " in declaration " ++ (decimal n ++ codes "\n")))

-- what is said of a fault of a netCDF file
abbrev pub kind_text : CdfFault → List ℕ
kind_text cdf.Absent = codes "absent"
kind_text cdf.NotClassic = codes "not classic"
kind_text (cdf.Version v) = codes "version " ++ decimal v
kind_text (cdf.Malformed k) = codes "malformed at " ++ decimal k
kind_text (cdf.TooMany l) = codes "too many in list " ++ decimal l
kind_text cdf.NoVariable = codes "no variable"
kind_text (cdf.Rank r) = codes "rank " ++ decimal r
kind_text cdf.FloatVariable = codes "float variable"
kind_text (cdf.Stride j) = codes "stride " ++ decimal j
kind_text (cdf.Outside j) = codes "outside dimension " ++ decimal j
kind_text (cdf.Cut k) = codes "cut at " ++ decimal k
kind_text (cdf.Negative c) = codes "negative cell " ++ decimal c
kind_text cdf.Device = []
kind_text cdf.Memory = []

-- what is said of a fault of a file of records
abbrev pub table_text : CsvFault → List ℕ
table_text csv.Absent = codes "absent"
table_text (csv.Long n) = []
table_text (csv.Cut k) = codes "cut at " ++ decimal k
table_text (csv.Fields r n) = codes "fields " ++ (decimal n ++ (codes " in record " ++ decimal r))
table_text (csv.Number r f) = codes "number in field " ++ (decimal f ++ (codes " of record " ++ decimal r))
table_text csv.Device = []
table_text csv.Memory = []

-- a fault of which this is said, of the file that declaration n reads
abbrev pub about_file : ℕ → List ℕ → List ℕ
about_file n said = codes "fault file in declaration " ++ (decimal n ++ (codes ": " ++ (said ++ codes "\n")))

-- a fault of the netCDF file that declaration n reads
abbrev pub of_file : ℕ → CdfFault → List ℕ
of_file n f = about_file n (kind_text f)

-- a fault of the file of records that declaration n reads
abbrev pub of_table : ℕ → CsvFault → List ℕ
of_table n f = about_file n (table_text f)
