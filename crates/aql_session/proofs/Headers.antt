-- What the reader of headers answers, beside the header of the file's bytes.
use Rattle.std.proofs.Common.{◌≡◌, List, ℕ, Err, refl}
use Rattle.cdf_header.specs.File.{AnswersIfAble, IsLost, header_of}
use Rattle.cdf_header.specs.declared.fault.CdfFault.{CdfFault}
use Rattle.cdf_header.specs.declared.fault.CdfFault.TheVariants as faults
use Rattle.aql_session.specs.Step.{IsOfFile}

-- a fault of the file that is answered is that of the bytes
pub header-failed : (bytes : List ℕ) (f : CdfFault) → IsOfFile f → AnswersIfAble (header_of bytes) (Err f) → header_of bytes ≡ Err f
header-failed bytes faults.Absent u r = r
header-failed bytes faults.NotClassic u r = r
header-failed bytes (faults.Version v) u r = r
header-failed bytes (faults.Malformed k) u r = r
header-failed bytes (faults.TooMany l) u r = r
header-failed bytes faults.NoVariable u r = r
header-failed bytes (faults.Rank n) u r = r
header-failed bytes faults.FloatVariable u r = r
header-failed bytes (faults.Stride d) u r = r
header-failed bytes (faults.Outside d) u r = r
header-failed bytes (faults.Cut n) u r = r
header-failed bytes (faults.Negative n) u r = r
header-failed bytes faults.Device u r = absurd u
header-failed bytes faults.Memory u r = absurd u

-- a file that is not there
pub lost-is : (f : CdfFault) → IsOfFile f → IsLost f → f ≡ faults.Absent
lost-is faults.Absent u r = refl
lost-is faults.NotClassic u r = absurd r
lost-is (faults.Version v) u r = absurd r
lost-is (faults.Malformed k) u r = absurd r
lost-is (faults.TooMany l) u r = absurd r
lost-is faults.NoVariable u r = absurd r
lost-is (faults.Rank n) u r = absurd r
lost-is faults.FloatVariable u r = absurd r
lost-is (faults.Stride d) u r = absurd r
lost-is (faults.Outside d) u r = absurd r
lost-is (faults.Cut n) u r = absurd r
lost-is (faults.Negative n) u r = absurd r
lost-is faults.Device u r = absurd u
lost-is faults.Memory u r = absurd r
