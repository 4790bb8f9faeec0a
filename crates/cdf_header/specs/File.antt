-- What the reader of a file answers.
use Rattle.std.specs.Prelude.{◌≡◌, ◌-◌, ◌≤◌, min, drop, ℕ, Bool, true, ◌&&◌, ◌||◌, nat_le, nat_eq, List, length, take, get_or, Some, Result, Ok, Err, IfOk, IsErrOf, ◌⊎◌, if◌then◌else◌}
use Rattle.cdf_header.specs.Format.{header, done, parse, Field, Kind, Spells, Fails, fault_at}
use Rattle.cdf_header.specs.declared.fault.FieldFault.{FieldFault}
use Rattle.cdf_header.specs.declared.fault.FieldFault.TheVariants.{Short, Malformed, TooMany}
use Rattle.cdf_header.specs.declared.fault.CdfFault.{CdfFault}
use Rattle.cdf_header.specs.declared.fault.CdfFault.TheVariants as faults
use Rattle.cdf_header.specs.Header.{Head}
use Rattle.cdf_header.specs.Limits.{most_header_bytes}

-- these bytes are the front of the file's
abbrev pub IsFront : (bytes front : List ℕ) → Type 0
IsFront bytes front = front ≡ take (length front) bytes

-- a read towards a length keeps the front of these bytes one, and comes whole, where there are so many
abbrev pub StaysFront : (bytes : List ℕ) → (target : ℕ) → (before now : List ℕ) → Result Bool CdfFault → Type 0
StaysFront bytes target before now result =
    target ≤ length bytes → IsFront bytes before → IfOk result (λ whole. (whole ≡ true) × IsFront bytes now)

-- the bytes from an offset on come over the memory behind it, as many as the smaller of the room and the rest
abbrev pub IsReadBehind : (bytes : List ℕ) → (start : ℕ) → (memory : List ℕ) → Result ℕ CdfFault → Type 0
IsReadBehind bytes start memory result = IfOk result (λ n.
    (n ≡ min (length memory - start) (length bytes - start)) × (take n (drop start memory) ≡ take n (drop start bytes)))

-- a fault of the device, or want of memory
abbrev pub IsOutside : CdfFault → Type 0
IsOutside faults.Device = Unit {0}
IsOutside faults.Memory = Unit {0}
IsOutside e = ⊥

-- the device is answered to have failed
abbrev pub IsDevice : {T : Type 0} → Result T CdfFault → Type 0
IsDevice result = IsErrOf result faults.Device

-- ---- the header of a file, as a function of its bytes

-- whether there are four bytes or more, of which the first three are `CDF`
abbrev pub is_classic : List ℕ → Bool
is_classic bytes = nat_le 4 (length bytes) && (nat_eq (get_or bytes 0 0) 67 && (nat_eq (get_or bytes 1 0) 68 && nat_eq (get_or bytes 2 0) 70))

-- whether the version is one that is read
abbrev pub is_known : ℕ → Bool
is_known v = nat_eq v 1 || (nat_eq v 2 || nat_eq v 5)

-- the version that the fourth byte is
abbrev pub version : List ℕ → ℕ
version bytes = get_or bytes 3 0

-- the bytes that a header may take
abbrev pub first : List ℕ → List ℕ
first bytes = take most_header_bytes bytes

-- the fault of a file whose first field that fails has this one
abbrev pub field_fault : FieldFault → CdfFault
field_fault (Short k) = faults.Malformed k
field_fault (Malformed k) = faults.Malformed k
field_fault (TooMany l) = faults.TooMany l

-- the same beside a header that was read
abbrev pub fields_answer : Result Head FieldFault → Result Head CdfFault
fields_answer (Ok h) = Ok h
fields_answer (Err f) = Err (field_fault f)

-- what the fields behind the first four bytes of a file say, of so many bytes and of a version, or the fault of the first that fails
abbrev pub fields_of : (size v : ℕ) → List ℕ → Result Head CdfFault
fields_of size v bytes = fields_answer (parse (header size v done) (first bytes) 4)

-- the header of a file of these bytes, or the first fault: NotClassic, Version, then that of the first field that fails
abbrev pub header_of : List ℕ → Result Head CdfFault
header_of bytes =
    if is_classic bytes
    then (if is_known (version bytes) then fields_of (length bytes) (version bytes) bytes else Err (faults.Version (version bytes)))
    else Err faults.NotClassic

-- this is answered, unless the device fails or memory is wanting
abbrev pub AnswersIfAble : (meant : Result Head CdfFault) → Result Head CdfFault → Type 0
AnswersIfAble meant (Ok h) = meant ≡ Ok h
AnswersIfAble meant (Err faults.Device) = Unit {0}
AnswersIfAble meant (Err faults.Memory) = Unit {0}
AnswersIfAble meant (Err e) = meant ≡ Err e

-- ---- the relation between a file and its header

-- four bytes or more, of which the first three are `CDF`
abbrev pub IsClassic : List ℕ → Type 0
IsClassic bytes = (4 ≤ length bytes) × (get_or bytes 0 0 ≡ 67) × (get_or bytes 1 0 ≡ 68) × (get_or bytes 2 0 ≡ 70)

-- the versions that are read
abbrev pub IsVersion : ℕ → Type 0
IsVersion v = (v ≡ 1) ⊎ ((v ≡ 2) ⊎ (v ≡ 5))

-- good fields behind the first four bytes spell the header
pub record IsHeader (bytes : List ℕ) (h : Head) : Type 0 where
  pub classic : IsClassic bytes
  pub known : IsVersion (version bytes)
  pub fields : List Field
  pub spells : Spells (header (length bytes) (version bytes) done) (first bytes) 4 fields h

-- good fields spell the bytes before `at`, a field of a kind must come next, and none that is good stands there, for this reason
pub record FirstFails (bytes : List ℕ) (at : ℕ) (why : FieldFault) : Type 0 where
  pub classic : IsClassic bytes
  pub known : IsVersion (version bytes)
  pub fields : List Field
  pub kind : Kind
  pub fails : Fails (header (length bytes) (version bytes) done) (first bytes) 4 fields at kind
  pub cause : fault_at kind (first bytes) at ≡ Some why

-- what is answered of a file of these bytes
abbrev pub HeaderAnswer : List ℕ → Result Head CdfFault → Type 0
HeaderAnswer bytes (Ok h) = IsHeader bytes h
HeaderAnswer bytes (Err faults.Absent) = ⊥
HeaderAnswer bytes (Err faults.NotClassic) = IsClassic bytes → ⊥
HeaderAnswer bytes (Err (faults.Version v)) = IsClassic bytes × (v ≡ version bytes) × (IsVersion v → ⊥)
HeaderAnswer bytes (Err (faults.Malformed k)) = FirstFails bytes k (Short k) ⊎ FirstFails bytes k (Malformed k)
HeaderAnswer bytes (Err (faults.TooMany l)) = (at : ℕ) × FirstFails bytes at (TooMany l)
HeaderAnswer bytes (Err faults.Device) = Unit {0}
HeaderAnswer bytes (Err faults.Memory) = Unit {0}
HeaderAnswer bytes (Err e) = ⊥

-- no file, or the device
abbrev pub IsLost : CdfFault → Type 0
IsLost faults.Absent = Unit {0}
IsLost faults.Device = Unit {0}
IsLost e = ⊥

-- a fault that reading a header may have, whatever the files tell
abbrev pub IsOfHeader : CdfFault → Type 0
IsOfHeader faults.Absent = Unit {0}
IsOfHeader faults.NotClassic = Unit {0}
IsOfHeader (faults.Version v) = IsVersion v → ⊥
IsOfHeader (faults.Malformed k) = Unit {0}
IsOfHeader (faults.TooMany l) = Unit {0}
IsOfHeader faults.Device = Unit {0}
IsOfHeader faults.Memory = Unit {0}
IsOfHeader e = ⊥

-- what good fields spell, or the fault of the first that fails, is answered
abbrev pub FieldsAreAnswered : Type 0
FieldsAreAnswered = (bytes : List ℕ) (r : Result Head CdfFault) → HeaderAnswer bytes r → AnswersIfAble (header_of bytes) r

-- what is answered, the device and memory apart, is what good fields spell or the fault of the first that fails
abbrev pub AnswersAreOfFields : Type 0
AnswersAreOfFields = (bytes : List ℕ) (r : Result Head CdfFault) → AnswersIfAble (header_of bytes) r → HeaderAnswer bytes r
