-- What is answered of a file, and what the bytes of its front are.
use Rattle.std.proofs.Common.{◌≡◌, ℕ, ◌<◌, ◌≤◌, min, List, length, get_or, Bool, true, Option, Some, Ok, refl, sym, ap, ◌∙◌, arith}
use Rattle.std.proofs.lemmas.List.{get_or-take}
use Rattle.std.specs.Prelude.{[], IsTrue}
use Rattle.aql_outside.specs.Contents.{Content, bytes_in, TellsSize}
use Rattle.aql_outside.specs.Laws.Contents.{size-from_told}
use Rattle.cdf_header.specs.declared.fault.CdfFault.{CdfFault}
use Rattle.cdf_header.specs.declared.fault.CdfFault.TheVariants as faults
use Rattle.cdf_header.specs.File.{IsOutside, IsOfHeader, IsFront, IsClassic}
use Rattle.cdf_header.specs.Limits.{most_header_bytes}

pub same_byte : (bytes front : List ℕ) (i : ℕ) → IsFront bytes front → i < length front → get_or front i 0 ≡ get_or bytes i 0
same_byte bytes front i is lt = ap (λ x. get_or x i 0) is ∙ get_or-take (length front) bytes i 0 lt

pub classic_on : (bytes front : List ℕ) → IsFront bytes front → length front ≤ length bytes → IsClassic front → IsClassic bytes
classic_on bytes front is le (some, a, b, c) =
    (omega arith, sym (same_byte bytes front 0 is (omega arith)) ∙ a, sym (same_byte bytes front 1 is (omega arith)) ∙ b, sym (same_byte bytes front 2 is (omega arith)) ∙ c)

pub classic_back : (bytes front : List ℕ) → IsFront bytes front → min 4 (length bytes) ≤ length front → IsClassic bytes → IsClassic front
classic_back bytes front is le (some, a, b, c) =
    let long : 4 ≤ length front = omega arith in
    (long, same_byte bytes front 0 is (omega arith) ∙ a, same_byte bytes front 1 is (omega arith) ∙ b, same_byte bytes front 2 is (omega arith) ∙ c)

-- the size that is told of these bytes
size_told : (E : Type 0) (holds : Option Content) (name bytes : List ℕ) (size : ℕ) (found : Option ℕ) → found ≡ Some size → bytes_in holds name ≡ Some bytes → TellsSize {E = E} holds name (Ok found) → size ≡ length bytes
size_told E holds name bytes size found is there told =
    let e : Some size ≡ Some (length bytes) = sym is ∙ size-from_told E holds name bytes found there told in cc

-- what the first piece of a file is
pub record Begun (bytes front : List ℕ) (size most : ℕ) (whole : Bool) : Type 0 where
  pub size_is : size ≡ length bytes
  pub full : whole ≡ true
  pub most_is : most ≡ min most_header_bytes (length bytes)
  pub is_front : IsFront bytes front
  pub long : min 4 (length bytes) ≤ length front
  pub within : length front ≤ length bytes

pub begun : (E : Type 0) (holds holds' : Option Content) (name bytes start front : List ℕ) (size most target : ℕ) (found : Option ℕ) (whole : Bool)
    → bytes_in holds name ≡ Some bytes → found ≡ Some size → TellsSize {E = E} holds name (Ok found) → holds' ≡ holds → most ≡ min size most_header_bytes → target ≡ min most 4096 → start ≡ []
    → ((bytes : List ℕ) → bytes_in holds' name ≡ Some bytes → target ≤ length bytes → IsFront bytes start → (whole ≡ true) × IsFront bytes front)
    → (IsTrue whole → target ≤ length front) → length front ≤ target → Begun bytes front size most whole
begun E holds holds' name bytes start front size most target found whole there found-is told kept most-is target-is empty grown all within =
    let size-is = size_told E holds name bytes size found found-is there told in
    let p = grown bytes (ap (λ h. bytes_in h name) kept ∙ there) (omega arith) (rw empty refl) in
    let long : target ≤ length front = all (rw p.0 refl) in
    record { size_is = size-is; full = p.0; most_is = omega arith; is_front = p.1; long = omega arith; within = omega arith }

-- a fault of the device, and want of memory, are among those of a header
pub outside_of_header : (e : CdfFault) → IsOutside e → IsOfHeader e
outside_of_header faults.Device out = tt
outside_of_header faults.Memory out = tt
outside_of_header faults.Absent out = absurd out
outside_of_header faults.NotClassic out = absurd out
outside_of_header (faults.Version v) out = absurd out
outside_of_header (faults.Malformed k) out = absurd out
outside_of_header (faults.TooMany l) out = absurd out
outside_of_header faults.NoVariable out = absurd out
outside_of_header (faults.Rank r) out = absurd out
outside_of_header faults.FloatVariable out = absurd out
outside_of_header (faults.Stride d) out = absurd out
outside_of_header (faults.Outside d) out = absurd out
outside_of_header (faults.Cut k) out = absurd out
outside_of_header (faults.Negative c) out = absurd out
