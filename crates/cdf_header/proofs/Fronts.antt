-- The front of a file grows until its header is read.
use Rattle.std.proofs.Common.{◌≡◌, ℕ, ◌+◌, ◌-◌, ◌≤◌, min, List, ◌++◌, length, take, drop, Result, Err, sym, ap, subst, ◌∙◌, arith, length-take}
use Rattle.std.proofs.Math.Seq.{take-add, take-append-add}
use Rattle.std.proofs.lemmas.List.{take-append-drop, take_min}
use Rattle.cdf_header.specs.File.{IsFront, IsOutside, AnswersIfAble}
use Rattle.cdf_header.specs.Limits.{most_header_bytes}
use Rattle.cdf_header.specs.declared.fault.CdfFault.{CdfFault}
use Rattle.cdf_header.specs.declared.fault.CdfFault.TheVariants as faults
use Rattle.cdf_header.specs.declared.fault.ReadError.{ReadError}
use Rattle.cdf_header.specs.declared.fault.ReadError.TheVariants as errors
use Rattle.cdf_header.specs.Gives.{FailsAt}
use Rattle.cdf_header.specs.declared.fault.FieldFault.{FieldFault}
use Rattle.cdf_header.specs.Header.{Head}
use Rattle.cdf_header.specs.Format.{Format, PartFormat, parse}
use Rattle.cdf_header.proofs.Formats.{IsShort, parse_more}

-- the front with what was read behind it is a front
pub front_read : (bytes front memory new : List ℕ) (start count room : ℕ) → IsFront bytes front → start ≡ length front → new ≡ take (start + count) memory
    → length memory ≡ start + room → take start memory ≡ front → start + room ≤ length bytes
    → count ≡ min (length memory - start) (length bytes - start) → take count (drop start memory) ≡ take count (drop start bytes) → (count ≡ room) × IsFront bytes new
front_read bytes front memory new start count room is start-is new-is long kept within many same =
    let n : count ≡ room = omega arith in
    let l : length new ≡ start + count = ap length new-is ∙ (let t : length (take (start + count) memory) ≡ start + count = omega (arith, length-take (start + count) memory) in t) in
    let f : take start memory ≡ take start bytes = kept ∙ is ∙ ap (λ k. take k bytes) (sym start-is) in (
      n,
      new-is
          ∙ take-add start count memory
          ∙ ap (λ x. x ++ take count (drop start memory)) f
          ∙ ap (λ x. take start bytes ++ x) same
          ∙ sym (take-add start count bytes)
          ∙ ap (λ k. take k bytes) (sym l),
    )

IsFront-rest : (bytes front : List ℕ) → IsFront bytes front → bytes ≡ front ++ drop (length front) bytes
IsFront-rest bytes front is = sym (take-append-drop (length front) bytes) ∙ ap (λ x. x ++ drop (length front) bytes) (sym is)

take_past : (n : ℕ) (front rest : List ℕ) → length front ≤ n → take n (front ++ rest) ≡ front ++ take (n - length front) rest
take_past n front rest le = let n-is : n ≡ length front + (n - length front) = omega arith in ap (λ k. take k (front ++ rest)) n-is ∙ take-append-add front rest (n - length front)

-- the first bytes are the front and more
limited : (bytes front : List ℕ) → IsFront bytes front → length front ≤ most_header_bytes → take most_header_bytes bytes ≡ front ++ take (most_header_bytes - length front) (drop (length front) bytes)
limited bytes front is le = ap (take most_header_bytes) (IsFront-rest bytes front is) ∙ take_past most_header_bytes front (drop (length front) bytes) le

-- what is answered of the front is answered of the first bytes
pub final : (f : Format) (bytes front : List ℕ) (k : ℕ) (r : Result Head FieldFault) → IsFront bytes front → length front ≤ most_header_bytes → parse f front k ≡ r → (IsShort r → ⊥)
    → parse f (take most_header_bytes bytes) k ≡ r
final f bytes front k r is le e h =
    ap (λ x. parse f x k) (limited bytes front is le) ∙ parse_more f front (take (most_header_bytes - length front) (drop (length front) bytes)) k (λ s. h (subst IsShort e s)) ∙ e

-- a front of all the first bytes is those
pub whole : (f : Format) (bytes front : List ℕ) (k : ℕ) (r : Result Head FieldFault) → IsFront bytes front → length front ≡ min most_header_bytes (length bytes) → parse f front k ≡ r
    → parse f (take most_header_bytes bytes) k ≡ r
whole f bytes front k r is all e =
    let same : front ≡ take most_header_bytes bytes = is ∙ ap (λ n. take n bytes) all ∙ take_min most_header_bytes bytes in
    ap (λ x. parse f x k) (sym same) ∙ e

-- a fault of the device or want of memory is answered whatever is meant
pub outside_answers : (read : Result Head CdfFault) (e : CdfFault) → IsOutside e → AnswersIfAble read (Err e)
outside_answers read faults.Absent h = absurd h
outside_answers read faults.NotClassic h = absurd h
outside_answers read (faults.Version v) h = absurd h
outside_answers read (faults.Malformed k) h = absurd h
outside_answers read (faults.TooMany l) h = absurd h
outside_answers read faults.NoVariable h = absurd h
outside_answers read (faults.Rank r) h = absurd h
outside_answers read faults.FloatVariable h = absurd h
outside_answers read (faults.Stride d) h = absurd h
outside_answers read (faults.Outside d) h = absurd h
outside_answers read (faults.Cut k) h = absurd h
outside_answers read (faults.Negative c) h = absurd h
outside_answers read faults.Device h = tt
outside_answers read faults.Memory h = tt

-- the fault that a reader stopped with
pub stopped : {X : Type 0} (part : PartFormat X) (bytes : List ℕ) (k : ℕ) (e : ReadError) (fault : FieldFault) → e ≡ errors.Fault fault → FailsAt part bytes k e → (next : X → Format) → parse (part next) bytes k ≡ Err fault
stopped part bytes k e fault is h = subst (λ x. FailsAt part bytes k x) is h
