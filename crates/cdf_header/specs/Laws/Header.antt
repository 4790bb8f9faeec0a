-- Laws on the header of a file: the function `header_of` of its bytes, and the relation of what good fields spell, say the same.
use Rattle.std.proofs.Common.{◌≡◌, ℕ, List, length, true, false, Some, Result, Ok, Err, refl, sym, ap, subst, ◌∙◌, inl, inr, nat_eq, eq-eqb, if◌then◌else◌}
use Rattle.std.proofs.lemmas.Bool.{cases_Bool, le-leb, leb-true, eqb-true, and_from, and_parts, or_left, or_right, or_cases}
use Rattle.std.specs.Prelude.{◌||◌}
use Rattle.cdf_header.specs.declared.fault.FieldFault.{FieldFault}
use Rattle.cdf_header.specs.declared.fault.FieldFault.TheVariants.{Short, Malformed, TooMany}
use Rattle.cdf_header.specs.declared.fault.CdfFault.{CdfFault}
use Rattle.cdf_header.specs.declared.fault.CdfFault.TheVariants as faults
use Rattle.cdf_header.specs.Format.{header, done, parse, Kind, fault_at}
use Rattle.cdf_header.specs.File.{IsClassic, IsVersion, FirstFails, HeaderAnswer, AnswersIfAble, is_classic, is_known, field_fault, fields_answer, fields_of, header_of, version, first}
use Rattle.cdf_header.specs.Header.{Head}
use Rattle.cdf_header.specs.Laws.Format.{parse_spells, parse_fails, spells_parse, fails_parse, short_at, malformed_at}
use Rattle.cdf_header.specs.Laws.Size.{header-bytes}

-- ---- the tests of the function and of the relation

pub classic-true : (bytes : List ℕ) → IsClassic bytes → is_classic bytes ≡ true
classic-true bytes (l, c, d, f) = and_from _ _ (le-leb _ _ l) (and_from _ _ (eq-eqb _ _ c) (and_from _ _ (eq-eqb _ _ d) (eq-eqb _ _ f)))

pub classic-is : (bytes : List ℕ) → is_classic bytes ≡ true → IsClassic bytes
classic-is bytes e =
    let a = and_parts _ _ e in
    let b = and_parts _ _ a.1 in
    let c = and_parts _ _ b.1 in
    (leb-true _ _ a.0, eqb-true _ _ b.0, eqb-true _ _ c.0, eqb-true _ _ c.1)

pub classic-false : (bytes : List ℕ) → (IsClassic bytes → ⊥) → is_classic bytes ≡ false
classic-false bytes h = elim (cases_Bool (is_classic bytes)) [ inl e ↦ absurd (h (classic-is bytes e)) | inr e ↦ e ]

pub known-true : (v : ℕ) → IsVersion v → is_known v ≡ true
known-true v (inl e) = or_left (nat_eq v 1) (nat_eq v 2 || nat_eq v 5) (eq-eqb v 1 e)
known-true v (inr (inl e)) = or_right (nat_eq v 1) (nat_eq v 2 || nat_eq v 5) (or_left (nat_eq v 2) (nat_eq v 5) (eq-eqb v 2 e))
known-true v (inr (inr e)) = or_right (nat_eq v 1) (nat_eq v 2 || nat_eq v 5) (or_right (nat_eq v 2) (nat_eq v 5) (eq-eqb v 5 e))

pub known-is : (v : ℕ) → is_known v ≡ true → IsVersion v
known-is v e = elim (or_cases (nat_eq v 1) (nat_eq v 2 || nat_eq v 5) e) [
  | inl f ↦ inl (eqb-true v 1 f)
  | inr g ↦ elim (or_cases (nat_eq v 2) (nat_eq v 5) g) [ inl f ↦ inr (inl (eqb-true v 2 f)) | inr f ↦ inr (inr (eqb-true v 5 f)) ]
]

pub known-false : (v : ℕ) → (IsVersion v → ⊥) → is_known v ≡ false
known-false v h = elim (cases_Bool (is_known v)) [ inl e ↦ absurd (h (known-is v e)) | inr e ↦ e ]

-- ---- the header of a file, by its first bytes

-- of a classic file of a known version the fields tell
pub header_of-fields : (bytes : List ℕ) → IsClassic bytes → IsVersion (version bytes) → header_of bytes ≡ fields_of (length bytes) (version bytes) bytes
header_of-fields bytes c k =
    let r : Result Head CdfFault = fields_of (length bytes) (version bytes) bytes in
    let other : Result Head CdfFault = Err (faults.Version (version bytes)) in
    let not : Result Head CdfFault = Err faults.NotClassic in
    ap (λ b. if b then (if is_known (version bytes) then r else other) else not) (classic-true bytes c) ∙ ap (λ b. if b then r else other) (known-true (version bytes) k)

-- of bytes that are not classic
pub header_of-not_classic : (bytes : List ℕ) → (IsClassic bytes → ⊥) → header_of bytes ≡ Err faults.NotClassic
header_of-not_classic bytes h =
    let not : Result Head CdfFault = Err faults.NotClassic in
    ap (λ b. if b then (if is_known (version bytes) then fields_of (length bytes) (version bytes) bytes else Err (faults.Version (version bytes))) else not) (classic-false bytes h)

-- of a classic file of another version
pub header_of-version : (bytes : List ℕ) → IsClassic bytes → (IsVersion (version bytes) → ⊥) → header_of bytes ≡ Err (faults.Version (version bytes))
header_of-version bytes c h =
    let r : Result Head CdfFault = fields_of (length bytes) (version bytes) bytes in
    let other : Result Head CdfFault = Err (faults.Version (version bytes)) in
    let not : Result Head CdfFault = Err faults.NotClassic in
    ap (λ b. if b then (if is_known (version bytes) then r else other) else not) (classic-true bytes c) ∙ ap (λ b. if b then r else other) (known-false (version bytes) h)

-- ---- what the relation says the function answers

first-fails : (bytes : List ℕ) (at : ℕ) (why : FieldFault) → FirstFails bytes at why → header_of bytes ≡ Err (field_fault why)
first-fails bytes at why f =
    let p = fails_parse (header (length bytes) (version bytes) done) (first bytes) 4 f.fields at f.kind f.fails in
    let same : p.0 ≡ why = (let e : Some p.0 ≡ Some why = sym p.2 ∙ f.cause in cc) in
    header_of-fields bytes f.classic f.known ∙ ap fields_answer p.1 ∙ ap (λ g. Err (field_fault g)) same

-- a header that good fields spell, and the fault of the first that fails, are answered
pub reading-answered : (bytes : List ℕ) (r : Result Head CdfFault) → HeaderAnswer bytes r → AnswersIfAble (header_of bytes) r
reading-answered bytes (Ok h) r =
    header_of-fields bytes r.classic r.known ∙ ap fields_answer (spells_parse (header (length bytes) (version bytes) done) (first bytes) 4 r.fields h r.spells)
reading-answered bytes (Err faults.Absent) r = absurd r
reading-answered bytes (Err faults.NotClassic) r = header_of-not_classic bytes r
reading-answered bytes (Err (faults.Version v)) r =
    header_of-version bytes r.0 (subst (λ n. IsVersion n → ⊥) r.1 r.2) ∙ ap (λ n. Err (faults.Version n)) (sym r.1)
reading-answered bytes (Err (faults.Malformed k)) (inl r) = first-fails bytes k (Short k) r
reading-answered bytes (Err (faults.Malformed k)) (inr r) = first-fails bytes k (Malformed k) r
reading-answered bytes (Err (faults.TooMany l)) r = first-fails bytes r.0 (TooMany l) r.1
reading-answered bytes (Err faults.NoVariable) r = absurd r
reading-answered bytes (Err (faults.Rank n)) r = absurd r
reading-answered bytes (Err faults.FloatVariable) r = absurd r
reading-answered bytes (Err (faults.Stride d)) r = absurd r
reading-answered bytes (Err (faults.Outside d)) r = absurd r
reading-answered bytes (Err (faults.Cut n)) r = absurd r
reading-answered bytes (Err (faults.Negative n)) r = absurd r
reading-answered bytes (Err faults.Device) r = tt
reading-answered bytes (Err faults.Memory) r = tt

-- ---- what the function answers the relation says

first-failed : (bytes : List ℕ) (why : FieldFault) → IsClassic bytes → IsVersion (version bytes) → parse (header (length bytes) (version bytes) done) (first bytes) 4 ≡ Err why
    → (at : ℕ) × FirstFails bytes at why × (kind : Kind) × (fault_at kind (first bytes) at ≡ Some why)
first-failed bytes why classic known e =
    let p = parse_fails (header (length bytes) (version bytes) done) (first bytes) 4 why e in
    (p.1, record { classic = classic; known = known; fields = p.0; kind = p.2; fails = p.3; cause = p.4 }, p.2, p.4)

fields-read : (bytes : List ℕ) → IsClassic bytes → IsVersion (version bytes) → (read : Result Head FieldFault) → parse (header (length bytes) (version bytes) done) (first bytes) 4 ≡ read
    → HeaderAnswer bytes (fields_answer read)
fields-read bytes classic known (Ok h) e = let p = parse_spells _ _ _ _ e in record { classic = classic; known = known; fields = p.0; spells = p.1 }
fields-read bytes classic known (Err (Short k)) e =
    let p = first-failed bytes (Short k) classic known e in
    inl (subst (λ n. FirstFails bytes n (Short k)) (sym (short_at p.2 (first bytes) p.0 k p.3)) p.1)
fields-read bytes classic known (Err (Malformed k)) e =
    let p = first-failed bytes (Malformed k) classic known e in
    inr (subst (λ n. FirstFails bytes n (Malformed k)) (sym (malformed_at p.2 (first bytes) p.0 k p.3)) p.1)
fields-read bytes classic known (Err (TooMany l)) e = let p = first-failed bytes (TooMany l) classic known e in (p.0, p.1)

-- the answer of the function is one that the relation has
pub reading-header_of : (bytes : List ℕ) → HeaderAnswer bytes (header_of bytes)
reading-header_of bytes =
    elim (cases_Bool (is_classic bytes)) [
      | inr strange ↦
          (let other : IsClassic bytes → ⊥ = λ c. (let z : true ≡ false = sym (classic-true bytes c) ∙ strange in cc) in
          subst (HeaderAnswer bytes) (sym (header_of-not_classic bytes other)) other)
      | inl classic ↦
          (let c = classic-is bytes classic in
          elim (cases_Bool (is_known (version bytes))) [
            | inl known ↦
                (let k = known-is (version bytes) known in
                subst (HeaderAnswer bytes) (sym (header_of-fields bytes c k)) (fields-read bytes c k (parse (header (length bytes) (version bytes) done) (first bytes) 4) refl))
            | inr unknown ↦
                (let other : IsVersion (version bytes) → ⊥ = λ k. (let z : true ≡ false = sym (known-true (version bytes) k) ∙ unknown in cc) in
                subst (HeaderAnswer bytes) (sym (header_of-version bytes c other)) (c, refl, other))
          ])
    ]

-- what is answered, the device and memory apart, is what the relation says
pub answered-reading : (bytes : List ℕ) (r : Result Head CdfFault) → AnswersIfAble (header_of bytes) r → HeaderAnswer bytes r
answered-reading bytes (Ok h) a = subst (HeaderAnswer bytes) a (reading-header_of bytes)
answered-reading bytes (Err faults.Device) a = tt
answered-reading bytes (Err faults.Memory) a = tt
answered-reading bytes (Err faults.Absent) a = subst (HeaderAnswer bytes) a (reading-header_of bytes)
answered-reading bytes (Err faults.NotClassic) a = subst (HeaderAnswer bytes) a (reading-header_of bytes)
answered-reading bytes (Err (faults.Version v)) a = subst (HeaderAnswer bytes) a (reading-header_of bytes)
answered-reading bytes (Err (faults.Malformed k)) a = subst (HeaderAnswer bytes) a (reading-header_of bytes)
answered-reading bytes (Err (faults.TooMany l)) a = subst (HeaderAnswer bytes) a (reading-header_of bytes)
answered-reading bytes (Err faults.NoVariable) a = subst (HeaderAnswer bytes) a (reading-header_of bytes)
answered-reading bytes (Err (faults.Rank n)) a = subst (HeaderAnswer bytes) a (reading-header_of bytes)
answered-reading bytes (Err faults.FloatVariable) a = subst (HeaderAnswer bytes) a (reading-header_of bytes)
answered-reading bytes (Err (faults.Stride d)) a = subst (HeaderAnswer bytes) a (reading-header_of bytes)
answered-reading bytes (Err (faults.Outside d)) a = subst (HeaderAnswer bytes) a (reading-header_of bytes)
answered-reading bytes (Err (faults.Cut n)) a = subst (HeaderAnswer bytes) a (reading-header_of bytes)
answered-reading bytes (Err (faults.Negative c)) a = subst (HeaderAnswer bytes) a (reading-header_of bytes)

-- the header of a file has the file's size
pub header_of-bytes : (bytes : List ℕ) (h : Head) → header_of bytes ≡ Ok h → h.bytes ≡ length bytes
header_of-bytes bytes h e =
    let r = answered-reading bytes (Ok h) e in
    header-bytes (length bytes) (version bytes) (first bytes) 4 r.fields h r.spells
