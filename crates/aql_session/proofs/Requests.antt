-- What the faults of a file say of what was asked for.
use Rattle.std.proofs.Common.{◌≡◌, ◌∙◌, ◌⊎◌, inl, inr, ℕ, List, length, Bool, true, false, Option, Some, None, Err, refl, sym, ap, subst, if◌then◌else◌}
use Rattle.std.specs.Prelude.{nat_eq, option_map}
use Rattle.std.specs.Str.{IsUtf8, is_utf8}
use Rattle.std.proofs.lemmas.Bool.{cases_Bool}
use Rattle.std.proofs.lemmas.Str.{IsUtf8-from_is_utf8, is_utf8-from_IsUtf8}
use Rattle.cdf_header.specs.File.{IsOfHeader}
use Rattle.cdf_header.specs.Header.{Head, Var}
use Rattle.cdf_header.specs.Places.{shape}
use Rattle.cdf_header.specs.declared.fault.CdfFault.{CdfFault}
use Rattle.cdf_header.specs.declared.fault.CdfFault.TheVariants as faults
use Rattle.cdf_slab.specs.Slab.{is_floating, first_zero, first_outside, wrong_variable, index_fault, cut_fault, early_fault, AnswersEarly, IsLate, IsOfRequest}
use Rattle.aql_value.specs.Partial.{or_else}
use Rattle.aql_session.specs.Step.{IsOfVersion}

-- the faults of a header
pub header-version : (f : CdfFault) → IsOfHeader f → IsOfVersion f
header-version faults.Absent h = tt
header-version faults.NotClassic h = tt
header-version (faults.Version v) h = h
header-version (faults.Malformed k) h = tt
header-version (faults.TooMany l) h = tt
header-version faults.NoVariable h = tt
header-version (faults.Rank n) h = tt
header-version faults.FloatVariable h = tt
header-version (faults.Stride d) h = tt
header-version (faults.Outside d) h = tt
header-version (faults.Cut n) h = tt
header-version (faults.Negative n) h = tt
header-version faults.Device h = tt
header-version faults.Memory h = tt

pub header-request : (start count stride : List ℕ) (signed : Bool) (f : CdfFault) → IsOfHeader f → IsOfRequest start count stride signed f
header-request start count stride signed faults.Absent h = tt
header-request start count stride signed faults.NotClassic h = tt
header-request start count stride signed (faults.Version v) h = tt
header-request start count stride signed (faults.Malformed k) h = tt
header-request start count stride signed (faults.TooMany l) h = tt
header-request start count stride signed faults.NoVariable h = absurd h
header-request start count stride signed (faults.Rank n) h = absurd h
header-request start count stride signed faults.FloatVariable h = absurd h
header-request start count stride signed (faults.Stride d) h = absurd h
header-request start count stride signed (faults.Outside d) h = absurd h
header-request start count stride signed (faults.Cut n) h = absurd h
header-request start count stride signed (faults.Negative n) h = absurd h
header-request start count stride signed faults.Device h = tt
header-request start count stride signed faults.Memory h = tt

-- what holds of a name that is UTF-8, and of the fault of one that is not
named : (name : List ℕ) (f : CdfFault) (P : CdfFault → Type 0) → (IsUtf8 name → P f) → ((IsUtf8 name → ⊥) → f ≡ faults.Absent) → P faults.Absent → P f
named name f P holds unnamed absent = elim (cases_Bool (is_utf8 name)) [
  | inl e ↦ holds (IsUtf8-from_is_utf8 name e)
  | inr e ↦ subst P (sym (unnamed (λ u. (let z : true ≡ false = sym (is_utf8-from_IsUtf8 name u) ∙ e in cc)))) absent
]

or-is : (x y : Option CdfFault) (f : CdfFault) → or_else x y ≡ Some f → (x ≡ Some f) ⊎ (y ≡ Some f)
or-is None y f e = inr e
or-is (Some x) y f e = inl e

-- no version is a fault of the variable, the strides and the indices
no-version : (h : Head) (v : Var) (start count stride : List ℕ) (x : ℕ) → index_fault h v start count stride ≡ Some (faults.Version x) → ⊥
no-version h v start count stride x e = elim (or-is (wrong_variable v (length start)) _ (faults.Version x) e) [
  | inl a ↦ wrong (nat_eq (length v.ids) (length start)) (is_floating v.kind) a
  | inr b ↦ elim (or-is (option_map faults.Stride (first_zero 1 stride)) _ (faults.Version x) b) [
    | inl a ↦ zero (first_zero 1 stride) a
    | inr a ↦ outside (first_outside 1 (shape h v) start count stride) a
  ]
]
  where
    wrong : (b c : Bool) → (if b then (if c then Some faults.FloatVariable else None) else Some (faults.Rank (length v.ids))) ≡ Some (faults.Version x) → ⊥
    wrong true true e = cc
    wrong true false e = cc
    wrong false c e = cc

    zero : (o : Option ℕ) → option_map faults.Stride o ≡ Some (faults.Version x) → ⊥
    zero None e = cc
    zero (Some j) e = cc

    outside : (o : Option ℕ) → option_map faults.Outside o ≡ Some (faults.Version x) → ⊥
    outside None e = cc
    outside (Some j) e = cc

pub slab-version : (name : List ℕ) (h : Head) (v : Var) (start count stride : List ℕ) (signed : Bool) (many : ℕ) (f : CdfFault) →
    (IsUtf8 name → AnswersEarly (early_fault h v start count stride) (Err f)) → (IsUtf8 name → index_fault h v start count stride ≡ None → IsLate signed many f) →
    ((IsUtf8 name → ⊥) → f ≡ faults.Absent) → IsOfVersion f
slab-version name h v start count stride signed many f early late unnamed = named name f IsOfVersion (λ u. at f (early u) (late u)) unnamed tt
  where
    by : (x : ℕ) (o : Option CdfFault) → index_fault h v start count stride ≡ o → AnswersEarly (or_else o (cut_fault h v start count stride)) (Err (faults.Version x)) →
        (index_fault h v start count stride ≡ None → IsLate signed many (faults.Version x)) → ⊥
    by x None e a l = l e
    by x (Some g) e (inl is) l = no-version h v start count stride x (e ∙ ap Some (sym is))
    by x (Some g) e (inr is) l = cc

    at : (f : CdfFault) → AnswersEarly (early_fault h v start count stride) (Err f) → (index_fault h v start count stride ≡ None → IsLate signed many f) → IsOfVersion f
    at faults.Absent a l = tt
    at faults.NotClassic a l = tt
    at (faults.Version x) a l = absurd (by x (index_fault h v start count stride) refl a l)
    at (faults.Malformed k) a l = tt
    at (faults.TooMany k) a l = tt
    at faults.NoVariable a l = tt
    at (faults.Rank n) a l = tt
    at faults.FloatVariable a l = tt
    at (faults.Stride d) a l = tt
    at (faults.Outside d) a l = tt
    at (faults.Cut n) a l = tt
    at (faults.Negative n) a l = tt
    at faults.Device a l = tt
    at faults.Memory a l = tt
