-- Opening a file and reading a hyperslab of it, beside the definitions.
use Rattle.std.proofs.Common.{◌≡◌, ℕ, Bool, true, false, List, length, Option, Some, None, Result, Ok, Err, refl, sym, ap, ◌∙◌, subst, inl, inr, if◌then◌else◌}
use Rattle.std.specs.Prelude.{option_map}
use Rattle.std.specs.Option.{ForSome}
use Rattle.std.specs.Str.{IsUtf8, is_utf8}
use Rattle.std.proofs.lemmas.Bool.{cases_Bool}
use Rattle.std.proofs.lemmas.Str.{IsUtf8-from_is_utf8, is_utf8-from_IsUtf8}
use Rattle.aql_outside.specs.Causes.{Rose}
use Rattle.aql_outside.specs.Contents.{Content, bytes_in, IsAbsent}
use Rattle.aql_value.specs.Datum.{Table}
use Rattle.cdf_header.specs.File.{AnswersIfAble, IsLost, header_of}
use Rattle.cdf_header.specs.Header.{Head}
use Rattle.cdf_header.specs.Laws.Header.{header_of-bytes}
use Rattle.cdf_header.specs.Places.{find_in, variable_at}
use Rattle.cdf_header.specs.declared.fault.CdfFault.{CdfFault}
use Rattle.cdf_header.specs.declared.fault.CdfFault.TheVariants as file_faults
use Rattle.cdf_slab.specs.Slab.{slab, slab_fault, IsSlabAnswer, IsOfRequest}
use Rattle.nrca_array.specs.Held.{table_datum}
use Rattle.aql_session.specs.Asked.{Hyperslab}
use Rattle.aql_session.specs.Reading.{in_header, in_file, at_name, open_hyperslab, fault_in, read_fault, value_in, unless, read_hyperslab}
use Rattle.aql_session.specs.Executions.{handed_on, IsFileAt, IsFileCause}
use Rattle.aql_session.specs.Step.{IsOfFile, IsOfVersion}
use Rattle.aql_session.specs.declared.readings.Found.{Found}
use Rattle.aql_session.proofs.Headers.{header-failed, lost-is}

-- what a reader of headers says of its answer, where these files are held
pub record Says (a : Hyperslab) (files : Content) (r : Result Head CdfFault) : Type 0 where
  pub told : (bytes : List ℕ) → IsUtf8 a.file → files a.file ≡ Some bytes → AnswersIfAble (header_of bytes) r
  pub absent : files a.file ≡ None → (f : CdfFault) × (r ≡ Err f) × IsLost f
  pub unnamed : (IsUtf8 a.file → ⊥) → r ≡ Err file_faults.Absent

err-is : (f g : CdfFault) → (let r : Result Head CdfFault = Err f in r) ≡ Err g → f ≡ g
err-is f g e = cc

module _ (a : Hyperslab) (files : Content) where
  by-name : (b : Bool) → is_utf8 a.file ≡ b → open_hyperslab files a ≡ at_name a (if b then files a.file else None)
  by-name b e = ap (λ t. at_name a (if t then files a.file else None)) e

  by-bytes : (o : Option (List ℕ)) → is_utf8 a.file ≡ true → files a.file ≡ o → open_hyperslab files a ≡ at_name a o
  by-bytes o u e = by-name true u ∙ ap (at_name a) e

  -- the fault of a header is that of the read
  pub failed : (f : CdfFault) → IsOfFile f → Says a files (Err f) → open_hyperslab files a ≡ Err f
  failed f u s = elim (cases_Bool (is_utf8 a.file)) [
    | inl e ↦ go e (files a.file) refl
    | inr e ↦
        (let n : (IsUtf8 a.file → ⊥) = λ h. (let z : true ≡ false = sym (is_utf8-from_IsUtf8 a.file h) ∙ e in cc) in
        by-name false e ∙ ap Err (sym (err-is f file_faults.Absent (s.unnamed n))))
  ]
    where
      go : is_utf8 a.file ≡ true → (o : Option (List ℕ)) → files a.file ≡ o → open_hyperslab files a ≡ Err f
      go e None q =
          let l = s.absent q in
          let z : f ≡ l.0 = err-is f l.0 l.1 in
          by-bytes None e q ∙ ap Err (sym (lost-is f u (subst IsLost (sym z) l.2)))
      go e (Some bytes) q =
          by-bytes (Some bytes) e q ∙ ap (in_file a bytes) (header-failed bytes f u (s.told bytes (IsUtf8-from_is_utf8 a.file e) q))

  -- a header that is answered is that of the file's bytes
  pub record HasFile (h : Head) : Type 0 where
    pub bytes : List ℕ
    pub utf8 : IsUtf8 a.file
    pub there : files a.file ≡ Some bytes
    pub size : h.bytes ≡ length bytes
    pub is : open_hyperslab files a ≡ in_header bytes h (find_in h.vars a.variable)

  ok-is : (h : Head) (f : CdfFault) → (let r : Result Head CdfFault = Ok h in r) ≡ Err f → ⊥
  ok-is h f e = cc

  pub answered : (h : Head) → Says a files (Ok h) → HasFile h
  answered h s = elim (cases_Bool (is_utf8 a.file)) [
    | inl e ↦ go e (files a.file) refl
    | inr e ↦
        (let n : (IsUtf8 a.file → ⊥) = λ u. (let z : true ≡ false = sym (is_utf8-from_IsUtf8 a.file u) ∙ e in cc) in
        absurd (ok-is h file_faults.Absent (s.unnamed n)))
  ]
    where
      go : is_utf8 a.file ≡ true → (o : Option (List ℕ)) → files a.file ≡ o → HasFile h
      go e None q = let l = s.absent q in absurd (ok-is h l.0 l.1)
      go e (Some bytes) q =
          let r = s.told bytes (IsUtf8-from_is_utf8 a.file e) q in
          record {
            bytes = bytes;
            utf8 = IsUtf8-from_is_utf8 a.file e;
            there = q;
            size = header_of-bytes bytes h r;
            is = by-bytes (Some bytes) e q ∙ ap (in_file a bytes) r;
          }

  -- no variable has the name
  pub nameless : (h : Head) → Says a files (Ok h) → None ≡ find_in h.vars a.variable → read_fault files a ≡ Some file_faults.NoVariable
  nameless h s n =
      let f = answered h s in
      ap (fault_in a) (f.is ∙ ap (in_header f.bytes h) (sym n))

  pub file-at : (found : Found) → Says a files (Ok found.header) → Some found.variable ≡ find_in found.header.vars a.variable → IsFileAt a files found
  file-at found s n =
      let f = answered found.header s in
      record {
        bytes = f.bytes;
        utf8 = f.utf8;
        there = f.there;
        size = f.size;
        is = f.is ∙ ap (in_header f.bytes found.header) (sym n);
      }

  -- the fault of a hyperslab is that of the read
  pub slab-failed : (found : Found) (at : IsFileAt a files found) (f : CdfFault) → IsOfFile f →
      IsSlabAnswer (slab_fault at.bytes found.header (variable_at found.header found.variable) a.start a.count a.stride a.signed) (slab at.bytes found.header (variable_at found.header found.variable) a.start a.count a.stride a.signed) (Err f) →
      read_fault files a ≡ Some f
  slab-failed found at f u s = ap (fault_in a) at.is ∙ go f u s
    where
      expected : Option CdfFault
      expected = slab_fault at.bytes found.header (variable_at found.header found.variable) a.start a.count a.stride a.signed

      go : (f : CdfFault) → IsOfFile f →
          IsSlabAnswer (slab_fault at.bytes found.header (variable_at found.header found.variable) a.start a.count a.stride a.signed) (slab at.bytes found.header (variable_at found.header found.variable) a.start a.count a.stride a.signed) (Err f) →
          slab_fault at.bytes found.header (variable_at found.header found.variable) a.start a.count a.stride a.signed ≡ Some f
      go file_faults.Absent u s = s
      go file_faults.NotClassic u s = s
      go (file_faults.Version v) u s = s
      go (file_faults.Malformed k) u s = s
      go (file_faults.TooMany l) u s = s
      go file_faults.NoVariable u s = s
      go (file_faults.Rank n) u s = s
      go file_faults.FloatVariable u s = s
      go (file_faults.Stride d) u s = s
      go (file_faults.Outside d) u s = s
      go (file_faults.Cut n) u s = s
      go (file_faults.Negative n) u s = s
      go file_faults.Device u s = absurd u
      go file_faults.Memory u s = absurd u

  -- a hyperslab that is answered is the value of the read
  pub slab-read : (found : Found) (at : IsFileAt a files found) (t : Table) →
      IsSlabAnswer (slab_fault at.bytes found.header (variable_at found.header found.variable) a.start a.count a.stride a.signed) (slab at.bytes found.header (variable_at found.header found.variable) a.start a.count a.stride a.signed) (Ok t) →
      (read_fault files a ≡ None) × (read_hyperslab files a ≡ Some (table_datum t))
  slab-read found at t s =
      let none : read_fault files a ≡ None = ap (fault_in a) at.is ∙ s.0 in
      (none, ap (λ o. unless o (value_in a (open_hyperslab files a))) none ∙ ap (value_in a) at.is ∙ ap (option_map table_datum) s.1)

-- a name that cannot be other than UTF-8 is UTF-8
pub utf8-is : (name : List ℕ) → ((IsUtf8 name → ⊥) → ⊥) → IsUtf8 name
utf8-is name n = elim (cases_Bool (is_utf8 name)) [
  | inl e ↦ IsUtf8-from_is_utf8 name e
  | inr e ↦ absurd (n (λ u. (let z : true ≡ false = sym (is_utf8-from_IsUtf8 name u) ∙ e in cc)))
]

-- a fault that is handed on has its cause
pub handed-cause : (a : Hyperslab) (holds : Option Content) (before now : ℕ) (f : CdfFault) → (f ≡ file_faults.Device → Rose before now) →
    ((IsUtf8 a.file → ⊥) → f ≡ file_faults.Absent) → IsOfVersion f → IsOfRequest a.start a.count a.stride a.signed f →
    (IsOfFile f → ForSome holds (λ files. read_fault files a ≡ Some f)) → IsFileCause a holds before now (handed_on f)
handed-cause a holds before now file_faults.Absent r u v q t = (record { own = tt; unnamed = u; version = v; request = q }, t tt)
handed-cause a holds before now file_faults.NotClassic r u v q t = (record { own = tt; unnamed = u; version = v; request = q }, t tt)
handed-cause a holds before now (file_faults.Version x) r u v q t = (record { own = tt; unnamed = u; version = v; request = q }, t tt)
handed-cause a holds before now (file_faults.Malformed k) r u v q t = (record { own = tt; unnamed = u; version = v; request = q }, t tt)
handed-cause a holds before now (file_faults.TooMany l) r u v q t = (record { own = tt; unnamed = u; version = v; request = q }, t tt)
handed-cause a holds before now file_faults.NoVariable r u v q t = (record { own = tt; unnamed = u; version = v; request = q }, t tt)
handed-cause a holds before now (file_faults.Rank n) r u v q t = (record { own = tt; unnamed = u; version = v; request = q }, t tt)
handed-cause a holds before now file_faults.FloatVariable r u v q t = (record { own = tt; unnamed = u; version = v; request = q }, t tt)
handed-cause a holds before now (file_faults.Stride d) r u v q t = (record { own = tt; unnamed = u; version = v; request = q }, t tt)
handed-cause a holds before now (file_faults.Outside d) r u v q t = (record { own = tt; unnamed = u; version = v; request = q }, t tt)
handed-cause a holds before now (file_faults.Cut n) r u v q t = (record { own = tt; unnamed = u; version = v; request = q }, t tt)
handed-cause a holds before now (file_faults.Negative n) r u v q t = (record { own = tt; unnamed = u; version = v; request = q }, t tt)
handed-cause a holds before now file_faults.Device r u v q t = r refl
handed-cause a holds before now file_faults.Memory r u v q t = tt

-- what is said of the files at hand is said of those that are held
pub says-of : (a : Hyperslab) (holds : Option Content) (files : Content) (r : Result Head CdfFault) → holds ≡ Some files →
    ((bytes : List ℕ) → IsUtf8 a.file → bytes_in holds a.file ≡ Some bytes → AnswersIfAble (header_of bytes) r) →
    (IsAbsent holds a.file → (f : CdfFault) × (r ≡ Err f) × IsLost f) → ((IsUtf8 a.file → ⊥) → r ≡ Err file_faults.Absent) → Says a files r
says-of a holds files r e t b u = record {
  told = λ bytes h q. t bytes h (ap (λ o. bytes_in o a.file) e ∙ q);
  absent = λ q. b (subst (λ o. IsAbsent o a.file) (sym e) q);
  unnamed = u;
}
