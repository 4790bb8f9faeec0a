-- What told files settle of a readval: what is asked for has one fault at most, the same in every run, and none where it can be read.
use Rattle.std.proofs.Common.{ℕ, ◌≡◌, ◌≤◌, List, length, Bool, Option, Some, None, option_map, Result, Ok, Err, refl, sym, ap, ◌∙◌, subst, arith}
use Rattle.std.specs.Str.{IsUtf8}
use Rattle.std.proofs.lemmas.Str.{is_utf8-from_IsUtf8}
use Rattle.std.specs.Prelude.{if◌then◌else◌}
use Rattle.aql_outside.specs.Contents.{Content}
use Rattle.aql_syntax.specs.Script.{Earlier}
use Rattle.aql_syntax.specs.Tree.{Declaration}
use Rattle.aql_syntax.specs.declared.ast.Kind.{Kind}
use Rattle.aql_csv.specs.declared.fault.CsvFault.{CsvFault}
use Rattle.cdf_header.specs.declared.fault.CdfFault.{CdfFault}
use Rattle.aql_session.specs.Asked.{Asked, hyperslab, table}
use Rattle.aql_session.specs.Reading.{file_in, read_fault, read_table}
use Rattle.aql_session.specs.Step.{HasFileFault, HasTableFault, IsAffordable, IsAnswerable, IsCause, IsReadable, PassesBudget, asks}
use Rattle.aql_session.specs.declared.answer.StepFault.{StepFault}
use Rattle.aql_session.specs.declared.answer.StepFault.TheVariants as faults

-- a fault of what a readval asks for: its cells or bytes pass the budget, or its file has a fault
abbrev pub IsOfAsked : StepFault → Type 0
IsOfAsked (faults.Query start plan trace moved) = ⊥
IsOfAsked (faults.Cells c) = Unit {0}
IsOfAsked (faults.File f) = Unit {0}
IsOfAsked (faults.Csv f) = Unit {0}
IsOfAsked faults.Device = ⊥
IsOfAsked faults.Memory = ⊥

some_same : {X : Type 0} (a b : X) → Some a ≡ Some b → a ≡ b
some_same a b e = cc

err_same : {X Y : Type 0} (r : Result X Y) (a b : Y) → r ≡ Err a → r ≡ Err b → a ≡ b
err_same r a b d e = cc

ok_or_err : {X Y : Type 0} (r : Result X Y) (a : X) (b : Y) → r ≡ Ok a → r ≡ Err b → ⊥
ok_or_err r a b d e = cc

none_or_some : {X : Type 0} (o : Option X) (a : X) → o ≡ None → o ≡ Some a → ⊥
none_or_some o a d e = cc

-- the bytes of a file whose name is UTF-8
named_bytes : (files : Content) (file : List ℕ) → IsUtf8 file → file_in files file ≡ files file
named_bytes files file u = ap (λ b. if b then files file else None) (is_utf8-from_IsUtf8 file u)

-- the size that is told of a file of records is one, which passes the budget or does not
affordable_size : (budget : ℕ) (files : Content) (file : List ℕ) (header : Bool) (ks : List Kind) (c : ℕ) → IsUtf8 file → option_map length (files file) ≡ Some c →
    IsAffordable budget (Some files) (table file header ks) → c ≤ budget
affordable_size budget files file header ks c u size within = go (files file) refl size
  where
    go : (o : Option (List ℕ)) → files file ≡ o → option_map length o ≡ Some c → c ≤ budget
    go None is e = absurd cc
    go (Some bytes) is e =
        let n : length bytes ≡ c = some_same (length bytes) c e in
        let le : length bytes ≤ budget = within files refl bytes (named_bytes files file u ∙ is) in
        omega (arith, n, le)

-- a hyperslab or a table has one first fault of its file
pub one_file_fault : (budget : ℕ) (files : Content) (a : Asked) (f g : CdfFault) → HasFileFault budget (Some files) f a → HasFileFault budget (Some files) g a → f ≡ g
one_file_fault budget files (hyperslab h) f g x y = some_same f g (sym (x.2 files refl) ∙ y.2 files refl)
one_file_fault budget files (table file header ks) f g x y = absurd x

pub one_table_fault : (budget : ℕ) (files : Content) (a : Asked) (f g : CsvFault) → HasTableFault budget (Some files) f a → HasTableFault budget (Some files) g a → f ≡ g
one_table_fault budget files (hyperslab h) f g x y = absurd x
one_table_fault budget files (table file header ks) f g x y = err_same (read_table files file header ks) f g (x.2 files refl) (y.2 files refl)

-- so many cells or bytes are told where they pass the budget
one_count : (budget : ℕ) (files : Content) (a : Asked) (c d : ℕ) → PassesBudget budget (Some files) c a → PassesBudget budget (Some files) d a → c ≡ d
one_count budget files (hyperslab h) c d x y = x.1 ∙ sym y.1
one_count budget files (table file header ks) c d x y = some_same c d (sym (x.2 files refl) ∙ y.2 files refl)

-- where they do, the file has no fault
passes_or_file : (budget : ℕ) (files : Content) (a : Asked) (c : ℕ) (f : CdfFault) → PassesBudget budget (Some files) c a → HasFileFault budget (Some files) f a → ⊥
passes_or_file budget files (hyperslab h) c f x y = omega (arith, x.0, y.0)
passes_or_file budget files (table file header ks) c f x y = y

passes_or_table : (budget : ℕ) (files : Content) (a : Asked) (c : ℕ) (f : CsvFault) → PassesBudget budget (Some files) c a → HasTableFault budget (Some files) f a → ⊥
passes_or_table budget files (hyperslab h) c f x y = y
passes_or_table budget files (table file header ks) c f x y =
    let le = affordable_size budget files file header ks c x.1 (x.2 files refl) y.0 in omega (arith, x.0, le)

file_or_table : (budget : ℕ) (files : Content) (a : Asked) (f : CdfFault) (g : CsvFault) → HasFileFault budget (Some files) f a → HasTableFault budget (Some files) g a → ⊥
file_or_table budget files (hyperslab h) f g x y = y
file_or_table budget files (table file header ks) f g x y = x

-- A readable thing has no fault.

readable_within : (budget : ℕ) (files : Content) (a : Asked) (c : ℕ) → IsReadable budget (Some files) a → PassesBudget budget (Some files) c a → ⊥
readable_within budget files (hyperslab h) c r x = omega (arith, r.within, x.0)
readable_within budget files (table file header ks) c r x =
    let le = affordable_size budget files file header ks c x.1 (x.2 files refl) r.within in omega (arith, x.0, le)

pub no_file_fault : (budget : ℕ) (files : Content) (a : Asked) (f : CdfFault) → IsReadable budget (Some files) a → HasFileFault budget (Some files) f a → ⊥
no_file_fault budget files (hyperslab h) f r x = none_or_some (read_fault files h) f (r.file files refl) (x.2 files refl)
no_file_fault budget files (table file header ks) f r x = x

pub no_table_fault : (budget : ℕ) (files : Content) (a : Asked) (f : CsvFault) → IsReadable budget (Some files) a → HasTableFault budget (Some files) f a → ⊥
no_table_fault budget files (hyperslab h) f r x = x
no_table_fault budget files (table file header ks) f r x = let (w, e) = r.file files refl in ok_or_err (read_table files file header ks) w f e (x.2 files refl)

module _ (d : Declaration) (earlier : Earlier) (motion : Bool) (budget : ℕ) (files : Content) where
  asked_same : (a b : Asked) → asks d earlier ≡ Some a → asks d earlier ≡ Some b → b ≡ a
  asked_same a b x y = some_same b a (sym y ∙ x)

  -- Over told files a declaration has one fault at most of what it asks for: whether the device failed and however often the run is made
  -- anew, the same one.
  pub one_fault : (before now before2 now2 : ℕ) (f g : StepFault) → IsOfAsked f → IsOfAsked g → IsCause d earlier motion budget (Some files) before now f →
      IsCause d earlier motion budget (Some files) before2 now2 g → f ≡ g
  one_fault p n q m (faults.Cells c) (faults.Cells k) _ _ (_, a, x, h) (_, b, y, i) =
      ap faults.Cells (one_count budget files a c k h (subst (PassesBudget budget (Some files) k) (asked_same a b x y) i))
  one_fault p n q m (faults.Cells c) (faults.File g) _ _ (_, a, x, h) (_, b, y, i) =
      absurd (passes_or_file budget files a c g h (subst (HasFileFault budget (Some files) g) (asked_same a b x y) i))
  one_fault p n q m (faults.Cells c) (faults.Csv g) _ _ (_, a, x, h) (_, b, y, i) =
      absurd (passes_or_table budget files a c g h (subst (HasTableFault budget (Some files) g) (asked_same a b x y) i))
  one_fault p n q m (faults.File f) (faults.Cells k) _ _ (_, a, x, h) (_, b, y, i) =
      absurd (passes_or_file budget files a k f (subst (PassesBudget budget (Some files) k) (asked_same a b x y) i) h)
  one_fault p n q m (faults.File f) (faults.File g) _ _ (_, a, x, h) (_, b, y, i) =
      ap faults.File (one_file_fault budget files a f g h (subst (HasFileFault budget (Some files) g) (asked_same a b x y) i))
  one_fault p n q m (faults.File f) (faults.Csv g) _ _ (_, a, x, h) (_, b, y, i) =
      absurd (file_or_table budget files a f g h (subst (HasTableFault budget (Some files) g) (asked_same a b x y) i))
  one_fault p n q m (faults.Csv f) (faults.Cells k) _ _ (_, a, x, h) (_, b, y, i) =
      absurd (passes_or_table budget files a k f (subst (PassesBudget budget (Some files) k) (asked_same a b x y) i) h)
  one_fault p n q m (faults.Csv f) (faults.File g) _ _ (_, a, x, h) (_, b, y, i) =
      absurd (file_or_table budget files a g f (subst (HasFileFault budget (Some files) g) (asked_same a b x y) i) h)
  one_fault p n q m (faults.Csv f) (faults.Csv g) _ _ (_, a, x, h) (_, b, y, i) =
      ap faults.Csv (one_table_fault budget files a f g h (subst (HasTableFault budget (Some files) g) (asked_same a b x y) i))
  one_fault p n q m (faults.Query s a t w) g o k x y = absurd o
  one_fault p n q m faults.Device g o k x y = absurd o
  one_fault p n q m faults.Memory g o k x y = absurd o
  one_fault p n q m f (faults.Query s a t w) o k x y = absurd k
  one_fault p n q m f faults.Device o k x y = absurd k
  one_fault p n q m f faults.Memory o k x y = absurd k

  -- and it has none where it is answered
  pub answered_or_refused : (before now : ℕ) (f : StepFault) → IsOfAsked f → IsAnswerable d earlier budget (Some files) → IsCause d earlier motion budget (Some files) before now f → ⊥
  answered_or_refused p n (faults.Cells c) _ r (_, a, x, h) = readable_within budget files a c (r a x) h
  answered_or_refused p n (faults.File f) _ r (_, a, x, h) = no_file_fault budget files a f (r a x) h
  answered_or_refused p n (faults.Csv f) _ r (_, a, x, h) = no_table_fault budget files a f (r a x) h
  answered_or_refused p n (faults.Query s q t m) o r x = absurd o
  answered_or_refused p n faults.Device o r x = absurd o
  answered_or_refused p n faults.Memory o r x = absurd o
