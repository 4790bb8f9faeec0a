-- Laws on formats: what reading the fields answers, and what good fields spell, are the same.
use Rattle.std.proofs.Common.{◌≡◌, ℕ, ◌+◌, Bool, true, false, cond, ltb, eqb, List, [], ◌∷◌, length, Option, Some, None, Result, Ok, Err, refl, sym, ap, subst, ◌∙◌, inl, inr}
use Rattle.std.specs.Prelude.{◌⊎◌}
use Rattle.std.proofs.lemmas.Bool.{ltb-false, le-ltb}
use Rattle.cdf_header.specs.declared.fault.FieldFault.{FieldFault}
use Rattle.cdf_header.specs.declared.fault.FieldFault.TheVariants.{Short, Malformed, TooMany}
use Rattle.cdf_header.specs.declared.test.Test.{Test}
use Rattle.cdf_header.specs.declared.test.Test.TheVariants as tests
use Rattle.byteorder.specs.Endian.{big_number}
use Rattle.cdf_header.specs.Header.{Head}
use Rattle.cdf_header.specs.Format.{Format, done, ask, Kind, number, text, room, own, content, flaw_of, fault_at, unless, parse, flaw, is_at, most_type, Field, IsGood, Spells, Fails}

guard_none : (b : Bool) (f : FieldFault) (o : Option FieldFault) → cond b (Some f) o ≡ None → (b ≡ false) × (o ≡ None)
guard_none true f o e = absurd cc
guard_none false f o e = (refl, e)

unless_ok : (o : Option FieldFault) (r : Result Head FieldFault) (h : Head) → unless o r ≡ Ok h → (o ≡ None) × (r ≡ Ok h)
unless_ok None r h e = (refl, e)
unless_ok (Some f) r h e = absurd cc

unless_err : (o : Option FieldFault) (r : Result Head FieldFault) (f : FieldFault) → unless o r ≡ Err f → (o ≡ Some f) ⊎ ((o ≡ None) × (r ≡ Err f))
unless_err None r f e = inr (refl, e)
unless_err (Some g) r f e = inl (ap Some (let p : g ≡ f = cc in p))

abbrev pub header_answer : Head → Result Head FieldFault
header_answer h = Ok h

pub ok_is : (x y : Head) → header_answer x ≡ header_answer y → x ≡ y
ok_is x y e = cc

abbrev stands : Kind → List ℕ → ℕ → Field
stands kind bytes k = record { kind = kind; at = k; content = content kind bytes k }

good_at : (kind : Kind) (bytes : List ℕ) (k : ℕ) → fault_at kind bytes k ≡ None → IsGood bytes (stands kind bytes k)
good_at kind bytes k e =
    let g = guard_none (ltb (length bytes) (k + room kind)) (Short k) (flaw_of kind k (content kind bytes k)) e in
    record { within = ltb-false _ _ g.0; spelled = refl; right = g.1 }

good_is : (bytes : List ℕ) (x : Field) → IsGood bytes x → fault_at x.kind bytes x.at ≡ None
good_is bytes x good =
    let flawless : flaw_of x.kind x.at (content x.kind bytes x.at) ≡ None = subst (λ (c : List ℕ). flaw_of x.kind x.at c ≡ None) good.spelled good.right in
    let long : ltb (length bytes) (x.at + room x.kind) ≡ false = le-ltb _ _ good.within in
    rw long flawless

-- what is read is spelled so
pub parse_spells : (f : Format) (bytes : List ℕ) (k : ℕ) (h : Head) → parse f bytes k ≡ Ok h → (fs : List Field) × Spells f bytes k fs h
parse_spells (done found) bytes k h e = ([], ok_is found h e)
parse_spells (ask kind next) bytes k h e =
    let s = unless_ok (fault_at kind bytes k) (parse (next (content kind bytes k)) bytes (k + room kind)) h e in
    let rest = parse_spells (next (content kind bytes k)) bytes (k + room kind) h s.1 in
    (stands kind bytes k ∷ rest.0, (refl, refl, good_at kind bytes k s.0, rest.1))

-- what is spelled so is read
pub spells_parse : (f : Format) (bytes : List ℕ) (k : ℕ) (fs : List Field) (h : Head) → Spells f bytes k fs h → parse f bytes k ≡ Ok h
spells_parse (done found) bytes k [] h e = ap Ok e
spells_parse (done found) bytes k (x ∷ xs) h e = absurd e
spells_parse (ask kind next) bytes k [] h e = absurd e
spells_parse (ask kind next) bytes k (x ∷ xs) h (kind-is, at-is, good, rest) =
    let clean : fault_at kind bytes k ≡ None = rw (← kind-is, ← at-is) (good_is bytes x good) in
    let same : x.content ≡ content kind bytes k = rw (← kind-is, ← at-is) good.spelled in
    let after : parse (next x.content) bytes (k + room kind) ≡ Ok h = spells_parse (next x.content) bytes (k + room kind) xs h rest in
    ap (λ o. unless o (parse (next (content kind bytes k)) bytes (k + room kind))) clean ∙ ap (λ c. parse (next c) bytes (k + room kind)) (sym same) ∙ after

-- the fault that is answered is that of the first field that fails
pub parse_fails : (f : Format) (bytes : List ℕ) (k : ℕ) (e : FieldFault) → parse f bytes k ≡ Err e → (fs : List Field) × (at : ℕ) × (kind : Kind) × Fails f bytes k fs at kind × (fault_at kind bytes at ≡ Some e)
parse_fails (done found) bytes k e h = absurd cc
parse_fails (ask kind next) bytes k e h =
    elim (unless_err (fault_at kind bytes k) (parse (next (content kind bytes k)) bytes (k + room kind)) e h) [
      | inl here ↦ (
        [],
        k,
        kind,
        (
          refl,
          refl,
          λ x kind-is at-is good.
              let clean : fault_at kind bytes k ≡ None = rw (← kind-is, ← at-is) (good_is bytes x good) in absurd (let no : Some e ≡ None = sym here ∙ clean in cc),
        ),
        here,
      )
      | inr (clean, after) ↦
          let rest = parse_fails (next (content kind bytes k)) bytes (k + room kind) e after in
          (stands kind bytes k ∷ rest.0, rest.1, rest.2, (refl, refl, good_at kind bytes k clean, rest.3), rest.4)
    ]

some_fault : (o : Option FieldFault) → (o ≡ None → ⊥) → (e : FieldFault) × (o ≡ Some e)
some_fault None h = absurd (h refl)
some_fault (Some e) h = (e, refl)

-- where a first field fails, its fault is answered
pub fails_parse : (f : Format) (bytes : List ℕ) (k : ℕ) (fs : List Field) (at : ℕ) (kind : Kind) → Fails f bytes k fs at kind → (e : FieldFault) × (parse f bytes k ≡ Err e) × (fault_at kind bytes at ≡ Some e)
fails_parse (done found) bytes k fs at kind h = absurd h
fails_parse (ask asked next) bytes k [] at kind (k-is, asked-is, none) =
    let p = some_fault (fault_at kind bytes at) (λ e. none (stands kind bytes at) refl refl (good_at kind bytes at e)) in
    let here : fault_at asked bytes k ≡ Some p.0 = rw (k-is, asked-is) p.1 in
    (p.0, ap (λ o. unless o (parse (next (content asked bytes k)) bytes (k + room asked))) here, p.1)
fails_parse (ask asked next) bytes k (x ∷ xs) at kind (kind-is, at-is, good, rest) =
    let clean : fault_at asked bytes k ≡ None = rw (← kind-is, ← at-is) (good_is bytes x good) in
    let same : x.content ≡ content asked bytes k = rw (← kind-is, ← at-is) good.spelled in
    let after = fails_parse (next x.content) bytes (k + room asked) xs at kind rest in
    (after.0, ap (λ o. unless o (parse (next (content asked bytes k)) bytes (k + room asked))) clean ∙ ap (λ c. parse (next c) bytes (k + room asked)) (sym same) ∙ after.1, after.2)

-- ---- where a fault says that it stands

abbrev place : FieldFault → ℕ → ℕ
place (Short at) k = at
place (Malformed at) k = at
place (TooMany list) k = k

abbrev Stays : Option FieldFault → ℕ → Type 0
Stays None k = Unit {0}
Stays (Some e) k = place e k ≡ k

pick : (b : Bool) (x y : Option FieldFault) (k : ℕ) → Stays x k → Stays y k → Stays (cond b x y) k
pick true x y k p q = p
pick false x y k p q = q

bad : (k : ℕ) → Stays (Some (Malformed k)) k
bad k = refl

flaw-stays : (test : Test) (k n : ℕ) → Stays (flaw test k n) k
flaw-stays tests.Any k n = tt
flaw-stays (tests.Tag own) k n = pick (eqb n 0) _ _ k tt (pick (eqb n own) None (Some (Malformed k)) k tt (bad k))
flaw-stays (tests.Count before list most) k n = pick (ltb most n) (Some (TooMany list)) _ k refl (pick (eqb before 0) _ None k (pick (eqb n 0) None (Some (Malformed k)) k tt (bad k)) tt)
flaw-stays (tests.Extent has) k n = pick has _ None k (pick (eqb n 0) (Some (Malformed k)) None k (bad k) tt) tt
flaw-stays (tests.Id dims unlimited first) k n = pick (ltb n dims) _ (Some (Malformed k)) k (pick first None _ k tt (pick (is_at unlimited n) (Some (Malformed k)) None k (bad k) tt)) (bad k)
flaw-stays (tests.NcType version) k n = pick (eqb n 0) (Some (Malformed k)) _ k (bad k) (pick (ltb (most_type version) n) (Some (Malformed k)) None k (bad k) tt)

pub fault-stays : (kind : Kind) (bytes : List ℕ) (k : ℕ) → Stays (fault_at kind bytes k) k
fault-stays (number w test) bytes k = pick (ltb (length bytes) (k + w)) (Some (Short k)) _ k refl (flaw-stays test k (big_number w (content (number w test) bytes k)))
fault-stays (text n) bytes k = pick (ltb (length bytes) (k + room (text n))) (Some (Short k)) None k refl tt

pub short_at : (kind : Kind) (bytes : List ℕ) (k at : ℕ) → fault_at kind bytes k ≡ Some (Short at) → at ≡ k
short_at kind bytes k at e = subst (λ o. Stays o k) e (fault-stays kind bytes k)

pub malformed_at : (kind : Kind) (bytes : List ℕ) (k at : ℕ) → fault_at kind bytes k ≡ Some (Malformed at) → at ≡ k
malformed_at kind bytes k at e = subst (λ o. Stays o k) e (fault-stays kind bytes k)
