-- What is read of a front of the bytes is read of the whole.
use Rattle.std.proofs.Common.{◌≡◌, ℕ, ◌+◌, ◌≤◌, true, false, cond, ltb, List, ◌++◌, length, take, drop, Some, None, Result, Ok, Err, refl, sym, ap, subst, ◌∙◌, arith, inl, inr, length-append, length-drop}
use Rattle.std.proofs.lemmas.List.{drop-append-le, take-append-le}
use Rattle.std.proofs.lemmas.Bool.{cases_lt, lt-ltb, le-ltb}
use Rattle.cdf_header.specs.declared.fault.FieldFault.{FieldFault}
use Rattle.cdf_header.specs.declared.fault.FieldFault.TheVariants.{Short, Malformed, TooMany}
use Rattle.cdf_header.specs.Header.{Head}
use Rattle.cdf_header.specs.Format.{Format, done, ask, Kind, number, text, room, own, content, flaw_of, fault_at, unless, parse}

-- the fields end too soon
abbrev pub IsShort : Result Head FieldFault → Type 0
IsShort (Ok h) = ⊥
IsShort (Err (Short at)) = Unit {0}
IsShort (Err (Malformed at)) = ⊥
IsShort (Err (TooMany list)) = ⊥

own-room : (kind : Kind) → own kind ≤ room kind
own-room (number w test) = omega arith
own-room (text n) = omega arith

content_more : (kind : Kind) (front rest : List ℕ) (k : ℕ) → k + room kind ≤ length front → content kind (front ++ rest) k ≡ content kind front k
content_more kind front rest k fits =
    let o = own-room kind in
    ap (take (own kind)) (drop-append-le k front rest (omega (arith, fits)))
    ∙ take-append-le (own kind) (drop k front) rest (omega (arith, fits, o, length-drop k front))

fault_more : (kind : Kind) (front rest : List ℕ) (k : ℕ) → k + room kind ≤ length front → fault_at kind (front ++ rest) k ≡ fault_at kind front k
fault_more kind front rest k fits =
    let a : ltb (length (front ++ rest)) (k + room kind) ≡ false = le-ltb _ _ (omega (arith, fits, length-append front rest)) in
    let b : ltb (length front) (k + room kind) ≡ false = le-ltb _ _ fits in
    rw (a, b, content_more kind front rest k fits) refl

-- what is answered of a front, other than that it is too short, is answered of the whole
pub parse_more : (f : Format) (front rest : List ℕ) (k : ℕ) → (IsShort (parse f front k) → ⊥) → parse f (front ++ rest) k ≡ parse f front k
parse_more (done found) front rest k h = refl
parse_more (ask kind next) front rest k h =
    elim (cases_lt (length front) (k + room kind)) [
      | inl short ↦
          let s : ltb (length front) (k + room kind) ≡ true = lt-ltb _ _ short in
          absurd (h (subst (λ b. IsShort (unless (cond b (Some (Short k)) (flaw_of kind k (content kind front k))) (parse (next (content kind front k)) front (k + room kind)))) (sym s) tt))
      | inr fits ↦
          let e = fault_more kind front rest k fits in
          let c = content_more kind front rest k fits in
          elim (fault_at kind front k) as (λ o. fault_at kind front k ≡ o → parse (ask kind next) (front ++ rest) k ≡ parse (ask kind next) front k) [
            | None ↦ λ clean.
                let one : parse (ask kind next) (front ++ rest) k ≡ parse (next (content kind front k)) (front ++ rest) (k + room kind) = rw (e, clean, c) refl in
                let two : parse (ask kind next) front k ≡ parse (next (content kind front k)) front (k + room kind) = rw clean refl in
                one ∙ parse_more (next (content kind front k)) front rest (k + room kind) (λ s. h (rw two s)) ∙ sym two
            | Some fault ↦ λ wrong.
                let one : parse (ask kind next) (front ++ rest) k ≡ Err fault = rw (e, wrong) refl in
                let two : parse (ask kind next) front k ≡ Err fault = rw wrong refl in
                one ∙ sym two
          ] refl
    ]
