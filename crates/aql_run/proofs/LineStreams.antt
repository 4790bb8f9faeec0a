-- Writing, piece after piece.
use Rattle.std.proofs.Common.{◌≡◌, ◌≤◌, ◌<◌, ◌+◌, ◌-◌, ℕ, List, length-drop, ◌++◌, sym, ◌∙◌, ap, subst, take, drop, length, arith}
use Rattle.std.specs.Prelude.{Option, Result, Err}
use Rattle.std.proofs.lemmas.Grind.{common_steps}
use Rattle.std.proofs.lemmas.List.{take-append-drop}
use Rattle.std.proofs.Math.Seq.{take-add}
use Rattle.std.specs.Io.KnownBytes.{Appends, Keeps}
use Rattle.std.proofs.KnownBytes.{Appends-trans, Appends-kept}
use Rattle.aql_run.specs.Writing.{WritesFront}

next_piece : (text : List ℕ) (done n : ℕ) → done ≤ length text → take n (take (length text - done) (drop done text)) ≡ take n (drop done text)
next_piece text done n le = grind (arith, common_steps, le)

pub writes_more : (a b c : Option (List ℕ)) (text : List ℕ) (done n : ℕ) → done ≤ length text → Appends a b (take done text)
    → Appends b c (take n (take (length text - done) (drop done text))) → Appends a c (take (done + n) text)
writes_more a b c text done n le h k =
    let both : Appends a c (take done text ++ take n (take (length text - done) (drop done text))) = Appends-trans a b c _ _ h k in
    subst (λ (x : List ℕ). Appends a c x) (ap (λ t. take done text ++ t) (next_piece text done n le) ∙ sym (take-add done n text)) both

pub writes_part : {T E : Type 0} (a b c : Option (List ℕ)) (text : List ℕ) (done : ℕ) (r : Result T E) (e : E) → r ≡ Err e → done < length text → Appends a b (take done text) → Keeps b c → WritesFront a c text r
writes_part a b c text done r e err less h k = (
  take done text,
  drop done text,
  sym (take-append-drop done text),
  Appends-kept a b c _ h k,
  rw err tt,
  rw err (λ none. (let l = ap length none in absurd (omega (arith, l, length-drop done text, less)))),
)
