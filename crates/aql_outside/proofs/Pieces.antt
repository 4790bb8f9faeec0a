-- What copying the front of a piece does to the rest of a source and to the bytes of a sink.
use Rattle.std.proofs.Common.{◌≡◌, ◌≤◌, ◌+◌, ◌<◌, ◌-◌, length, drop, take, min, [], ◌∷◌, ◌++◌, List, ℕ, zero, suc, arith, sym, refl, ap, ◌∙◌, length-drop}
use Rattle.std.proofs.lemmas.List.{take-append-drop, drop-drop, take_at, drop_at}
use Rattle.std.proofs.lemmas.Slice.{take-put_mid}
use Rattle.std.proofs.Math.Seq.{take-add}
use Rattle.std.proofs.lemmas.Grind.{common_steps}
use borrow.Rule.Slice.PartMut.{put_mid}

nothing_left : (xs : List ℕ) → length xs ≡ 0 → xs ≡ []
nothing_left [] e = refl
nothing_left (x ∷ xs) e = absurd (omega (arith, e))

take_less : (n m : ℕ) (xs : List ℕ) → n ≤ m → take n (take m xs) ≡ take n xs
take_less zero m xs le = refl
take_less (suc n) zero xs le = absurd (omega (arith, le))
take_less (suc n) (suc m) [] le = refl
take_less (suc n) (suc m) (x ∷ xs) le = ap (λ ys. x ∷ ys) (take_less n m xs (omega (arith, le)))

-- the part of a list from a place to its end
pub to_the_end : (xs ys : List ℕ) (i n : ℕ) → ys ≡ xs → n ≡ length ys - i → take n (drop i ys) ≡ drop i xs
to_the_end xs ys i n e m = grind (arith, common_steps, e, m)

-- a copy of at most `most` bytes of what is left gives the next bytes, and none only at the end
pub gives_next : (given most : ℕ) (content from into new : List ℕ) (count : ℕ) → from ≡ drop given content
    → (0 < length into → 0 < most) → count ≡ min (min most (length into)) (length from)
    → take count new ≡ take count from → length new ≡ length into
    → (drop given content ≡ take count new ++ drop (given + count) content)
    × (count ≡ 0 → 0 < length new → drop (given + count) content ≡ [])
gives_next given most content from into new count rest some is copied same = (
  rw (copied, rest, ← drop-drop count given content) (sym (take-append-drop count (drop given content))),
  λ none room. nothing_left _ (let l : length (drop (given + count) content) ≡ length content - (given + count) = length-drop (given + count) content in
      let l2 : length (drop given content) ≡ length content - given = length-drop given content in
      let l3 : length from ≡ length (drop given content) = ap length rest in
      let m : 0 < most = some (omega (arith, room, same)) in
      omega (arith, is, none, room, same, l, l2, l3, m)),
)

-- what stands in a list that was written over from a place on
pub written_over : (at k : ℕ) (room from new : List ℕ) (count : ℕ) → at ≤ length room
    → count ≤ length new → take count new ≡ take count from
    → take (at + count) (put_mid at k room new) ≡ take at room ++ take count from
written_over at k room from new count le fits copied =
    let whole : take (at + length new) (put_mid at k room new) ≡ take at room ++ new = take-put_mid at k room new (at + length new) refl le in
    let n : length (take at room) ≡ at = grind (arith, common_steps, le) in
    sym (take_less (at + count) (at + length new) (put_mid at k room new) (omega (arith, fits)))
    ∙ ap (take (at + count)) whole
    ∙ take-add at count (take at room ++ new)
    ∙ grind (arith, common_steps, n, copied, take_at (take at room) new at n, drop_at (take at room) new at n)
