-- Counters in a list whose last is the next below the top.
use Rattle.std.proofs.Common.{ℕ, ◌≡◌, ◌+◌, ◌-◌, min, max, List, [], ◌∷◌, ◌++◌, refl, sym, ap, ◌∙◌, take, drop, length, sum, arith, length-drop, zero-add}
use Rattle.std.specs.List.{fold}
use Rattle.std.proofs.lemmas.List.{take_min, drop_min}
use Rattle.aql_lex.specs.Scanning.{stack_of}

pub stack_last : (cs : List ℕ) (c : ℕ) → stack_of (cs ++ (c ∷ [])) ≡ c ∷ stack_of cs
stack_last [] c = refl
stack_last (d ∷ cs) c = ap (λ z. z ++ (d ∷ [])) (stack_last cs c)

take_within : (s : List ℕ) (m n : ℕ) → min m (length s) ≡ min n (length s) → take m s ≡ take n s
take_within s m n h = sym (take_min m s) ∙ ap (λ k. take k s) h ∙ take_min n s

fold_add : (a : ℕ) (cs : List ℕ) → fold (λ x y. x + y) a cs ≡ a + fold (λ x y. x + y) 0 cs
fold_add a [] = omega arith
fold_add a (c ∷ cs) = omega (arith, fold_add (a + c) cs, fold_add (0 + c) cs)

pub sum_first : (c : ℕ) (cs : List ℕ) → sum (c ∷ cs) ≡ c + sum cs
sum_first c cs = fold_add (0 + c) cs ∙ ap (λ n. n + sum cs) (zero-add c)

-- a range that was put within the bytes is the range
pub clamped : (s : List ℕ) (from to : ℕ) →
    take (max (min to (length s)) (min from (length s)) - min from (length s)) (drop (min from (length s)) s) ≡ take (to - from) (drop from s)
clamped s from to =
    rw (drop_min from s)
    (take_within (drop from s) (max (min to (length s)) (min from (length s)) - min from (length s)) (to - from)
    (let l : length (drop from s) ≡ length s - from = length-drop from s in rw l (omega arith)))
