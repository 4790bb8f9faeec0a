-- A test that goes out of a loop, M1: the value stays; the test takes its turns once, and no more at each member.
use Rattle.std.proofs.Common.{◌≡◌, ℕ, ◌+◌, ◌≤◌, Bool, true, false, List, [], ◌∷◌, ◌++◌, length, map, Option, Some, None, unwrap_or, refl, sym, ap, ◌∙◌, arith, if◌then◌else◌}
use Rattle.aql_value.specs.Datum as datum
use Rattle.aql_value.specs.Datum.{Datum, natural, nil}
use Rattle.aql_value.specs.Laws.Lists.{Every-all}
use Rattle.std.specs.Prelude.{sum}
use Rattle.aql_value.specs.Operations.{as_truth, as_set, as_natural, union_all, sum_of, set_of, in_range}
use Rattle.aql_value.specs.Partial.{◌>>=◌, each, total, if_some, concat}
use Rattle.aql_value.specs.Laws.Partial.{each-ext, total-ext, total-map}
use Rattle.nrca_term.specs.Term.{Term, Form, WellFormed}
use Rattle.nrca_term.specs.Nodes.{if_term, loop_term}
use Rattle.nrca_term.specs.Meaning.{Outcomes, cden}
use Rattle.nrca_term.specs.Places.{branch}
use Rattle.nrca_term.specs.Turns.{settle}
use Rattle.nrca_term.specs.Subst.{shift_term}
use Rattle.nrca_term.specs.Laws.Shifting.{cden-shift_term}
use Rattle.nrca_term.specs.Laws.TurnsShift.{settle-shift_term}
use Rattle.nrca_term.specs.Rules.{LoopOf}

-- an if whose test has a truth value
if-value : (V : Outcomes) (vals : List Datum) (c a b : Term) (t : Bool) → (cden V vals c >>= as_truth) ≡ Some t → cden V vals (if_term c a b) ≡ (if t then cden V vals a else cden V vals b)
if-value V vals c a b t e = ap (λ o. o >>= λ x. if x then cden V vals a else cden V vals b) e

-- the same in a loop's body, where the test does not use the member
body-value : (V : Outcomes) (vals : List Datum) (m : Datum) (c b z : Term) (t : Bool) → (cden V vals c >>= as_truth) ≡ Some t →
    cden V (m ∷ vals) (if_term (shift_term 0 1 c) b z) ≡ (if t then cden V (m ∷ vals) b else cden V (m ∷ vals) z)
body-value V vals m c b z t e = if-value V (m ∷ vals) (shift_term 0 1 c) b z t (ap (λ o. o >>= as_truth) (cden-shift_term V [] (m ∷ []) vals c) ∙ e)

-- a union of empty sets
empties : (ms : List Datum) → (each (λ m. Some (datum.set nil)) ms >>= union_all) ≡ Some (datum.set nil)
empties [] = refl
empties (m ∷ ms) = again (each (λ x. Some (datum.set nil)) ms) (empties ms)
  where
    again : (o : Option (List Datum)) → (o >>= union_all) ≡ Some (datum.set nil) → ((o >>= λ ys. Some (datum.set nil ∷ ys)) >>= union_all) ≡ Some (datum.set nil)
    again None h = cc
    again (Some ys) h = more (each as_set ys) h
      where
        more : (p : Option (List (List Datum))) → (p >>= λ sets. Some (set_of (concat sets))) ≡ Some (datum.set nil) →
            ((p >>= λ zs. Some ([] ∷ zs)) >>= λ sets. Some (set_of (concat sets))) ≡ Some (datum.set nil)
        more None h = cc
        more (Some zs) h = h

-- a sum of zeros
zeros : (ms : List Datum) → (each (λ m. Some (natural 0)) ms >>= sum_of) ≡ Some (natural 0)
zeros [] = refl
zeros (m ∷ ms) = again (each (λ x. Some (natural 0)) ms) (zeros ms)
  where
    again : (o : Option (List Datum)) → (o >>= sum_of) ≡ Some (natural 0) → ((o >>= λ ys. Some (natural 0 ∷ ys)) >>= sum_of) ≡ Some (natural 0)
    again None h = cc
    again (Some ys) h = more (each as_natural ys) h
      where
        more : (p : Option (List ℕ)) → (p >>= λ ns. in_range (sum ns)) ≡ Some (natural 0) → ((p >>= λ ns. Some (0 ∷ ns)) >>= λ ns. in_range (sum ns)) ≡ Some (natural 0)
        more None h = cc
        more (Some ns) h = h

-- M1 keeps the value, where the operand is a set and the test a truth value.
pub test-keeps : (V : Outcomes) (vals : List Datum) (f : Form) (e c b z : Term) (ms : List Datum) (t : Bool) → LoopOf f z →
    (cden V vals e >>= as_set) ≡ Some ms → (cden V vals c >>= as_truth) ≡ Some t →
    cden V vals (loop_term f e (if_term (shift_term 0 1 c) b z)) ≡ cden V vals (if_term c (loop_term f e b) z)
test-keeps V vals Form.big_union e c b z ms true l d h =
    ap (λ o. o >>= union_all) (ap (λ o. o >>= each (λ m. cden V (m ∷ vals) (if_term (shift_term 0 1 c) b z))) d
    ∙ each-ext _ (λ m. cden V (m ∷ vals) b) ms (Every-all _ (λ m. body-value V vals m c b z true h) ms)
    ∙ sym (ap (λ o. o >>= each (λ m. cden V (m ∷ vals) b)) d))
    ∙ sym (if-value V vals c (loop_term Form.big_union e b) z true h)
test-keeps V vals Form.big_union e c b z ms false l d h =
    ap (λ o. o >>= union_all) (ap (λ o. o >>= each (λ m. cden V (m ∷ vals) (if_term (shift_term 0 1 c) b z))) d
    ∙ each-ext _ (λ m. Some (datum.set nil)) ms (Every-all _ (λ m. body-value V vals m c b z false h ∙ ap (cden V (m ∷ vals)) l) ms))
    ∙ empties ms
    ∙ sym (if-value V vals c (loop_term Form.big_union e b) z false h ∙ ap (cden V vals) l)
test-keeps V vals Form.sum e c b z ms true l d h =
    ap (λ o. o >>= sum_of) (ap (λ o. o >>= each (λ m. cden V (m ∷ vals) (if_term (shift_term 0 1 c) b z))) d
    ∙ each-ext _ (λ m. cden V (m ∷ vals) b) ms (Every-all _ (λ m. body-value V vals m c b z true h) ms)
    ∙ sym (ap (λ o. o >>= each (λ m. cden V (m ∷ vals) b)) d))
    ∙ sym (if-value V vals c (loop_term Form.sum e b) z true h)
test-keeps V vals Form.sum e c b z ms false l d h =
    ap (λ o. o >>= sum_of) (ap (λ o. o >>= each (λ m. cden V (m ∷ vals) (if_term (shift_term 0 1 c) b z))) d
    ∙ each-ext _ (λ m. Some (natural 0)) ms (Every-all _ (λ m. body-value V vals m c b z false h ∙ ap (cden V (m ∷ vals)) l) ms))
    ∙ zeros ms
    ∙ sym (if-value V vals c (loop_term Form.sum e b) z false h ∙ ap (cden V vals) l)
test-keeps V vals (Form.var i) e c b z ms t l d h = absurd l
test-keeps V vals (Form.global n) e c b z ms t l d h = absurd l
test-keeps V vals Form.bind e c b z ms t l d h = absurd l
test-keeps V vals Form.choose e c b z ms t l d h = absurd l
test-keeps V vals Form.default e c b z ms t l d h = absurd l
test-keeps V vals (Form.tab rank) e c b z ms t l d h = absurd l
test-keeps V vals (Form.strict s) e c b z ms t l d h = absurd l

-- the turns of an if whose test has a truth value
if-turns : (V : Outcomes) (vals : List Datum) (c a b : Term) (t : Bool) → (cden V vals c >>= as_truth) ≡ Some t →
    settle V vals (if_term c a b) ≡ settle V vals c + (if t then settle V vals a else settle V vals b)
if-turns V vals c a b true e =
    ap (λ o. 0 + ((settle V vals c + 0) + (total (λ new. settle V (new ++ vals) a) (branch true o) + (total (λ new. settle V (new ++ vals) b) (branch false o) + 0)))) e ∙ omega arith
if-turns V vals c a b false e =
    ap (λ o. 0 + ((settle V vals c + 0) + (total (λ new. settle V (new ++ vals) a) (branch true o) + (total (λ new. settle V (new ++ vals) b) (branch false o) + 0)))) e ∙ omega arith

-- a loop's turns: its members', its operand's and its body's at each member
loop-turns : (V : Outcomes) (vals : List Datum) (f : Form) (e b z : Term) (ms : List Datum) → LoopOf f z → (cden V vals e >>= as_set) ≡ Some ms →
    settle V vals (loop_term f e b) ≡ length ms + (settle V vals e + total (λ m. settle V (m ∷ vals) b) ms)
loop-turns V vals Form.big_union e b z ms l d = loop-sum V vals e b ms d
  where
    loop-sum : (V : Outcomes) (vals : List Datum) (e b : Term) (ms : List Datum) → (cden V vals e >>= as_set) ≡ Some ms →
        if_some (cden V vals e >>= as_set) length + ((settle V vals e + 0) + (total (λ new. settle V (new ++ vals) b) (map (λ m. m ∷ []) (unwrap_or (cden V vals e >>= as_set) [])) + 0))
        ≡ length ms + (settle V vals e + total (λ m. settle V (m ∷ vals) b) ms)
    loop-sum V vals e b ms d =
        ap (λ o. if_some o length + ((settle V vals e + 0) + (total (λ new. settle V (new ++ vals) b) (map (λ m. m ∷ []) (unwrap_or o [])) + 0))) d
        ∙ (let q = total-map (λ new. settle V (new ++ vals) b) (λ m. m ∷ []) ms in omega (arith, q))
loop-turns V vals Form.sum e b z ms l d =
    ap (λ o. if_some o length + ((settle V vals e + 0) + (total (λ new. settle V (new ++ vals) b) (map (λ m. m ∷ []) (unwrap_or o [])) + 0))) d
    ∙ (let q = total-map (λ new. settle V (new ++ vals) b) (λ m. m ∷ []) ms in omega (arith, q))
loop-turns V vals (Form.var i) e b z ms l d = absurd l
loop-turns V vals (Form.global n) e b z ms l d = absurd l
loop-turns V vals Form.bind e b z ms l d = absurd l
loop-turns V vals Form.choose e b z ms l d = absurd l
loop-turns V vals Form.default e b z ms l d = absurd l
loop-turns V vals (Form.tab rank) e b z ms l d = absurd l
loop-turns V vals (Form.strict s) e b z ms l d = absurd l

-- a total of sums
total-both : {A : Type 0} (n : ℕ) (g : A → ℕ) (xs : List A) → total (λ x. n + g x) xs ≡ total (λ x. n) xs + total g xs
total-both n g [] = refl
total-both n g (x ∷ xs) = omega (arith, total-both n g xs)

-- an empty set and a zero take no turns
no-turns : (V : Outcomes) (vals : List Datum) (f : Form) (z : Term) → LoopOf f z → settle V vals z ≡ 0
no-turns V vals Form.big_union z l = ap (settle V vals) l
no-turns V vals Form.sum z l = ap (settle V vals) l
no-turns V vals (Form.var i) z l = absurd l
no-turns V vals (Form.global n) z l = absurd l
no-turns V vals Form.bind z l = absurd l
no-turns V vals Form.choose z l = absurd l
no-turns V vals Form.default z l = absurd l
no-turns V vals (Form.tab rank) z l = absurd l
no-turns V vals (Form.strict s) z l = absurd l

-- with the test's turns at each member put back, M1 adds at most those of one test
pub test-turns : (V : Outcomes) (vals : List Datum) (f : Form) (e c b z : Term) (ms : List Datum) (t : Bool) → WellFormed c → LoopOf f z →
    (cden V vals e >>= as_set) ≡ Some ms → (cden V vals c >>= as_truth) ≡ Some t →
    settle V vals (if_term c (loop_term f e b) z) + total (λ m. settle V vals c) ms ≤ settle V vals (loop_term f e (if_term (shift_term 0 1 c) b z)) + settle V vals c
test-turns V vals f e c b z ms t w l d h =
    let r = if-turns V vals c (loop_term f e b) z t h in
    let x = loop-turns V vals f e (if_term (shift_term 0 1 c) b z) z ms l d in
    let y = loop-turns V vals f e b z ms l d in
    let p = total-ext (λ m. settle V (m ∷ vals) (if_term (shift_term 0 1 c) b z)) (λ m. settle V vals c + (if t then settle V (m ∷ vals) b else settle V (m ∷ vals) z)) ms
    (Every-all _ (λ m. if-turns V (m ∷ vals) (shift_term 0 1 c) b z t (ap (λ o. o >>= as_truth) (cden-shift_term V [] (m ∷ []) vals c) ∙ h)
    ∙ ap (λ n. n + (if t then settle V (m ∷ vals) b else settle V (m ∷ vals) z)) (settle-shift_term V [] (m ∷ []) vals c w)) ms) in
    let q = total-both (settle V vals c) (λ m. if t then settle V (m ∷ vals) b else settle V (m ∷ vals) z) ms in
    by t r x y p q
  where
    by : (t : Bool) → settle V vals (if_term c (loop_term f e b) z) ≡ settle V vals c + (if t then settle V vals (loop_term f e b) else settle V vals z) →
        settle V vals (loop_term f e (if_term (shift_term 0 1 c) b z)) ≡ length ms + (settle V vals e + total (λ m. settle V (m ∷ vals) (if_term (shift_term 0 1 c) b z)) ms) →
        settle V vals (loop_term f e b) ≡ length ms + (settle V vals e + total (λ m. settle V (m ∷ vals) b) ms) →
        total (λ m. settle V (m ∷ vals) (if_term (shift_term 0 1 c) b z)) ms ≡ total (λ m. settle V vals c + (if t then settle V (m ∷ vals) b else settle V (m ∷ vals) z)) ms →
        total (λ m. settle V vals c + (if t then settle V (m ∷ vals) b else settle V (m ∷ vals) z)) ms ≡ total (λ m. settle V vals c) ms + total (λ m. if t then settle V (m ∷ vals) b else settle V (m ∷ vals) z) ms →
        settle V vals (if_term c (loop_term f e b) z) + total (λ m. settle V vals c) ms ≤ settle V vals (loop_term f e (if_term (shift_term 0 1 c) b z)) + settle V vals c
    by true r x y p q = omega (arith, r, x, y, p, q)
    by false r x y p q = let n = no-turns V vals f z l in omega (arith, r, x, y, p, q, n)
