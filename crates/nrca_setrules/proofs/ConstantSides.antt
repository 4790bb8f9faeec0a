-- Where K1 fits, and its right side.
use Rattle.std.proofs.Common.{◌≡◌, ℕ, inl, inr, Bool, true, false, List, [], length, map, Some, refl, sym, ap, subst, ◌∙◌}
use Rattle.aql_value.specs.declared.ops.ArithOp.{ArithOp}
use Rattle.aql_value.specs.declared.ops.CompareOp.{CompareOp}
use Rattle.aql_value.specs.Datum as datum
use Rattle.aql_value.specs.Ops.{arith_by, compare_by}
use Rattle.aql_value.specs.Order.{datum_cmp}
use Rattle.nrca_term.specs.declared.trace.Rule.TheVariants.{K1}
use Rattle.nrca_term.specs.Term.{Term}
use Rattle.nrca_term.specs.Nodes.{number, truth_term, text_term, bottom_term, empty_term, arith_term, compare_term, gen_term, get_term, literal_term}
use Rattle.nrca_term.specs.Rules.{Folds, arithmetic, numbers, truths, texts, generated, member, misshapen, number_or_bottom, constant_literal}
use Rattle.nrca_rule_laws.specs.Fitting.{RuleFits, IsRight}
use Rattle.nrca_rule_laws.specs.Laws.Fitting.{right-side}
use Rattle.nrca_setrules.proofs.Sides.{false-true}
use Rattle.nrca_setrules.specs.Constants.{AreNumbers, AreAlike, IsMisshapen, constant_of, Computes, Compares}
use Rattle.nrca_term.specs.Laws.Lists.{literal-parts}

-- an operation that folds is one of two numbers, and folds to what it makes of them
arith-folds : (op : ArithOp) (t x y r : Term) → t ≡ arith_term op x y → Folds t r →
    (m n : ℕ) × (x ≡ number m) × (y ≡ number n) × (r ≡ number_or_bottom (arith_by op m n))
arith-folds op t x y r h (arithmetic o m n e k) =
    let q : arith_term op x y ≡ arith_term o (number m) (number n) = sym h ∙ e in
    let s : op ≡ o = cc in
    (m, n, cc, cc, k ∙ ap (λ z. number_or_bottom (arith_by z m n)) (sym s))
arith-folds op t x y r h (numbers o m n e k) = let q : arith_term op x y ≡ compare_term o (number m) (number n) = sym h ∙ e in cc
arith-folds op t x y r h (truths o a b e k) = let q : arith_term op x y ≡ compare_term o (truth_term a) (truth_term b) = sym h ∙ e in cc
arith-folds op t x y r h (texts o s u e k) = let q : arith_term op x y ≡ compare_term o (text_term s) (text_term u) = sym h ∙ e in cc
arith-folds op t x y r h (generated e k) = let q : arith_term op x y ≡ gen_term (number 0) = sym h ∙ e in cc
arith-folds op t x y r h (member e k) = let q : arith_term op x y ≡ get_term empty_term = sym h ∙ e in cc
arith-folds op t x y r h (misshapen ns cs e n k) = let q : arith_term op x y ≡ constant_literal ns cs = sym h ∙ e in cc

-- a comparison that folds is one of two constants of a kind, and folds to what it says of them
compare-folds : (op : CompareOp) (t x y r : Term) → t ≡ compare_term op x y → Folds t r →
    AreAlike x y × ((u v : datum.Datum) × (constant_of x ≡ Some u) × (constant_of y ≡ Some v) × (r ≡ truth_term (compare_by op (datum_cmp u v))))
compare-folds op t x y r h (arithmetic o m n e k) = let q : compare_term op x y ≡ arith_term o (number m) (number n) = sym h ∙ e in cc
compare-folds op t x y r h (numbers o m n e k) =
    let q : compare_term op x y ≡ compare_term o (number m) (number n) = sym h ∙ e in
    let s : op ≡ o = cc in
    let a : x ≡ number m = cc in
    let b : y ≡ number n = cc in
    (inl (m, n, a, b), (datum.natural m, datum.natural n, ap constant_of a, ap constant_of b, k ∙ ap (λ z. truth_term (compare_by z (datum_cmp (datum.natural m) (datum.natural n)))) (sym s)))
compare-folds op t x y r h (truths o c d e k) =
    let q : compare_term op x y ≡ compare_term o (truth_term c) (truth_term d) = sym h ∙ e in
    let s : op ≡ o = cc in
    let a : x ≡ truth_term c = cc in
    let b : y ≡ truth_term d = cc in
    (inr (inl (c, d, a, b)), (datum.truth c, datum.truth d, ap constant_of a, ap constant_of b, k ∙ ap (λ z. truth_term (compare_by z (datum_cmp (datum.truth c) (datum.truth d)))) (sym s)))
compare-folds op t x y r h (texts o c d e k) =
    let q : compare_term op x y ≡ compare_term o (text_term c) (text_term d) = sym h ∙ e in
    let s : op ≡ o = cc in
    let a : x ≡ text_term c = cc in
    let b : y ≡ text_term d = cc in
    (inr (inr (c, d, a, b)), (datum.text c, datum.text d, ap constant_of a, ap constant_of b, k ∙ ap (λ z. truth_term (compare_by z (datum_cmp (datum.text c) (datum.text d)))) (sym s)))
compare-folds op t x y r h (generated e k) = let q : compare_term op x y ≡ gen_term (number 0) = sym h ∙ e in cc
compare-folds op t x y r h (member e k) = let q : compare_term op x y ≡ get_term empty_term = sym h ∙ e in cc
compare-folds op t x y r h (misshapen ns cs e n k) = let q : compare_term op x y ≡ constant_literal ns cs = sym h ∙ e in cc

-- the numbers below a number fold where it is 0, to the empty set
gen-folds : (t x r : Term) → t ≡ gen_term x → Folds t r → (x ≡ number 0) × (r ≡ empty_term)
gen-folds t x r h (arithmetic o m n e k) = let q : gen_term x ≡ arith_term o (number m) (number n) = sym h ∙ e in cc
gen-folds t x r h (numbers o m n e k) = let q : gen_term x ≡ compare_term o (number m) (number n) = sym h ∙ e in cc
gen-folds t x r h (truths o a b e k) = let q : gen_term x ≡ compare_term o (truth_term a) (truth_term b) = sym h ∙ e in cc
gen-folds t x r h (texts o s u e k) = let q : gen_term x ≡ compare_term o (text_term s) (text_term u) = sym h ∙ e in cc
gen-folds t x r h (generated e k) = let q : gen_term x ≡ gen_term (number 0) = sym h ∙ e in (cc, k)
gen-folds t x r h (member e k) = let q : gen_term x ≡ get_term empty_term = sym h ∙ e in cc
gen-folds t x r h (misshapen ns cs e n k) = let q : gen_term x ≡ constant_literal ns cs = sym h ∙ e in cc

-- the member of a set folds where the set is empty, to Bottom
get-folds : (t x r : Term) → t ≡ get_term x → Folds t r → (x ≡ empty_term) × (r ≡ bottom_term)
get-folds t x r h (arithmetic o m n e k) = let q : get_term x ≡ arith_term o (number m) (number n) = sym h ∙ e in cc
get-folds t x r h (numbers o m n e k) = let q : get_term x ≡ compare_term o (number m) (number n) = sym h ∙ e in cc
get-folds t x r h (truths o a b e k) = let q : get_term x ≡ compare_term o (truth_term a) (truth_term b) = sym h ∙ e in cc
get-folds t x r h (texts o s u e k) = let q : get_term x ≡ compare_term o (text_term s) (text_term u) = sym h ∙ e in cc
get-folds t x r h (generated e k) = let q : get_term x ≡ gen_term (number 0) = sym h ∙ e in cc
get-folds t x r h (member e k) = let q : get_term x ≡ get_term empty_term = sym h ∙ e in (cc, k)
get-folds t x r h (misshapen ns cs e n k) = let q : get_term x ≡ constant_literal ns cs = sym h ∙ e in cc

-- a literal folds where it is misshapen, to Bottom
literal-folds : (t r : Term) (ds cs : List Term) → t ≡ literal_term ds cs → Folds t r → IsMisshapen ds cs × (r ≡ bottom_term)
literal-folds t r ds cs h (arithmetic o m n e k) = let q : literal_term ds cs ≡ arith_term o (number m) (number n) = sym h ∙ e in cc
literal-folds t r ds cs h (numbers o m n e k) = let q : literal_term ds cs ≡ compare_term o (number m) (number n) = sym h ∙ e in cc
literal-folds t r ds cs h (truths o a b e k) = let q : literal_term ds cs ≡ compare_term o (truth_term a) (truth_term b) = sym h ∙ e in cc
literal-folds t r ds cs h (texts o s u e k) = let q : literal_term ds cs ≡ compare_term o (text_term s) (text_term u) = sym h ∙ e in cc
literal-folds t r ds cs h (generated e k) = let q : literal_term ds cs ≡ gen_term (number 0) = sym h ∙ e in cc
literal-folds t r ds cs h (member e k) = let q : literal_term ds cs ≡ get_term empty_term = sym h ∙ e in cc
literal-folds t r ds cs h (misshapen ns xs e n k) =
    let z = literal-parts ds (map number ns) cs xs (sym h ∙ e) in
    ((ns, z.0, λ q. n (q ∙ ap length z.1)), k)

-- K1 fits an operation exactly on two numbers
pub k1_arith : (b : Bool) (op : ArithOp) (t x y : Term) → t ≡ arith_term op x y → (b ≡ true → AreNumbers x y) → (AreNumbers x y → b ≡ true) → RuleFits K1 b t
k1_arith true op t x y h f g =
    let w = f refl in
    (number_or_bottom (arith_by op w.0 w.1), [], (arithmetic op w.0 w.1 (h ∙ ap (λ z. arith_term op z y) w.2 ∙ ap (arith_term op (number w.0)) w.3) refl, refl))
k1_arith false op t x y h f g = λ r ws z. let w = arith-folds op t x y r h z.0 in false-true (g (w.0, w.1, w.2, w.3))

-- K1 fits a comparison exactly on two constants of a kind
pub k1_compare : (b : Bool) (op : CompareOp) (t x y : Term) → t ≡ compare_term op x y → (b ≡ true → AreAlike x y) → (AreAlike x y → b ≡ true) → RuleFits K1 b t
k1_compare true op t x y h f g = alike (f refl)
  where
    alike : AreAlike x y → RuleFits K1 true t
    alike (inl w) = (truth_term (compare_by op (datum_cmp (datum.natural w.0) (datum.natural w.1))), [], (numbers op w.0 w.1 (h ∙ ap (λ z. compare_term op z y) w.2 ∙ ap (compare_term op (number w.0)) w.3) refl, refl))
    alike (inr (inl w)) = (truth_term (compare_by op (datum_cmp (datum.truth w.0) (datum.truth w.1))), [], (truths op w.0 w.1 (h ∙ ap (λ z. compare_term op z y) w.2 ∙ ap (compare_term op (truth_term w.0)) w.3) refl, refl))
    alike (inr (inr w)) = (truth_term (compare_by op (datum_cmp (datum.text w.0) (datum.text w.1))), [], (texts op w.0 w.1 (h ∙ ap (λ z. compare_term op z y) w.2 ∙ ap (compare_term op (text_term w.0)) w.3) refl, refl))
k1_compare false op t x y h f g = λ r ws z. false-true (g (compare-folds op t x y r h z.0).0)

-- K1 fits the numbers below 0 alone
pub k1_gen : (b : Bool) (t x : Term) → t ≡ gen_term x → (b ≡ true → x ≡ number 0) → (x ≡ number 0 → b ≡ true) → RuleFits K1 b t
k1_gen true t x h f g = (empty_term, [], (generated (h ∙ ap gen_term (f refl)) refl, refl))
k1_gen false t x h f g = λ r ws z. false-true (g (gen-folds t x r h z.0).0)

-- K1 fits the member of the empty set alone
pub k1_get : (b : Bool) (t x : Term) → t ≡ get_term x → (b ≡ true → x ≡ empty_term) → (x ≡ empty_term → b ≡ true) → RuleFits K1 b t
k1_get true t x h f g = (bottom_term, [], (member (h ∙ ap get_term (f refl)) refl, refl))
k1_get false t x h f g = λ r ws z. false-true (g (get-folds t x r h z.0).0)

-- K1 fits exactly the literals that are misshapen
pub k1_literal : (b : Bool) (t : Term) (ds cs : List Term) → t ≡ literal_term ds cs → (b ≡ true → IsMisshapen ds cs) → (IsMisshapen ds cs → b ≡ true) → RuleFits K1 b t
k1_literal true t ds cs h f g =
    let w = f refl in
    (bottom_term, [], (misshapen w.0 cs (h ∙ ap (λ xs. literal_term xs cs) w.1) w.2 refl, refl))
k1_literal false t ds cs h f g = λ r ws z. false-true (g (literal-folds t r ds cs h z.0).0)

-- what each right side of the rule is, is the right side
k1_by : (t r : Term) → RuleFits K1 true t → ((s : Term) → Folds t s → r ≡ s) → IsRight K1 t r
k1_by t r f e = subst (IsRight K1 t) (sym (e f.0 f.2.0)) (right-side K1 t f.0 f.1 f.2)

-- the right side of an operation on numbers
pub k1_computed : (op : ArithOp) (t x y r : Term) → t ≡ arith_term op x y → RuleFits K1 true t → Computes op x y r → IsRight K1 t r
k1_computed op t x y r h f c = k1_by t r f (λ s z. let w = arith-folds op t x y s h z in c w.0 w.1 w.2 w.3 ∙ sym w.4)

-- the right side of a comparison of constants
pub k1_compared : (op : CompareOp) (t x y r : Term) → t ≡ compare_term op x y → RuleFits K1 true t → Compares op x y r → IsRight K1 t r
k1_compared op t x y r h f c = k1_by t r f (λ s z. let w = (compare-folds op t x y s h z).1 in c w.0 w.1 w.2 w.3 ∙ sym w.4)

-- the right side of the numbers below 0
pub k1_none : (t x r : Term) → t ≡ gen_term x → RuleFits K1 true t → r ≡ empty_term → IsRight K1 t r
k1_none t x r h f e = k1_by t r f (λ s z. e ∙ sym (gen-folds t x s h z).1)

-- the right side of the member of the empty set
pub k1_memberless : (t x r : Term) → t ≡ get_term x → RuleFits K1 true t → r ≡ bottom_term → IsRight K1 t r
k1_memberless t x r h f e = k1_by t r f (λ s z. e ∙ sym (get-folds t x s h z).1)

-- the right side of a misshapen literal
pub k1_misshapen : (t r : Term) (ds cs : List Term) → t ≡ literal_term ds cs → RuleFits K1 true t → r ≡ bottom_term → IsRight K1 t r
k1_misshapen t r ds cs h f e = k1_by t r f (λ s z. e ∙ sym (literal-folds t s ds cs h z).1)
