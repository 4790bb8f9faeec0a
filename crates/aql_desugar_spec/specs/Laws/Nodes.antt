-- What the nodes that a translation makes are worth and the turns that they take, by their parts.
use Rattle.std.proofs.Common.{◌≡◌, ℕ, ◌+◌, Bool, true, false, List, [], ◌∷◌, length, map, Option, Some, None, if◌then◌else◌, refl, ◌∙◌, arith}
use Rattle.std.proofs.Math.Path.{fun_ext}
use Rattle.aql_value.specs.Datum.{Datum, set, nil}
use Rattle.aql_value.specs.Laws.Lists.{Every-all}
use Rattle.aql_value.specs.Operations.{as_truth, as_set, set_of, union_all}
use Rattle.aql_value.specs.Laws.Operations.{union_all-sets}
use Rattle.aql_value.specs.Partial.{◌>>=◌, each, concat, total, if_some}
use Rattle.aql_value.specs.Laws.Partial.{each-then, each-concat, total-ext}
use Rattle.aql_syntax.specs.Matching.{Env, Match, hit, miss, undefined, on_match}
use Rattle.nrca_term.specs.Term.{Term}
use Rattle.nrca_term.specs.Meaning.{Outcomes, cden}
use Rattle.nrca_term.specs.Turns.{settle}
use Rattle.nrca_term.specs.Nodes.{let_term, if_term, big_union_term, sum_term}
use Rattle.nrca_term.specs.Laws.Variants.{settle-let, settle-if, settle-big_union, settle-sum}

-- Values.

pub one-worth : {x o : Option Datum} (f : List Datum → Option Datum) → x ≡ o → ((x >>= λ v. Some (v ∷ [])) >>= f) ≡ (o >>= λ v. f (v ∷ []))
one-worth {o = None} f h = rw h refl
one-worth {o = Some v} f h = rw h refl

pub two-worth : {x y o p : Option Datum} (f : List Datum → Option Datum) → x ≡ o → y ≡ p →
    ((x >>= λ v. (y >>= λ w. Some (w ∷ [])) >>= λ ws. Some (v ∷ ws)) >>= f) ≡ (o >>= λ v. p >>= λ w. f (v ∷ w ∷ []))
two-worth {o = None} f h i = rw h refl
two-worth {o = Some v} {p = None} f h i = rw (h, i) refl
two-worth {o = Some v} {p = Some w} f h i = rw (h, i) refl

pub choose-worth : {x y z o p q : Option Datum} → x ≡ o → y ≡ p → z ≡ q →
    (x >>= as_truth >>= λ t. if t then y else z) ≡ (o >>= as_truth >>= λ t. if t then p else q)
choose-worth h i j = rw (h, i, j) refl

pub let-worth : {x o : Option Datum} {g f : Datum → Option Datum} → x ≡ o → ((v : Datum) → g v ≡ f v) → (x >>= g) ≡ (o >>= f)
let-worth h i = λ n. h n >>= fun_ext i n

pub loop-worth : {x o : Option Datum} {g f : Datum → Option Datum} → x ≡ o → ((v : Datum) → g v ≡ f v) →
    (x >>= as_set >>= each g) ≡ (o >>= as_set >>= each f)
loop-worth h i = λ n. h n >>= as_set >>= each (fun_ext i n)

-- what a comprehension is worth at rows that may be undefined
abbrev pub heads : {A : Type 0} → (A → Option Datum) → Option (List A) → Option Datum
heads g o = o >>= each g >>= λ ws. Some (set_of ws)

pub union_all-heads : {A B : Type 0} (f : A → Option (List B)) (g : B → Option Datum) (xs : List A) →
    (each (λ x. heads g (f x)) xs >>= union_all) ≡ heads g (each f xs >>= λ found. Some (concat found))
union_all-heads f g xs = rw (each-then (λ x. f x >>= each g) set_of xs, each-concat f g xs) (go (each (λ x. f x >>= each g) xs))
  where
    go : (q : Option (List (List Datum))) →
        ((q >>= λ wss. Some (map set_of wss)) >>= union_all) ≡ ((q >>= λ found. Some (concat found)) >>= λ ws. Some (set_of ws))
    go None = refl
    go (Some wss) = union_all-sets wss

-- the heads at what a match gives
pub matched_heads : (g : Env → Option Datum) (m : Match) (k : Env → Option (List Env)) →
    on_match m (λ env. heads g (k env)) (Some (set nil)) None ≡ heads g (on_match m k (Some []) None)
matched_heads g (hit env) k = refl
matched_heads g miss k = refl
matched_heads g undefined k = refl

pub let_heads : (g : Env → Option Datum) (o : Option Datum) (k : Datum → Option (List Env)) → (o >>= λ w. heads g (k w)) ≡ heads g (o >>= k)
let_heads g None k = refl
let_heads g (Some w) k = refl

pub test_heads : (g : Env → Option Datum) (o : Option Bool) (k : Option (List Env)) →
    (o >>= λ t. if t then heads g k else Some (set nil)) ≡ heads g (o >>= λ t. if t then k else Some [])
test_heads g None k = refl
test_heads g (Some true) k = refl
test_heads g (Some false) k = refl

pub loop_heads : (g : Env → Option Datum) (o : Option (List Datum)) (k : Datum → Option (List Env)) →
    ((o >>= each (λ w. heads g (k w))) >>= union_all) ≡ heads g (o >>= each k >>= λ found. Some (concat found))
loop_heads g None k = refl
loop_heads g (Some ms) k = union_all-heads k g ms

pub one_head : (o : Option Datum) → (o >>= λ v. Some (set_of (v ∷ []))) ≡ (o >>= λ y. Some (y ∷ [])) >>= λ ws. Some (set_of ws)
one_head None = refl
one_head (Some v) = refl

-- Turns.

pub let-turns : (V : Outcomes) (vals : List Datum) (a b : Term) (n : ℕ) (o : Option Datum) (f : Datum → ℕ) →
    settle V vals a ≡ n → cden V vals a ≡ o → ((v : Datum) → settle V (v ∷ vals) b ≡ f v) →
    settle V vals (let_term a b) ≡ n + if_some o f
let-turns V vals a b n o f h e i = settle-let V vals a b ∙ (λ k. h k + if_some (e k) (fun_ext i k))

loop_count : (q : Option (List Datum)) (n : ℕ) (g f : Datum → ℕ) → ((v : Datum) → g v ≡ f v) →
    if_some q length + n + if_some q (total g) ≡ n + if_some q (λ ws. length ws + total f ws)
loop_count None n g f h = omega arith
loop_count (Some ws) n g f h = omega (arith, total-ext g f ws (Every-all (λ v. g v ≡ f v) h ws))

pub big_union-turns : (V : Outcomes) (vals : List Datum) (a b : Term) (n : ℕ) (o : Option Datum) (f : Datum → ℕ) →
    settle V vals a ≡ n → cden V vals a ≡ o → ((v : Datum) → settle V (v ∷ vals) b ≡ f v) →
    settle V vals (big_union_term a b) ≡ n + if_some (o >>= as_set) (λ ws. length ws + total f ws)
big_union-turns V vals a b n o f h e i =
    settle-big_union V vals a b ∙ rw (h, e) (loop_count (o >>= as_set) n (λ m. settle V (m ∷ vals) b) f i)

pub sum-turns : (V : Outcomes) (vals : List Datum) (a b : Term) (n : ℕ) (o : Option Datum) (f : Datum → ℕ) →
    settle V vals a ≡ n → cden V vals a ≡ o → ((v : Datum) → settle V (v ∷ vals) b ≡ f v) →
    settle V vals (sum_term a b) ≡ n + if_some (o >>= as_set) (λ ws. length ws + total f ws)
sum-turns V vals a b n o f h e i =
    settle-sum V vals a b ∙ rw (h, e) (loop_count (o >>= as_set) n (λ m. settle V (m ∷ vals) b) f i)

pub choose-turns : (V : Outcomes) (vals : List Datum) (c a b : Term) (n : ℕ) (o : Option Datum) (p q : ℕ) →
    settle V vals c ≡ n → cden V vals c ≡ o → settle V vals a ≡ p → settle V vals b ≡ q →
    settle V vals (if_term c a b) ≡ n + if_some (o >>= as_truth) (λ t. if t then p else q)
choose-turns V vals c a b n o p q h e i j = settle-if V vals c a b ∙ rw (h, e, i, j) refl
