-- What a union in rounds of neighbours is worth: the union of all its sets, undefined where one of them is.
use Rattle.std.proofs.Common.{◌≡◌, ℕ, zero, suc, ◌+◌, ◌*◌, ◌≤◌, List, [], ◌∷◌, ◌++◌, length, map, Option, Some, None, refl, sym, ap, ◌∙◌, arith, append_assoc, append-nil}
use Rattle.aql_value.specs.Datum.{Datum}
use Rattle.aql_value.specs.Operations.{set_of}
use Rattle.aql_value.specs.Laws.Operations.{union_of-sets}
use Rattle.aql_value.specs.Partial.{◌>>=◌, each, concat}
use Rattle.aql_value.specs.Laws.Partial.{each-cons_is, each-length}
use Rattle.aql_value.specs.Strict.{Strict, strict_value}
use Rattle.nrca_term.specs.Term.{Term}
use Rattle.nrca_term.specs.Meaning.{Outcomes, cden}
use Rattle.nrca_graph.specs.ArrayFree.{united_neighbours, union_tree}

-- neighbours one after another
abbrev pub neighbours : List (List Datum) → List (List Datum)
neighbours [] = []
neighbours (xs ∷ []) = xs ∷ []
neighbours (xs ∷ ys ∷ xss) = (xs ++ ys) ∷ neighbours xss

-- they have the same elements
neighbours-concat : (xss : List (List Datum)) → concat (neighbours xss) ≡ concat xss
neighbours-concat [] = refl
neighbours-concat (xs ∷ []) = refl
neighbours-concat (xs ∷ ys ∷ xss) = append_assoc xs ys (concat (neighbours xss)) ∙ ap (λ l. xs ++ (ys ++ l)) (neighbours-concat xss)

-- a round leaves about half of the sets
neighbours-length : (ts : List Term) → 2 * length (united_neighbours ts) ≤ length ts + 1
neighbours-length [] = omega arith
neighbours-length (t ∷ []) = omega arith
neighbours-length (t ∷ u ∷ ts) = omega (arith, neighbours-length ts)

-- the sets after a round
round-value : (W : Outcomes) (env : List Datum) (ts : List Term) (xss : List (List Datum)) → each (cden W env) ts ≡ Some (map set_of xss) → each (cden W env) (united_neighbours ts) ≡ Some (map set_of (neighbours xss))
round-value W env [] [] e = refl
round-value W env [] (xs ∷ xss) e = cc
round-value W env (t ∷ []) [] e = absurd (omega (arith, each-length (cden W env) (t ∷ []) [] e))
round-value W env (t ∷ []) (xs ∷ []) e = e
round-value W env (t ∷ []) (xs ∷ ys ∷ xss) e = absurd (omega (arith, each-length (cden W env) (t ∷ []) (map set_of (xs ∷ ys ∷ xss)) e))
round-value W env (t ∷ u ∷ ts) [] e = absurd (omega (arith, each-length (cden W env) (t ∷ u ∷ ts) [] e))
round-value W env (t ∷ u ∷ ts) (xs ∷ []) e = absurd (omega (arith, each-length (cden W env) (t ∷ u ∷ ts) (map set_of (xs ∷ [])) e))
round-value W env (t ∷ u ∷ ts) (xs ∷ ys ∷ xss) e =
    let a = each-cons_is (cden W env) t (u ∷ ts) (map set_of (xs ∷ ys ∷ xss)) e in
    let b = each-cons_is (cden W env) u ts a.1 a.3 in
    let x : a.0 ≡ set_of xs = cc in
    let p : b.0 ∷ b.1 ≡ map set_of (ys ∷ xss) = cc in
    let y : b.0 ≡ set_of ys = cc in
    let z : b.1 ≡ map set_of xss = cc in
    ap (λ o. ((o >>= λ v. (cden W env u >>= λ w. Some (w ∷ [])) >>= λ vs. Some (v ∷ vs)) >>= strict_value Strict.union) >>= λ v. each (cden W env) (united_neighbours ts) >>= λ vs. Some (v ∷ vs)) (a.2 ∙ ap Some x)
    ∙ ap (λ o. (((o >>= λ w. Some (w ∷ [])) >>= λ vs. Some (set_of xs ∷ vs)) >>= strict_value Strict.union) >>= λ v. each (cden W env) (united_neighbours ts) >>= λ vs. Some (v ∷ vs)) (b.2 ∙ ap Some y)
    ∙ ap (λ o. o >>= λ v. each (cden W env) (united_neighbours ts) >>= λ vs. Some (v ∷ vs)) (union_of-sets xs ys)
    ∙ ap (λ o. o >>= λ vs. Some (set_of (xs ++ ys) ∷ vs)) (round-value W env ts xss (b.3 ∙ ap Some z))

-- a set that is undefined stays so
round-none : (W : Outcomes) (env : List Datum) (ts : List Term) → each (cden W env) ts ≡ None → each (cden W env) (united_neighbours ts) ≡ None
round-none W env [] e = cc
round-none W env (t ∷ []) e = e
round-none W env (t ∷ u ∷ ts) e = of (cden W env t) (cden W env u) (each (cden W env) ts) e (round-none W env ts)
  where
    of : (o p : Option Datum) (q : Option (List Datum)) → (o >>= λ v. (p >>= λ w. q >>= λ ws. Some (w ∷ ws)) >>= λ vs. Some (v ∷ vs)) ≡ None → (q ≡ None → each (cden W env) (united_neighbours ts) ≡ None) →
        (((o >>= λ v. (p >>= λ w. Some (w ∷ [])) >>= λ vs. Some (v ∷ vs)) >>= strict_value Strict.union) >>= λ v. each (cden W env) (united_neighbours ts) >>= λ vs. Some (v ∷ vs)) ≡ None
    of None p q k f = refl
    of (Some v) None q k f = refl
    of (Some v) (Some w) None k f = ap (λ r. strict_value Strict.union (v ∷ w ∷ []) >>= λ x. r >>= λ vs. Some (x ∷ vs)) (f refl) ∙ last (strict_value Strict.union (v ∷ w ∷ []))
      where
        last : (o : Option Datum) → (o >>= λ x. None >>= λ vs. Some (x ∷ vs)) ≡ None
        last None = refl
        last (Some x) = refl
    of (Some v) (Some w) (Some ws) k f = cc

-- the union of sets that are defined
pub united-value : (W : Outcomes) (env : List Datum) (n : ℕ) (ts : List Term) (xss : List (List Datum)) → length ts ≤ suc n → each (cden W env) ts ≡ Some (map set_of xss) →
    cden W env (union_tree n ts) ≡ Some (set_of (concat xss))
united-value W env zero [] [] l e = refl
united-value W env zero [] (xs ∷ xss) l e = cc
united-value W env zero (t ∷ []) [] l e = absurd (omega (arith, each-length (cden W env) (t ∷ []) [] e))
united-value W env zero (t ∷ []) (xs ∷ []) l e =
    let a = each-cons_is (cden W env) t [] (map set_of (xs ∷ [])) e in
    let x : a.0 ≡ set_of xs = cc in
    a.2 ∙ ap Some x ∙ ap (λ ys. Some (set_of ys)) (sym (append-nil xs))
united-value W env zero (t ∷ []) (xs ∷ ys ∷ xss) l e = absurd (omega (arith, each-length (cden W env) (t ∷ []) (map set_of (xs ∷ ys ∷ xss)) e))
united-value W env zero (t ∷ u ∷ ts) xss l e = absurd (omega (arith, l))
united-value W env (suc n) ts xss l e =
    united-value W env n (united_neighbours ts) (neighbours xss) (omega (arith, l, neighbours-length ts)) (round-value W env ts xss e) ∙ ap (λ ys. Some (set_of ys)) (neighbours-concat xss)

-- the union of sets one of which is undefined
pub united-none : (W : Outcomes) (env : List Datum) (n : ℕ) (ts : List Term) → length ts ≤ suc n → each (cden W env) ts ≡ None → cden W env (union_tree n ts) ≡ None
united-none W env zero [] l e = cc
united-none W env zero (t ∷ []) l e = of (cden W env t) e
  where
    of : (o : Option Datum) → (o >>= λ y. Some [] >>= λ ys. Some (y ∷ ys)) ≡ None → o ≡ None
    of None k = refl
    of (Some v) k = cc
united-none W env zero (t ∷ u ∷ ts) l e = absurd (omega (arith, l))
united-none W env (suc n) ts l e = united-none W env n (united_neighbours ts) (omega (arith, l, neighbours-length ts)) (round-none W env ts e)
