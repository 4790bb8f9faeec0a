-- The code's names as a scope.
use Rattle.std.proofs.Common.{◌≡◌, ◌<◌, ◌≤◌, ℕ, zero, suc, ◌+◌, ◌-◌, true, false, List, [], ◌∷◌, ◌++◌, length, take, drop, get_or, Option, Some, None, option_map, refl, sym, ap, ◌∙◌, arith, length-append}
use Rattle.std.proofs.lemmas.List.{take-append-le, take_all}
use Rattle.aql_syntax.specs.Tree.{Name, pat}
use Rattle.aql_syntax.specs.View.{pat_of, pats_of}
use Rattle.aql_syntax.specs.declared.ast.Pattern.{Pattern}
use Rattle.aql_syntax.specs.Laws.View.{pat_of_row, pats_from, pats_past}
use Rattle.aql_desugar_spec.specs.Start.{Binders, index_under, index_of, unnamed_binders, bind_pattern, bind_patterns}
use Rattle.aql_desugar.specs.Names.{binders_of, has_name, further_by}
use Rattle.aql_desugar.specs.Laws.Scopes.{binders_of-last}

pub index_here : (x : Name) (v : Option Name) (s : Binders) → has_name x v ≡ true → index_of x (v ∷ s) ≡ Some 0
index_here x None s e = cc
index_here x (Some y) s e = rw e refl

pub index_past : (x : Name) (v : Option Name) (s : Binders) → has_name x v ≡ false → index_of x (v ∷ s) ≡ index_under (index_of x s)
index_past x None s e = refl
index_past x (Some y) s e = rw e refl

further_raised : (n m : ℕ) (o : Option ℕ) → m ≡ n + 1 → further_by n (index_under o) ≡ further_by m o
further_raised n m None e = refl
further_raised n m (Some i) e = let z : n + suc i ≡ m + i = omega (arith, e) in ap Some z

further_here : (n : ℕ) → further_by n (Some 0) ≡ Some n
further_here n = let z : n + 0 ≡ n = omega arith in ap Some z

-- the search goes from the last name to the first
pub search_here : {A : Type 0} (f : A → Name) (x : Name) (xs : List (Option A)) (i : ℕ) (v : Option A) (base n : ℕ) → take (i + 1) xs ≡ take i xs ++ v ∷ [] → has_name x (option_map f v) ≡ true →
    further_by n (index_of x (binders_of f (take (i + 1) xs) base)) ≡ Some n
search_here f x xs i v base n e h =
    ap (λ l. further_by n (index_of x (binders_of f l base))) e ∙ ap (λ s. further_by n (index_of x s)) (binders_of-last f (take i xs) v base)
    ∙ ap (further_by n) (index_here x (option_map f v) (binders_of f (take i xs) base) h) ∙ further_here n

pub search_past : {A : Type 0} (f : A → Name) (x : Name) (xs : List (Option A)) (i : ℕ) (v : Option A) (base n m : ℕ) → take (i + 1) xs ≡ take i xs ++ v ∷ [] → has_name x (option_map f v) ≡ false → m ≡ n + 1 →
    further_by n (index_of x (binders_of f (take (i + 1) xs) base)) ≡ further_by m (index_of x (binders_of f (take i xs) base))
search_past f x xs i v base n m e h k =
    ap (λ l. further_by n (index_of x (binders_of f l base))) e ∙ ap (λ s. further_by n (index_of x s)) (binders_of-last f (take i xs) v base)
    ∙ ap (further_by n) (index_past x (option_map f v) (binders_of f (take i xs) base) h) ∙ further_raised n m (index_of x (binders_of f (take i xs) base)) k

-- the elements before the next one, and that
pub take_at : {A : Type 0} (xs : List A) (k : ℕ) (v : A) → k < length xs → v ≡ get_or xs k v → take (k + 1) xs ≡ take k xs ++ v ∷ []
take_at [] k v l e = absurd (omega arith)
take_at (x ∷ xs) zero v l e = ap (λ w. w ∷ []) (sym e)
take_at (x ∷ xs) (suc k) v l e = let z : suc k + 1 ≡ suc (k + 1) = omega arith in ap (λ n. take n (x ∷ xs)) z ∙ ap (λ ys. x ∷ ys) (take_at xs k v (omega arith) e)

pub found_at : {A : Type 0} (f : A → Name) (x : Name) (xs : List (Option A)) (i j : ℕ) (v : Option A) → i ≡ j + 1 → i ≤ length xs → v ≡ get_or xs j v → has_name x (option_map f v) ≡ true →
    ((base : ℕ) → index_of x (binders_of f xs base) ≡ further_by (length xs - i) (index_of x (binders_of f (take i xs) base))) → (base : ℕ) → Some (length xs - 1 - j) ≡ index_of x (binders_of f xs base)
found_at f x xs i j v e l g h same base =
    let z : length xs - i ≡ length xs - 1 - j = omega arith in
    sym (same base ∙ ap (λ n. further_by (length xs - i) (index_of x (binders_of f (take n xs) base))) e
    ∙ search_here f x xs j v base (length xs - i) (take_at xs j v (omega arith) g) h ∙ ap Some z)

pub passed_at : {A : Type 0} (f : A → Name) (x : Name) (xs : List (Option A)) (i j : ℕ) (v : Option A) → i ≡ j + 1 → i ≤ length xs → v ≡ get_or xs j v → has_name x (option_map f v) ≡ false →
    ((base : ℕ) → index_of x (binders_of f xs base) ≡ further_by (length xs - i) (index_of x (binders_of f (take i xs) base))) → (base : ℕ) →
    index_of x (binders_of f xs base) ≡ further_by (length xs - j) (index_of x (binders_of f (take j xs) base))
passed_at f x xs i j v e l g h same base =
    same base ∙ ap (λ n. further_by (length xs - i) (index_of x (binders_of f (take n xs) base))) e
    ∙ search_past f x xs j v base (length xs - i) (length xs - j) (take_at xs j v (omega arith) g) h (omega arith)

index-unnamed_binders : (x : Name) (n : ℕ) → index_of x (unnamed_binders n) ≡ None
index-unnamed_binders x zero = refl
index-unnamed_binders x (suc n) = ap index_under (index-unnamed_binders x n)

pub none_left : {A : Type 0} (f : A → Name) (x : Name) (xs : List (Option A)) (i : ℕ) → i ≤ 0 →
    ((base : ℕ) → index_of x (binders_of f xs base) ≡ further_by (length xs - i) (index_of x (binders_of f (take i xs) base))) → (base : ℕ) → None ≡ index_of x (binders_of f xs base)
none_left f x xs i l same base =
    let z : i ≡ 0 = omega arith in
    sym (same base ∙ ap (λ n. further_by (length xs - i) (index_of x (binders_of f (take n xs) base))) z ∙ ap (further_by (length xs - i)) (index-unnamed_binders x base))

-- one pattern more of a tuple's
pub enter_inside : {A : Type 0} (f : A → Name) (ps : List Pattern) (i : ℕ) (p : Pattern) (start xs ys zs : List (Option A)) → i < length ps → p ≡ get_or ps i p → ys ≡ xs ++ None ∷ [] →
    ((base : ℕ) → binders_of f zs base ≡ bind_pattern (pat_of p) (binders_of f ys base)) →
    ((base : ℕ) → bind_patterns (pats_of (drop i ps)) (binders_of f xs base) ≡ bind_patterns (pats_of ps) (binders_of f start base)) → (base : ℕ) →
    bind_patterns (pats_of (drop (i + 1) ps)) (binders_of f zs base) ≡ bind_patterns (pats_of ps) (binders_of f start base)
enter_inside f ps i p start xs ys zs l g e h k base =
    ap (bind_patterns (pats_of (drop (i + 1) ps))) (h base ∙ ap (bind_pattern (pat_of p)) (ap (λ l. binders_of f l base) e ∙ binders_of-last f xs None base))
    ∙ sym (ap (λ q. bind_patterns q (binders_of f xs base)) (pats_from ps i p l ∙ ap (λ q. pat (pat_of q) (pats_of (drop (i + 1) ps))) (sym g)))
    ∙ k base

-- the last element is taken off
pub taken_off : {A : Type 0} (xs ys zs : List A) (v : A) → ys ≡ xs ++ v ∷ [] → zs ≡ take (length ys - 1) ys → zs ≡ xs
taken_off xs ys zs v e h =
    let z : length ys - 1 ≡ length xs = omega (arith, ap length e, length-append xs (v ∷ [])) in
    h ∙ ap (λ n. take n ys) z ∙ ap (take (length xs)) e ∙ take-append-le (length xs) xs (v ∷ []) (omega arith) ∙ take_all (length xs) xs (omega arith)

pub ruleset entering = (binders_of-last, pat_of_row, pats_from, pats_past)
