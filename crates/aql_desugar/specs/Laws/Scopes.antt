-- The laws of the scope that names make, and of names that are put on.
use Rattle.std.proofs.Common.{◌≡◌, ◌≤◌, ℕ, zero, suc, ◌+◌, List, [], ◌∷◌, ◌++◌, length, take, Option, option_map, refl, ap, ◌∙◌, arith}
use Rattle.std.proofs.lemmas.List.{take-append-le}
use Rattle.aql_syntax.specs.Tree.{Name}
use Rattle.aql_desugar_spec.specs.Start.{Binders, unnamed_binders}
use Rattle.aql_desugar_spec.specs.Laws.Positions.{length-unnamed_binders}
use Rattle.aql_desugar.specs.Names.{put_on, binders_of}

-- the last name is the innermost variable
pub put_on_last : {A : Type 0} (f : A → Name) (xs : List (Option A)) (x : Option A) (s : Binders) → put_on f (xs ++ x ∷ []) s ≡ option_map f x ∷ put_on f xs s
put_on_last f [] x s = refl
put_on_last f (y ∷ xs) x s = put_on_last f xs x (option_map f y ∷ s)

pub binders_of-last : {A : Type 0} (f : A → Name) (xs : List (Option A)) (x : Option A) (base : ℕ) → binders_of f (xs ++ x ∷ []) base ≡ option_map f x ∷ binders_of f xs base
binders_of-last f xs x base = put_on_last f xs x (unnamed_binders base)

length-put_on : {A : Type 0} (f : A → Name) (xs : List (Option A)) (s : Binders) → length (put_on f xs s) ≡ length xs + length s
length-put_on f [] s = omega arith
length-put_on f (x ∷ xs) s = omega (arith, length-put_on f xs (option_map f x ∷ s))

pub length-binders_of : {A : Type 0} (f : A → Name) (xs : List (Option A)) (base : ℕ) → length (binders_of f xs base) ≡ length xs + base
length-binders_of f xs base = omega (arith, length-put_on f xs (unnamed_binders base), length-unnamed_binders base)

first_same : {A : Type 0} (n : ℕ) (ys zs : List A) → take (length ys) zs ≡ ys → n ≤ length ys → take n zs ≡ take n ys
first_same zero ys zs e l = refl
first_same (suc n) [] zs e l = absurd (omega arith)
first_same (suc n) (y ∷ ys) [] e l = cc
first_same (suc n) (y ∷ ys) (z ∷ zs) e l =
    let h : z ≡ y = cc in let t : take (length ys) zs ≡ ys = cc in
    ap (λ w. w ∷ take n zs) h ∙ ap (λ ws. y ∷ ws) (first_same n ys zs t (omega arith))

-- a list that goes on after one that goes on
pub extends : {A : Type 0} (xs ys zs : List A) (n : ℕ) → take (length ys) zs ≡ ys → take n ys ≡ xs → n ≤ length ys → take n zs ≡ xs
extends xs ys zs n e f l = first_same n ys zs e l ∙ f

pub took : {A : Type 0} (xs ys : List A) → take (length xs) ys ≡ xs → length xs ≤ length ys
took [] ys e = omega arith
took (x ∷ xs) [] e = cc
took (x ∷ xs) (y ∷ ys) e = let t : take (length xs) ys ≡ xs = cc in omega (arith, took xs ys t)

-- one more element is put on
pub goes_on : {A : Type 0} (xs ys zs : List A) (v : A) → zs ≡ ys ++ v ∷ [] → take (length xs) ys ≡ xs → take (length xs) zs ≡ xs
goes_on xs ys zs v e t = ap (take (length xs)) e ∙ take-append-le (length xs) ys (v ∷ []) (took xs ys t) ∙ t

pub extends_all : {A : Type 0} (xs ys zs : List A) → take (length ys) zs ≡ ys → take (length xs) ys ≡ xs → take (length xs) zs ≡ xs
extends_all xs ys zs e f = extends xs ys zs (length xs) e f (took xs ys f)
