-- The terms of parts that are translated, beside what the parts are worth.
use Rattle.std.proofs.Common.{◌≡◌, ℕ, zero, suc, true, nat_eq, List, [], ◌∷◌, ◌++◌, length, map, take, drop, replicate, Option, Some, None, refl, sym, ap, subst, ◌∙◌, if◌then◌else◌, arith}
use Rattle.std.proofs.lemmas.Option.{same_Some}
use Rattle.aql_value.specs.Datum as datum
use Rattle.aql_value.specs.Datum.{Datum}
use Rattle.aql_value.specs.Operations.{push_index}
use Rattle.aql_value.specs.Partial.{◌>>=◌, each}
use Rattle.aql_value.specs.Laws.Partial.{then-is}
use Rattle.aql_ty.specs.Types as types
use Rattle.aql_ty.specs.Types.{Ty}
use Rattle.aql_ty.specs.ValueTypes.{HaveTypes}
use Rattle.nrca_term.specs.Term.{Term, Parts, none, part, count, terms_in}
use Rattle.nrca_term.specs.Typing.{Arg, arg, parts_typed}
use Rattle.nrca_term.specs.Meaning.{Outcomes, Part, here, worth, cden, part_values}
use Rattle.nrca_term.specs.Laws.Sound.{AllSound, has-here}
use Rattle.nrca_graph.specs.Encoding.{encoding, encode_outcome}
use Rattle.nrca_graph.specs.ArrayFree.{term_at, array_free_parts}
use Rattle.nrca_graph.specs.Laws.KeptForms.{AllMirror}

-- each part has as many variables of its own as its argument
abbrev pub BindersFit : List Arg → Parts → Type 0
BindersFit [] none = Unit {0}
BindersFit [] (part k t ps) = ⊥
BindersFit (a ∷ args) none = ⊥
BindersFit (a ∷ args) (part k t ps) = (length a.own ≡ k) × BindersFit args ps

-- the parts of a typed node, translated
pub typed-binders : (G : ℕ → Ty → Type 0) (env : List Ty) (ps : Parts) (args : List Arg) → parts_typed G env ps args → BindersFit args (array_free_parts ps)
typed-binders G env none args t = subst (λ x. BindersFit x none) (sym t) tt
typed-binders G env (part k u ps) args t = subst (λ x. BindersFit x (array_free_parts (part k u ps))) (sym t.2) (t.3, typed-binders G env ps t.1 t.5)

-- a part at as many values as it has variables
pub part-is : (W : Outcomes) (env : List Datum) (k : ℕ) (t : Term) (new : List Datum) → length new ≡ k → (if nat_eq (length new) k then cden W (new ++ env) t else None) ≡ cden W (new ++ env) t
part-is W env k t new e = ap (λ n. if nat_eq (length new) n then cden W (new ++ env) t else None) (sym e) ∙ same (length new)
  where
    same : (n : ℕ) → (if nat_eq n n then cden W (new ++ env) t else None) ≡ cden W (new ++ env) t
    same n = ap (λ b. if b then cden W (new ++ env) t else None) (let z : nat_eq n n ≡ true = grind (arith) in z)

-- the first parts, which bind nothing, as terms
pub first-terms : (W : Outcomes) (env : List Datum) (n : ℕ) (T : Ty) (args : List Arg) (qs : Parts) → BindersFit (replicate n (arg [] T) ++ args) qs →
    each here (take n (part_values W env qs)) ≡ each (cden W env) (take n (terms_in qs))
first-terms W env zero T args qs b = refl
first-terms W env (suc n) T args none b = absurd b
first-terms W env (suc n) T args (part k t qs) b =
    ap (λ o. o >>= λ y. each here (take n (part_values W env qs)) >>= λ ys. Some (y ∷ ys)) (part-is W env k t [] b.0)
    ∙ ap (λ o. cden W env t >>= λ y. o >>= λ ys. Some (y ∷ ys)) (first-terms W env n T args qs b.1)

-- all parts, where none binds a variable, as terms
pub all-terms : (W : Outcomes) (env : List Datum) (Ts : List Ty) (qs : Parts) → BindersFit (map (arg []) Ts) qs → each here (part_values W env qs) ≡ each (cden W env) (terms_in qs)
all-terms W env [] none b = refl
all-terms W env [] (part k t qs) b = absurd b
all-terms W env (T ∷ Ts) none b = absurd b
all-terms W env (T ∷ Ts) (part k t qs) b =
    ap (λ o. o >>= λ y. each here (part_values W env qs) >>= λ ys. Some (y ∷ ys)) (part-is W env k t [] b.0)
    ∙ ap (λ o. cden W env t >>= λ y. o >>= λ ys. Some (y ∷ ys)) (all-terms W env Ts qs b.1)

-- the part behind them as a term
pub body-term : (W : Outcomes) (env : List Datum) (n : ℕ) (T : Ty) (a : Arg) (qs : Parts) → BindersFit (replicate n (arg [] T) ++ a ∷ []) qs → (new : List Datum) → length new ≡ length a.own →
    worth (part_values W env qs) n new ≡ cden W (new ++ env) (term_at (terms_in qs) n)
body-term W env zero T a none b new e = absurd b
body-term W env zero T a (part k t qs) b new e = part-is W env k t new (e ∙ b.0)
body-term W env (suc n) T a none b new e = absurd b
body-term W env (suc n) T a (part k t qs) b new e = body-term W env n T a qs b.1 new e

-- the first parts mean the encoded values
pub first-mirror : (n : ℕ) (T : Ty) (args : List Arg) (ps qs : List Part) → AllMirror (replicate n (arg [] T) ++ args) ps qs →
    each here (take n qs) ≡ (each here (take n ps) >>= λ vs. Some (map encoding vs))
first-mirror zero T args ps qs m = refl
first-mirror (suc n) T args [] qs m = absurd m
first-mirror (suc n) T args (p ∷ ps) [] m = absurd m
first-mirror (suc n) T args (p ∷ ps) (q ∷ qs) m =
    ap (λ o. o >>= λ y. each here (take n qs) >>= λ ys. Some (y ∷ ys)) (m.0 [] tt) ∙ ap (λ r. encode_outcome (p []) >>= λ y. r >>= λ ys. Some (y ∷ ys)) (first-mirror n T args ps qs m.1)
    ∙ of (p []) (each here (take n ps))
  where
    of : (o : Option Datum) (r : Option (List Datum)) → (encode_outcome o >>= λ y. (r >>= λ vs. Some (map encoding vs)) >>= λ ys. Some (y ∷ ys)) ≡ ((o >>= λ y. r >>= λ ys. Some (y ∷ ys)) >>= λ vs. Some (map encoding vs))
    of None r = refl
    of (Some v) None = refl
    of (Some v) (Some vs) = refl

-- the values of the first parts have their type
pub first-types : (n : ℕ) (T : Ty) (args : List Arg) (ps : List Part) (vs : List Datum) → AllSound (replicate n (arg [] T) ++ args) ps → each here (take n ps) ≡ Some vs → HaveTypes (replicate n T) vs
first-types zero T args ps vs s e = let z : [] ≡ vs = cc in subst (HaveTypes []) z tt
first-types (suc n) T args [] vs s e = absurd s
first-types (suc n) T args (p ∷ ps) vs s e =
    let a = then-is (p []) (λ y. each here (take n ps) >>= λ ys. Some (y ∷ ys)) vs e in
    let b = then-is (each here (take n ps)) (λ ys. Some (a.0 ∷ ys)) vs a.2 in
    let z : a.0 ∷ b.0 ≡ vs = same_Some (a.0 ∷ b.0) vs b.2 in
    subst (HaveTypes (replicate (suc n) T)) z (s.0 [] a.0 tt a.1, first-types n T args ps b.0 s.1 b.1)

-- values of the type of numbers are numbers
pub numbers-of : (n : ℕ) (vs : List Datum) → HaveTypes (replicate n types.natural) vs → (ns : List ℕ) × (vs ≡ map datum.natural ns) × (length ns ≡ n)
numbers-of zero [] h = ([], refl, refl)
numbers-of zero (v ∷ vs) h = absurd h
numbers-of (suc n) [] h = absurd h
numbers-of (suc n) (v ∷ vs) h =
    let r = numbers-of n vs h.1 in (h.0.0 ∷ r.0, ap (λ x. x ∷ vs) h.0.1 ∙ ap (λ xs. datum.natural h.0.0 ∷ xs) r.1, ap suc r.2)

-- the numbers of an index before other values are their own encodings
pub walked-encoded : (at : List ℕ) (l : List Datum) → map encoding (push_index at l) ≡ push_index at (map encoding l)
walked-encoded [] l = refl
walked-encoded (i ∷ at) l = walked-encoded at (datum.natural i ∷ l)

-- parts that bind nothing give the encoded values
pub here-mirror : (Ts : List Ty) (ps qs : List Part) → AllMirror (map (arg []) Ts) ps qs → each here qs ≡ (each here ps >>= λ vs. Some (map encoding vs))
here-mirror [] [] [] m = refl
here-mirror [] [] (q ∷ qs) m = absurd m
here-mirror [] (p ∷ ps) qs m = absurd m
here-mirror (T ∷ Ts) [] qs m = absurd m
here-mirror (T ∷ Ts) (p ∷ ps) [] m = absurd m
here-mirror (T ∷ Ts) (p ∷ ps) (q ∷ qs) m =
    ap (λ o. o >>= λ y. each here qs >>= λ ys. Some (y ∷ ys)) (m.0 [] tt) ∙ ap (λ r. encode_outcome (p []) >>= λ y. r >>= λ ys. Some (y ∷ ys)) (here-mirror Ts ps qs m.1) ∙ of (p []) (each here ps)
  where
    of : (o : Option Datum) (r : Option (List Datum)) → (encode_outcome o >>= λ y. (r >>= λ vs. Some (map encoding vs)) >>= λ ys. Some (y ∷ ys)) ≡ ((o >>= λ y. r >>= λ ys. Some (y ∷ ys)) >>= λ vs. Some (map encoding vs))
    of None r = refl
    of (Some v) None = refl
    of (Some v) (Some vs) = refl

-- the values of sound parts that bind nothing have the types
pub here-types : (Ts : List Ty) (ps : List Part) (vs : List Datum) → AllSound (map (arg []) Ts) ps → each here ps ≡ Some vs → HaveTypes Ts vs
here-types = has-here

-- the parts behind the first ones, where none binds a variable, as terms
pub rest-terms : (W : Outcomes) (env : List Datum) (n : ℕ) (x : Arg) (Ts : List Ty) (qs : Parts) → BindersFit (replicate n x ++ map (arg []) Ts) qs →
    each here (drop n (part_values W env qs)) ≡ each (cden W env) (drop n (terms_in qs))
rest-terms W env zero x Ts qs b = all-terms W env Ts qs b
rest-terms W env (suc n) x Ts none b = absurd b
rest-terms W env (suc n) x Ts (part k t qs) b = rest-terms W env n x Ts qs b.1

-- they mean the encoded values
pub rest-mirror : (n : ℕ) (x : Arg) (Ts : List Ty) (ps qs : List Part) → AllMirror (replicate n x ++ map (arg []) Ts) ps qs →
    each here (drop n qs) ≡ (each here (drop n ps) >>= λ vs. Some (map encoding vs))
rest-mirror zero x Ts ps qs m = here-mirror Ts ps qs m
rest-mirror (suc n) x Ts [] qs m = absurd m
rest-mirror (suc n) x Ts (p ∷ ps) [] m = absurd m
rest-mirror (suc n) x Ts (p ∷ ps) (q ∷ qs) m = rest-mirror n x Ts ps qs m.1

-- as many terms as parts
pub length-terms : (ps : Parts) → length (terms_in (array_free_parts ps)) ≡ count ps
length-terms none = refl
length-terms (part k t ps) = ap suc (length-terms ps)
