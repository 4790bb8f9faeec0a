-- The positions of the code's declarations.
use Rattle.std.proofs.Common.{◌≡◌, ◌<◌, ◌≤◌, ℕ, zero, suc, ◌+◌, ◌-◌, Bool, true, false, List, [], ◌∷◌, length, map, take, get_or, Option, Some, None, IfSome, option_map, if◌then◌else◌, refl, sym, ap, ◌∙◌, arith}
use Rattle.aql_value.specs.Partial.{or_else}
use Rattle.aql_names.specs.Named.{last_named}
use Rattle.aql_names.specs.Laws.Named.{last_named_inside}
use Rattle.aql_syntax.specs.Tree.{Name, Declaration, declared_name}
use Rattle.aql_syntax.specs.Names.{names_equal, find}
use Rattle.aql_syntax.specs.View.{decl_of, decls_of}
use Rattle.aql_syntax.specs.Measured.{onto, latest, names_of}
use Rattle.aql_syntax.specs.declared.ast.Decl.{Decl}
use Rattle.nrca_term.specs.Term.{Term}
use Rattle.nrca_term.specs.Nodes.{bottom_term}
use Rattle.aql_desugar_spec.specs.Start.{Resolutions, known_of, knowns_of, position_term}
use Rattle.aql_desugar.specs.Named.{BeginWith, NameThoseBefore}
use Rattle.aql_desugar.specs.Names.{declaration_of}
use Rattle.aql_desugar.specs.Laws.Knowns.{find-known, known_some}

length-onto : (ds : List Decl) (acc : List Declaration) → length (onto ds acc) ≡ length ds + length acc
length-onto [] acc = omega arith
length-onto (d ∷ ds) acc = omega (arith, length-onto ds (decl_of d ∷ acc))

pub length-latest : (ds : List Decl) → length (latest ds) ≡ length ds
length-latest ds = omega (arith, length-onto ds [])

-- Names that are found by the index.

length-take : (n : ℕ) (ds : List Decl) → n ≤ length ds → length (take n ds) ≡ n
length-take zero ds l = refl
length-take (suc n) [] l = absurd (omega (arith, l))
length-take (suc n) (d ∷ ds) l = ap suc (length-take n ds (omega (arith, l)))

-- what a name stands for among declarations that are put before others, by its last position, and else by `other`
abbrev placed : (ds : List Decl) (acc : List Declaration) (d : Decl) (other : Option (Declaration × List Declaration)) → Option ℕ → Option (Declaration × List Declaration)
placed ds acc d other None = other
placed ds acc d other (Some i) = Some (decl_of (get_or ds i d), onto (take i ds) acc)

located : (x : Name) (ds : List Decl) (acc : List Declaration) (d : Decl) →
    declaration_of x (onto ds acc) ≡ placed ds acc d (declaration_of x acc) (last_named x (names_of ds))
located x [] acc d = refl
located x (e ∷ ds) acc d = located x ds (decl_of e ∷ acc) d ∙ go (last_named x (names_of ds)) (names_equal x (declared_name (decl_of e)))
  where
    go : (o : Option ℕ) (b : Bool) → placed ds (decl_of e ∷ acc) d (if b then Some (decl_of e, acc) else declaration_of x acc) o
        ≡ placed (e ∷ ds) acc d (declaration_of x acc) (or_else (option_map suc o) (if b then Some 0 else None))
    go None true = refl
    go None false = refl
    go (Some i) b = refl

-- the last of their names that is the name is that of the latest declaration of it
pub index_some : (x : Name) (ds : List Decl) (i : ℕ) (d : Decl) → Some i ≡ last_named x (names_of ds) → d ≡ get_or ds i d →
    Some (decl_of d, latest (take i ds)) ≡ declaration_of x (latest ds)
index_some x ds i d e is = ap (λ y. Some (decl_of y, latest (take i ds))) is ∙ ap (placed ds [] d None) e ∙ sym (located x ds [] d)

pub index_none : (x : Name) (ds : List Decl) → None ≡ last_named x (names_of ds) → None ≡ declaration_of x (latest ds)
index_none x [] e = refl
index_none x (d ∷ ds) e = ap (placed (d ∷ ds) [] d None) e ∙ sym (located x (d ∷ ds) [] d)

length-names_of : (ds : List Decl) → length (names_of ds) ≡ length ds
length-names_of [] = refl
length-names_of (d ∷ ds) = ap suc (length-names_of ds)

-- and it is one of theirs
pub index_inside : (x : Name) (ds : List Decl) (o : Option ℕ) → o ≡ last_named x (names_of ds) → IfSome o (λ i. i < length ds)
index_inside x ds None e = tt
index_inside x ds (Some i) e = let k : i < length (names_of ds) = last_named_inside x (names_of ds) i (sym e) in omega (arith, k, length-names_of ds)

pub index_shorter : (ds all : List Decl) (i : ℕ) → i < length ds → ds ≡ all → length (take i ds) < length all
index_shorter ds all i h e = let l : length ds ≡ length all = ap length e in omega (arith, h, l, length-take i ds (omega (arith, h)))

-- names that begin with those of declarations begin with those of the first of them
pub front_named : (n : ℕ) (ds : List Decl) (names : List Name) → BeginWith ds names → BeginWith (take n ds) names
front_named zero ds names h = refl
front_named (suc n) [] names h = h
front_named (suc n) (d ∷ ds) [] h = absurd (let bad : ⊥ = cc in bad)
front_named (suc n) (d ∷ ds) (m ∷ names) h =
    let a : m ≡ declared_name (decl_of d) = cc in
    let t : take (length ds) names ≡ names_of ds = cc in
    ap (λ y. y ∷ take (length (take n ds)) names) a ∙ ap (λ ms. declared_name (decl_of d) ∷ ms) (front_named n ds names t)

-- the names of the first declarations
names_take : (n : ℕ) (ds : List Decl) → names_of (take n ds) ≡ map declared_name (take n (decls_of ds))
names_take zero ds = refl
names_take (suc n) [] = refl
names_take (suc n) (d ∷ ds) = ap (λ ms. declared_name (decl_of d) ∷ ms) (names_take n ds)

-- names that begin with those of the declarations before one
pub before_named : (ds : List Decl) (n : ℕ) (names : List Name) → n - 1 ≤ length ds → NameThoseBefore (decls_of ds) n names → BeginWith (take (n - 1) ds) names
before_named ds n names l h = ap (λ k. take k names) (length-take (n - 1) ds l) ∙ h ∙ sym (names_take (n - 1) ds)

pub position_none : (x : Name) (ds : List Declaration) → None ≡ declaration_of x ds → position_term (find x (knowns_of ds)) ≡ bottom_term
position_none x ds e = ap position_term (find-known x ds ∙ ap (option_map (λ r. known_of r.0 (knowns_of r.1) (suc (length r.1)))) (sym e))

pub position_some : (x : Name) (ds : List Decl) (d : Decl) (before : List Decl) (n : ℕ) (t : Term) → n ≡ length before + 1 →
    Some (decl_of d, latest before) ≡ declaration_of x (latest ds) →
    ((known : Resolutions) → t ≡ position_term (Some (known_of (decl_of d) known n))) → t ≡ position_term (find x (knowns_of (latest ds)))
position_some x ds d before n t is e h =
    let z : n ≡ suc (length (latest before)) = omega (arith, is, length-latest before) in
    h (knowns_of (latest before)) ∙ ap (λ k. position_term (Some (known_of (decl_of d) (knowns_of (latest before)) k))) z
    ∙ sym (ap position_term (known_some x (latest ds) (decl_of d) (latest before) e))
