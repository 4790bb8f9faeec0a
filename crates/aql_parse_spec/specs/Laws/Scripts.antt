-- What follows from the definitions of `Scripts`.
use Rattle.std.specs.Prelude.{ℕ, ◌≡◌, ◌<◌, ◌≤◌, ◌+◌, List, [], ◌∷◌, ◌++◌, Some, None, length}
use Rattle.std.proofs.Common.{refl, sym, ap, subst, ◌∙◌, arith, lit<}
use Rattle.aql_syntax.specs.declared.sign.Sign.TheVariants as signs
use Rattle.aql_syntax.specs.Lexis.{Lexeme, named, mark}
use Rattle.aql_syntax.specs.Tree.{Tree, Declaration, val, mac, read, bare}
use Rattle.aql_syntax.specs.Grammar.{whole, Reads, reader_name, ReadsDecl, decl_val, decl_macro, decl_read, decl_bare, ReadsDecls, decls_none, decls_more}
use Rattle.aql_parse_spec.specs.Parsing.{Out, after, name_at, binder_at, pat_then, parse_at, ended_at, reader_named, reader_at, val_at, macro_at, readval_at, decl_in, decl_at}
use Rattle.aql_parse_spec.specs.Laws.Steps.{went, moved, after_is, at_sign, name_is, binder_is}
use Rattle.aql_parse_spec.specs.Laws.PatternSound.{pat_then_sound}
use Rattle.aql_parse_spec.specs.Laws.Sound.{parse_at_sound}
use Rattle.aql_parse_spec.specs.Laws.First.{shrinks, pat_shrinks, StartsAt, starts_at}
use Rattle.aql_parse_spec.specs.Laws.PatternComplete.{pat_then_complete, after_self}
use Rattle.aql_parse_spec.specs.Laws.StopsLaws.{binder_complete}
use Rattle.aql_parse_spec.specs.Laws.Complete.{complete}
use Rattle.aql_parse_spec.specs.Laws.Readers.{reader_is, reader_self}
use Rattle.aql_parse_spec.specs.Scripts.{bare_at, OneReading, OneFault, ReadsOrFaults}

ended_sound : (n : ℕ) (s r : List Lexeme) (e : Tree) → ended_at n s ≡ Some (e, r) → Reads whole e s (mark signs.Semicolon ∷ r)
unfolding ended_at
ended_sound n s r e h =
    let w = went (parse_at n 8 s) _ (e, r) h in
    let v = went (after signs.Semicolon w.value.1) _ (e, r) w.second in
    let p = parse_at_sound n in
    moved (λ z t. Reads whole z s (mark signs.Semicolon ∷ t)) _ e v.value r v.second
    (at_sign (Reads whole w.value.0 s) signs.Semicolon w.value.1 v.value v.first (p.wholes s w.value.1 w.value.0 w.first))

ended_complete : (n : ℕ) (s r : List Lexeme) (e : Tree) → Reads whole e s (mark signs.Semicolon ∷ r) → length s < n → ended_at n s ≡ Some (e, r)
unfolding ended_at
ended_complete n s r e d lt = rw (complete d n lt (lit< tt), after_self signs.Semicolon r) refl

val_sound : (n : ℕ) (s r : List Lexeme) (d : Declaration) → val_at n s ≡ Some (d, r) → ReadsDecl d (mark signs.Val ∷ s) r
unfolding val_at
val_sound n s r d h =
    let a = went (binder_at signs.Equal s) _ (d, r) h in
    let b = went (ended_at n a.value.1) _ (d, r) a.second in
    moved (λ z t. ReadsDecl z (mark signs.Val ∷ s) t) _ d b.value.1 r b.second
    (subst (λ z. ReadsDecl (val a.value.0 b.value.0) (mark signs.Val ∷ z) b.value.1) (sym (binder_is signs.Equal s a.value.1 a.value.0 a.first))
    (decl_val (ended_sound n a.value.1 b.value.1 b.value.0 b.first)))

macro_sound : (n : ℕ) (s r : List Lexeme) (d : Declaration) → macro_at n s ≡ Some (d, r) → ReadsDecl d (mark signs.Macro ∷ s) r
unfolding macro_at
macro_sound n s r d h =
    let a = went (binder_at signs.Equal s) _ (d, r) h in
    let f = went (after signs.Fn a.value.1) _ (d, r) a.second in
    let p = went (pat_then signs.FatArrow n f.value) _ (d, r) f.second in
    let b = went (ended_at n p.value.1) _ (d, r) p.second in
    let front : s ≡ mark signs.Backslash ∷ named a.value.0 ∷ mark signs.Equal ∷ mark signs.Fn ∷ f.value =
    binder_is signs.Equal s a.value.1 a.value.0 a.first
    ∙ ap (λ z. mark signs.Backslash ∷ named a.value.0 ∷ mark signs.Equal ∷ z) (after_is signs.Fn a.value.1 f.value f.first) in
    moved (λ z t. ReadsDecl z (mark signs.Macro ∷ s) t) _ d b.value.1 r b.second
    (subst (λ z. ReadsDecl (mac a.value.0 p.value.0 b.value.0) (mark signs.Macro ∷ z) b.value.1) (sym front)
    (decl_macro (pat_then_sound signs.FatArrow n f.value p.value.1 p.value.0 p.first) (ended_sound n p.value.1 b.value.1 b.value.0 b.first)))

readval_sound : (n : ℕ) (s r : List Lexeme) (d : Declaration) → readval_at n s ≡ Some (d, r) → ReadsDecl d (mark signs.Readval ∷ s) r
unfolding readval_at reader_at
readval_sound n s r d h =
    let a = went (binder_at signs.Using s) _ (d, r) h in
    let y = went (reader_at a.value.1) _ (d, r) a.second in
    let x = went (name_at a.value.1) _ y.value y.first in
    let k = went (reader_named x.value.0) _ y.value x.second in
    let t = went (after signs.At y.value.1) _ (d, r) y.second in
    let b = went (ended_at n t.value) _ (d, r) t.second in
    let is = reader_is x.value.0 k.value k.first in
    let reader_same : k.value ≡ y.value.0 = some_front k.value x.value.1 y.value k.second in
    let rest_same : x.value.1 ≡ y.value.1 = some_back k.value x.value.1 y.value k.second in
    let rest : x.value.1 ≡ mark signs.At ∷ t.value = rest_same ∙ after_is signs.At y.value.1 t.value t.first in
    let front : s ≡ mark signs.Backslash ∷ named a.value.0 ∷ mark signs.Using ∷ named (reader_name k.value) ∷ mark signs.At ∷ t.value =
    binder_is signs.Using s a.value.1 a.value.0 a.first
    ∙ (ap (λ z. mark signs.Backslash ∷ named a.value.0 ∷ mark signs.Using ∷ z) (name_is a.value.1 x.value.1 x.value.0 x.first)
    ∙ (ap (λ z. mark signs.Backslash ∷ named a.value.0 ∷ mark signs.Using ∷ named z ∷ x.value.1) is.name
    ∙ ap (λ z. mark signs.Backslash ∷ named a.value.0 ∷ mark signs.Using ∷ named (reader_name k.value) ∷ z) rest)) in
    moved (λ z u. ReadsDecl z (mark signs.Readval ∷ s) u) _ d b.value.1 r b.second
    (subst (λ q. ReadsDecl (read a.value.0 q b.value.0) (mark signs.Readval ∷ s) b.value.1) reader_same
    (subst (λ z. ReadsDecl (read a.value.0 k.value b.value.0) (mark signs.Readval ∷ z) b.value.1) (sym front)
    (decl_read is.valid (ended_sound n t.value b.value.1 b.value.0 b.first))))
  where
    some_front : {A : Type 0} (x : A) (s : List Lexeme) (y : A × List Lexeme) → ◌≡◌ {A = Out A} (Some (x, s)) (Some y) → x ≡ y.0
    some_front {A} x s y e = let f : ◌≡◌ {A = A × List Lexeme} (x, s) y = cc in ap (λ (z : A × List Lexeme). z.0) f

    some_back : {A : Type 0} (x : A) (s : List Lexeme) (y : A × List Lexeme) → ◌≡◌ {A = Out A} (Some (x, s)) (Some y) → s ≡ y.1
    some_back {A} x s y e = let f : ◌≡◌ {A = A × List Lexeme} (x, s) y = cc in ap (λ (z : A × List Lexeme). z.1) f

bare_sound : (n : ℕ) (s r : List Lexeme) (d : Declaration) → bare_at n s ≡ Some (d, r) → ReadsDecl d s r
bare_sound n s r d h =
    let w = went (ended_at n s) (λ e. Some (bare e.0, e.1)) (d, r) h in
    moved (λ z t. ReadsDecl z s t) _ d w.value.1 r w.second (decl_bare (ended_sound n s w.value.1 w.value.0 w.first))

decl_in_sound : (n : ℕ) (s r : List Lexeme) (d : Declaration) → decl_in n s ≡ Some (d, r) → ReadsDecl d s r
decl_in_sound n (mark signs.Val ∷ s) r d h = val_sound n s r d h
decl_in_sound n (mark signs.Macro ∷ s) r d h = macro_sound n s r d h
decl_in_sound n (mark signs.Readval ∷ s) r d h = readval_sound n s r d h
decl_in_sound n s r d h = bare_sound n s r d h

pub decl_sound : (n : ℕ) (s r : List Lexeme) (d : Declaration) → decl_at n s ≡ Some (d, r) → ReadsDecl d s r
unfolding decl_at
decl_sound n s r d h = decl_in_sound n s r d h

bare_in : (n : ℕ) (s : List Lexeme) → StartsAt 2 s → decl_in n s ≡ bare_at n s
bare_in n [] b = absurd b
bare_in n (mark signs.Val ∷ s) b = absurd (omega (arith, b))
bare_in n (mark signs.Macro ∷ s) b = absurd (omega (arith, b))
bare_in n (mark signs.Readval ∷ s) b = absurd (omega (arith, b))
bare_in n (l ∷ s) b = refl

pub decl_complete : {d : Declaration} {s r : List Lexeme} → ReadsDecl d s r → (n : ℕ) → length s < n → decl_at n s ≡ Some (d, r)
unfolding decl_at val_at macro_at readval_at reader_at name_at
decl_complete (decl_val {x} {e} {s} {r} c) n lt = rw (binder_complete signs.Equal x s, ended_complete n s r e c (omega arith)) refl
decl_complete (decl_macro {f} {p} {e} {s} {s'} {r} x c) n lt =
    rw (
      binder_complete signs.Equal f (mark signs.Fn ∷ s),
      after_self signs.Fn s,
      pat_then_complete signs.FatArrow x n (omega arith),
      ended_complete n s' r e c (omega (arith, pat_shrinks x)),
    ) refl
decl_complete (decl_read {x} {reader} {e} {s} {r} valid c) n lt =
    rw (
      binder_complete signs.Using x (named (reader_name reader) ∷ mark signs.At ∷ s),
      reader_self reader valid,
      after_self signs.At s,
      ended_complete n s r e c (omega arith),
    ) refl
decl_complete (decl_bare {e} {s} {r} c) n lt = bare_in n s (starts_at c) ∙ rw (ended_complete n s r e c lt) refl

pub decl_shrinks : {d : Declaration} {s r : List Lexeme} → ReadsDecl d s r → length r < length s
decl_shrinks (decl_val c) = omega (arith, shrinks c)
decl_shrinks (decl_macro p c) = omega (arith, pat_shrinks p, shrinks c)
decl_shrinks (decl_read v c) = omega (arith, shrinks c)
decl_shrinks (decl_bare c) = omega (arith, shrinks c)

-- two declarations at the same place are one
pub record Same (d d' : Declaration) (r r' : List Lexeme) : Type 0 where
  pub declaration : d ≡ d'
  pub rest : r ≡ r'

pub one : {d d' : Declaration} {s r r' : List Lexeme} → ReadsDecl d s r → ReadsDecl d' s r' → Same d d' r r'
one {d} {d'} {s} {r} {r'} a b =
    let x = decl_complete a (length s + 1) (omega arith) in
    let y = decl_complete b (length s + 1) (omega arith) in
    let same : ◌≡◌ {A = Declaration × List Lexeme} (d, r) (d', r') = cc in
    record { declaration = ap (λ (z : Declaration × List Lexeme). z.0) same; rest = ap (λ (z : Declaration × List Lexeme). z.1) same }

-- no declaration stands there
abbrev pub NoDeclaration : List Lexeme → Type 0
NoDeclaration s = (d : Declaration) (r : List Lexeme) → ReadsDecl d s r → ⊥

end_none : NoDeclaration []
end_none d r c = absurd (omega (arith, decl_shrinks c))

-- two readings up to where no declaration stands are one
pub record SameDecls (a b : List Declaration) (r r' : List Lexeme) : Type 0 where
  pub declarations : a ≡ b
  pub rest : r ≡ r'

pub one_end : {a b : List Declaration} {s r r' : List Lexeme} → ReadsDecls a s r → NoDeclaration r → ReadsDecls b s r' → NoDeclaration r' → SameDecls a b r r'
one_end decls_none x decls_none y = record { declarations = refl; rest = refl }
one_end decls_none x (decls_more {d} {ds} {s} {s'} c cs) y = absurd (x d s' c)
one_end (decls_more {d} {ds} {s} {s'} c cs) x decls_none y = absurd (y d s' c)
one_end (decls_more {d} {ds} {s} {s'} {r} a more) x (decls_more {ds = es} {r = r'} b bs) y =
    let same = one a b in
    let later = one_end more x (subst (λ z. ReadsDecls es z r') (sym same.rest) bs) y in
    record { declarations = cc (same.declaration, later.declarations); rest = later.rest }

pub reading : OneReading
reading a b s x y = (one_end x end_none y end_none).declarations

pub fault : OneFault
fault m n s x y =
    let same = one_end x.reads x.none y.reads y.none in
    let l = ap length same.declarations in
    let p = x.count in
    let q = y.count in
    omega arith

pub either : ReadsOrFaults
either a n s x y = let same = one_end x end_none y.reads y.none in y.some (sym same.rest)

-- one more declaration at the end
pub reads_next : {ds : List Declaration} {s r r' : List Lexeme} {d : Declaration} → ReadsDecls ds s r → ReadsDecl d r r' → ReadsDecls (ds ++ d ∷ []) s r'
reads_next decls_none c = decls_more c decls_none
reads_next (decls_more a more) c = decls_more a (reads_next more c)

pub no_longer : {ds : List Declaration} {s r : List Lexeme} → ReadsDecls ds s r → length r ≤ length s
no_longer decls_none = omega arith
no_longer (decls_more c cs) = omega (arith, decl_shrinks c, no_longer cs)

pub decl_none : (n : ℕ) (s : List Lexeme) → decl_at n s ≡ None → length s < n → NoDeclaration s
decl_none n s is lt d r c =
    let found = decl_complete c n lt in
    let bad : ◌≡◌ {A = Out Declaration} None (Some (d, r)) = sym is ∙ found in cc
