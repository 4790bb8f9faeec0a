-- What a chain of steps went through, and what signs it read.
use Rattle.std.specs.Prelude.{ℕ, ◌≡◌, ◌≤◌, List, [], ◌∷◌, Option, Some, None, Bool, true, false, nat_lt}
use Rattle.std.proofs.Common.{refl, subst, sym, arith}
use Rattle.aql_syntax.specs.declared.sign.Sign.{Sign}
use Rattle.aql_syntax.specs.declared.sign.Sign.TheVariants as signs
use Rattle.aql_syntax.specs.Lexis.{Lexeme, named, numeral, quoted, mark}
use Rattle.aql_syntax.specs.Tree.{Name}
use Rattle.aql_parse_spec.specs.SignNumbers.{same_sign}
use Rattle.aql_parse_spec.specs.Laws.SignNumbers.{same_sign-eq}
use Rattle.aql_value.specs.Partial.{◌>>=◌}
use Rattle.aql_parse_spec.specs.Parsing.{after, name_at, binder_at, short}

-- what a bind that gives something went through
pub record Went {A B : Type 0} (o : Option A) (f : A → Option B) (y : B) : Type 0 where
  pub value : A
  pub first : o ≡ Some value
  pub second : f value ≡ Some y

pub went : {A B : Type 0} (o : Option A) (f : A → Option B) (y : B) → (o >>= f) ≡ Some y → Went o f y
went None f y e = cc
went (Some x) f y e = record { value = x; first = refl; second = e }

-- two readings that are one
pub moved : {A : Type 0} (P : A → List Lexeme → Type 0) (a b : A) (s r : List Lexeme) →
    ◌≡◌ {A = Option (A × List Lexeme)} (Some (a, s)) (Some (b, r)) → P a s → P b r
moved {A} P a b s r e h =
    let same : ◌≡◌ {A = A × List Lexeme} (a, s) (b, r) = cc in subst (λ (z : A × List Lexeme). P z.0 z.1) same h

pub after_is : (x : Sign) (s r : List Lexeme) → after x s ≡ Some r → s ≡ mark x ∷ r
unfolding after
after_is x [] r e = cc
after_is x (named n ∷ s) r e = cc
after_is x (numeral n ∷ s) r e = cc
after_is x (quoted n ∷ s) r e = cc
after_is x (mark y ∷ s) r e = go (same_sign y x) refl
  where
    go : (b : Bool) → same_sign y x ≡ b → mark y ∷ s ≡ mark x ∷ r
    go true same = let e' = rw same at e in let f = same_sign-eq y x same in cc
    go false differ = let e' = rw differ at e in cc

-- what is said of a rest holds of the sign and what follows it
pub at_sign : (P : List Lexeme → Type 0) (x : Sign) (s r : List Lexeme) → after x s ≡ Some r → P s → P (mark x ∷ r)
at_sign P x s r e h = subst P (after_is x s r e) h

-- and of what begins with the sign
pub from_sign : (P : List Lexeme → Type 0) (x : Sign) (s r : List Lexeme) → after x s ≡ Some r → P (mark x ∷ r) → P s
from_sign P x s r e h = subst P (sym (after_is x s r e)) h

pub name_is : (s r : List Lexeme) (x : Name) → name_at s ≡ Some (x, r) → s ≡ named x ∷ r
unfolding name_at
name_is [] r x e = cc
name_is (named y ∷ s) r x e = moved (λ z t. named y ∷ s ≡ named z ∷ t) y x s r e refl
name_is (numeral n ∷ s) r x e = cc
name_is (quoted t ∷ s) r x e = cc
name_is (mark g ∷ s) r x e = cc

pub binder_is : (g : Sign) (s r : List Lexeme) (x : Name) → binder_at g s ≡ Some (x, r) → s ≡ mark signs.Backslash ∷ named x ∷ mark g ∷ r
unfolding binder_at
binder_is g s r x e =
    let a = went (after signs.Backslash s) _ (x, r) e in
    let b = went (name_at a.value) _ (x, r) a.second in
    let c = went (after g b.value.1) _ (x, r) b.second in
    let p = after_is signs.Backslash s a.value a.first in
    let q = name_is a.value b.value.1 b.value.0 b.first in
    let t = after_is g b.value.1 c.value c.first in
    moved (λ z t. s ≡ mark signs.Backslash ∷ named z ∷ mark g ∷ t) b.value.0 x c.value r c.second (cc)

-- a list that is no longer than 8
pub record IsShort {A : Type 0} (n : ℕ) (x y : A) : Type 0 where
  pub least : n ≤ 8
  pub same : x ≡ y

pub short_is : {A : Type 0} (n : ℕ) (x y : A) → short n x ≡ Some y → IsShort n x y
short_is n x y e = go (nat_lt 8 n) refl
  where
    go : (b : Bool) → nat_lt 8 n ≡ b → IsShort n x y
    go true is = let e' = rw is at e in cc
    go false is = let e' = rw is at e in record { least = grind arith; same = cc }
