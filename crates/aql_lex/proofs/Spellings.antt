-- The tables of reserved words and signs.
use Rattle.std.proofs.Common.{ℕ, ◌≡◌, ◌≢◌, List, [], ◌∷◌, ◌++◌, Bool, true, false, ◌||◌, ◌==◌, Option, Some, None, MatchOption, refl, sym, ap, ◌∙◌, subst, if◌then◌else◌}
use Rattle.std.specs.Str.{bytes_eq}
use Rattle.std.specs.Option.{option_map}
use Rattle.std.proofs.lemmas.Bool.{eqb-true}
use Rattle.std.proofs.lemmas.Slice.Eq.{bytes_eq-Decides}
use Rattle.aql_syntax.specs.declared.sign.Sign.{Sign}
use Rattle.aql_syntax.specs.declared.sign.Sign.TheVariants as signs
use Rattle.aql_syntax.specs.Signs.{spelling, is_word, joins}
use Rattle.aql_syntax.specs.Lexis.{behind, Ends, IsNoWord}
use Rattle.aql_syntax.specs.Laws.Lexis.{behind_is}
use Rattle.aql_lex.specs.declared.signs.TheConstants.{WORDS, SIGNS, ALL}
use Rattle.aql_value.specs.Partial.{or_else}
use Rattle.aql_lex.specs.Lexing.{first_spelled, sign_from}
use Rattle.aql_lex.proofs.MunchLaws.{tested}

-- a word that is found in a table is spelled so
pub spelled_so : (gs : List Sign) (t : List ℕ) (g : Sign) → first_spelled gs t ≡ Some g → spelling g ≡ t
spelled_so [] t g e = cc
spelled_so (h ∷ gs) t g e =
    tested (bytes_eq t (spelling h)) _ _ _ (spelling g ≡ t) e
    (λ q f. let same : h ≡ g = cc in sym ((bytes_eq-Decides t (spelling h)).0 q ∙ ap spelling same))
    (λ q f. spelled_so gs t g f)

-- a test that holds of each
abbrev pub holds_of_all : (Sign → Bool) → List Sign → Bool
holds_of_all f [] = true
holds_of_all f (g ∷ gs) = if f g then holds_of_all f gs else false

pub spelled_holds : (f : Sign → Bool) (gs : List Sign) (t : List ℕ) (g : Sign) → holds_of_all f gs ≡ true → first_spelled gs t ≡ Some g → f g ≡ true
spelled_holds f [] t g h e = cc
spelled_holds f (k ∷ gs) t g h e =
    tested (f k) _ _ _ (f g ≡ true) h
    (λ q h. tested (bytes_eq t (spelling k)) _ _ _ (f g ≡ true) e
    (λ _ x. let same : k ≡ g = cc in subst (λ z. f z ≡ true) same q)
    (λ _ x. spelled_holds f gs t g h x))
    (λ _ h. cc)

pub all_found : (g : Sign) → first_spelled ALL (spelling g) ≡ Some g
all_found signs.Val = refl
all_found _ = refl

word_found : (g : Sign) → (if is_word g then first_spelled WORDS (spelling g) else None) ≡ (if is_word g then Some g else None)
word_found signs.Val = refl
word_found _ = refl

pub none_spelled : (t : List ℕ) → first_spelled ALL t ≡ None → (g : Sign) → spelling g ≢ t
none_spelled t e g s =
    let found : first_spelled ALL t ≡ Some g = subst (λ z. first_spelled ALL z ≡ Some g) s (all_found g) in
    let bad : ◌≡◌ {A = Option Sign} None (Some g) = sym e ∙ found in cc

-- no two have one spelling
pub one_spelling : (g h : Sign) → spelling g ≡ spelling h → g ≡ h
one_spelling g h e =
    let a : first_spelled ALL (spelling h) ≡ Some g = subst (λ z. first_spelled ALL z ≡ Some g) e (all_found g) in
    let b : ◌≡◌ {A = Option Sign} (Some g) (Some h) = sym a ∙ all_found h in cc

pub word_is : (w : Sign) (t : List ℕ) → is_word w ≡ true → spelling w ≡ t → first_spelled WORDS t ≡ Some w
word_is w t q s = subst (λ z. first_spelled WORDS z ≡ Some w) s (let f = word_found w in rw q at f)

pub word_reads : (t : List ℕ) (w : Sign) → first_spelled WORDS t ≡ Some w → is_word w ≡ true
word_reads t w e = spelled_holds is_word WORDS t w refl e

pub no_word : (t : List ℕ) → first_spelled WORDS t ≡ None → IsNoWord t
no_word t e w q s = let bad : ◌≡◌ {A = Option Sign} None (Some w) = sym e ∙ word_is w t q s in cc

pub no_word_is : (t : List ℕ) → IsNoWord t → first_spelled WORDS t ≡ None
no_word_is t n = go (first_spelled WORDS t) refl
  where
    go : (o : Option Sign) → first_spelled WORDS t ≡ o → o ≡ None
    go None e = refl
    go (Some w) e = absurd (n w (word_reads t w e) (spelled_so WORDS t w e))

-- a sign that is found stands at the front
pub sign_stands : (gs : List Sign) (s : List ℕ) (g : Sign) (r : List ℕ) → sign_from gs s ≡ Some (g, r) → s ≡ spelling g ++ r
sign_stands [] s g r e = cc
sign_stands (h ∷ gs) s g r e = go (behind (spelling h) s) refl (sign_stands gs s g r) e
  where
    go : (o : Option (List ℕ)) → behind (spelling h) s ≡ o → (sign_from gs s ≡ Some (g, r) → s ≡ spelling g ++ r) →
        or_else (option_map (λ r. (h, r)) o) (sign_from gs s) ≡ Some (g, r) → s ≡ spelling g ++ r
    go None is again e = again e
    go (Some q) is again e =
        let same : ◌≡◌ {A = Sign × List ℕ} (h, q) (g, r) = cc in
        subst (λ (z : Sign × List ℕ). s ≡ spelling z.0 ++ z.1) same (behind_is (spelling h) s q is)

pub sign_holds : (f : Sign → Bool) (gs : List Sign) (s : List ℕ) (g : Sign) (r : List ℕ) → holds_of_all f gs ≡ true → sign_from gs s ≡ Some (g, r) → f g ≡ true
sign_holds f [] s g r h e = cc
sign_holds f (k ∷ gs) s g r h e =
    tested (f k) _ _ _ (f g ≡ true) h (λ q h. go (behind (spelling k) s) q (sign_holds f gs s g r h) e) (λ _ h. cc)
  where
    go : (o : Option (List ℕ)) → f k ≡ true → (sign_from gs s ≡ Some (g, r) → f g ≡ true) → or_else (option_map (λ r. (k, r)) o) (sign_from gs s) ≡ Some (g, r) → f g ≡ true
    go None q again e = again e
    go (Some x) q again e =
        let same : ◌≡◌ {A = Sign × List ℕ} (k, x) (g, r) = cc in
        subst (λ (z : Sign × List ℕ). f z.0 ≡ true) same q

-- a sign other than an open parenthesis
abbrev pub is_listed : Sign → Bool
is_listed signs.Open = false
is_listed g = if is_word g then false else true

pub listed : (s : List ℕ) (g : Sign) (r : List ℕ) → sign_from SIGNS s ≡ Some (g, r) → is_listed g ≡ true
listed s g r e = sign_holds is_listed SIGNS s g r refl e

pub listed_is_sign : (g : Sign) → is_listed g ≡ true → is_word g ≡ false
listed_is_sign signs.Val e = cc
listed_is_sign _ e = cc

one_sign : (g h : Sign) (q r : List ℕ) → ◌≡◌ {A = Option (Sign × List ℕ)} (Some (g, q)) (Some (h, r)) → g ≡ h
one_sign g h q r e = let same : ◌≡◌ {A = Sign × List ℕ} (g, q) (h, r) = cc in ap (λ (z : Sign × List ℕ). z.0) same

-- no longer sign stands there
pub listed_ends : (g : Sign) (r : List ℕ) → is_listed g ≡ true → sign_from SIGNS (spelling g ++ r) ≡ Some (g, r) → Ends (joins g) r
listed_ends signs.Open r n e = cc
listed_ends signs.Equal (b ∷ r) n e = go (b == 61) (b == 62) refl refl
  where
    go : (x y : Bool) → (b == 61) ≡ x → (b == 62) ≡ y → (x || y) ≡ false
    go true y p q = let f : signs.DoubleEqual ≡ signs.Equal = one_sign _ _ r (61 ∷ r) (subst (λ (z : ℕ). sign_from SIGNS (61 ∷ z ∷ r) ≡ Some (signs.Equal, z ∷ r)) (eqb-true b 61 p) e) in cc
    go false true p q = let f : signs.FatArrow ≡ signs.Equal = one_sign _ _ r (62 ∷ r) (subst (λ (z : ℕ). sign_from SIGNS (61 ∷ z ∷ r) ≡ Some (signs.Equal, z ∷ r)) (eqb-true b 62 q) e) in cc
    go false false p q = refl
listed_ends signs.Less (b ∷ r) n e = go (b == 45) (b == 61) (b == 62) refl refl refl
  where
    go : (x y z : Bool) → (b == 45) ≡ x → (b == 61) ≡ y → (b == 62) ≡ z → (x || y || z) ≡ false
    go true y z p q k = let f : signs.Arrow ≡ signs.Less = one_sign _ _ r (45 ∷ r) (subst (λ (z : ℕ). sign_from SIGNS (60 ∷ z ∷ r) ≡ Some (signs.Less, z ∷ r)) (eqb-true b 45 p) e) in cc
    go false true z p q k = let f : signs.LessEqual ≡ signs.Less = one_sign _ _ r (61 ∷ r) (subst (λ (z : ℕ). sign_from SIGNS (60 ∷ z ∷ r) ≡ Some (signs.Less, z ∷ r)) (eqb-true b 61 q) e) in cc
    go false false true p q k = let f : signs.Unequal ≡ signs.Less = one_sign _ _ r (62 ∷ r) (subst (λ (z : ℕ). sign_from SIGNS (60 ∷ z ∷ r) ≡ Some (signs.Less, z ∷ r)) (eqb-true b 62 k) e) in cc
    go false false false p q k = refl
listed_ends signs.Greater (b ∷ r) n e = go (b == 61) refl
  where
    go : (x : Bool) → (b == 61) ≡ x → x ≡ false
    go true p = let f : signs.GreaterEqual ≡ signs.Greater = one_sign _ _ r (61 ∷ r) (subst (λ (z : ℕ). sign_from SIGNS (62 ∷ z ∷ r) ≡ Some (signs.Greater, z ∷ r)) (eqb-true b 61 p) e) in cc
    go false p = refl
listed_ends _ [] n e = tt
listed_ends _ (b ∷ r) n e = refl

-- what the search of the whole table gives
pub sign_is : (t : List ℕ) (o : Option Sign) → MatchOption o ((g : Sign) → spelling g ≢ t) (λ g. spelling g ≡ t) → o ≡ first_spelled ALL t
sign_is t (Some g) e = sym (subst (λ z. first_spelled ALL z ≡ Some g) e (all_found g))
sign_is t None n = go (first_spelled ALL t) refl
  where
    go : (o : Option Sign) → first_spelled ALL t ≡ o → None ≡ o
    go None e = refl
    go (Some g) e = absurd (n g (spelled_so ALL t g e))
