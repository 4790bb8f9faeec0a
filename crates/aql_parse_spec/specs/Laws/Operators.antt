-- The table of operators is the grammar's.
use Rattle.std.specs.Prelude.{ℕ, suc, ◌≡◌, ◌<◌, List, [], ◌∷◌, Option, Some, None, Bool, true, false, ◌==◌}
use Rattle.std.proofs.Common.{refl, subst, arith}
use Rattle.std.proofs.lemmas.Bool.{eqb-true}
use Rattle.aql_value.specs.Strict.{Strict}
use Rattle.aql_value.specs.declared.ops.CompareOp.{CompareOp}
use Rattle.aql_syntax.specs.declared.sign.Sign.TheVariants as signs
use Rattle.aql_syntax.specs.Lexis.{Lexeme, mark}
use Rattle.aql_syntax.specs.Tree.{Tree}
use Rattle.aql_syntax.specs.Grammar.{Junction, tight_operator, compare_operator, loose_operator, tight, comparison, loose, Reads, reads_binary, reads_compare, reads_junction}
use Rattle.aql_parse_spec.specs.Parsing.{Joiner, builds, joins, joined_by, operator_of, operator_at}

-- what the grammar says of an operator of level h
pub data Joined (l : Lexeme) : ℕ → Joiner → Type 0 where
  by_tight : (h : ℕ) (o : Strict) → h < 3 → tight_operator (suc h) l ≡ Some o → Joined l (suc h) (builds o)
  by_compare : (o : CompareOp) → compare_operator l ≡ Some o → Joined l 4 (builds (Strict.compare o))
  by_loose : (h : ℕ) (j : Junction) → h < 2 → loose_operator (suc h) l ≡ Some j → Joined l (suc (suc (suc (suc (suc (suc h)))))) (joins j)

joined_at : (l : Lexeme) (h g : ℕ) (i j : Joiner) → ◌≡◌ {A = Option (ℕ × Joiner)} (Some (g, i)) (Some (h, j)) → Joined l g i → Joined l h j
joined_at l h g i j e d =
    let same : ◌≡◌ {A = ℕ × Joiner} (g, i) (h, j) = cc in subst (λ (z : ℕ × Joiner). Joined l z.0 z.1) same d

pub table : (l : Lexeme) (h : ℕ) (j : Joiner) → operator_of l ≡ Some (h, j) → Joined l h j
table (mark signs.Star) h j e = joined_at _ h 1 _ j e (by_tight 0 _ (grind arith) refl)
table (mark signs.Slash) h j e = joined_at _ h 1 _ j e (by_tight 0 _ (grind arith) refl)
table (mark signs.Percent) h j e = joined_at _ h 1 _ j e (by_tight 0 _ (grind arith) refl)
table (mark signs.Plus) h j e = joined_at _ h 2 _ j e (by_tight 1 _ (grind arith) refl)
table (mark signs.Minus) h j e = joined_at _ h 2 _ j e (by_tight 1 _ (grind arith) refl)
table (mark signs.Union) h j e = joined_at _ h 3 _ j e (by_tight 2 _ (grind arith) refl)
table (mark signs.Equal) h j e = joined_at _ h 4 _ j e (by_compare _ refl)
table (mark signs.Unequal) h j e = joined_at _ h 4 _ j e (by_compare _ refl)
table (mark signs.Less) h j e = joined_at _ h 4 _ j e (by_compare _ refl)
table (mark signs.LessEqual) h j e = joined_at _ h 4 _ j e (by_compare _ refl)
table (mark signs.Greater) h j e = joined_at _ h 4 _ j e (by_compare _ refl)
table (mark signs.GreaterEqual) h j e = joined_at _ h 4 _ j e (by_compare _ refl)
table (mark signs.And) h j e = joined_at _ h 6 _ j e (by_loose 0 _ (grind arith) refl)
table (mark signs.Or) h j e = joined_at _ h 7 _ j e (by_loose 1 _ (grind arith) refl)
table _ h j e = cc

-- what an operator of level n joins
pub reads_tight : {l : Lexeme} {n : ℕ} {j : Joiner} {a b : Tree} {s s' r : List Lexeme} → Joined l n j → (h : ℕ) → h < 3 → n ≡ suc h →
    Reads (tight (suc h)) a s (l ∷ s') → Reads (tight h) b s' r → Reads (tight (suc h)) (joined_by j a b) s r
reads_tight {l} (by_tight g o lt is) h le e d c =
    let same : g ≡ h = omega arith in
    reads_binary d (subst (λ z. tight_operator (suc z) l ≡ Some o) same is) c
reads_tight (by_compare o is) h le e d c = absurd (omega arith)
reads_tight (by_loose g o lt is) h le e d c = absurd (omega arith)

pub reads_comparing : {l : Lexeme} {n : ℕ} {j : Joiner} {a b : Tree} {s s' r : List Lexeme} → Joined l n j → n ≡ 4 →
    Reads (tight 3) a s (l ∷ s') → Reads (tight 3) b s' r → Reads comparison (joined_by j a b) s r
reads_comparing (by_tight g o lt is) e d c = absurd (omega arith)
reads_comparing (by_compare o is) e d c = reads_compare d is c
reads_comparing (by_loose g o lt is) e d c = absurd (omega arith)

pub reads_loose : {l : Lexeme} {n : ℕ} {j : Joiner} {a b : Tree} {s s' r : List Lexeme} → Joined l n j → (h : ℕ) →
    n ≡ suc (suc (suc (suc (suc (suc h))))) →
    Reads (loose (suc h)) a s (l ∷ s') → Reads (loose h) b s' r → Reads (loose (suc h)) (joined_by j a b) s r
reads_loose (by_tight g o lt is) h e d c = absurd (omega arith)
reads_loose (by_compare o is) h e d c = absurd (omega arith)
reads_loose {l} (by_loose g o lt is) h e d c =
    let same : g ≡ h = omega arith in
    reads_junction d (subst (λ z. loose_operator (suc z) l ≡ Some o) same is) c

-- an operator that was found at a level
pub record IsOperator (h : ℕ) (s : List Lexeme) (j : Joiner) (r : List Lexeme) : Type 0 where
  pub lexeme : Lexeme
  pub front : s ≡ lexeme ∷ r
  pub joined : Joined lexeme h j

pub operator_is : (h : ℕ) (s r : List Lexeme) (j : Joiner) → operator_at h s ≡ Some (j, r) → IsOperator h s j r
unfolding operator_at
operator_is h [] r j e = cc
operator_is h (l ∷ s) r j e = go (operator_of l) refl
  where
    go : (o : Option (ℕ × Joiner)) → operator_of l ≡ o → IsOperator h (l ∷ s) j r
    go None is = let e' = rw is at e in cc
    go (Some o) is = level (o.0 == h) refl
      where
        level : (b : Bool) → (o.0 == h) ≡ b → IsOperator h (l ∷ s) j r
        level false other = let e' = rw (is, other) at e in cc
        level true here =
            let e' : ◌≡◌ {A = Option (Joiner × List Lexeme)} (Some (o.1, s)) (Some (j, r)) = rw (is, here) at e in
            let same : ◌≡◌ {A = Joiner × List Lexeme} (o.1, s) (j, r) = cc in
            let d : Joined l h o.1 = subst (λ n. Joined l n o.1) (eqb-true o.0 h here) (table l o.0 o.1 is) in
            subst (λ (z : Joiner × List Lexeme). IsOperator h (l ∷ s) z.0 z.1) same (record { lexeme = l; front = refl; joined = d })
