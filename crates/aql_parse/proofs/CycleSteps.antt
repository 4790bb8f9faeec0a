-- The functions on lists, a turn at a time.
use Rattle.std.proofs.Common.{ℕ, zero, suc, ◌≡◌, ◌≢◌, ◌<◌, ◌≤◌, ◌+◌, ◌-◌, List, Some, None, if◌then◌else◌, ◌==◌, Bool, true, false, refl, arith, sub-one}
use Rattle.std.proofs.lemmas.Bool.{eqb-true}
use Rattle.aql_syntax.specs.Lexis.{Lexeme}
use Rattle.aql_syntax.specs.Tree.{Tree}
use Rattle.aql_value.specs.Partial.{◌>>=◌}
use Rattle.aql_parse_spec.specs.Parsing.{Parser, Parsers, parse_at, whole_at, level_at, application_at, chain_rest, chain_step, operator_at, turns, negation_at}

-- levels and depths
pub parse_at_none : (n h : ℕ) (s : List Lexeme) → n ≡ 0 → parse_at n h s ≡ None
unfolding parse_at
parse_at_none zero h s e = refl
parse_at_none (suc n) h s e = cc

pub parse_at_whole : (n h : ℕ) (s : List Lexeme) → 0 < n → h ≡ 8 → parse_at n h s ≡ whole_at (parse_at (n - 1)) (n - 1) s
unfolding parse_at
parse_at_whole zero h s l e = absurd (omega arith)
parse_at_whole (suc n) h s l e = rw (e, sub-one) refl

pub parse_at_level : (n h : ℕ) (s : List Lexeme) → 0 < n → h ≢ 8 → parse_at n h s ≡ level_at (parse_at (n - 1)) (n - 1) h s
unfolding parse_at
parse_at_level zero h s l e = absurd (omega arith)
parse_at_level (suc n) h s l e = rw sub-one (go (h == 8) refl)
  where
    go : (b : Bool) → (h == 8) ≡ b → (if b then whole_at (parse_at n) n s else level_at (parse_at n) n h s) ≡ level_at (parse_at n) n h s
    go true is = absurd (e (eqb-true h 8 is))
    go false is = refl

pub level_at_none : (p : Parsers) (k h : ℕ) (s : List Lexeme) → h ≡ 0 → level_at p k h s ≡ application_at p k s
unfolding level_at
level_at_none p k zero s e = refl
level_at_none p k (suc h) s e = cc

pub level_at_above : (p : Parsers) (k h : ℕ) (s : List Lexeme) → h ≢ 0 → h ≢ 5 →
    level_at p k h s ≡ (level_at p k (h - 1) s >>= λ x. chain_rest (level_at p k (h - 1)) h (turns h k) x.0 x.1)
unfolding level_at
level_at_above p k zero s e f = absurd (e refl)
level_at_above p k (suc h) s e f = rw sub-one (go (suc h == 5) refl)
  where
    go : (b : Bool) → (suc h == 5) ≡ b →
        (if b then negation_at p (level_at p k h) s else (level_at p k h s >>= λ x. chain_rest (level_at p k h) (suc h) (turns (suc h) k) x.0 x.1))
        ≡ (level_at p k h s >>= λ x. chain_rest (level_at p k h) (suc h) (turns (suc h) k) x.0 x.1)
    go true is = absurd (f (eqb-true (suc h) 5 is))
    go false is = refl

-- one turn of each loop, at turn i of d
pub chain_rest_turn : (q : Parser) (h d i : ℕ) (a : Tree) (s : List Lexeme) → i < d →
    chain_rest q h (d - i) a s ≡ chain_step q (chain_rest q h (d - (i + 1))) a s (operator_at h s)
unfolding chain_rest
chain_rest_turn q h d i a s l = let e : d - i ≡ suc (d - (i + 1)) = omega arith in rw e refl

pub chain_rest_end : (q : Parser) (h d i : ℕ) (a : Tree) (s : List Lexeme) → d ≤ i → chain_rest q h (d - i) a s ≡ Some (a, s)
unfolding chain_rest
chain_rest_end q h d i a s l = let e : d - i ≡ zero = omega arith in rw e refl
