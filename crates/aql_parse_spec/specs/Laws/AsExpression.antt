-- What the expression parser makes of a pattern.
use Rattle.std.specs.Prelude.{ℕ, zero, suc, ◌≡◌, ◌<◌, ◌≤◌, List, ◌∷◌, Some, None, true, false, length, ◌⊎◌}
use Rattle.std.proofs.Common.{refl, ◌∙◌, arith, lit<, lit≤, inl, inr}
use Rattle.aql_value.specs.Strict.{Strict}
use Rattle.aql_syntax.specs.declared.sign.Sign.TheVariants as signs
use Rattle.aql_syntax.specs.Lexis.{Lexeme, mark}
use Rattle.aql_syntax.specs.Tree.{Pat, Pats, Tree, name, op, no_tree, tree}
use Rattle.aql_syntax.specs.Grammar.{ReadsPat, pat_bind, pat_any, pat_number, pat_text, pat_true, pat_false, pat_name, pat_paren, pat_tuple, ReadsPats, pats_last, pats_more}
use Rattle.aql_value.specs.Partial.{◌>>=◌}
use Rattle.aql_parse_spec.specs.Parsing.{Out, Parser, Parsers, after, operand, opening_in, list_at, grouping, paren_at, primary_at, sub_rest, postfix_at, chain_rest, level_at, default_rest, whole_in, parse_at}
use Rattle.aql_parse_spec.specs.Laws.First.{pat_shrinks}
use Rattle.aql_parse_spec.specs.Stops.{Stops}
use Rattle.aql_parse_spec.specs.Laws.StopsLaws.{stops_below, chain_rest_stops, sub_rest_stops, default_rest_stops, no_bang, choice_skipped, negation_skipped, list_one, list_cons, paren_primary, application_postfix, level_0, level_tight, level_4, level_5, level_loose, parse_8}

-- A pattern as an expression: it has none, or it ends where the pattern does.

-- what comes next goes on in no expression
abbrev pub Settles : Out Tree → Type 0
Settles None = Unit {0}
Settles (Some x) = Stops 8 x.1

pub chain_settles : (q : Parser) (h k : ℕ) (o : Out Tree) → h ≤ 8 → Settles o → (o >>= λ x. chain_rest q h k x.0 x.1) ≡ o
chain_settles q h k None le st = refl
chain_settles q h k (Some x) le st = chain_rest_stops q h k x.0 x.1 (stops_below h 8 x.1 le st)

pub default_settles : (p : Parsers) (o : Out Tree) → Settles o → (o >>= λ x. default_rest p x.0 x.1) ≡ o
default_settles p None st = refl
default_settles p (Some x) st = default_rest_stops p x.0 x.1 st

pub sub_settles : (p : Parsers) (k : ℕ) (o : Out Tree) → Settles o → (o >>= λ x. sub_rest p k k x.0 x.1) ≡ o
sub_settles p k None st = refl
sub_settles p k (Some x) st = sub_rest_stops p k k x.0 x.1 (stops_below 0 8 x.1 (lit≤ tt) st)

pub settled : (p : Parsers) (k : ℕ) (s : List Lexeme) (o : Out Tree) → Settles o → opening_in s ≡ operand → after signs.Not s ≡ None → after signs.If s ≡ None →
    primary_at p k s ≡ o → whole_in p k s ≡ o
unfolding postfix_at
settled p k s o st alone no_n no_i is =
    let q : level_at p k 0 s ≡ o = level_0 p k s ∙ application_postfix p k s alone ∙ rw is (sub_settles p k o st) in
    let l1 : level_at p k 1 s ≡ o = level_tight p k 0 s (lit< tt) ∙ rw q (chain_settles (level_at p k 0) 1 k o (lit≤ tt) st) in
    let l2 : level_at p k 2 s ≡ o = level_tight p k 1 s (lit< tt) ∙ rw l1 (chain_settles (level_at p k 1) 2 k o (lit≤ tt) st) in
    let l3 : level_at p k 3 s ≡ o = level_tight p k 2 s (lit< tt) ∙ rw l2 (chain_settles (level_at p k 2) 3 k o (lit≤ tt) st) in
    let l4 : level_at p k 4 s ≡ o = level_4 p k s ∙ rw l3 (chain_settles (level_at p k 3) 4 1 o (lit≤ tt) st) in
    let l5 : level_at p k 5 s ≡ o = level_5 p k s ∙ negation_skipped p (level_at p k 4) s no_n ∙ l4 in
    let l6 : level_at p k 6 s ≡ o = level_loose p k 0 s (lit< tt) ∙ rw l5 (chain_settles (level_at p k 5) 6 k o (lit≤ tt) st) in
    let l7 : level_at p k 7 s ≡ o = level_loose p k 1 s (lit< tt) ∙ rw l6 (chain_settles (level_at p k 6) 7 k o (lit≤ tt) st) in
    choice_skipped p k s no_i ∙ rw l7 (default_settles p o st)

pub record Begins (s t : List Lexeme) : Type 0 where
  pub no_negation : after signs.Not s ≡ None
  pub no_choice : after signs.If s ≡ None
  pub no_function : after signs.Fn s ≡ None
  pub no_head : after signs.Bang t ≡ None → opening_in s ≡ operand

pub pattern_begins : {x : Pat} {s t : List Lexeme} → ReadsPat x s t → Begins s t
unfolding after
pattern_begins pat_bind = record { no_negation = refl; no_choice = refl; no_function = refl; no_head = λ nb. refl }
pattern_begins pat_any = record { no_negation = refl; no_choice = refl; no_function = refl; no_head = λ nb. refl }
pattern_begins pat_number = record { no_negation = refl; no_choice = refl; no_function = refl; no_head = λ nb. refl }
pattern_begins pat_text = record { no_negation = refl; no_choice = refl; no_function = refl; no_head = λ nb. refl }
pattern_begins pat_true = record { no_negation = refl; no_choice = refl; no_function = refl; no_head = λ nb. refl }
pattern_begins pat_false = record { no_negation = refl; no_choice = refl; no_function = refl; no_head = λ nb. refl }
pattern_begins pat_name = record { no_negation = refl; no_choice = refl; no_function = refl; no_head = λ nb. rw nb refl }
pattern_begins (pat_paren d) =
    let b = pattern_begins d in record { no_negation = refl; no_choice = refl; no_function = refl; no_head = λ nb. rw b.no_function refl }
pattern_begins (pat_tuple d ds) =
    let b = pattern_begins d in record { no_negation = refl; no_choice = refl; no_function = refl; no_head = λ nb. rw b.no_function refl }

abbrev pub EndsAt : {A : Type 0} → Out A → List Lexeme → Type 0
EndsAt {A} o t = (o ≡ None) ⊎ ((e : A) × (o ≡ Some (e, t)))

pub whole_as : (n : ℕ) (s t : List Lexeme) → Begins s t → Stops 8 t → EndsAt (primary_at (parse_at n) n s) t → EndsAt (parse_at (suc n) 8 s) t
whole_as n s t b st (inl is) =
    inl (parse_8 n s ∙ settled (parse_at n) n s None tt (b.no_head (no_bang t (stops_below 0 8 t (lit≤ tt) st))) b.no_negation b.no_choice is)
whole_as n s t b st (inr (e, is)) =
    inr (e, parse_8 n s ∙ settled (parse_at n) n s (Some (e, t)) st (b.no_head (no_bang t (stops_below 0 8 t (lit≤ tt) st))) b.no_negation b.no_choice is)

pub list_none : (p : Parsers) (k : ℕ) (s : List Lexeme) → p 8 s ≡ None → list_at p k s ≡ None
unfolding list_at
list_none p zero s is = refl
list_none p (suc k) s is = rw is refl

pub list_cut : (p : Parsers) (k : ℕ) (e : Tree) (s s' : List Lexeme) → p 8 s ≡ Some (e, mark signs.Comma ∷ s') → list_at p k s' ≡ None → list_at p (suc k) s ≡ None
unfolding list_at
list_cut p k e s s' is rest = rw (is, rest) refl

pub paren_none : (p : Parsers) (k : ℕ) (s : List Lexeme) → list_at p k s ≡ None → primary_at p k (mark signs.Open ∷ s) ≡ None
unfolding primary_at paren_at
paren_none p k s is = rw is refl

pub paren_as : (p : Parsers) (k : ℕ) (s r : List Lexeme) → EndsAt (list_at p k s) (mark signs.Close ∷ r) → EndsAt (primary_at p k (mark signs.Open ∷ s)) r
paren_as p k s r (inl is) = inl (paren_none p k s is)
paren_as p k s r (inr (es, is)) = inr (grouping es, paren_primary p k es s r is)

pub list_as_one : (p : Parsers) (k : ℕ) (s r : List Lexeme) → Stops 9 r → 0 < k → EndsAt (p 8 s) r → EndsAt (list_at p k s) r
list_as_one p k s r st lt (inl is) = inl (list_none p k s is)
list_as_one p k s r st lt (inr (e, is)) = inr (tree e no_tree, list_one p k e s r is st lt)

pub list_as_more : (p : Parsers) (k : ℕ) (s s' r : List Lexeme) → EndsAt (p 8 s) (mark signs.Comma ∷ s') → EndsAt (list_at p k s') r → EndsAt (list_at p (suc k) s) r
list_as_more p k s s' r (inl is) rest = inl (list_none p (suc k) s is)
list_as_more p k s s' r (inr (e, is)) (inl none) = inl (list_cut p k e s s' is none)
list_as_more p k s s' r (inr (e, is)) (inr (es, more)) = inr (tree e es, list_cons p k e es s s' r is more)

mutual
  unfolding primary_at

  pub primary_as : {x : Pat} {s t : List Lexeme} → ReadsPat x s t → (n : ℕ) → length s ≤ n → EndsAt (primary_at (parse_at n) n s) t
  primary_as pat_bind n le = inl refl
  primary_as pat_any n le = inl refl
  primary_as (pat_number {n = m}) n le = inr (op (Strict.nat m) no_tree, refl)
  primary_as (pat_text {t = t}) n le = inr (op (Strict.text t) no_tree, refl)
  primary_as pat_true n le = inr (op (Strict.bool true) no_tree, refl)
  primary_as pat_false n le = inr (op (Strict.bool false) no_tree, refl)
  primary_as (pat_name {x = x}) n le = inr (name x, refl)
  primary_as (pat_paren d) zero le = absurd (omega arith)
  primary_as (pat_paren {p} {s} {r} d) (suc n) le =
      paren_as (parse_at (suc n)) (suc n) s r (list_as_one (parse_at (suc n)) (suc n) s (mark signs.Close ∷ r) (lit< tt) (omega arith)
      (whole_as n s (mark signs.Close ∷ r) (pattern_begins d) (lit< tt) (primary_as d n (omega arith))))
  primary_as (pat_tuple d ds) zero le = absurd (omega arith)
  primary_as (pat_tuple {p} {ps} {s} {s'} {r} d ds) (suc n) le =
      paren_as (parse_at (suc n)) (suc n) s r (list_as_more (parse_at (suc n)) n s s' (mark signs.Close ∷ r)
      (whole_as n s (mark signs.Comma ∷ s') (pattern_begins d) (lit< tt) (primary_as d n (omega arith)))
      (list_as ds n n (omega (arith, pat_shrinks d)) (omega (arith, pat_shrinks d)) (lit< tt)))

  pub list_as : {ps : Pats} {s r : List Lexeme} → ReadsPats ps s r → (n k : ℕ) → length s ≤ k → length s ≤ n → Stops 9 r →
      EndsAt (list_at (parse_at (suc n)) k s) r
  list_as (pats_last {p} {s} {r} d) n k le lt st =
      list_as_one (parse_at (suc n)) k s r st (omega (arith, pat_shrinks d))
      (whole_as n s r (pattern_begins d) (stops_below 8 9 r (lit≤ tt) st) (primary_as d n lt))
  list_as (pats_more d ds) n zero le lt st = absurd (omega (arith, pat_shrinks d))
  list_as (pats_more {p} {ps} {s} {s'} {r} d ds) n (suc k) le lt st =
      list_as_more (parse_at (suc n)) k s s' r
      (whole_as n s (mark signs.Comma ∷ s') (pattern_begins d) (lit< tt) (primary_as d n lt))
      (list_as ds n k (omega (arith, pat_shrinks d)) (omega (arith, pat_shrinks d)) st)
