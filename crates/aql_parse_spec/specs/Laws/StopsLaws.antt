-- What follows from the definitions of `Stops`.
use Rattle.std.specs.Prelude.{ℕ, zero, suc, ◌≡◌, ◌<◌, ◌≤◌, ◌==◌, List, [], ◌∷◌, Option, Some, None, Bool, true, false, length, nat_lt, if◌then◌else◌}
use Rattle.std.proofs.Common.{refl, ap, ◌∙◌, arith, lit<}
use Rattle.std.proofs.lemmas.Bool.{eqb-true, eq-eqb}
use Rattle.aql_value.specs.Strict.{Strict}
use Rattle.aql_value.specs.declared.ops.CompareOp.{CompareOp}
use Rattle.aql_syntax.specs.declared.sign.Sign.{Sign}
use Rattle.aql_syntax.specs.declared.sign.Sign.TheVariants as signs
use Rattle.aql_syntax.specs.Lexis.{Lexeme, named, mark}
use Rattle.aql_syntax.specs.Tree.{Name, Pat, Tree, op, members, comp, tab, bindings, apply, function, summap, Trees, no_tree, tree, Axes, no_axis, axis, Quals, no_qual, Defs, no_def, def, count_trees, count_axes}
use Rattle.aql_syntax.specs.View.{of_one}
use Rattle.aql_syntax.specs.Grammar.{ReadsPat, Junction, tight_operator, compare_operator, loose_operator, primary, postfix, head_operator, Reads, reads_number, reads_text, reads_true, reads_false, reads_name, reads_paren, reads_tuple, reads_empty, reads_members, reads_comp, reads_tab, reads_literal, reads_let, reads_primary, reads_sub, ReadsList, list_last, list_more, ReadsDefs, defs_last, defs_more}
use Rattle.aql_value.specs.Partial.{◌>>=◌}
use Rattle.aql_parse_spec.specs.Parsing.{Out, Parser, Parsers, after, name_at, binder_at, pat_then, Joiner, builds, joins, joined_by, operator_of, at_level, operator_at, operates, operand, opening_in, opening, list_at, list_rest, maybe_at, short, grouping, axes_at, axes_rest, Front, add_qualifier, front_at, quals_at, quals_rest, def_at, defs_at, defs_rest, closed_twice, brace_rest, braces_at, literal_of, bracket_rest, brackets_at, let_at, paren_at, primary_at, sub_rest, postfix_at, function_at, application_at, chain_rest, negation_at, level_at, default_rest, whole_in, whole_at, parse_at}
use Rattle.aql_parse_spec.specs.Laws.First.{StartsAt, starts_at}
use Rattle.aql_parse_spec.specs.Laws.PatternComplete.{pat_then_complete, after_self}
use Rattle.aql_parse_spec.specs.Stops.{goes_on, Stops, NoVal}

pub stops_below : (h k : ℕ) (r : List Lexeme) → h ≤ k → Stops k r → Stops h r
stops_below h k [] le st = tt
stops_below h k (l ∷ r) le st = omega (arith, st)

-- operators
pub some_first : {A B : Type 0} (a c : A) (b d : B) → ◌≡◌ {A = Option (A × B)} (Some (a, b)) (Some (c, d)) → a ≡ c
some_first {A} {B} a c b d h = let same : ◌≡◌ {A = A × B} (a, b) (c, d) = cc in ap (λ (z : A × B). z.0) same

pub level_goes_on : (l : Lexeme) (h : ℕ) (j : Joiner) → operator_of l ≡ Some (h, j) → goes_on l ≡ h
level_goes_on (mark signs.Star) h j e = some_first 1 h _ j e
level_goes_on (mark signs.Slash) h j e = some_first 1 h _ j e
level_goes_on (mark signs.Percent) h j e = some_first 1 h _ j e
level_goes_on (mark signs.Plus) h j e = some_first 2 h _ j e
level_goes_on (mark signs.Minus) h j e = some_first 2 h _ j e
level_goes_on (mark signs.Union) h j e = some_first 3 h _ j e
level_goes_on (mark signs.Equal) h j e = some_first 4 h _ j e
level_goes_on (mark signs.Unequal) h j e = some_first 4 h _ j e
level_goes_on (mark signs.Less) h j e = some_first 4 h _ j e
level_goes_on (mark signs.LessEqual) h j e = some_first 4 h _ j e
level_goes_on (mark signs.Greater) h j e = some_first 4 h _ j e
level_goes_on (mark signs.GreaterEqual) h j e = some_first 4 h _ j e
level_goes_on (mark signs.And) h j e = some_first 6 h _ j e
level_goes_on (mark signs.Or) h j e = some_first 7 h _ j e
level_goes_on _ h j e = cc

pub tight_table : (h : ℕ) (l : Lexeme) (o : Strict) → tight_operator (suc h) l ≡ Some o → operator_of l ≡ Some (suc h, builds o)
tight_table zero (mark signs.Star) o e = ap (λ z. Some (1, builds z)) cc
tight_table zero (mark signs.Slash) o e = ap (λ z. Some (1, builds z)) cc
tight_table zero (mark signs.Percent) o e = ap (λ z. Some (1, builds z)) cc
tight_table zero _ o e = cc
tight_table (suc zero) (mark signs.Plus) o e = ap (λ z. Some (2, builds z)) cc
tight_table (suc zero) (mark signs.Minus) o e = ap (λ z. Some (2, builds z)) cc
tight_table (suc zero) _ o e = cc
tight_table (suc (suc zero)) (mark signs.Union) o e = ap (λ z. Some (3, builds z)) cc
tight_table (suc (suc zero)) _ o e = cc
tight_table (suc (suc (suc h))) l o e = cc

pub compare_table : (l : Lexeme) (o : CompareOp) → compare_operator l ≡ Some o → operator_of l ≡ Some (4, builds (Strict.compare o))
compare_table (mark signs.Equal) o e = ap (λ z. Some (4, builds (Strict.compare z))) cc
compare_table (mark signs.Unequal) o e = ap (λ z. Some (4, builds (Strict.compare z))) cc
compare_table (mark signs.Less) o e = ap (λ z. Some (4, builds (Strict.compare z))) cc
compare_table (mark signs.LessEqual) o e = ap (λ z. Some (4, builds (Strict.compare z))) cc
compare_table (mark signs.Greater) o e = ap (λ z. Some (4, builds (Strict.compare z))) cc
compare_table (mark signs.GreaterEqual) o e = ap (λ z. Some (4, builds (Strict.compare z))) cc
compare_table _ o e = cc

pub loose_table : (h : ℕ) (l : Lexeme) (j : Junction) → loose_operator (suc h) l ≡ Some j →
    operator_of l ≡ Some (suc (suc (suc (suc (suc (suc h))))), joins j)
loose_table zero (mark signs.And) j e = ap (λ z. Some (6, joins z)) cc
loose_table zero _ j e = cc
loose_table (suc zero) (mark signs.Or) j e = ap (λ z. Some (7, joins z)) cc
loose_table (suc zero) _ j e = cc
loose_table (suc (suc h)) l j e = cc

pub operator_found : (h : ℕ) (l : Lexeme) (j : Joiner) (s : List Lexeme) → operator_of l ≡ Some (h, j) → operator_at h (l ∷ s) ≡ Some (j, s)
unfolding operator_at
operator_found h l j s e = rw (e, eq-eqb h h refl) refl

pub operator_none : (h : ℕ) (r : List Lexeme) → Stops h r → operator_at h r ≡ None
unfolding operator_at
operator_none h [] st = refl
operator_none h (l ∷ r) st = go (operator_of l) refl
  where
    go : (o : Option (ℕ × Joiner)) → operator_of l ≡ o → at_level h r o ≡ None
    go None is = refl
    go (Some (g, j)) is = level (g == h) refl
      where
        level : (b : Bool) → (g == h) ≡ b → at_level h r (Some (g, j)) ≡ None
        level false other = rw other refl
        level true here = absurd (omega (arith, st, level_goes_on l g j is, eqb-true g h here))

pub chain_rest_stops : (q : Parser) (h k : ℕ) (a : Tree) (r : List Lexeme) → Stops h r → chain_rest q h k a r ≡ Some (a, r)
unfolding chain_rest
chain_rest_stops q h zero a r st = refl
chain_rest_stops q h (suc k) a r st = rw (operator_none h r st) refl

pub chain_more : (q : Parser) (h k : ℕ) (a b : Tree) (l : Lexeme) (j : Joiner) (s r : List Lexeme) → operator_of l ≡ Some (h, j) → q s ≡ Some (b, r) →
    chain_rest q h (suc k) a (l ∷ s) ≡ chain_rest q h k (joined_by j a b) r
unfolding chain_rest
chain_more q h k a b l j s r is inner = rw (operator_found h l j s is, inner) refl

-- ends of lists
pub sub_rest_stops : (p : Parsers) (k i : ℕ) (a : Tree) (r : List Lexeme) → Stops 0 r → sub_rest p k i a r ≡ Some (a, r)
unfolding sub_rest
sub_rest_stops p k zero a r st = refl
sub_rest_stops p k (suc i) a (mark signs.OpenBracket ∷ r) st = absurd (omega (arith, st))
sub_rest_stops p k (suc i) a r st = refl

pub default_rest_stops : (p : Parsers) (a : Tree) (r : List Lexeme) → Stops 8 r → default_rest p a r ≡ Some (a, r)
default_rest_stops p a (mark signs.Default ∷ r) st = absurd (omega (arith, st))
default_rest_stops p a r st = refl

pub list_rest_stops : (more : List Lexeme → Out Trees) (e : Tree) (r : List Lexeme) → Stops 9 r → list_rest more e r ≡ Some (tree e no_tree, r)
list_rest_stops more e (mark signs.Comma ∷ r) st = absurd (omega (arith, st))
list_rest_stops more e r st = refl

pub axes_rest_stops : (more : List Lexeme → Out Axes) (x : Name) (e : Tree) (r : List Lexeme) → Stops 9 r → axes_rest more x e r ≡ Some (axis x e no_axis, r)
axes_rest_stops more x e (mark signs.Comma ∷ r) st = absurd (omega (arith, st))
axes_rest_stops more x e r st = refl

pub quals_rest_stops : (more : List Lexeme → Out Quals) (f : Front) (e : Tree) (r : List Lexeme) → Stops 9 r → quals_rest more f e r ≡ Some (add_qualifier f e no_qual, r)
quals_rest_stops more f e (mark signs.Comma ∷ r) st = absurd (omega (arith, st))
quals_rest_stops more f e r st = refl

pub defs_rest_stops : (more : List Lexeme → Out Defs) (x : Pat) (e : Tree) (r : List Lexeme) → NoVal r → defs_rest more x e r ≡ Some (def x e no_def, r)
defs_rest_stops more x e (mark signs.Val ∷ r) st = absurd st
defs_rest_stops more x e r st = refl

-- beginnings
pub no_fn : (s : List Lexeme) → StartsAt 2 s → after signs.Fn s ≡ None
unfolding after
no_fn [] b = refl
no_fn (mark signs.Fn ∷ s) b = absurd (omega (arith, b))
no_fn (l ∷ s) b = refl

pub no_bang : (r : List Lexeme) → Stops 0 r → after signs.Bang r ≡ None
unfolding after
no_bang [] st = refl
no_bang (mark signs.Bang ∷ r) st = absurd (omega (arith, st))
no_bang (l ∷ r) st = refl

pub no_if : (s : List Lexeme) → StartsAt 1 s → after signs.If s ≡ None
unfolding after
no_if [] b = refl
no_if (mark signs.If ∷ s) b = absurd (omega (arith, b))
no_if (l ∷ s) b = refl

pub no_not : (s : List Lexeme) → StartsAt 0 s → after signs.Not s ≡ None
unfolding after
no_not [] b = refl
no_not (mark signs.Not ∷ s) b = absurd (omega (arith, b))
no_not (l ∷ s) b = refl

pub choice_skipped : (p : Parsers) (k : ℕ) (s : List Lexeme) → after signs.If s ≡ None →
    whole_in p k s ≡ (level_at p k 7 s >>= λ x. default_rest p x.0 x.1)
unfolding after
choice_skipped p k [] b = refl
choice_skipped p k (mark signs.If ∷ s) b = cc
choice_skipped p k (l ∷ s) b = refl

pub negation_skipped : (p : Parsers) (q : Parser) (s : List Lexeme) → after signs.Not s ≡ None → negation_at p q s ≡ q s
unfolding after
negation_skipped p q [] b = refl
negation_skipped p q (mark signs.Not ∷ s) b = cc
negation_skipped p q (l ∷ s) b = refl

pub braces_skipped : (p : Parsers) (k : ℕ) (s : List Lexeme) → StartsAt 2 s → braces_at p k s ≡ (list_at p k s >>= λ x. brace_rest p k x.0 x.1)
unfolding braces_at
braces_skipped p k [] b = refl
braces_skipped p k (mark signs.CloseBrace ∷ s) b = absurd (omega (arith, b))
braces_skipped p k (l ∷ s) b = refl

pub maybe_skipped : (p : Parsers) (k : ℕ) (s : List Lexeme) → StartsAt 2 s → maybe_at p k s ≡ list_at p k s
maybe_skipped p k [] b = refl
maybe_skipped p k (mark signs.CloseBracket ∷ s) b = absurd (omega (arith, b))
maybe_skipped p k (l ∷ s) b = refl

-- what is read as a primary or with subscripts isn't the head of an application
pub primary_operand : {e : Tree} {s r : List Lexeme} → Reads primary e s r → after signs.Bang r ≡ None → opening_in s ≡ operand
unfolding after
primary_operand reads_number nb = refl
primary_operand reads_text nb = refl
primary_operand reads_true nb = refl
primary_operand reads_false nb = refl
primary_operand reads_name nb = rw nb refl
primary_operand (reads_paren {e} {s} d) nb = rw (no_fn s (starts_at d)) refl
primary_operand (reads_tuple {e} {es} {s} d ds) nb = rw (no_fn s (starts_at d)) refl
primary_operand reads_empty nb = refl
primary_operand (reads_members ds) nb = refl
primary_operand (reads_comp d qs) nb = refl
primary_operand (reads_tab d xs le) nb = refl
primary_operand (reads_literal ds le cs) nb = refl
primary_operand (reads_let ds d) nb = refl

pub postfix_operand : {e : Tree} {s r : List Lexeme} → Reads postfix e s r → after signs.Bang r ≡ None → opening_in s ≡ operand
unfolding after
postfix_operand (reads_primary d) nb = primary_operand d nb
postfix_operand (reads_sub d ds le) nb = postfix_operand d refl

-- steps of lists
pub list_one : (p : Parsers) (k : ℕ) (e : Tree) (s r : List Lexeme) → p 8 s ≡ Some (e, r) → Stops 9 r → 0 < k → list_at p k s ≡ Some (tree e no_tree, r)
unfolding list_at
list_one p zero e s r is st lt = absurd (omega arith)
list_one p (suc k) e s r is st lt = rw is (list_rest_stops (list_at p k) e r st)

pub list_cons : (p : Parsers) (k : ℕ) (e : Tree) (es : Trees) (s s' r : List Lexeme) → p 8 s ≡ Some (e, mark signs.Comma ∷ s') → list_at p k s' ≡ Some (es, r) →
    list_at p (suc k) s ≡ Some (tree e es, r)
unfolding list_at
list_cons p k e es s s' r is rest = rw (is, rest) refl

pub binder_complete : (g : Sign) (x : Name) (s : List Lexeme) → binder_at g (mark signs.Backslash ∷ named x ∷ mark g ∷ s) ≡ Some (x, s)
unfolding binder_at after name_at
binder_complete g x s = rw (after_self g s) refl

pub axes_one : (p : Parsers) (k : ℕ) (x : Name) (e : Tree) (s r : List Lexeme) → p 8 s ≡ Some (e, r) → Stops 9 r → 0 < k →
    axes_at p k (mark signs.Backslash ∷ named x ∷ mark signs.Less ∷ s) ≡ Some (axis x e no_axis, r)
unfolding axes_at
axes_one p zero x e s r is st lt = absurd (omega arith)
axes_one p (suc k) x e s r is st lt = rw (binder_complete signs.Less x s, is) (axes_rest_stops (axes_at p k) x e r st)

pub axes_cons : (p : Parsers) (k : ℕ) (x : Name) (e : Tree) (xs : Axes) (s s' r : List Lexeme) → p 8 s ≡ Some (e, mark signs.Comma ∷ s') →
    axes_at p k s' ≡ Some (xs, r) → axes_at p (suc k) (mark signs.Backslash ∷ named x ∷ mark signs.Less ∷ s) ≡ Some (axis x e xs, r)
unfolding axes_at
axes_cons p k x e xs s s' r is rest = rw (binder_complete signs.Less x s, is, rest) refl

pub def_complete : {x : Pat} {s s' : List Lexeme} (n : ℕ) → ReadsPat x s (mark signs.Equal ∷ s') → length s ≤ n → def_at n (mark signs.Val ∷ s) ≡ Some (x, s')
unfolding def_at
def_complete {x} {s} {s'} n d le = rw (after_self signs.Val s) (pat_then_complete signs.Equal d n le)

pub defs_one : (p : Parsers) (n k : ℕ) (x : Pat) (e : Tree) (s s' r : List Lexeme) → def_at n s ≡ Some (x, s') → p 8 s' ≡ Some (e, r) → NoVal r → 0 < k →
    defs_at p n k s ≡ Some (def x e no_def, r)
unfolding defs_at
defs_one p n zero x e s s' r d is st lt = absurd (omega arith)
defs_one p n (suc k) x e s s' r d is st lt = rw (d, is) (defs_rest_stops (defs_at p n k) x e r st)

abbrev pub StartsVal : List Lexeme → Type 0
StartsVal (mark signs.Val ∷ s) = Unit {0}
StartsVal _ = ⊥

pub defs_start : {ds : Defs} {s r : List Lexeme} → ReadsDefs ds s r → StartsVal s
defs_start (defs_last p d) = tt
defs_start (defs_more p d ds) = tt

pub val_stops : (s : List Lexeme) → StartsVal s → Stops 8 s
val_stops [] v = absurd v
val_stops (mark signs.Val ∷ s) v = lit< tt
val_stops (l ∷ s) v = absurd v

pub defs_rest_val : (more : List Lexeme → Out Defs) (x : Pat) (e : Tree) (s : List Lexeme) → StartsVal s →
    defs_rest more x e s ≡ (more s >>= λ y. Some (def x e y.0, y.1))
defs_rest_val more x e [] v = absurd v
defs_rest_val more x e (mark signs.Val ∷ s) v = refl
defs_rest_val more x e (l ∷ s) v = absurd v

pub defs_cons : (p : Parsers) (n k : ℕ) (x : Pat) (e : Tree) (ds : Defs) (s s' t r : List Lexeme) → def_at n s ≡ Some (x, s') →
    p 8 s' ≡ Some (e, t) → StartsVal t → defs_at p n k t ≡ Some (ds, r) → defs_at p n (suc k) s ≡ Some (def x e ds, r)
unfolding defs_at
defs_cons p n k x e ds s s' t r d is v rest = rw (d, is, defs_rest_val (defs_at p n k) x e t v, rest) refl

pub quals_step : (p : Parsers) (n k : ℕ) (f : Front) (e : Tree) (s s' t : List Lexeme) →
    ◌≡◌ {A = Front × List Lexeme} (front_at n s) (f, s') → p 8 s' ≡ Some (e, t) → quals_at p n (suc k) s ≡ quals_rest (quals_at p n k) f e t
unfolding quals_at
quals_step p n k f e s s' t d is = rw (d, is) refl

pub short_list : {A : Type 0} (n : ℕ) (x : A) → n ≤ 8 → short n x ≡ Some x
short_list n x le = go (nat_lt 8 n) refl
  where
    go : (b : Bool) → nat_lt 8 n ≡ b → (if b then None else Some x) ≡ Some x
    go false is = refl
    go true is = absurd (grind arith)

-- primaries
pub paren_primary : (p : Parsers) (k : ℕ) (es : Trees) (s r : List Lexeme) → list_at p k s ≡ Some (es, mark signs.Close ∷ r) →
    primary_at p k (mark signs.Open ∷ s) ≡ Some (grouping es, r)
unfolding primary_at paren_at after
paren_primary p k es s r is = rw is refl

pub members_primary : (p : Parsers) (k : ℕ) (es : Trees) (s r : List Lexeme) → StartsAt 2 s → list_at p k s ≡ Some (es, mark signs.CloseBrace ∷ r) →
    primary_at p k (mark signs.OpenBrace ∷ s) ≡ Some (members es, r)
unfolding primary_at brace_rest
members_primary p k es s r b is = braces_skipped p k s b ∙ rw is refl

pub comp_primary : (p : Parsers) (k : ℕ) (e : Tree) (qs : Quals) (s s' r : List Lexeme) → StartsAt 2 s →
    list_at p k s ≡ Some (tree e no_tree, mark signs.Bar ∷ s') → quals_at p k k s' ≡ Some (qs, mark signs.CloseBrace ∷ r) →
    primary_at p k (mark signs.OpenBrace ∷ s) ≡ Some (comp e qs, r)
unfolding primary_at brace_rest after
comp_primary p k e qs s s' r b is rest = braces_skipped p k s b ∙ rw (is, rest) refl

pub twice_self : (r : List Lexeme) → closed_twice (mark signs.CloseBracket ∷ mark signs.CloseBracket ∷ r) ≡ Some r
unfolding closed_twice after
twice_self r = refl

pub tab_primary : (p : Parsers) (k : ℕ) (e : Tree) (xs : Axes) (s s' r : List Lexeme) → list_at p k s ≡ Some (tree e no_tree, mark signs.Bar ∷ s') →
    axes_at p k s' ≡ Some (xs, mark signs.CloseBracket ∷ mark signs.CloseBracket ∷ r) → count_axes xs ≤ 8 →
    primary_at p k (mark signs.OpenBracket ∷ mark signs.OpenBracket ∷ s) ≡ Some (tab xs e, r)
unfolding primary_at brackets_at bracket_rest after
tab_primary p k e xs s s' r is rest le = rw (is, rest, short_list (count_axes xs) xs le, twice_self r) refl

pub literal_primary : (p : Parsers) (k : ℕ) (ds cs : Trees) (s s' r : List Lexeme) → list_at p k s ≡ Some (ds, mark signs.Semicolon ∷ s') →
    count_trees ds ≤ 8 → maybe_at p k s' ≡ Some (cs, mark signs.CloseBracket ∷ mark signs.CloseBracket ∷ r) →
    primary_at p k (mark signs.OpenBracket ∷ mark signs.OpenBracket ∷ s) ≡ Some (literal_of ds cs, r)
unfolding primary_at brackets_at bracket_rest after
literal_primary p k ds cs s s' r is le rest = rw (is, short_list (count_trees ds) ds le, rest, twice_self r) refl

pub let_primary : (p : Parsers) (k : ℕ) (ds : Defs) (e : Tree) (s s' r : List Lexeme) → defs_at p k k s ≡ Some (ds, mark signs.In ∷ s') →
    p 8 s' ≡ Some (e, mark signs.End ∷ r) → primary_at p k (mark signs.Let ∷ s) ≡ Some (bindings ds e, r)
unfolding primary_at let_at after
let_primary p k ds e s s' r is rest = rw (is, rest) refl

pub enclosed_list : {es : Trees} {s r : List Lexeme} (e : Tree) → ReadsList es s r → grouping (tree e es) ≡ op Strict.tuple (tree e es)
enclosed_list e (list_last d) = refl
enclosed_list e (list_more d ds) = refl

pub sub_more : (p : Parsers) (k i : ℕ) (a : Tree) (es : Trees) (s r : List Lexeme) → list_at p k s ≡ Some (es, mark signs.CloseBracket ∷ r) → count_trees es ≤ 8 →
    sub_rest p k (suc i) a (mark signs.OpenBracket ∷ s) ≡ sub_rest p k i (op Strict.sub (tree a es)) r
unfolding sub_rest after
sub_more p k i a es s r is le = rw (is, short_list (count_trees es) es le) refl

-- applications
pub application_postfix : (p : Parsers) (k : ℕ) (s : List Lexeme) → opening_in s ≡ operand → application_at p k s ≡ postfix_at p k s
unfolding application_at opening
application_postfix p k s is = rw is refl

pub application_apply : (p : Parsers) (k : ℕ) (f : Name) (a : Tree) (s r : List Lexeme) → p 0 s ≡ Some (a, r) →
    application_at p k (named f ∷ mark signs.Bang ∷ s) ≡ Some (apply f a, r)
unfolding application_at opening after
application_apply p k f a s r is = rw is refl

pub operation_opens : (l : Lexeme) (o : Strict) (s : List Lexeme) → head_operator l ≡ Some o → opening_in (l ∷ mark signs.Bang ∷ s) ≡ operates o s
unfolding after
operation_opens (mark signs.Open) o s e = cc
operation_opens l o s e = cc

pub application_operation : (p : Parsers) (k : ℕ) (l : Lexeme) (o : Strict) (a : Tree) (s r : List Lexeme) → head_operator l ≡ Some o → p 0 s ≡ Some (a, r) →
    application_at p k (l ∷ mark signs.Bang ∷ s) ≡ Some (of_one o a, r)
unfolding application_at opening
application_operation p k l o a s r e is = rw (operation_opens l o s e, is) refl

pub function_complete : (f : Pat → Tree → Tree → Tree) (p : Parsers) (k : ℕ) (x : Pat) (e a : Tree) (s s' s'' r : List Lexeme) →
    pat_then signs.FatArrow k s ≡ Some (x, s') → p 8 s' ≡ Some (e, mark signs.Close ∷ mark signs.Bang ∷ s'') → p 0 s'' ≡ Some (a, r) →
    function_at f p k s ≡ Some (f x e a, r)
unfolding function_at after
function_complete f p k x e a s s' s'' r c d is = rw (c, d, is) refl

pub application_function : (p : Parsers) (k : ℕ) (s : List Lexeme) → application_at p k (mark signs.Open ∷ mark signs.Fn ∷ s) ≡ function_at function p k s
unfolding application_at opening after
application_function p k s = refl

pub application_summap : (p : Parsers) (k : ℕ) (s : List Lexeme) →
    application_at p k (mark signs.Summap ∷ mark signs.Open ∷ mark signs.Fn ∷ s) ≡ function_at summap p k s
unfolding application_at opening after
application_summap p k s = refl

-- levels
pub level_0 : (p : Parsers) (k : ℕ) (s : List Lexeme) → level_at p k 0 s ≡ application_at p k s
unfolding level_at
level_0 p k s = refl

pub level_tight : (p : Parsers) (k h : ℕ) (s : List Lexeme) → h < 3 →
    level_at p k (suc h) s ≡ (level_at p k h s >>= λ x. chain_rest (level_at p k h) (suc h) k x.0 x.1)
unfolding level_at
level_tight p k zero s lt = refl
level_tight p k (suc zero) s lt = refl
level_tight p k (suc (suc zero)) s lt = refl
level_tight p k (suc (suc (suc h))) s lt = absurd (omega arith)

pub level_4 : (p : Parsers) (k : ℕ) (s : List Lexeme) → level_at p k 4 s ≡ (level_at p k 3 s >>= λ x. chain_rest (level_at p k 3) 4 1 x.0 x.1)
unfolding level_at
level_4 p k s = refl

pub level_5 : (p : Parsers) (k : ℕ) (s : List Lexeme) → level_at p k 5 s ≡ negation_at p (level_at p k 4) s
unfolding level_at
level_5 p k s = refl

pub level_loose : (p : Parsers) (k h : ℕ) (s : List Lexeme) → h < 2 →
    level_at p k (suc (suc (suc (suc (suc (suc h)))))) s
    ≡ (level_at p k (suc (suc (suc (suc (suc h))))) s >>= λ x. chain_rest (level_at p k (suc (suc (suc (suc (suc h)))))) (suc (suc (suc (suc (suc (suc h)))))) k x.0 x.1)
unfolding level_at
level_loose p k zero s lt = refl
level_loose p k (suc zero) s lt = refl
level_loose p k (suc (suc h)) s lt = absurd (omega arith)

pub parse_8 : (n : ℕ) (s : List Lexeme) → parse_at (suc n) 8 s ≡ whole_in (parse_at n) n s
unfolding parse_at whole_at
parse_8 n s = refl

pub parse_5 : (n : ℕ) (s : List Lexeme) → parse_at (suc n) 5 s ≡ level_at (parse_at n) n 5 s
unfolding parse_at
parse_5 n s = refl

pub parse_0 : (n : ℕ) (s : List Lexeme) → parse_at (suc n) 0 s ≡ level_at (parse_at n) n 0 s
unfolding parse_at
parse_0 n s = refl
