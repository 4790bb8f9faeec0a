-- A script has one answer.
use Rattle.std.proofs.Common.{ℕ, ◌≡◌, List, [], ◌∷◌, ◌++◌, Option, Some, refl, sym, ap, ◌∙◌, subst, arith, length}
use Rattle.std.proofs.lemmas.List.{append_cancel_right}
use Rattle.aql_syntax.specs.declared.token.Token.{Token}
use Rattle.aql_syntax.specs.Lexis.{Blank, Lexeme, named, numeral, quoted, mark, Begins, token_between, TextFaultAt}
use Rattle.aql_lex.specs.declared.lexer.Item.{Item}
use Rattle.aql_lex.specs.declared.lexer.Item.TheVariants as items
use Rattle.aql_lex.specs.Lexed.{OneList, OneTextFault, TokensOrTextFault}
use Rattle.aql_lex.proofs.Fronts.{shape, blank_found, begins_found, blank_shrinks, begins_shrinks}
use Rattle.aql_lex.specs.Texts.{Says}
use Rattle.aql_lex.specs.Laws.Text.{unescaped_is}
use Rattle.aql_lex.proofs.Spellings.{one_spelling}
use Rattle.aql_lex.proofs.Covering.{has_text, Goes, goes_none, goes_blank, goes_token, goes}

pair : (i j : Item) (q r : List ℕ) → ◌≡◌ {A = Option (Item × List ℕ)} (Some (i, q)) (Some (j, r)) → (i ≡ j) × (q ≡ r)
pair i j q r e =
    let same : ◌≡◌ {A = Item × List ℕ} (i, q) (j, r) = cc in
    (ap (λ (z : Item × List ℕ). z.0) same, ap (λ (z : Item × List ℕ). z.1) same)

-- a blank and a token do not begin at one place
blank_or_token : (l : Lexeme) (s q r : List ℕ) → Blank s q → Begins l s r → ⊥
blank_or_token l s q r b c = no_shape l (pair items.Blank (shape l) q r (sym (blank_found b) ∙ begins_found c)).0
  where
    no_shape : (l : Lexeme) → items.Blank ≡ shape l → ⊥
    no_shape (named x) e = cc
    no_shape (numeral x) e = cc
    no_shape (quoted x) e = cc
    no_shape (mark x) e = cc

one_blank : (s q r : List ℕ) → Blank s q → Blank s r → q ≡ r
one_blank s q r b c = (pair items.Blank items.Blank q r (sym (blank_found b) ∙ blank_found c)).1

-- a text says one lexeme of each shape
says_one : (t : List ℕ) (l m : Lexeme) → shape l ≡ shape m → Says t l → Says t m → l ≡ m
says_one t (named x) (named y) e p q = ap named (sym p ∙ q)
says_one t (numeral x) (numeral y) e p q = ap numeral (sym p.0 ∙ q.0)
says_one [] (quoted x) (quoted y) e p q = absurd p
says_one (b ∷ t) (quoted x) (quoted y) e p q = ap quoted (sym (unescaped_is p.1) ∙ unescaped_is q.1)
says_one t (mark g) (mark h) e p q = ap mark (one_spelling g h (p ∙ sym q))
says_one _ _ _ e p q = cc

-- two tokens at one place are one
pub record Same (l m : Lexeme) (q r : List ℕ) : Type 0 where
  pub lexeme : l ≡ m
  pub rest : q ≡ r

one_token : (l m : Lexeme) (s q r : List ℕ) → Begins l s q → Begins m s r → Same l m q r
one_token l m s q r b c =
    let same = pair (shape l) (shape m) q r (sym (begins_found b) ∙ begins_found c) in
    let t = has_text b in
    let u = has_text c in
    let x : t.text ++ r ≡ u.text ++ r = ap (λ z. t.text ++ z) (sym same.1) ∙ sym t.is ∙ u.is in
    let y : t.text ≡ u.text = append_cancel_right t.text u.text r x in
    record { lexeme = says_one u.text l m same.0 (subst (λ z. Says z l) y t.says) u.says; rest = same.1 }

-- neither a blank nor a token begins there
pub record IsStuck (s : List ℕ) : Type 0 where
  pub no_blank : (r : List ℕ) → Blank s r → ⊥
  pub no_token : (l : Lexeme) (r : List ℕ) → Begins l s r → ⊥

end_is_stuck : IsStuck []
end_is_stuck = record { no_blank = λ r b. absurd (omega (arith, blank_shrinks b)); no_token = λ l r b. absurd (omega (arith, begins_shrinks b)) }

record SameLists (ts us : List Token) (ls ms : List Lexeme) (q r : List ℕ) : Type 0 where
  tokens : ts ≡ us
  lexemes : ls ≡ ms
  rest : q ≡ r

-- two ways to where one is stuck are one
one_way : {script : List ℕ} {ts us : List Token} {ls ms : List Lexeme} {s q r : List ℕ} → Goes script ts ls s q → IsStuck q → Goes script us ms s r → IsStuck r →
    SameLists ts us ls ms q r
one_way goes_none x goes_none y = record { tokens = refl; lexemes = refl; rest = refl }
one_way goes_none x (goes_blank {s' = s'} b g) y = absurd (x.no_blank s' b)
one_way goes_none x (goes_token {l = l} {s' = s'} b g) y = absurd (x.no_token l s' b)
one_way (goes_blank {s' = s'} b g) x goes_none y = absurd (y.no_blank s' b)
one_way (goes_token {l = l} {s' = s'} b g) x goes_none y = absurd (y.no_token l s' b)
one_way (goes_blank {s = s} {s' = s'} b g) x (goes_token {l = l} {s' = s''} c h) y = absurd (blank_or_token l s s' s'' b c)
one_way (goes_token {l = l} {s = s} {s' = s'} b g) x (goes_blank {s' = s''} c h) y = absurd (blank_or_token l s s'' s' c b)
one_way {script} (goes_blank {s = s} {s' = s'} b g) x (goes_blank {ts = us} {ls = ms} {s' = s''} {r = r} c h) y =
    one_way g x (subst (λ z. Goes script us ms z r) (sym (one_blank s s' s'' b c)) h) y
one_way {script} (goes_token {l = l} {s = s} {s' = s'} b g) x (goes_token {ts = us} {ls = ms} {l = m} {s' = s''} {r = r} c h) y =
    let same = one_token l m s s' s'' b c in
    let later = one_way g x (subst (λ z. Goes script us ms z r) (sym same.rest) h) y in
    let token : token_between script l s s' ≡ token_between script m s s'' = cc (same.lexeme, same.rest) in
    record { tokens = cc (token, later.tokens); lexemes = cc (same.lexeme, later.lexemes); rest = later.rest }

stuck : {n : ℕ} {script : List ℕ} → (f : TextFaultAt n script) → IsStuck f.rest
stuck f = record { no_blank = f.no_blank; no_token = f.no_token }

pub one_list : OneList
one_list script ts us ls ms a b =
    let w = one_way (goes a) end_is_stuck (goes b) end_is_stuck in record { tokens = w.tokens; lexemes = w.lexemes }

pub one_text : OneTextFault
one_text m n script f g =
    let w = one_way (goes f.covers) (stuck f) (goes g.covers) (stuck g) in
    let l = ap length w.rest in
    let p = f.place in
    let q = g.place in omega arith

pub tokens_or_text : TokensOrTextFault
tokens_or_text n script ts ls a f =
    let w = one_way (goes a) end_is_stuck (goes f.covers) (stuck f) in f.some (sym w.rest)
