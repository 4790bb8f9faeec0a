-- Patterns that are read are in the grammar.
use Rattle.std.specs.Prelude.{ℕ, zero, suc, ◌≡◌, List, [], ◌∷◌, Some}
use Rattle.std.proofs.Common.{subst, sym}
use Rattle.aql_syntax.specs.declared.sign.Sign.{Sign}
use Rattle.aql_syntax.specs.declared.sign.Sign.TheVariants as signs
use Rattle.aql_syntax.specs.Lexis.{Lexeme, named, numeral, quoted, mark}
use Rattle.aql_syntax.specs.Tree.{Pat, bind, Pats, pat}
use Rattle.aql_syntax.specs.Grammar.{ReadsPat, pat_bind, pat_any, pat_number, pat_text, pat_true, pat_false, pat_name, pat_paren, pat_tuple, ReadsPats, pats_last, pats_more}
use Rattle.aql_parse_spec.specs.Parsing.{Out, after, name_at, enclosed_pats, pats_rest, pats_at, pat_in, pat_at, pat_then}
use Rattle.aql_parse_spec.specs.Laws.Steps.{went, moved, at_sign, name_is}

abbrev pub ArePatterns : (List Lexeme → Out Pat) → Type 0
ArePatterns q = (s r : List Lexeme) (p : Pat) → q s ≡ Some (p, r) → ReadsPat p s r

pats_sound : (q : List Lexeme → Out Pat) → ArePatterns q → (k : ℕ) (s r : List Lexeme) (ps : Pats) → pats_at q k s ≡ Some (ps, r) → ReadsPats ps s r
unfolding pats_at
pats_sound q sound zero s r ps e = cc
pats_sound q sound (suc k) s r ps e =
    let w = went (q s) (λ x. pats_rest (pats_at q k) x.0 x.1) (ps, r) e in
    rest w.value.0 w.value.1 (sound s w.value.1 w.value.0 w.first) w.second (pats_sound q sound k)
  where
    rest : (a : Pat) (s' : List Lexeme) → ReadsPat a s s' → pats_rest (pats_at q k) a s' ≡ Some (ps, r) →
        ((s r : List Lexeme) (ps : Pats) → pats_at q k s ≡ Some (ps, r) → ReadsPats ps s r) → ReadsPats ps s r
    rest a (mark signs.Comma ∷ s') d e again =
        let w = went (pats_at q k s') (λ x. Some (pat a x.0, x.1)) (ps, r) e in
        moved (λ z r. ReadsPats z s r) _ ps _ r w.second (pats_more d (again s' w.value.1 w.value.0 w.first))
    rest a s' d e again = moved (λ z r. ReadsPats z s r) _ ps s' r e (pats_last d)

pub enclosed_pats_reads : {ps : Pats} {s r : List Lexeme} → ReadsPats ps s (mark signs.Close ∷ r) → ReadsPat (enclosed_pats ps) (mark signs.Open ∷ s) r
enclosed_pats_reads (pats_last d) = pat_paren d
enclosed_pats_reads (pats_more d (pats_last c)) = pat_tuple d (pats_last c)
enclosed_pats_reads (pats_more d (pats_more c cs)) = pat_tuple d (pats_more c cs)

pat_in_sound : (q : List Lexeme → Out Pat) → ArePatterns q → (k : ℕ) → ArePatterns (pat_in q k)
pat_in_sound q sound k [] r p e = cc
pat_in_sound q sound k (named x ∷ s) r p e = moved (λ z t. ReadsPat z (named x ∷ s) t) _ p s r e pat_name
pat_in_sound q sound k (numeral n ∷ s) r p e = moved (λ z t. ReadsPat z (numeral n ∷ s) t) _ p s r e pat_number
pat_in_sound q sound k (quoted x ∷ s) r p e = moved (λ z t. ReadsPat z (quoted x ∷ s) t) _ p s r e pat_text
pat_in_sound q sound k (mark signs.True ∷ s) r p e = moved (λ z t. ReadsPat z (mark signs.True ∷ s) t) _ p s r e pat_true
pat_in_sound q sound k (mark signs.False ∷ s) r p e = moved (λ z t. ReadsPat z (mark signs.False ∷ s) t) _ p s r e pat_false
pat_in_sound q sound k (mark signs.Underscore ∷ s) r p e = moved (λ z t. ReadsPat z (mark signs.Underscore ∷ s) t) _ p s r e pat_any
pat_in_sound q sound k (mark signs.Backslash ∷ s) r p e =
    let w = went (name_at s) (λ x. Some (bind x.0, x.1)) (p, r) e in
    moved (λ z t. ReadsPat z (mark signs.Backslash ∷ s) t) _ p w.value.1 r w.second
    (subst (λ z. ReadsPat (bind w.value.0) (mark signs.Backslash ∷ z) w.value.1) (sym (name_is s w.value.1 w.value.0 w.first)) pat_bind)
pat_in_sound q sound k (mark signs.Open ∷ s) r p e =
    let w = went (pats_at q k s) _ (p, r) e in
    let v = went (after signs.Close w.value.1) _ (p, r) w.second in
    moved (λ z t. ReadsPat z (mark signs.Open ∷ s) t) _ p v.value r v.second
    (enclosed_pats_reads (at_sign (ReadsPats w.value.0 s) signs.Close w.value.1 v.value v.first (pats_sound q sound k s w.value.1 w.value.0 w.first)))
pat_in_sound q sound k (mark _ ∷ s) r p e = cc

pub pat_at_sound : (n : ℕ) → ArePatterns (pat_at n)
unfolding pat_at
pat_at_sound zero s r p e = cc
pat_at_sound (suc n) s r p e = pat_in_sound (pat_at n) (pat_at_sound n) n s r p e

pub pat_then_sound : (g : Sign) (n : ℕ) (s r : List Lexeme) (p : Pat) → pat_then g n s ≡ Some (p, r) → ReadsPat p s (mark g ∷ r)
unfolding pat_then
pat_then_sound g n s r p e =
    let w = went (pat_at n s) _ (p, r) e in
    let v = went (after g w.value.1) _ (p, r) w.second in
    moved (λ z t. ReadsPat z s (mark g ∷ t)) _ p v.value r v.second
    (at_sign (ReadsPat w.value.0 s) g w.value.1 v.value v.first (pat_at_sound n s w.value.1 w.value.0 w.first))
