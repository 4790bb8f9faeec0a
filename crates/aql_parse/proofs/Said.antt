-- What a token says is its word's lexeme.
use Rattle.std.proofs.Common.{ℕ, ◌≡◌, List, [], ◌∷◌, ◌++◌, Bool, true, false, if◌then◌else◌, refl, ap, ◌∙◌, length, arith}
use Rattle.aql_syntax.specs.declared.sign.Sign.{Sign}
use Rattle.aql_syntax.specs.declared.token.Token.{Token}
use Rattle.aql_syntax.specs.declared.token.TokenKind.TheVariants as kinds
use Rattle.aql_syntax.specs.Signs.{is_word}
use Rattle.aql_syntax.specs.Lexis.{Lexeme, named, numeral, quoted, mark, kind_of}
use Rattle.aql_lex.specs.Texts.{Says, EachSays, text_of}
use Rattle.aql_lex.specs.Laws.Text.{unescaped_is}
use Rattle.aql_parse.specs.declared.words.Word.{Word}
use Rattle.aql_parse.specs.Words.{string_of, lexeme_of, lexemes}
use Rattle.aql_parse.specs.Parsed.{Rest}

not_text : (t : Bool) → kinds.Text ≡ (if t then kinds.Reserved else kinds.Sign) → ⊥
not_text true e = cc
not_text false e = cc

pub text_said : (t : List ℕ) (l : Lexeme) → kinds.Text ≡ kind_of l → Says t l → quoted (string_of t) ≡ l
text_said t (named x) k d = cc
text_said t (numeral n) k d = cc
text_said [] (quoted x) k d = absurd d
text_said (b ∷ t) (quoted x) k d = ap quoted (unescaped_is d.1)
text_said t (mark g) k d = absurd (not_text (is_word g) k)

lexemes_last : (source : List ℕ) (ws : List Word) (w : Word) (ls : List Lexeme) → lexemes source (ws ++ (w ∷ [])) ++ ls ≡ lexemes source ws ++ (lexeme_of source w ∷ ls)
lexemes_last source [] w ls = refl
lexemes_last source (v ∷ ws) w ls = ap (λ z. lexeme_of source v ∷ z) (lexemes_last source ws w ls)

pub rest_next : (source : List ℕ) (t : Token) (ts left : List Token) (w : Word) (ws more : List Word) (ls : List Lexeme) →
    left ≡ t ∷ ts → more ≡ ws ++ (w ∷ []) →
    ((l : Lexeme) → t.kind ≡ kind_of l → Says (text_of source t) l → lexeme_of source w ≡ l) →
    Rest source left ws ls → Rest source ts more ls
rest_next source t ts left w ws more ls is grown word r = go r.later (rw is at r.says) r.whole
  where
    go : (ms : List Lexeme) → EachSays source (t ∷ ts) ms → lexemes source ws ++ ms ≡ ls → Rest source ts more ls
    go [] d e = absurd d
    go (m ∷ ms) d e = record {
      later = ms;
      says = d.2;
      whole = ap (λ z. lexemes source z ++ ms) grown ∙ lexemes_last source ws w ms ∙ ap (λ z. lexemes source ws ++ (z ∷ ms)) (word m d.0 d.1) ∙ e;
    }

pub lexemes_length : (source : List ℕ) (ws : List Word) → length (lexemes source ws) ≡ length ws
lexemes_length source [] = refl
lexemes_length source (w ∷ ws) = omega (arith, lexemes_length source ws)
