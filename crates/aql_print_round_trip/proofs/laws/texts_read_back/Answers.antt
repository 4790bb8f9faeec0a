use Rattle.std.proofs.Common.{ℕ, List, [], ◌∷◌, ◌++◌, refl, subst}
use Rattle.aql_syntax.specs.declared.sign.Sign.TheVariants as signs
use Rattle.aql_syntax.specs.Lexis.{Lexeme, mark, covers_none}
use Rattle.aql_syntax.specs.Grammar.{ReadsScript, decl_bare, decls_none, decls_more}
use Rattle.aql_syntax.specs.Tree.{bare}
use Rattle.aql_print.specs.ValueText.{text}
use Rattle.aql_print_round_trip.proofs.Said.{said, expression}
use Rattle.aql_print_round_trip.proofs.Spans.{Separate, spans_end, spans, covers, bracket}
use Rattle.aql_print_round_trip.proofs.Reading.{as_whole, reads}
use Rattle.aql_print_round_trip.proofs.Meaning.{denotes}
use Rattle.aql_print_round_trip.proofs.laws.texts_read_back.Goals as goal

pub returns : goal.returns
returns c = λ v h.
    let script : List ℕ = text v ++ 59 ∷ [] in
    let ls : List Lexeme = said v (mark signs.Semicolon ∷ []) in
    let ends : Separate (59 ∷ []) = record { word = refl; digit = refl } in
    let found = covers (spans v h (59 ∷ []) [] (mark signs.Semicolon ∷ []) ends (bracket signs.Semicolon refl (λ b. refl) [] [] [] spans_end)) script [] [] covers_none in
    let read : ReadsScript (bare (expression v) ∷ []) ls = decls_more (decl_bare (as_whole (expression v) ls (mark signs.Semicolon ∷ []) (reads v h (mark signs.Semicolon ∷ [])))) decls_none in
    record {
      expression = expression v;
      reads = (found.0, (ls, (found.1, read)));
      only = λ ds r.
          c.one_reading.ensures.reading ds (bare (expression v) ∷ []) ls
          (subst (ReadsScript ds) (c.one_answer.ensures.list script r.0 found.0 r.1.0 ls r.1.1.0 found.1).lexemes r.1.1.1) read;
      denotes = λ globals env. denotes globals env v h;
    }
