use Rattle.std.proofs.Common.{◌+◌, List, [], ◌∷◌, ap, sym, ◌∙◌, subst, length, arith}
use Rattle.std.proofs.lemmas.Grind.{common_steps}
use Rattle.aql_syntax.specs.Tree.{Declaration}
use Rattle.aql_syntax.specs.View.{decl_of, decls_of}
use Rattle.aql_syntax.specs.Grammar.{ReadsDecls, decls_none}
use Rattle.aql_syntax.specs.Laws.View.{decls_of-append, length-decls_of}
use Rattle.aql_parse_spec.specs.Laws.Scripts.{decl_sound, decl_shrinks, decl_none, reads_next, no_longer}
use Rattle.aql_parse.specs.Words.{lexemes}
use Rattle.aql_parse.proofs.Said.{lexemes_length}
use Rattle.aql_parse.proofs.scripts.declarations.Goals as goal

pub loop-rest-init : goal.loop-rest-init
loop-rest-init c = rw c.new-items.ensures.items decls_none

pub loop-rest-smaller : goal.loop-rest-smaller
loop-rest-smaller c =
    let source = c.args.source.now in
    let d = decl_sound (length c.args.words.now + 1) (lexemes source c.loop-rest.rest.now) (lexemes source c.in-Ok.behind.now) (decl_of c.in-Ok.found) c.in-Ok.ensures in
    omega (arith, decl_shrinks d, lexemes_length source c.loop-rest.rest.now, lexemes_length source c.in-Ok.behind.now)

pub loop-rest-preserved : goal.loop-rest-preserved
loop-rest-preserved c =
    let source = c.args.source.now in
    let d = decl_sound (length c.args.words.now + 1) (lexemes source c.loop-rest.rest.now) (lexemes source c.in-Ok.behind.now) (decl_of c.in-Ok.found) c.in-Ok.ensures in
    let items = ap decls_of c.in_ok-push-in-Ok.ensures.items ∙ decls_of-append c.loop-rest.items.items (c.in-Ok.found ∷ []) in
    subst (λ (ds : List Declaration). ReadsDecls ds (lexemes source c.args.words.now) (lexemes source c.in-Ok.behind.now)) (sym items)
    (reads_next c.loop-rest.invariant d)

pub returns-in-Err-Syntax : goal.returns-in-Err-Syntax
returns-in-Err-Syntax c =
    let source = c.args.source.now in
    let long = lexemes_length source c.args.words.now in
    record {
      before = decls_of c.loop-rest.items.items;
      rest = lexemes source c.loop-rest.rest.now;
      count = omega (arith, length-decls_of c.loop-rest.items.items, c.len.ensures, c.loop-rest.items.ok.0);
      reads = c.loop-rest.invariant;
      some = λ e. let l = ap length e in let m = lexemes_length source c.loop-rest.rest.now in grind (arith, common_steps);
      none =
          decl_none (length c.args.words.now + 1) (lexemes source c.loop-rest.rest.now) (rw c.in-Err-Syntax.field-0-is at c.in-Err-Syntax.ensures)
          (omega (arith, no_longer c.loop-rest.invariant, lexemes_length source c.args.words.now));
    }
