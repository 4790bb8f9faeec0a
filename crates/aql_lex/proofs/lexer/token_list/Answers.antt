use Rattle.std.proofs.Common.{◌-◌, ◌∷◌, [], ◌++◌, List, ap, sym, subst, length, arith}
use Rattle.std.proofs.lemmas.Grind.{common_steps}
use Rattle.aql_syntax.specs.declared.token.Token.{Token}
use Rattle.aql_syntax.specs.declared.token.TokenKind.{TokenKind}
use Rattle.aql_syntax.specs.Lexis.{Lexeme, mark, Covers, covers_none, covers_blank, covers_token}
use Rattle.aql_lex.specs.declared.lexer.Item.TheVariants as items
use Rattle.aql_lex.proofs.Fronts.{found_stands, no_blank, no_token, blank_shrinks, begins_shrinks, covers_said}
use Rattle.aql_lex.proofs.lexer.token_list.Goals as goal

pub loop-rest-init : goal.loop-rest-init
loop-rest-init c = record { covers = ([], rw c.new-found.ensures.items covers_none); within = omega arith }

pub loop-rest-smaller-in-Some-Blank-default : goal.loop-rest-smaller-in-Some-Blank-default
loop-rest-smaller-in-Some-Blank-default c =
    let b = found_stands c.loop-rest.rest.now items.Blank c.in-Some-Blank-default.behind.now (rw c.in-Some-Blank-default.field-0-0-is at c.in-Some-Blank-default.ensures) in
    omega (arith, blank_shrinks b)

pub loop-rest-preserved-in-Some-Blank-default : goal.loop-rest-preserved-in-Some-Blank-default
loop-rest-preserved-in-Some-Blank-default c =
    let b = found_stands c.loop-rest.rest.now items.Blank c.in-Some-Blank-default.behind.now (rw c.in-Some-Blank-default.field-0-0-is at c.in-Some-Blank-default.ensures) in
    let d = c.loop-rest.invariant.covers in
    record { covers = (d.0, covers_blank d.1 b); within = omega (arith, blank_shrinks b, c.loop-rest.invariant.within) }

pub overflow_sub-to : goal.overflow_sub-to
overflow_sub-to c =
    let b = found_stands c.loop-rest.rest.now (items.Said c.in-Some-Said-default.kind) c.in-Some-Said-default.behind.now (rw c.in-Some-Said-default.field-0-0-is at c.in-Some-Said-default.ensures) in
    omega (arith, begins_shrinks b.1.1, c.loop-rest.invariant.within)

pub loop-rest-smaller-in-Some-Said-default : goal.loop-rest-smaller-in-Some-Said-default
loop-rest-smaller-in-Some-Said-default c =
    let b = found_stands c.loop-rest.rest.now (items.Said c.in-Some-Said-default.kind) c.in-Some-Said-default.behind.now (rw c.in-Some-Said-default.field-0-0-is at c.in-Some-Said-default.ensures) in
    omega (arith, begins_shrinks b.1.1)

pub loop-rest-preserved-in-Some-Said-default : goal.loop-rest-preserved-in-Some-Said-default
loop-rest-preserved-in-Some-Said-default c =
    let b = found_stands c.loop-rest.rest.now (items.Said c.in-Some-Said-default.kind) c.in-Some-Said-default.behind.now (rw c.in-Some-Said-default.field-0-0-is at c.in-Some-Said-default.ensures) in
    let d = c.loop-rest.invariant.covers in
    record {
      covers = subst (λ (ts : List Token). (ls : List Lexeme) × Covers c.args.script.now ts ls c.in-Some-Said-default.behind.now)
          (sym c.in_ok-push-in-Some-Said-default.ensures.items) (covers_said c.in-Some-Said-default.kind d.1 b);
      within = omega (arith, begins_shrinks b.1.1, c.loop-rest.invariant.within);
    }

pub overflow_sub-to-in-Some-Mark-default : goal.overflow_sub-to-in-Some-Mark-default
overflow_sub-to-in-Some-Mark-default c =
    let b = found_stands c.loop-rest.rest.now (items.Mark c.in-Some-Mark-default.sign) c.in-Some-Mark-default.behind.now (rw c.in-Some-Mark-default.field-0-0-is at c.in-Some-Mark-default.ensures) in
    omega (arith, begins_shrinks b, c.loop-rest.invariant.within)

pub loop-rest-smaller : goal.loop-rest-smaller
loop-rest-smaller c =
    let b = found_stands c.loop-rest.rest.now (items.Mark c.in-Some-Mark-default.sign) c.in-Some-Mark-default.behind.now (rw c.in-Some-Mark-default.field-0-0-is at c.in-Some-Mark-default.ensures) in
    omega (arith, begins_shrinks b)

pub loop-rest-preserved : goal.loop-rest-preserved
loop-rest-preserved c =
    let b = found_stands c.loop-rest.rest.now (items.Mark c.in-Some-Mark-default.sign) c.in-Some-Mark-default.behind.now (rw c.in-Some-Mark-default.field-0-0-is at c.in-Some-Mark-default.ensures) in
    let d = c.loop-rest.invariant.covers in
    record {
      covers = subst (λ (ts : List Token). (ls : List Lexeme) × Covers c.args.script.now ts ls c.in-Some-Mark-default.behind.now)
          (sym c.in_ok-push-in-Some-Mark-default.ensures.items) (
            d.0 ++ mark c.in-Some-Mark-default.sign ∷ [],
            subst (λ (z : TokenKind). Covers c.args.script.now
                (c.loop-rest.found.items ++ (record { kind = z; from = length c.args.script.now - length c.loop-rest.rest.now; to = length c.args.script.now - length c.in-Some-Mark-default.behind.now } ∷ []))
                (d.0 ++ mark c.in-Some-Mark-default.sign ∷ []) c.in-Some-Mark-default.behind.now)
                (sym c.kind_of-kind.ensures) (covers_token d.1 b),
          );
      within = omega (arith, begins_shrinks b, c.loop-rest.invariant.within);
    }

pub returns-in-None : goal.returns-in-None
returns-in-None c = record {
  before = c.loop-rest.found.items;
  said = c.loop-rest.invariant.covers.0;
  rest = c.loop-rest.rest.now;
  covers = c.loop-rest.invariant.covers.1;
  place = omega (arith, c.loop-rest.invariant.within);
  some = λ e. let l = ap length e in grind (arith, common_steps);
  no_blank = no_blank c.loop-rest.rest.now c.in-None.ensures;
  no_token = no_token c.loop-rest.rest.now c.in-None.ensures;
}
