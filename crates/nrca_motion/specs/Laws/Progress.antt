-- One move more, and where the search ends.
use Rattle.std.proofs.Common.{◌≡◌, ℕ, ◌+◌, ◌<◌, ◌≤◌, ◌^◌, List, [], ◌∷◌, ◌++◌, length, reverse, Option, Some, refl, sym, ap, subst, ◌∙◌, arith}
use Rattle.std.proofs.Math.Path.{fun_ext}
use Rattle.std.proofs.lemmas.List.{length-append}
use Rattle.std.proofs.lemmas.Option.{same_Some}
use Rattle.aql_value.specs.Datum.{Datum}
use Rattle.aql_value.specs.Lists.{Every}
use Rattle.aql_value.specs.Laws.Lists.{Every-join}
use Rattle.aql_ty.specs.Types as types
use Rattle.aql_ty.specs.Types.{Ty}
use Rattle.aql_ty.specs.ValueTypes.{HaveTypes}
use Rattle.nrca_term.specs.Term.{Term, none, part, weight_of}
use Rattle.nrca_term.specs.View.{term_of}
use Rattle.nrca_term.specs.Nodes.{let_term, loop_term}
use Rattle.nrca_term.specs.Meaning.{Outcomes}
use Rattle.nrca_term.specs.Typing.{IsTyped, ctyped, parts_typed, instances, OutcomesHave}
use Rattle.nrca_term.specs.Laws.TypedForm.{well_formed-typed, closed-typed}
use Rattle.nrca_term.specs.Laws.TypedPlaces.{typed-place, keeps-put_at}
use Rattle.nrca_term.specs.Laws.Measure.{weight-put_at, path-below}
use Rattle.nrca_term.specs.TypedPlaces.{Keeps, KeepsTypes}
use Rattle.nrca_term.specs.Places.{place_of, put_at, reach}
use Rattle.nrca_term.specs.Facts.{Context, no_facts, facts_at}
use Rattle.nrca_term.specs.Rules.{IsDefined}
use Rattle.nrca_ranges.specs.Bounds.{Bounds, Ranges, at_root}
use Rattle.nrca_ranges.specs.Context.{context_of, IsSmallTerm}
use Rattle.nrca_ranges.specs.Entered.{is_shaped}
use Rattle.nrca_ranges.specs.Shapes.{Tells, PlaceHolds, known_shapes, ranges_of}
use Rattle.nrca_ranges.specs.Transfer.{ranges_at}
use Rattle.nrca_ranges.specs.Laws.Positions.{positions-at}
use Rattle.nrca_ranges.specs.Laws.Sound.{holds}
use Rattle.nrca_defined.specs.Defined.{IsDefinedAt}
use Rattle.nrca_rule_laws.specs.Laws.Steps.{cube}
use Rattle.nrca_motion.specs.declared.moves.Move.{Move}
use Rattle.nrca_motion.specs.declared.moves.Move as code
use Rattle.nrca_motion.specs.declared.moves.MoveRule.{MoveRule}
use Rattle.nrca_motion.specs.declared.moves.MoveRule.TheVariants.{M1, M2, M3, M4}
use Rattle.nrca_motion.specs.declared.still.Progress.{Progress}
use Rattle.nrca_motion.specs.declared.fitting.Fit.{Fit}
use Rattle.nrca_motion.specs.declared.search.Site.{Site}
use Rattle.nrca_motion.specs.Counting.{number_of}
use Rattle.nrca_motion.specs.Lowering.{in_loops, lets_below, measure_of}
use Rattle.nrca_motion.specs.Laws.Lowering.{nameless_loops, nameless_lets}
use Rattle.nrca_motion.specs.Laws.Counting.{number-put_at}
use Rattle.nrca_motion.specs.Laws.Bounds.{moved-number, moved-lowers, place-few, falls-put_at, measure-bound}
use Rattle.nrca_motion.specs.Laws.Steps.{moved-typed, loop-operand, chain-keeps}
use Rattle.nrca_motion.specs.Laws.TestTypes.{if-parts, two-parts}
use Rattle.nrca_motion.specs.Laws.Weights.{redex-weight}
use Rattle.nrca_motion.specs.Laws.Places.{room-place}
use Rattle.nrca_motion.specs.Moves.{MoveRedex, MoveStep, MoveChain, IsStill, StillFrom}
use Rattle.nrca_motion.specs.Fitting.{MayMove, IsMade}
use Rattle.nrca_motion.specs.Found.{QuietBefore, QuietEverywhere, MovesAt, TellsPlace}
use Rattle.nrca_motion.specs.Moving.{MayMoveAt, IsMovedAt}
use Rattle.nrca_motion.specs.Moved.{IsChained, IsStillIn, KeepsMeaning, IsMovedFrom}
use Rattle.nrca_motion.specs.Progress.{IsReady, IsBegun, IsSiteOf, Lowers, HasGone, IsAtEnd, IsUnderWay}
use Rattle.nrca_motion.specs.Laws.Found.{behind-root, behind-kept}

-- a closed typed term that is small, at the root
pub ready-inside : (p : Progress) → IsReady p → IsSmallTerm p.ctx.depth (term_of p.term)
ready-inside p h =
    let z : 0 ≡ p.ctx.depth = sym (ap (λ c. c.depth) h.root) in
    subst (λ n. IsSmallTerm n (term_of p.term)) z (closed-typed (instances h.typed.0) [] (term_of p.term) h.typed.1 h.typed.2, omega (arith, h.small))

-- what the search finds is a site of the term
pub site-of : (p q : Progress) (s : Site) → IsReady p → term_of q.term ≡ term_of p.term → q.from.items ≡ p.from.items → ranges_of q.ctx ≡ ranges_of p.ctx → context_of q.ctx ≡ context_of p.ctx →
    TellsPlace (ranges_of p.ctx) (context_of p.ctx) (term_of p.term) (Some s) → IsSiteOf q s
unfolding TellsPlace
site-of p q s h t f g k x = record {
  ready = record {
    typed = subst IsTyped (sym t) h.typed;
    small = omega (arith, h.small, ap weight_of t);
    root = k ∙ h.root;
    variables = g ∙ h.variables ∙ ap (λ x. at_root x.positions) (sym g);
    behind = subst (λ y. QuietBefore (ranges_of q.ctx) no_facts (term_of q.term) y) (sym f) (subst (λ y. QuietBefore (ranges_of q.ctx) no_facts y p.from.items) (sym t) (subst (λ y. QuietBefore y no_facts (term_of p.term) p.from.items) (sym g) h.behind));
  };
  moves = subst (λ y. MovesAt (ranges_of q.ctx) no_facts y (reverse s.way.items) s.fit) (sym t) (subst (λ y. MovesAt y no_facts (term_of p.term) (reverse s.way.items) s.fit) (sym g) (subst (λ y. MovesAt (ranges_of p.ctx) y (term_of p.term) (reverse s.way.items) s.fit) h.root x.0));
  behind = subst (λ y. QuietBefore (ranges_of q.ctx) no_facts y (reverse s.way.items)) (sym t) (subst (λ y. QuietBefore y no_facts (term_of p.term) (reverse s.way.items)) (sym g) (subst (λ y. QuietBefore (ranges_of p.ctx) y (term_of p.term) (reverse s.way.items)) h.root x.1));
}

-- the numbers of the way to a site have 32 bits: they are below the weight of a small term
pub site-numbers : (p : Progress) (s : Site) → IsSiteOf p s → Every (λ i. i < 2 ^ 32) (reverse s.way.items)
unfolding MovesAt
site-numbers p s h = path-below (2 ^ 32) (term_of p.term) (reverse s.way.items) h.moves.0 (omega (arith, h.ready.small)) h.moves.1

-- the move of the site may be made
pub may-take : (p : Progress) (s : Site) → IsSiteOf p s → MayMoveAt s.fit (term_of p.term) (reverse s.way.items)
unfolding MayMoveAt MovesAt
may-take p s h =
    let t = h.ready.typed in (
      h.moves.0,
      h.moves.1,
      h.moves.2.fits,
      room-place (reverse s.way.items) 0 (term_of p.term) h.moves.0 (well_formed-typed (instances t.0) [] (term_of p.term) t.1 t.2) (closed-typed (instances t.0) [] (term_of p.term) t.1 t.2, omega (arith, h.ready.small)) h.moves.1,
    )

-- the bound term of a let is typed
let-bound : (G : ℕ → Ty → Type 0) (env : List Ty) (a b : Term) (T : Ty) → ctyped G env (let_term a b) T → (A : Ty) × ctyped G env a A
let-bound G env a b T d = (d.2.0, (two-parts G env a b d.2.0 d.2.0 T (subst (parts_typed G env (part 0 a (part 1 b none))) d.2.1 d.3)).0)

-- what has to be defined is typed at the place of the node
needs-typed : (G : ℕ → Ty → Type 0) (R : MoveRule) (env : List Ty) (l r : Term) (needs : List Term) (T : Ty) → ctyped G env l T → MoveRedex R l r needs → Every (λ x. (S : Ty) × ctyped G env x S) needs
needs-typed G M1 env l r needs T c m =
    let t = subst (λ x. ctyped G env x T) m.7 (moved-typed G M1 l r needs m env T c) in
    let i = if-parts G env m.3 (loop_term m.0 m.2 m.4) m.1 T t in
    let o = loop-operand G env m.0 m.1 m.2 m.4 T m.5 i.2 in
    subst (Every (λ x. (S : Ty) × ctyped G env x S)) (sym m.8) ((types.set_of o.0, o.1), ((types.truth, i.1), tt))
needs-typed G M2 env l r needs T c m =
    let t = subst (λ x. ctyped G env x T) m.5 (moved-typed G M2 l r needs m env T c) in
    subst (Every (λ x. (S : Ty) × ctyped G env x S)) (sym m.6) (let-bound G env m.1 _ T t, tt)
needs-typed G M3 env l r needs T c m =
    let t = subst (λ x. ctyped G env x T) m.5 (moved-typed G M3 l r needs m env T c) in
    subst (Every (λ x. (S : Ty) × ctyped G env x S)) (sym m.6) (let-bound G env m.1 _ T t, tt)
needs-typed G M4 env l r needs T c m = subst (Every (λ x. (S : Ty) × ctyped G env x S)) (sym m.7) tt

-- so it has values, where it is sure to have them
needs-defined : (given : List Ty) (V : Outcomes) (gs : Ranges) (c : Context) (env : List Ty) (vals : List Datum) (needs : List Term) → OutcomesHave (instances given) V → HaveTypes env vals → Tells gs.positions V → PlaceHolds V gs c vals →
    Every (IsDefinedAt gs c) needs → Every (λ x. (S : Ty) × ctyped (instances given) env x S) needs → Every (IsDefined V vals) needs
unfolding IsDefinedAt
needs-defined given V gs c env vals needs oh h tl s d k =
    Every-join (IsDefinedAt gs c) (λ x. (S : Ty) × ctyped (instances given) env x S) (IsDefined V vals) (λ x e t. e given V env vals t.0 oh h tl s t.1) needs d k

-- a move of the definitions
step-of : (gs : List (Option Bounds)) (f : Fit) (t u l r : Term) (path : List ℕ) (given : List Ty) (T : Ty) (V : Outcomes) → ctyped (instances given) [] t T → OutcomesHave (instances given) V → Tells gs V →
    place_of t path ≡ Some l → MayMove (ranges_at (at_root gs) no_facts t path) (facts_at t path) l f → IsMade f l r → u ≡ put_at t path r → MoveStep V f.rule path t u
step-of gs f t u l r path given T V ty oh tl e m k p =
    let q = typed-place (instances given) path [] t l T ty e in
    record {
      from = l;
      to = r;
      needs = k.0;
      found = e;
      put = p;
      moved = k.1;
      defined = Every-join (HaveTypes q.around) (PlaceHolds V (ranges_at (at_root gs) no_facts t path) (facts_at t path)) (λ vals. Every (IsDefined V vals) k.0)
          (λ vals h s. needs-defined given V (ranges_at (at_root gs) no_facts t path) (facts_at t path) q.around vals k.0 oh h (subst (λ l. Tells l V) (sym (positions-at path (at_root gs) no_facts t)) tl) s (m.defined r k.0 k.1) (needs-typed (instances given) f.rule q.around l r k.0 q.type q.typed k.1))
          (reach V [] t path) (q.values V [] oh tt) (holds V gs t tl (well_formed-typed (instances given) [] t T ty) path);
    }

-- the move that is recorded
recorded : (gs : List (Option Bounds)) (f : Fit) (t u l r : Term) (s : Move) (path : List ℕ) → place_of t path ≡ Some l → MayMove (ranges_at (at_root gs) no_facts t path) (facts_at t path) l f → IsMade f l r → u ≡ put_at t path r →
    s.rule ≡ f.rule → s.path ≡ path → IsChained gs t (s ∷ []) u
unfolding IsChained
recorded gs f t u l r s path e m k p a b = λ given T V ty oh tl.
    (u, subst (λ R. MoveStep V R s.path t u) (sym a) (subst (λ x. MoveStep V f.rule x t u) (sym b) (step-of gs f t u l r path given T V ty oh tl e m k p)), refl)

kept-types : (f : Fit) (t u l r : Term) (path : List ℕ) → place_of t path ≡ Some l → IsMade f l r → u ≡ put_at t path r → KeepsTypes t u
unfolding KeepsTypes
kept-types f t u l r path e k p = λ given. subst (Keeps (instances given) t) (sym p) (keeps-put_at (instances given) path t l r e (moved-typed (instances given) f.rule l r k.0 k.1))

lowered : (f : Fit) (t u l r : Term) (path : List ℕ) → IsTyped t → place_of t path ≡ Some l → IsMade f l r → u ≡ put_at t path r → Lowers t u
lowered f t u l r path y e k p =
    let q = typed-place (instances y.0) path [] t l y.1 y.2 e in
    let w = well_formed-typed (instances y.0) q.around l q.type q.typed in
    let n = moved-number in_loops nameless_loops f.rule l r k.0 w k.1 in
    let b = moved-number lets_below nameless_lets f.rule l r k.0 w k.1 in
    record {
      weighs = omega (arith, ap weight_of p, weight-put_at path t l r e, redex-weight f.rule l r k.0 w k.1);
      nodes = ap (number_of in_loops) p ∙ (let a = number-put_at in_loops path t l r e in omega (arith, a, n));
      lower = λ N h.
          let x = falls-put_at N path t l r e n b (moved-lowers N f.rule l r k.0 w k.1 (omega (arith, h, place-few path t l e))) in
          omega (arith, x, ap (measure_of N) p);
    }

-- the move of a site
pub taken : (p q : Progress) (s : Site) (move : Move) → IsSiteOf p s → IsMovedAt s.fit (term_of p.term) (reverse s.way.items) (term_of q.term) → ranges_of q.ctx ≡ ranges_of p.ctx → context_of q.ctx ≡ context_of p.ctx →
    move.rule ≡ s.fit.rule → move.path ≡ reverse s.way.items → q.moves.items ≡ p.moves.items ++ move ∷ [] → q.from.items ≡ reverse s.way.items → HasGone p q
unfolding MovesAt IsMovedAt
taken p q s move h w g c a b st fr =
    let z : h.moves.0 ≡ w.0 = same_Some h.moves.0 w.0 (sym h.moves.1 ∙ w.2) in
    let m : MayMove (ranges_at (at_root (known_shapes p.ctx)) no_facts (term_of p.term) (reverse s.way.items)) (facts_at (term_of p.term) (reverse s.way.items)) w.0 s.fit =
    subst (λ y. MayMove (ranges_at y no_facts (term_of p.term) (reverse s.way.items)) (facts_at (term_of p.term) (reverse s.way.items)) w.0 s.fit) h.ready.variables
    (subst (λ x. MayMove (ranges_at (ranges_of p.ctx) no_facts (term_of p.term) (reverse s.way.items)) (facts_at (term_of p.term) (reverse s.way.items)) x s.fit) z h.moves.2) in
    record {
      globals = ap (λ x. x.positions) g;
      root = c ∙ h.ready.root;
      variables = g ∙ h.ready.variables ∙ ap (λ x. at_root x.positions) (sym g);
      move = move;
      moves = st;
      chained = recorded (known_shapes p.ctx) s.fit (term_of p.term) (term_of q.term) w.0 w.1 move (reverse s.way.items) w.2 m w.3 w.4 a b;
      types = kept-types s.fit (term_of p.term) (term_of q.term) w.0 w.1 (reverse s.way.items) w.2 w.3 w.4;
      lowers = lowered s.fit (term_of p.term) (term_of q.term) w.0 w.1 (reverse s.way.items) h.ready.typed w.2 w.3 w.4;
      behind =
          subst (λ y. QuietBefore (ranges_of q.ctx) no_facts (term_of q.term) y) (sym fr)
          (subst (λ y. QuietBefore y no_facts (term_of q.term) (reverse s.way.items)) (sym g)
          (subst (λ y. QuietBefore (ranges_of p.ctx) no_facts y (reverse s.way.items)) (sym w.4)
          (behind-kept (ranges_of p.ctx) no_facts (term_of p.term) w.1 (reverse s.way.items) h.behind)));
    }

-- the beginning
pub begun : (gs : List (Option Bounds)) (t : Term) (p : Progress) → IsBegun gs t p → IsUnderWay gs t p
unfolding IsChained KeepsTypes
begun gs t p h = record {
  globals = h.globals;
  root = h.root;
  variables = h.variables;
  chained = λ given T V ty oh tl. subst (λ s. MoveChain V s t (term_of p.term)) (sym h.moves) (sym h.term);
  types = λ given env T c. subst (λ x. ctyped (instances given) env x T) (sym h.term) c;
  weighs = ap weight_of h.term;
  nodes = ap (number_of in_loops) h.term;
  falls = omega (arith, ap length h.moves, ap (measure_of (number_of in_loops t)) h.term);
  behind = subst (QuietBefore (ranges_of p.ctx) no_facts (term_of p.term)) (sym h.from) (behind-root (ranges_of p.ctx) no_facts (term_of p.term));
}

-- between two moves the next may be looked for
pub under-ready : (gs : List (Option Bounds)) (t : Term) (p : Progress) → IsTyped t → weight_of t ≤ 1280000 → IsUnderWay gs t p → IsReady p
unfolding KeepsTypes
under-ready gs t p y l h = record {
  typed = (y.0, y.1, h.types y.0 [] y.1 y.2);
  small = omega (arith, l, h.weighs);
  root = h.root;
  variables = h.variables;
  behind = h.behind;
}

-- the measure falls
pub less-left : (gs : List (Option Bounds)) (t : Term) (p q : Progress) → IsUnderWay gs t p → HasGone p q → measure_of (number_of in_loops t) (term_of q.term) < measure_of (number_of in_loops t) (term_of p.term)
less-left gs t p q h g = g.lowers.lower (number_of in_loops t) (omega (arith, h.nodes))

chain-append : (V : Outcomes) (xs ys : List code.Move) (t m u : Term) → MoveChain V xs t m → MoveChain V ys m u → MoveChain V (xs ++ ys) t u
chain-append V [] ys t m u e k = subst (λ x. MoveChain V ys x u) (sym e) k
chain-append V (s ∷ xs) ys t m u h k = (h.0, h.1, chain-append V xs ys h.0 m u h.2 k)

-- one move more
pub under-way : (gs : List (Option Bounds)) (t : Term) (p q : Progress) → IsUnderWay gs t p → HasGone p q → IsUnderWay gs t q
unfolding IsChained KeepsTypes
under-way gs t p q h g = record {
  globals = g.globals ∙ h.globals;
  root = g.root;
  variables = g.variables;
  chained = λ given T V ty oh tl.
      subst (λ s. MoveChain V s t (term_of q.term)) (sym g.moves)
      (chain-append V p.moves.items (g.move ∷ []) t (term_of p.term) (term_of q.term) (h.chained given T V ty oh tl)
      (g.chained given T V (h.types given [] T ty) oh (subst (λ x. Tells x V) (sym h.globals) tl)));
  types = λ given env T c. g.types given env T (h.types given env T c);
  weighs = g.lowers.weighs ∙ h.weighs;
  nodes = g.lowers.nodes ∙ h.nodes;
  falls = omega (arith, h.falls, less-left gs t p q h g, ap length g.moves, length-append p.moves.items (g.move ∷ []));
  behind = g.behind;
}

-- the end: the term is still
end-still : (gs : List (Option Bounds)) (t : Term) (p q : Progress) → IsUnderWay gs t p → IsAtEnd p q → IsStillIn gs (term_of q.term)
unfolding IsStillIn QuietEverywhere
end-still gs t p q h e = λ V tl.
    subst (IsStill V) (sym e.term) (subst (λ D. StillFrom D no_facts (term_of p.term)) (fun_ext tl.1) (subst (λ x. StillFrom (is_shaped x) no_facts (term_of p.term)) h.globals e.quiet))

end-chained : (gs : List (Option Bounds)) (t : Term) (p q : Progress) → IsUnderWay gs t p → IsAtEnd p q → IsChained gs t q.moves.items (term_of q.term)
end-chained gs t p q h e = subst (λ s. IsChained gs t s (term_of q.term)) (sym e.moves) (subst (IsChained gs t p.moves.items) (sym e.term) h.chained)

-- a chain keeps the meaning
chained-meaning : (gs : List (Option Bounds)) (t u : Term) (moves : List code.Move) → IsChained gs t moves u → KeepsMeaning gs t u
unfolding IsChained KeepsMeaning
chained-meaning gs t u moves h = λ given T V ty oh tl. sym (chain-keeps (instances given) V oh moves t u T ty (h given T V ty oh tl)).0

end-few : (gs : List (Option Bounds)) (t : Term) (p q : Progress) → IsUnderWay gs t p → IsAtEnd p q → length q.moves.items ≤ (weight_of t + 1) ^ 3
end-few gs t p q h e = omega (arith, h.falls, ap length e.moves, measure-bound t, cube (weight_of t + 1))

-- what is answered at the end
pub end-moved : (gs : List (Option Bounds)) (t : Term) (p q : Progress) → IsUnderWay gs t p → IsAtEnd p q → IsMovedFrom gs t (record { term = q.term; moves = q.moves.items })
end-moved gs t p q h e = record {
  chained = end-chained gs t p q h e;
  still = end-still gs t p q h e;
  meaning = chained-meaning gs t (term_of q.term) q.moves.items (end-chained gs t p q h e);
  types = subst (KeepsTypes t) (sym e.term) h.types;
  weight = ap weight_of e.term ∙ h.weighs;
  few = end-few gs t p q h e;
}
