-- What follows from the definitions of `Walk`: a node from its parts, and the walk over them.
use Rattle.std.proofs.Common.{◌≡◌, ℕ, suc, ◌+◌, Bool, true, false, ◌&&◌, ◌||◌, List, [], ◌∷◌, ◌++◌, length, take, is_some, Option, Some, None, refl, sym, ap, ◌∙◌, arith, append-nil, if◌then◌else◌}
use Rattle.std.proofs.lemmas.List.{take-map, take_at, length-map}
use Rattle.aql_value.specs.declared.ops.ArithOp.{ArithOp}
use Rattle.aql_value.specs.Strict.{Strict}
use Rattle.nrca_term.specs.Term.{Term, Parts, node, none, part, Form, form_of}
use Rattle.nrca_term.specs.Nodes.{arith_term}
use Rattle.nrca_term.specs.Facts as facts
use Rattle.nrca_term.specs.Facts.{Context, enter_facts}
use Rattle.nrca_term.specs.Firm.{Span, number_of, arith_span, arith_firm, span, form_sure, form_firm, wants_all, firm, all_firm, some_firm, or_span, fact_span, variable_span}
use Rattle.nrca_ranges.specs.declared.context.Ctx.{Ctx}
use Rattle.nrca_ranges.specs.declared.context.Fact.{Fact}
use Rattle.nrca_ranges.specs.declared.shape.Shape.{Shape}
use Rattle.nrca_ranges.specs.declared.walk.Gathered.{Gathered}
use Rattle.nrca_ranges.specs.declared.walk.Told.{Told}
use Rattle.nrca_ranges.specs.Bounds.{Bounds, number, Ranges, with_own}
use Rattle.nrca_ranges.specs.Certain.{form_certain, certain, all_certain, some_certain}
use Rattle.nrca_ranges.specs.declared.interval.Interval.{Interval}
use Rattle.nrca_ranges.specs.Context.{fact_of, facts_in, context_of}
use Rattle.nrca_ranges.specs.Entered.{is_shaped}
use Rattle.nrca_ranges.specs.Intervals.{always_fits, arith_interval}
use Rattle.nrca_ranges.specs.Shapes.{bounds_of, bounds_each, ranges_of, ranges_below}
use Rattle.nrca_ranges.specs.Spans.{span_of, IsOrdered}
use Rattle.nrca_ranges.specs.Transfer.{interval_of, by_span, form_bounds, bounds, parts_bounds, enter_ranges}
use Rattle.nrca_ranges.specs.Walk.{facts_below, IsOther, all_true, some_true, parts_true, firm_in, number_told, IsTold, IsArithTold, AreTold}

-- the parts of a node that are firm, and those that are certain to have a value, as the tests that they are
all-firm : (gs : Ranges) (c : Context) (t : Term) (i : ℕ) (ps : Parts) → all_firm (is_shaped gs.positions) c t i ps ≡ all_true firm_in gs c t i ps
all-firm gs c t i none = refl
all-firm gs c t i (part k u ps) = ap (λ b. firm (is_shaped gs.positions) (enter_facts c t i) u && b) (all-firm gs c t (suc i) ps)

some-firm : (gs : Ranges) (c : Context) (t : Term) (i : ℕ) (ps : Parts) → some_firm (is_shaped gs.positions) c t i ps ≡ some_true firm_in gs c t i ps
some-firm gs c t i none = refl
some-firm gs c t i (part k u ps) = ap (λ b. firm (is_shaped gs.positions) (enter_facts c t i) u || b) (some-firm gs c t (suc i) ps)

all-certain : (gs : Ranges) (c : Context) (t : Term) (i : ℕ) (ps : Parts) → all_certain gs c t i ps ≡ all_true certain gs c t i ps
all-certain gs c t i none = refl
all-certain gs c t i (part k u ps) = ap (λ b. certain (enter_ranges gs c t i) (enter_facts c t i) u && b) (all-certain gs c t (suc i) ps)

some-certain : (gs : Ranges) (c : Context) (t : Term) (i : ℕ) (ps : Parts) → some_certain gs c t i ps ≡ some_true certain gs c t i ps
some-certain gs c t i none = refl
some-certain gs c t i (part k u ps) = ap (λ b. certain (enter_ranges gs c t i) (enter_facts c t i) u || b) (some-certain gs c t (suc i) ps)

-- a node that is not arithmetic is firm by its form and its parts
other-sure : (D : ℕ → Bool) (f : Form) (s : Span) (ps : Parts) → IsOther f → form_firm D f s ps ≡ form_sure D f
other-sure D (Form.strict (Strict.arith op)) s ps o = absurd o
other-sure D f s ps o = refl

firm-node : (gs : Ranges) (c : Context) (t : Term) → IsOther (form_of t) → firm_in gs c t ≡ (form_sure (is_shaped gs.positions) (form_of t) && parts_true firm_in gs c t)
firm-node gs c (node f ps) o =
    ap (λ b. b && (if wants_all f then all_firm (is_shaped gs.positions) c (node f ps) 0 ps else some_firm (is_shaped gs.positions) c (node f ps) 0 ps)) (other-sure (is_shaped gs.positions) f (span c (node f ps)) ps o)
    ∙ ap (λ b. form_sure (is_shaped gs.positions) f && b) (go (wants_all f))
  where
    go : (a : Bool) → (if a then all_firm (is_shaped gs.positions) c (node f ps) 0 ps else some_firm (is_shaped gs.positions) c (node f ps) 0 ps) ≡ (if a then all_true firm_in gs c (node f ps) 0 ps else some_true firm_in gs c (node f ps) 0 ps)
    go true = all-firm gs c (node f ps) 0 ps
    go false = some-firm gs c (node f ps) 0 ps

certain-node : (gs : Ranges) (c : Context) (t : Term) →
    certain gs c t ≡ (firm_in gs c t || (form_certain (is_shaped gs.positions) (form_of t) (parts_bounds gs c t) && parts_true certain gs c t))
certain-node gs c (node f ps) =
    ap (λ b. firm_in gs c (node f ps) || (form_certain (is_shaped gs.positions) f (parts_bounds gs c (node f ps)) && b)) (go (wants_all f))
  where
    go : (a : Bool) → (if a then all_certain gs c (node f ps) 0 ps else some_certain gs c (node f ps) 0 ps) ≡ (if a then all_true certain gs c (node f ps) 0 ps else some_true certain gs c (node f ps) 0 ps)
    go true = all-certain gs c (node f ps) 0 ps
    go false = some-certain gs c (node f ps) 0 ps

bounds-node : (gs : Ranges) (c : Context) (t : Term) → bounds gs c t ≡ by_span (span c t) (form_bounds gs (form_of t) (parts_bounds gs c t))
bounds-node gs c (node f ps) = refl

-- what is told of a node that is not arithmetic, from what is told of its parts
pub node-told : (gs : Ranges) (c : Context) (t : Term) (x : Told) (g : Gathered) (ss : List Shape) (sure fits : Bool) → IsOther (form_of t) → AreTold gs c t g ss →
    sure ≡ form_sure (is_shaped gs.positions) (form_of t) → fits ≡ form_certain (is_shaped gs.positions) (form_of t) (bounds_each ss) → x.firm ≡ (sure && g.firm) → x.certain ≡ (x.firm || (fits && g.certain)) →
    span_of x.span ≡ span c t → IsOrdered x.span → bounds_of x.shape ≡ by_span (span_of x.span) (form_bounds gs (form_of t) (bounds_each ss)) → IsTold gs c t x
node-told gs c t x g ss sure fits o h s f a b e k m =
    let p : x.firm ≡ firm_in gs c t = a ∙ ap (λ y. y && g.firm) s ∙ ap (λ y. form_sure (is_shaped gs.positions) (form_of t) && y) h.firm ∙ sym (firm-node gs c t o) in
    record {
      firm = p;
      certain =
          b ∙ ap (λ y. y || (fits && g.certain)) p ∙ ap (λ y. firm_in gs c t || (y && g.certain)) (f ∙ ap (form_certain (is_shaped gs.positions) (form_of t)) h.shapes)
          ∙ ap (λ y. firm_in gs c t || (form_certain (is_shaped gs.positions) (form_of t) (parts_bounds gs c t) && y)) h.certain
          ∙ sym (certain-node gs c t);
      span = e;
      ordered = k;
      shape = m ∙ ap (λ y. by_span y (form_bounds gs (form_of t) (bounds_each ss))) e ∙ ap (λ l. by_span (span c t) (form_bounds gs (form_of t) l)) h.shapes ∙ sym (bounds-node gs c t);
    }

-- contexts with the same facts and as many variables
pub facts-same : (F G : List facts.Fact) (d e : ℕ) → F ≡ G → d ≡ e → (let x : Context = record { facts = F; depth = d } in x) ≡ (let y : Context = record { facts = G; depth = e } in y)
facts-same F G d e p q = ap (λ l. let x : Context = record { facts = l; depth = d } in x) p ∙ ap (λ n. let x : Context = record { facts = G; depth = n } in x) q

-- the sides of an arithmetic node stand at its own place
pub side-first : (c : Context) (op : ArithOp) (a b : Term) → enter_facts c (arith_term op a b) 0 ≡ c
side-first c op a b = facts-same (c.facts ++ []) c.facts (c.depth + 0) c.depth (append-nil c.facts) (omega arith)

pub side-second : (c : Context) (op : ArithOp) (a b : Term) → enter_facts c (arith_term op a b) 1 ≡ c
side-second c op a b = facts-same (c.facts ++ []) c.facts (c.depth + 0) c.depth (append-nil c.facts) (omega arith)

-- where a node binds no variable, so much is known as around it
pub none-bound : (gs : Ranges) → with_own gs [] ≡ gs
none-bound gs = ap (λ l. record { positions = gs.positions; variables = l }) (append-nil gs.variables)

-- so arithmetic is told of by its span or divisor, and by what is told of its sides
arith-firm : (D : ℕ → Bool) (c : Context) (op : ArithOp) (a b : Term) →
    firm D c (arith_term op a b) ≡ (arith_firm op (span c (arith_term op a b)) (number_of b) && (firm D c a && (firm D c b && true)))
arith-firm D c op a b =
    ap (λ x. arith_firm op (span c (arith_term op a b)) (number_of b) && (firm D x a && (firm D (enter_facts c (arith_term op a b) 1) b && true))) (side-first c op a b)
    ∙ ap (λ x. arith_firm op (span c (arith_term op a b)) (number_of b) && (firm D c a && (firm D x b && true))) (side-second c op a b)

-- what is known of its sides
arith-parts : (gs : Ranges) (c : Context) (op : ArithOp) (a b : Term) → parts_bounds gs c (arith_term op a b) ≡ bounds gs c a ∷ bounds gs c b ∷ []
arith-parts gs c op a b =
    ap (λ g. bounds g (enter_facts c (arith_term op a b) 0) a ∷ bounds g (enter_facts c (arith_term op a b) 1) b ∷ []) (none-bound gs)
    ∙ ap (λ x. bounds gs x a ∷ bounds gs (enter_facts c (arith_term op a b) 1) b ∷ []) (side-first c op a b)
    ∙ ap (λ x. bounds gs c a ∷ bounds gs x b ∷ []) (side-second c op a b)

arith-certain : (gs : Ranges) (c : Context) (op : ArithOp) (a b : Term) →
    certain gs c (arith_term op a b)
    ≡ (firm_in gs c (arith_term op a b) || (always_fits op (interval_of (bounds gs c a)) (interval_of (bounds gs c b)) && (certain gs c a && (certain gs c b && true))))
arith-certain gs c op a b =
    let t = arith_term op a b in
    ap (λ l. firm_in gs c t || (form_certain (is_shaped gs.positions) (Form.strict (Strict.arith op)) l && (certain (enter_ranges gs c t 0) (enter_facts c t 0) a && (certain (enter_ranges gs c t 1) (enter_facts c t 1) b && true)))) (arith-parts gs c op a b)
    ∙ ap (λ g. firm_in gs c t || (always_fits op (interval_of (bounds gs c a)) (interval_of (bounds gs c b)) && (certain g (enter_facts c t 0) a && (certain g (enter_facts c t 1) b && true)))) (none-bound gs)
    ∙ ap (λ x. firm_in gs c t || (always_fits op (interval_of (bounds gs c a)) (interval_of (bounds gs c b)) && (certain gs x a && (certain gs (enter_facts c t 1) b && true)))) (side-first c op a b)
    ∙ ap (λ x. firm_in gs c t || (always_fits op (interval_of (bounds gs c a)) (interval_of (bounds gs c b)) && (certain gs c a && (certain gs x b && true)))) (side-second c op a b)

arith-bounds : (gs : Ranges) (c : Context) (op : ArithOp) (a b : Term) →
    bounds gs c (arith_term op a b) ≡ by_span (span c (arith_term op a b)) (number (arith_interval op (interval_of (bounds gs c a)) (interval_of (bounds gs c b))))
arith-bounds gs c op a b = ap (λ l. by_span (span c (arith_term op a b)) (form_bounds gs (Form.strict (Strict.arith op)) l)) (arith-parts gs c op a b)

pub arith-told : (gs : Ranges) (c : Context) (op : ArithOp) (a b : Term) (l r : Told) (n : Option ℕ) (x : Told) → IsTold gs c a l → IsTold gs c b r → n ≡ number_of b → IsArithTold op l r n x → IsTold gs c (arith_term op a b) x
arith-told gs c op a b l r n x h k m y =
    let s : span_of x.span ≡ span c (arith_term op a b) =
    y.span ∙ ap (λ w. arith_span op w (span_of r.span) n) h.span ∙ ap (λ w. arith_span op (span c a) w n) k.span ∙ ap (arith_span op (span c a) (span c b)) m in
    let p : x.firm ≡ firm_in gs c (arith_term op a b) =
    y.firm ∙ ap (λ w. arith_firm op w n && (l.firm && (r.firm && true))) s
    ∙ ap (λ w. arith_firm op (span c (arith_term op a b)) w && (l.firm && (r.firm && true))) m
    ∙ ap (λ w. arith_firm op (span c (arith_term op a b)) (number_of b) && (w && (r.firm && true))) h.firm
    ∙ ap (λ w. arith_firm op (span c (arith_term op a b)) (number_of b) && (firm_in gs c a && (w && true))) k.firm
    ∙ sym (arith-firm (is_shaped gs.positions) c op a b) in
    record {
      firm = p;
      certain =
          y.certain ∙ ap (λ w. w || (always_fits op (number_told l) (number_told r) && (l.certain && (r.certain && true)))) p
          ∙ ap (λ w. firm_in gs c (arith_term op a b) || (always_fits op (interval_of w) (number_told r) && (l.certain && (r.certain && true)))) h.shape
          ∙ ap (λ w. firm_in gs c (arith_term op a b) || (always_fits op (interval_of (bounds gs c a)) (interval_of w) && (l.certain && (r.certain && true)))) k.shape
          ∙ ap (λ w. firm_in gs c (arith_term op a b) || (always_fits op (interval_of (bounds gs c a)) (interval_of (bounds gs c b)) && (w && (r.certain && true)))) h.certain
          ∙ ap (λ w. firm_in gs c (arith_term op a b) || (always_fits op (interval_of (bounds gs c a)) (interval_of (bounds gs c b)) && (certain gs c a && (w && true)))) k.certain
          ∙ sym (arith-certain gs c op a b);
      span = s;
      ordered = y.ordered;
      shape =
          y.shape ∙ ap (λ w. by_span w (number (arith_interval op (number_told l) (number_told r)))) s
          ∙ ap (λ w. by_span (span c (arith_term op a b)) (number (arith_interval op (interval_of w) (number_told r)))) h.shape
          ∙ ap (λ w. by_span (span c (arith_term op a b)) (number (arith_interval op (interval_of (bounds gs c a)) (interval_of w)))) k.shape
          ∙ sym (arith-bounds gs c op a b);
    }

-- what is left where the facts of a part are taken back
pub taken-back : (xs ys zs : List Fact) (A : List facts.Fact) (n : ℕ) → n ≡ length xs → facts_in ys ≡ facts_in xs ++ A → zs ≡ take n ys → facts_in zs ≡ facts_in xs
taken-back xs ys zs A n e h k =
    ap facts_in k ∙ sym (take-map fact_of n ys) ∙ ap (take n) h ∙ take_at (facts_in xs) A n (length-facts xs ∙ sym e)
  where
    length-facts : (xs : List Fact) → length (facts_in xs) ≡ length xs
    length-facts [] = refl
    length-facts (x ∷ xs) = ap suc (length-facts xs)

-- the span of a variable by one list of facts behind another
pub variable-behind : (d i : ℕ) (F G : List facts.Fact) → variable_span d i (F ++ G) ≡ or_span (variable_span d i F) (variable_span d i G)
variable-behind d i [] G = refl
variable-behind d i (f ∷ F) G = ap (or_span (fact_span d i f)) (variable-behind d i F G) ∙ again (fact_span d i f) (variable_span d i F) (variable_span d i G)
  where
    again : (x y z : Span) → or_span x (or_span y z) ≡ or_span (or_span x y) z
    again (Some x) y z = refl
    again None y z = refl

-- so where the first list tells it, and where it does not
pub found-first : (o : Option Interval) (d i : ℕ) (F G : List facts.Fact) → is_some o ≡ true → span_of o ≡ variable_span d i F → span_of o ≡ variable_span d i (F ++ G)
found-first None d i F G t e = cc
found-first (Some x) d i F G t e = ap (λ s. or_span s (variable_span d i G)) e ∙ sym (variable-behind d i F G)

pub found-second : (o p : Option Interval) (d i : ℕ) (F G : List facts.Fact) → is_some o ≡ false → span_of o ≡ variable_span d i F → span_of p ≡ variable_span d i G → span_of p ≡ variable_span d i (F ++ G)
found-second (Some x) p d i F G t e k = cc
found-second None p d i F G t e k = k ∙ ap (λ s. or_span s (variable_span d i G)) e ∙ sym (variable-behind d i F G)

-- the same facts below a context
pub below-same : (c : Ctx) (xs ys : List Fact) (d : ℕ) → facts_in xs ≡ facts_in ys → facts_below c xs d ≡ facts_below c ys d
below-same c xs ys d e = facts-same (facts_in c.facts.items ++ facts_in xs) (facts_in c.facts.items ++ facts_in ys) d d (ap (λ l. facts_in c.facts.items ++ l) e) refl

-- and none
pub below-none : (c : Ctx) (xs : List Fact) → xs ≡ [] → facts_below c xs c.depth ≡ context_of c
below-none c xs e = facts-same (facts_in c.facts.items ++ facts_in xs) (facts_in c.facts.items) c.depth c.depth (ap (λ l. facts_in c.facts.items ++ facts_in l) e ∙ append-nil (facts_in c.facts.items)) refl

-- what is left where the shapes of a part's variables are taken back
pub shapes-back : (xs ys zs : List Shape) (A : List Bounds) (n : ℕ) → n ≡ length xs → bounds_each ys ≡ bounds_each xs ++ A → zs ≡ take n ys → bounds_each zs ≡ bounds_each xs
shapes-back xs ys zs A n e h k =
    ap bounds_each k ∙ sym (take-map bounds_of n ys) ∙ ap (take n) h ∙ take_at (bounds_each xs) A n (length-map xs bounds_of ∙ sym e)

-- the same shapes below a context
pub ranges-same : (c : Ctx) (xs ys : List Shape) → bounds_each xs ≡ bounds_each ys → ranges_below c xs ≡ ranges_below c ys
ranges-same c xs ys e = ap (with_own (ranges_of c)) e

-- and none
pub ranges-none : (c : Ctx) (xs : List Shape) → xs ≡ [] → ranges_below c xs ≡ ranges_of c
ranges-none c xs e = ap (λ l. with_own (ranges_of c) (bounds_each l)) e ∙ none-bound (ranges_of c)
