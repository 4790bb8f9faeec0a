-- What is told of the parts of a node, as data, and of the node.
use Rattle.std.proofs.Common.{◌≡◌, ℕ, zero, suc, ◌+◌, ◌-◌, ◌≤◌, Bool, true, false, ◌&&◌, ◌||◌, List, [], ◌∷◌, ◌++◌, length, map, take, drop, get_or, Option, Some, refl, sym, ap, ◌∙◌, arith, add-one, append-nil, append_assoc}
use Rattle.std.proofs.lemmas.List.{length-map, length-append, length-drop, take_at, take-map, drop_at}
use Rattle.aql_value.specs.declared.ops.ArithOp.{ArithOp}
use Rattle.nrca_term.specs.declared.term.Core.{Core}
use Rattle.nrca_term.specs.View.{term_of}
use Rattle.nrca_term.specs.Term.{Term, Parts, none, part, form_of, parts_of, child_of, binders_of, count}
use Rattle.nrca_term.specs.Nodes.{arith_term}
use Rattle.nrca_term.specs.Facts.{Context, part_facts, enter_facts}
use Rattle.nrca_term.specs.Firm.{number_of, span, wants_all}
use Rattle.nrca_ranges.specs.declared.context.Ctx.{Ctx}
use Rattle.nrca_ranges.specs.declared.context.Fact.{Fact}
use Rattle.nrca_ranges.specs.declared.shape.Shape.{Shape}
use Rattle.nrca_ranges.specs.declared.walk.Gathered.{Gathered}
use Rattle.nrca_ranges.specs.declared.walk.Progress.{Progress}
use Rattle.nrca_ranges.specs.declared.walk.Told.{Told}
use Rattle.nrca_ranges.specs.Bounds.{Bounds, Ranges, with_own}
use Rattle.nrca_ranges.specs.Certain.{certain}
use Rattle.nrca_ranges.specs.Context.{facts_in, context_of}
use Rattle.nrca_ranges.specs.Shapes.{bounds_of, bounds_each, ranges_of, ranges_below}
use Rattle.nrca_ranges.specs.Spans.{span_of}
use Rattle.nrca_ranges.specs.Transfer.{own_bounds, inside, bounds, all_bounds, parts_bounds, enter_ranges}
use Rattle.nrca_ranges.specs.Walk.{Test, rest_true, firm_in, facts_below, IsTold, AreTold, IsArithTold, Summary, summary_with, summary_of, summary, part_summary, summaries, told_each, rest_of, summaries_there, summary_below, KeepsFacts, HoldsParts, HoldsFirst, HasFirst, ClosesNode, TellsOf, IsGathered}
use Rattle.nrca_ranges.specs.Laws.Ordered.{span-order, ordered-is}
use Rattle.nrca_ranges.specs.Laws.Walk.{arith-told, side-first, side-second, none-bound, facts-same, below-same, below-none, ranges-same, ranges-none}

-- what is told is true where it is what is to be told, and only there
pub told-is : (gs : Ranges) (c : Context) (t : Term) (x : Told) → summary_of x ≡ summary gs c t → IsTold gs c t x
unfolding summary_of summary
told-is gs c t x e = record {
  firm = ap (λ s. s.firm) e;
  certain = ap (λ s. s.certain) e;
  span = ap (λ s. s.span) e;
  ordered = ordered-is x.span (span c t) (ap (λ s. s.span) e) (span-order c t);
  shape = ap (λ s. s.shape) e;
}

pub summary-is : (gs : Ranges) (c : Context) (t : Term) (x : Told) → IsTold gs c t x → summary_of x ≡ summary gs c t
unfolding summary_of summary
summary-is gs c t x h =
    ap (λ v. summary_with v x.certain (span_of x.span) (bounds_of x.shape)) h.firm
    ∙ ap (λ v. summary_with (firm_in gs c t) v (span_of x.span) (bounds_of x.shape)) h.certain
    ∙ ap (λ v. summary_with (firm_in gs c t) (certain gs c t) v (bounds_of x.shape)) h.span
    ∙ ap (λ v. summary_with (firm_in gs c t) (certain gs c t) (span c t) v) h.shape

-- what is told of the first i parts and of the next is told of one more
take-more : (gs : Ranges) (c : Context) (t : Term) (j i n : ℕ) (ps : Parts) → n ≡ j + i → take (suc i) (summaries gs c t j ps) ≡ take i (summaries gs c t j ps) ++ part_summary gs c t n (child_of ps i)
take-more gs c t j zero n none e = refl
take-more gs c t j (suc i) n none e = refl
take-more gs c t j zero n (part k u ps) e = let z : j ≡ n = omega (arith, e) in ap (λ m. part_summary gs c t m (Some u)) z
take-more gs c t j (suc i) n (part k u ps) e = ap (λ l. summary (enter_ranges gs c t j) (enter_facts c t j) u ∷ l) (take-more gs c t (suc j) i n ps (omega (arith, e)))

-- one part more is told of
pub told-more : (gs : Ranges) (c : Context) (t : Term) (i : ℕ) (ps : Parts) (ws xs ys : List Summary) → ys ≡ xs ++ part_summary gs c t i (child_of ps i) → xs ≡ ws ++ take i (summaries gs c t 0 ps) →
    ys ≡ ws ++ take (i + 1) (summaries gs c t 0 ps)
told-more gs c t i ps ws xs ys h z =
    h ∙ ap (λ l. l ++ part_summary gs c t i (child_of ps i)) z ∙ append_assoc ws (take i (summaries gs c t 0 ps)) (part_summary gs c t i (child_of ps i))
    ∙ ap (λ l. ws ++ l) (sym (take-more gs c t 0 i i ps (omega arith))) ∙ ap (λ j. ws ++ take j (summaries gs c t 0 ps)) (sym (add-one i))

-- all of them are
pub length-summaries : (gs : Ranges) (c : Context) (t : Term) (i : ℕ) (ps : Parts) → length (summaries gs c t i ps) ≡ count ps
length-summaries gs c t i none = refl
length-summaries gs c t i (part k u ps) = ap suc (length-summaries gs c t (suc i) ps)

pub take-whole : {A : Type 0} (xs : List A) (n : ℕ) → length xs ≤ n → take n xs ≡ xs
take-whole [] zero l = refl
take-whole [] (suc n) l = refl
take-whole (x ∷ xs) zero l = absurd (omega (arith, l))
take-whole (x ∷ xs) (suc n) l = ap (λ l. x ∷ l) (take-whole xs n (omega (arith, l)))

-- what stands behind the first ones, as far as it goes
pub rest-whole : {A : Type 0} (xs ys : List A) (n : ℕ) → ys ≡ xs → n ≤ length xs → take (length ys - n) (drop n ys) ≡ drop n xs
rest-whole xs ys n e l = ap (λ z. take (length z - n) (drop n z)) e ∙ take-whole (drop n xs) (length xs - n) (omega (arith, length-drop n xs))

-- and the last was
pub told-last : (gs : Ranges) (c : Context) (t : Term) (i : ℕ) (ps : Parts) (ws xs : List Summary) → i ≡ count ps → xs ≡ ws ++ take i (summaries gs c t 0 ps) → xs ≡ ws ++ summaries gs c t 0 ps
told-last gs c t i ps ws xs e z = z ∙ ap (λ l. ws ++ l) (take-whole (summaries gs c t 0 ps) i (omega (arith, e, length-summaries gs c t 0 ps)))

-- what a walk has before the first part
pub told-none : (ws ss : List Summary) → ws ≡ ws ++ take 0 ss
told-none ws ss = sym (append-nil ws)

-- the same parts are told of where a walk has the same facts and shapes of its own
there-same : (c : Ctx) (d : ℕ) (t : Core) (p q : Progress) → KeepsFacts p q → summaries_there c d t q ≡ summaries_there c d t p
there-same c d t p q h =
    ap (λ y. summaries (ranges_below c q.variables.items) y (term_of t) 0 (parts_of (term_of t))) (below-same c q.facts.items p.facts.items d h.0)
    ∙ ap (λ g. summaries g (facts_below c p.facts.items d) (term_of t) 0 (parts_of (term_of t))) (ranges-same c q.variables.items p.variables.items h.1)

-- facts and shapes that are kept, and those that are kept by one after the other
pub keeps-none : (p : Progress) → KeepsFacts p p
keeps-none p = (refl, refl)

pub keeps-both : (p q r : Progress) → KeepsFacts p q → KeepsFacts q r → KeepsFacts p r
keeps-both p q r h k = (k.0 ∙ h.0, k.1 ∙ h.1)

-- then the parts stand behind what was told before
pub holds-first : (c : Ctx) (d n i : ℕ) (t : Core) (p q : Progress) → n ≡ length p.told.items → KeepsFacts p q → told_each q.told.items ≡ told_each p.told.items ++ take i (summaries_there c d t p) → HoldsFirst c d t n i q
holds-first c d n i t p q e f h =
    let l : length (told_each p.told.items) ≡ n = length-map p.told.items summary_of ∙ sym e in
    let m : length (told_each q.told.items) ≡ length (told_each p.told.items ++ take i (summaries_there c d t p)) = ap length h in
    let z = length-append (told_each p.told.items) (take i (summaries_there c d t p)) in
    let w = length-map q.told.items summary_of in (
      omega (arith, l, m, z, w),
      ap (drop n) h ∙ drop_at (told_each p.told.items) (take i (summaries_there c d t p)) n l ∙ ap (take i) (sym (there-same c d t p q f)),
    )

pub holds-parts : (c : Ctx) (d n i : ℕ) (t : Core) (p q : Progress) → n ≡ length p.told.items → i ≡ count (parts_of (term_of t)) → KeepsFacts p q → told_each q.told.items ≡ told_each p.told.items ++ take i (summaries_there c d t p) → HoldsParts c d t n q
holds-parts c d n i t p q e k f h =
    let r = holds-first c d n i t p q e f h in
    (r.0, r.1 ∙ take-whole (summaries_there c d t q) i (omega (arith, k, length-summaries (ranges_below c q.variables.items) (facts_below c q.facts.items d) (term_of t) 0 (parts_of (term_of t)))))

-- and where what is told of the node takes their place, it stands there
pub closes-node : (c : Ctx) (d n : ℕ) (t : Core) (p q r : Progress) (ss : List Summary) → n ≡ length p.told.items → KeepsFacts p q → told_each q.told.items ≡ told_each p.told.items ++ ss → ClosesNode c d t n q r → TellsOf c d t p r
closes-node c d n t p q r ss e f h k =
    let l : length (told_each p.told.items) ≡ n = length-map p.told.items summary_of ∙ sym e in
    k ∙ ap (λ y. take n y ++ summary_below c q.facts.items q.variables.items d t ∷ []) h
    ∙ ap (λ y. y ++ summary_below c q.facts.items q.variables.items d t ∷ []) (take_at (told_each p.told.items) ss n l)
    ∙ ap (λ y. told_each p.told.items ++ summary (ranges_below c q.variables.items) y (term_of t) ∷ []) (below-same c q.facts.items p.facts.items d f.0)
    ∙ ap (λ g. told_each p.told.items ++ summary g (facts_below c p.facts.items d) (term_of t) ∷ []) (ranges-same c q.variables.items p.variables.items f.1)

-- a test of what is told, gathered over the parts
gathered-parts : (gs : Ranges) (c : Context) (t : Term) (T : Summary → Bool) (S : Test) → ((g : Ranges) (f : Context) (u : Term) → T (summary g f u) ≡ S g f u) → (all : Bool) (i : ℕ) (ps : Parts) →
    rest_of all T (summaries gs c t i ps) ≡ rest_true S gs c t all i ps
gathered-parts gs c t T S h true i none = refl
gathered-parts gs c t T S h false i none = refl
gathered-parts gs c t T S h true i (part k u ps) =
    ap (λ b. b && rest_of true T (summaries gs c t (suc i) ps)) (h (enter_ranges gs c t i) (enter_facts c t i) u) ∙ ap (λ b. S (enter_ranges gs c t i) (enter_facts c t i) u && b) (gathered-parts gs c t T S h true (suc i) ps)
gathered-parts gs c t T S h false i (part k u ps) =
    ap (λ b. b || rest_of false T (summaries gs c t (suc i) ps)) (h (enter_ranges gs c t i) (enter_facts c t i) u) ∙ ap (λ b. S (enter_ranges gs c t i) (enter_facts c t i) u || b) (gathered-parts gs c t T S h false (suc i) ps)

-- the tests and the shape that are told
firm-told : (gs : Ranges) (f : Context) (u : Term) → (summary gs f u).firm ≡ firm_in gs f u
unfolding summary
firm-told gs f u = refl

certain-told : (gs : Ranges) (f : Context) (u : Term) → (summary gs f u).certain ≡ certain gs f u
unfolding summary
certain-told gs f u = refl

shape-told : (gs : Ranges) (f : Context) (u : Term) → (summary gs f u).shape ≡ bounds gs f u
unfolding summary
shape-told gs f u = refl

shapes-from : (gs : Ranges) (c : Context) (t : Term) (i : ℕ) (bs : List Bounds) (ps : Parts) → parts_bounds gs c t ≡ bs ++ all_bounds gs c t i bs ps → length bs ≡ i → map (λ s. s.shape) (summaries gs c t i ps) ≡ all_bounds gs c t i bs ps
shapes-from gs c t i bs none e l = refl
shapes-from gs c t i bs (part k u ps) e l =
    let b : Bounds = bounds (inside gs (form_of t) i bs) (enter_facts c t i) u in
    let z : take i (parts_bounds gs c t) ≡ bs = ap (take i) e ∙ take_at bs (all_bounds gs c t i bs (part k u ps)) i l in
    ap (λ b. b ∷ map (λ s. s.shape) (summaries gs c t (suc i) ps)) (shape-told (enter_ranges gs c t i) (enter_facts c t i) u ∙ ap (λ xs. bounds (inside gs (form_of t) i xs) (enter_facts c t i) u) z)
    ∙ ap (λ l. b ∷ l) (shapes-from gs c t (suc i) (bs ++ b ∷ []) ps (e ∙ sym (append_assoc bs (b ∷ []) (all_bounds gs c t (suc i) (bs ++ b ∷ []) ps))) (length-append bs (b ∷ []) ∙ omega (arith, l)))

pub shapes-told : (gs : Ranges) (c : Context) (t : Term) → map (λ s. s.shape) (summaries gs c t 0 (parts_of t)) ≡ parts_bounds gs c t
shapes-told gs c t = shapes-from gs c t 0 [] (parts_of t) refl refl

-- what is gathered of the parts is true of them
pub are-told : (gs : Ranges) (c : Context) (t : Term) (all : Bool) (x : Gathered) (ps : List Summary) (ss : List Shape) → ps ≡ summaries gs c t 0 (parts_of t) → all ≡ wants_all (form_of t) → IsGathered all ps x →
    bounds_each ss ≡ map (λ s. s.shape) ps → AreTold gs c t x ss
are-told gs c t all x ps ss e w g s = record {
  firm =
      g.firm ∙ ap (rest_of all (λ s. s.firm)) e ∙ gathered-parts gs c t (λ s. s.firm) firm_in firm-told all 0 (parts_of t)
      ∙ ap (λ a. rest_true firm_in gs c t a 0 (parts_of t)) w;
  certain =
      g.certain ∙ ap (rest_of all (λ s. s.certain)) e ∙ gathered-parts gs c t (λ s. s.certain) certain certain-told all 0 (parts_of t)
      ∙ ap (λ a. rest_true certain gs c t a 0 (parts_of t)) w;
  shapes = s ∙ ap (map (λ s. s.shape)) e ∙ shapes-told gs c t;
}

-- what is told of the first i parts tells of the variables that the node binds in part i
pub own-first : (gs : Ranges) (c : Context) (t : Term) (i : ℕ) (ps : List Summary) → ps ≡ take i (summaries gs c t 0 (parts_of t)) → with_own gs (own_bounds (form_of t) i (map (λ s. s.shape) ps)) ≡ enter_ranges gs c t i
own-first gs c t i ps e =
    ap (λ l. inside gs (form_of t) i (map (λ s. s.shape) l)) e
    ∙ ap (inside gs (form_of t) i) (sym (take-map (λ s. s.shape) i (summaries gs c t 0 (parts_of t))) ∙ ap (take i) (shapes-told gs c t))

-- what is told of the parts before it, of a walk that begins with nothing
pub has-first : (c : Ctx) (t : Core) (i n : ℕ) (p q : Progress) → p.facts.items ≡ [] → p.variables.items ≡ [] → p.told.items ≡ [] → n ≡ i → told_each q.told.items ≡ told_each p.told.items ++ take n (summaries_there c c.depth t p) → HasFirst c t i q.told.items
has-first c t i n p q e v f k h =
    let u = term_of t in
    let z : told_each q.told.items ≡ take i (summaries (ranges_of c) (context_of c) u 0 (parts_of u)) =
    h ∙ ap (λ l. told_each l ++ take n (summaries_there c c.depth t p)) f ∙ ap (λ m. take m (summaries_there c c.depth t p)) k
    ∙ ap (λ y. take i (summaries (ranges_below c p.variables.items) y u 0 (parts_of u))) (below-none c p.facts.items e)
    ∙ ap (λ g. take i (summaries g (context_of c) u 0 (parts_of u))) (ranges-none c p.variables.items v) in
    ap (λ l. own_bounds (form_of u) i (map (λ s. s.shape) l)) z
    ∙ ap (own_bounds (form_of u) i) (sym (take-map (λ s. s.shape) i (summaries (ranges_of c) (context_of c) u 0 (parts_of u))) ∙ ap (take i) (shapes-told (ranges_of c) (context_of c) u))

-- the facts of a part behind those of its node
below-more : (c : Ctx) (d b i : ℕ) (t : Term) (xs ys : List Fact) → facts_in ys ≡ facts_in xs ++ part_facts d (form_of t) (parts_of t) i → b ≡ binders_of (parts_of t) i → facts_below c ys (d + b) ≡ enter_facts (facts_below c xs d) t i
below-more c d b i t xs ys e k =
    facts-same (facts_in c.facts.items ++ facts_in ys) ((facts_in c.facts.items ++ facts_in xs) ++ part_facts d (form_of t) (parts_of t) i) (d + b) (d + binders_of (parts_of t) i)
    (ap (λ l. facts_in c.facts.items ++ l) e ∙ sym (append_assoc (facts_in c.facts.items) (facts_in xs) (part_facts d (form_of t) (parts_of t) i))) (ap (λ n. d + n) k)

-- and the shapes
ranges-more : (gs : Ranges) (xs ys : List Bounds) → with_own gs (xs ++ ys) ≡ with_own (with_own gs xs) ys
ranges-more gs xs ys = ap (λ l. record { positions = gs.positions; variables = l }) (sym (append_assoc gs.variables xs ys))

-- a part is told of at its own place
pub told-part : (c : Ctx) (d b i : ℕ) (t u : Core) (p : Progress) (fs : List Fact) (vs : List Shape) (xs : List Told) → facts_in fs ≡ facts_in p.facts.items ++ part_facts d (form_of (term_of t)) (parts_of (term_of t)) i →
    bounds_each vs ≡ bounds_each p.variables.items ++ own_bounds (form_of (term_of t)) i (map (λ s. s.shape) (told_each xs)) → told_each xs ≡ take i (summaries_there c d t p) → b ≡ binders_of (parts_of (term_of t)) i →
    child_of (parts_of (term_of t)) i ≡ Some (term_of u) →
    summary_below c fs vs (d + b) u ∷ [] ≡ part_summary (ranges_below c p.variables.items) (facts_below c p.facts.items d) (term_of t) i (child_of (parts_of (term_of t)) i)
told-part c d b i t u p fs vs xs e h k l m =
    let g = ranges_below c p.variables.items in
    let f = facts_below c p.facts.items d in
    ap (λ y. summary (ranges_below c vs) y (term_of u) ∷ []) (below-more c d b i (term_of t) p.facts.items fs e l)
    ∙ ap (λ r. summary r (enter_facts f (term_of t) i) (term_of u) ∷ [])
    (ap (with_own (ranges_of c)) h ∙ ranges-more (ranges_of c) (bounds_each p.variables.items) (own_bounds (form_of (term_of t)) i (map (λ s. s.shape) (told_each xs))) ∙ own-first g f (term_of t) i (told_each xs) k)
    ∙ ap (part_summary g f (term_of t) i) (sym m)

-- the two sides of an arithmetic node
pub sides-told : (gs : Ranges) (c : Context) (op : ArithOp) (a b : Term) (xs : List Told) (l r : Told) → told_each xs ≡ summaries gs c (arith_term op a b) 0 (parts_of (arith_term op a b)) → l ≡ get_or xs 0 l → r ≡ get_or xs 1 r →
    IsTold gs c a l × IsTold gs c b r
sides-told gs c op a b [] l r e h k = cc
sides-told gs c op a b (x ∷ []) l r e h k = cc
sides-told gs c op a b (x ∷ y ∷ z ∷ xs) l r e h k = cc
sides-told gs c op a b (x ∷ y ∷ []) l r e h k = (
  told-is gs c a l (ap summary_of h ∙ first e ∙ ap (λ g. summary g (enter_facts c (arith_term op a b) 0) a) (none-bound gs) ∙ ap (λ f. summary gs f a) (side-first c op a b)),
  told-is gs c b r (ap summary_of k ∙ second e ∙ ap (λ g. summary g (enter_facts c (arith_term op a b) 1) b) (none-bound gs) ∙ ap (λ f. summary gs f b) (side-second c op a b)),
)
  where
    first : {p q u v : Summary} → p ∷ q ∷ [] ≡ u ∷ v ∷ [] → p ≡ u
    first e = cc

    second : {p q u v : Summary} → p ∷ q ∷ [] ≡ u ∷ v ∷ [] → q ≡ v
    second e = cc

-- so what is told of the node
pub arith-summary : (gs : Ranges) (c : Context) (op : ArithOp) (a b : Term) (xs : List Told) (l r : Told) (n : Option ℕ) (x : Told) → told_each xs ≡ summaries gs c (arith_term op a b) 0 (parts_of (arith_term op a b)) →
    l ≡ get_or xs 0 l → r ≡ get_or xs 1 r → n ≡ number_of b → IsArithTold op l r n x → summary_of x ≡ summary gs c (arith_term op a b)
arith-summary gs c op a b xs l r n x e h k m y =
    let s = sides-told gs c op a b xs l r e h k in
    summary-is gs c (arith_term op a b) x (arith-told gs c op a b l r n x s.0 s.1 m y)

-- the one that is told of
first-told : (xs : List Told) (s : Summary) (x : Told) → told_each xs ≡ s ∷ [] → x ≡ get_or xs 0 x → summary_of x ≡ s
first-told [] s x e h = cc
first-told (y ∷ []) s x e h = ap summary_of h ∙ only e
  where
    only : {p q : Summary} → p ∷ [] ≡ q ∷ [] → p ≡ q
    only e = cc
first-told (y ∷ z ∷ xs) s x e h = cc

-- what a walk tells that begins with nothing
pub walk-told : (c : Ctx) (t : Core) (p q : Progress) (x : Told) → p.facts.items ≡ [] → p.variables.items ≡ [] → p.told.items ≡ [] → TellsOf c c.depth t p q → x ≡ get_or q.told.items 0 x → IsTold (ranges_of c) (context_of c) (term_of t) x
walk-told c t p q x e v f h k =
    told-is (ranges_of c) (context_of c) (term_of t) x
    (first-told q.told.items (summary_below c p.facts.items p.variables.items c.depth t) x (h ∙ ap (λ l. told_each l ++ summary_below c p.facts.items p.variables.items c.depth t ∷ []) f) k
    ∙ ap (λ y. summary (ranges_below c p.variables.items) y (term_of t)) (below-none c p.facts.items e)
    ∙ ap (λ g. summary g (context_of c) (term_of t)) (ranges-none c p.variables.items v))
