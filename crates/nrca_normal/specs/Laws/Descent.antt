-- What the descent does, put together: a rewriting, the parts one after another, the whole.
use Rattle.std.proofs.Common.{◌≡◌, ℕ, ◌+◌, ◌-◌, ◌*◌, ◌<◌, ◌≤◌, Bool, true, false, ◌||◌, List, [], ◌∷◌, ◌++◌, map, length, take, Option, Some, None, refl, sym, ap, subst, ◌∙◌, arith, inl, inr}
use Rattle.std.proofs.lemmas.List.{map-append, append_assoc, append-nil, length-append, length-map}
use Rattle.nrca_term.specs.declared.trace.Rule.{Rule}
use Rattle.nrca_term.specs.declared.trace.Step.{Step}
use Rattle.nrca_term.specs.Term.{Term, parts_of, child_of, binders_of, with_part, count}
use Rattle.nrca_term.specs.View.{term_of}
use Rattle.nrca_term.specs.Typing.{IsTyped}
use Rattle.nrca_term.specs.Places.{put_at}
use Rattle.nrca_term.specs.Facts.{enter_facts, no_facts}
use Rattle.nrca_term.specs.Laws.Entering.{child-counted, child-there}
use Rattle.nrca_ranges.specs.declared.context.Ctx.{Ctx}
use Rattle.nrca_ranges.specs.declared.context.Mark.{Mark}
use Rattle.nrca_ranges.specs.Bounds.{Bounds, at_root}
use Rattle.nrca_ranges.specs.Context.{context_of, at_mark, ranges_at_mark}
use Rattle.nrca_ranges.specs.Shapes.{ranges_of}
use Rattle.nrca_normal.specs.declared.descent.Descent.{Descent}
use Rattle.nrca_normal.specs.declared.firing.Firing.{Firing}
use Rattle.nrca_normal.specs.declared.normal.Plan.{Plan}
use Rattle.nrca_normal.specs.Conditions.{IsMade, IsQuietAt, name_of}
use Rattle.nrca_normal.specs.Rewriting.{Leads, behind}
use Rattle.nrca_normal.specs.Quiet.{QuietEverywhere, QuietParts}
use Rattle.nrca_normal.specs.Planned.{IsPlanOf}
use Rattle.nrca_normal.specs.Descent.{IsTypedAmong, IsTypedThere, MayFireThere, IsQuietThere, IsAtRoot, step_at, AreSome, HasRewritten, HasSettled, HasSettledPart, HasSettledParts, HasSettledFirst, GoesOn, HasEntered, HasLeft, steps_left}
use Rattle.nrca_normal.specs.Laws.Rewriting.{put-child, put-back, leads-append, leads-none, leads-one, leads-same, leads-above}
use Rattle.nrca_normal.specs.Laws.Typed.{typed-part, leads-typed, leads-falls, part-number}
use Rattle.nrca_normal.specs.Laws.Quiet.{parts-none, parts-more, everywhere, quiet-outside}
use Rattle.nrca_normal.specs.Laws.Planned.{planned}

-- a part that is counted is there
pub part-at : (t : Term) (i : ℕ) → i < count (parts_of t) → (p : Term) × (child_of (parts_of t) i ≡ Some p)
part-at t i l = at (child_of (parts_of t) i) refl
  where
    at : (o : Option Term) → child_of (parts_of t) i ≡ o → (p : Term) × (child_of (parts_of t) i ≡ Some p)
    at None e = absurd (child-there (parts_of t) i l (sym e))
    at (Some p) e = (p, e)

-- whether there are steps, of steps behind others
some-both : (x y : Bool) (xs ys : List Step) → AreSome x xs → AreSome y ys → AreSome (x || y) (xs ++ ys)
some-both true y xs ys h k = omega (arith, h, length-append xs ys)
some-both false true xs ys h k = omega (arith, k, length-append xs ys)
some-both false false xs ys h k = ap (λ l. l ++ ys) h ∙ k

some-map : (x : Bool) (xs : List Step) (f : Step → Step) → AreSome x xs → AreSome x (map f xs)
some-map true xs f h = omega (arith, h, length-map xs f)
some-map false xs f h = ap (map f) h

-- nothing was rewritten
pub rewritten-none : (a b : Descent) (t : Term) → ranges_of b.ctx ≡ ranges_of a.ctx → context_of b.ctx ≡ context_of a.ctx → b.way.items ≡ a.way.items → b.steps.items ≡ a.steps.items → HasRewritten a t b t false
rewritten-none a b t g c w s = record {
  globals = g;
  context = c;
  way = w;
  steps = [];
  leads = leads-none (ranges_of a.ctx) (context_of a.ctx) t;
  recorded = s ∙ sym (append-nil a.steps.items);
  some = refl;
}

-- nothing was rewritten, so the term is the same
pub rewritten-same : (a b : Descent) (t u : Term) → HasRewritten a t b u false → t ≡ u
rewritten-same a b t u h = leads-same (ranges_of a.ctx) (context_of a.ctx) t u (subst (λ l. Leads (ranges_of a.ctx) (context_of a.ctx) t l u) h.some h.leads)

-- one after the other
pub rewritten-more : (a b d : Descent) (t u v : Term) (x y : Bool) → HasRewritten a t b u x → HasRewritten b u d v y → HasRewritten a t d v (x || y)
rewritten-more a b d t u v x y h k = record {
  globals = k.globals ∙ h.globals;
  context = k.context ∙ h.context;
  way = k.way ∙ h.way;
  steps = h.steps ++ k.steps;
  leads = leads-append (ranges_of a.ctx) (context_of a.ctx) h.steps k.steps t u v h.leads
      (subst (λ g. Leads g (context_of a.ctx) u k.steps v) h.globals (subst (λ c. Leads (ranges_of b.ctx) c u k.steps v) h.context k.leads));
  recorded = k.recorded ∙ ap (λ l. l ++ map (behind b.way.items) k.steps) h.recorded ∙ ap (λ w. a.steps.items ++ map (behind a.way.items) h.steps ++ map (behind w) k.steps) h.way
      ∙ append_assoc a.steps.items (map (behind a.way.items) h.steps) (map (behind a.way.items) k.steps)
      ∙ ap (λ l. a.steps.items ++ l) (sym (map-append (behind a.way.items) h.steps k.steps));
  some = some-both x y h.steps k.steps h.some k.some;
}

-- one rewriting
pub rewritten-one : (a b : Descent) (t u : Term) (f : Firing) (R : Rule) → b.ctx ≡ a.ctx → b.way ≡ a.way → R ≡ name_of f → b.steps.items ≡ a.steps.items ++ step_at a R ∷ [] →
    MayFireThere a t f → IsMade f t u → HasRewritten a t b u true
rewritten-one a b t u f R c w r s m k = record {
  globals = ap ranges_of c;
  context = ap context_of c;
  way = ap (λ v. v.items) w;
  steps = record { rule = R; path = [] } ∷ [];
  leads = leads-one (ranges_of a.ctx) (context_of a.ctx) t u (record { rule = R; path = [] })
      (record { firing = f; from = t; to = u; rule = r; found = refl; fires = m; made = k; put = refl });
  recorded = s ∙ ap (λ p. a.steps.items ++ record { rule = R; path = p } ∷ []) (sym (append-nil a.way.items));
  some = omega arith;
}

-- one more, behind others
pub rewritten-again : (a b d : Descent) (t u v : Term) (x : Bool) → HasRewritten a t b u x → HasRewritten b u d v true → HasRewritten a t d v true
rewritten-again a b d t u v x h k = subst (HasRewritten a t d v) (either x) (rewritten-more a b d t u v x true h k)
  where
    either : (x : Bool) → (x || true) ≡ true
    either true = refl
    either false = refl

-- the context was used, and is as it was
pub rewritten-over : (a b : Descent) (t u : Term) (x : Bool) (k : Ctx) → HasRewritten a t b u x → ranges_of k ≡ ranges_of b.ctx → context_of k ≡ context_of b.ctx → HasRewritten a t (record { ctx = k; way = b.way; steps = b.steps }) u x
rewritten-over a b t u x k h g c = record {
  globals = g ∙ h.globals;
  context = c ∙ h.context;
  way = h.way;
  steps = h.steps;
  leads = h.leads;
  recorded = h.recorded;
  some = h.some;
}

-- types and what is left to fall
pub rewritten-typed : (a b : Descent) (t u : Term) (x : Bool) → IsTypedThere a t → HasRewritten a t b u x → IsTypedThere b u
rewritten-typed a b t u x y h =
    let z : a.ctx.depth ≡ b.ctx.depth = sym (ap (λ c. c.depth) h.context) in
    subst (λ n. IsTypedAmong n u) z (leads-typed (ranges_of a.ctx) (context_of a.ctx) a.ctx.depth t u h.steps y h.leads)

pub rewritten-falls : (a b : Descent) (t u : Term) (x : Bool) → IsTypedThere a t → HasRewritten a t b u x → steps_left u ≤ steps_left t
rewritten-falls a b t u x y h = let z = leads-falls (ranges_of a.ctx) (context_of a.ctx) a.ctx.depth t u h.steps y h.leads in omega (arith, z)

pub rewritten-lower : (a b : Descent) (t u : Term) → IsTypedThere a t → HasRewritten a t b u true → steps_left u < steps_left t
rewritten-lower a b t u y h = let z = leads-falls (ranges_of a.ctx) (context_of a.ctx) a.ctx.depth t u h.steps y h.leads in omega (arith, z, h.some)

-- where no rule may be applied, in an equal context
pub quiet-as : (a b : Descent) (t u : Term) (x : Bool) (v : Term) → HasRewritten a t b u x → IsQuietThere b v → IsQuietThere a v
quiet-as a b t u x v h q = subst (λ g. IsQuietAt g (context_of a.ctx) v) h.globals (subst (λ c. IsQuietAt (ranges_of b.ctx) c v) h.context q)

pub quiet-to : (a b : Descent) (t u : Term) (x : Bool) (v : Term) → HasRewritten a t b u x → IsQuietThere a v → IsQuietThere b v
quiet-to a b t u x v h q = subst (λ g. IsQuietAt g (context_of b.ctx) v) (sym h.globals) (subst (λ c. IsQuietAt (ranges_of a.ctx) c v) (sym h.context) q)

-- the steps of a part, with the part's number put behind the way or in front of their paths
behind-part : (way : List ℕ) (i : ℕ) (steps : List Step) → map (behind (way ++ i ∷ [])) steps ≡ map (behind way) (map (behind (i ∷ [])) steps)
behind-part way i [] = refl
behind-part way i (s ∷ steps) =
    ap (λ p. record { rule = s.rule; path = p } ∷ map (behind (way ++ i ∷ [])) steps) (append_assoc way (i ∷ []) s.path)
    ∙ ap (λ l. behind way (behind (i ∷ []) s) ∷ l) (behind-part way i steps)

take-last : (xs : List ℕ) (i : ℕ) → take (length (xs ++ i ∷ []) - 1) (xs ++ i ∷ []) ≡ xs
take-last xs i =
    let n : length (xs ++ i ∷ []) - 1 ≡ length xs = omega (arith, length-append xs (i ∷ [])) in
    ap (λ k. take k (xs ++ i ∷ [])) n ∙ all xs
  where
    all : (xs : List ℕ) → take (length xs) (xs ++ i ∷ []) ≡ xs
    all [] = refl
    all (x ∷ xs) = ap (λ l. x ∷ l) (all xs)

-- a part was settled, and the descent is back at the node
part-settled : (a b d e : Descent) (t p q y : Term) (i : ℕ) (x : Bool) (m : Mark) → child_of (parts_of t) i ≡ Some p → y ≡ put_at t (i ∷ []) q →
    HasEntered a t i b m → HasSettled b p d q x → HasLeft d m e → HasSettledPart a t i e y x
part-settled a b d e t p q y i x m f z h k l = (
  record {
    globals = l.globals ∙ ap (ranges_at_mark m) k.0.globals ∙ h.values;
    context = l.context ∙ ap (at_mark m) k.0.context ∙ h.back;
    way = l.way ∙ ap (λ w. take (length w - 1) w) (k.0.way ∙ h.way) ∙ take-last a.way.items i;
    steps = map (behind (i ∷ [])) k.0.steps;
    leads = subst (λ r. Leads (ranges_of a.ctx) (context_of a.ctx) t (map (behind (i ∷ [])) k.0.steps) r) (sym z)
        (leads-above (ranges_of a.ctx) (context_of a.ctx) t p q i k.0.steps f
        (subst (λ g. Leads g (enter_facts (context_of a.ctx) t i) p k.0.steps q) h.globals (subst (λ c. Leads (ranges_of b.ctx) c p k.0.steps q) h.context k.0.leads)));
    recorded = l.steps ∙ k.0.recorded ∙ ap (λ s. s ++ map (behind b.way.items) k.0.steps) h.steps ∙ ap (λ w. a.steps.items ++ map (behind w) k.0.steps) h.way
        ∙ ap (λ s. a.steps.items ++ s) (behind-part a.way.items i k.0.steps);
    some = some-map x k.0.steps (behind (i ∷ [])) k.0.some;
  },
  (
    q,
    z,
    quiet-outside (ranges_of a.ctx) (context_of a.ctx) (enter_facts (context_of a.ctx) t i) t q i
        (subst (λ g. QuietEverywhere g (enter_facts (context_of a.ctx) t i) q) h.globals (subst (λ c. QuietEverywhere (ranges_of b.ctx) c q) h.context k.1)),
  ),
)

-- the same of what the code has in hand: x is the node with another part in the place of the one taken out, y the node at the end
pub part-done : (a b d e : Descent) (t p q x y s : Term) (i : ℕ) (r : Bool) (m : Mark) → child_of (parts_of t) i ≡ Some p → x ≡ with_part t i s → y ≡ with_part x i q →
    HasEntered a t i b m → HasSettled b p d q r → HasLeft d m e → HasSettledPart a t i e y r
part-done a b d e t p q x y s i r m f z w h k l = part-settled a b d e t p q y i r m f (put-back t x y i s q z w) h k l

-- the part is typed where the descent has gone down to it
pub part-entered : (a b : Descent) (t p : Term) (i : ℕ) (m : Mark) → IsTypedThere a t → child_of (parts_of t) i ≡ Some p → HasEntered a t i b m → IsTypedThere b p
part-entered a b t p i m y f h = let z : a.ctx.depth + binders_of (parts_of t) i ≡ b.ctx.depth = sym (ap (λ c. c.depth) h.context) in subst (λ n. IsTypedAmong n p) z (typed-part a.ctx.depth t i p y f)

-- the node has as many parts as before
pub part-counted : (b d : Descent) (u v : Term) (i : ℕ) (y : Bool) → i < count (parts_of u) → HasSettledPart b u i d v y → i < count (parts_of v)
part-counted b d u v i y l k = let p = part-at u i l in child-counted (parts_of v) i k.1.0 (ap (λ s. child_of (parts_of s) i) k.1.1 ∙ put-child u i p.0 k.1.0 p.1)

-- before the first part
pub none-settled : (a : Descent) (t : Term) → HasSettledFirst a t a t 0
none-settled a t = (false, rewritten-none a a t refl refl refl refl, parts-none (ranges_of a.ctx) (context_of a.ctx) t)

-- behind the first part
pub first-settled : (a b : Descent) (t u : Term) (x : Bool) → 0 < count (parts_of t) → HasSettledPart a t 0 b u x → HasSettledFirst a t b u 1
first-settled a b t u x l k =
    let p = part-at t 0 l in (
      x,
      k.0,
      subst (λ s. QuietParts (ranges_of a.ctx) (context_of a.ctx) s 1) (sym k.1.1)
          (parts-more (ranges_of a.ctx) (context_of a.ctx) t p.0 k.1.0 0 p.1 (parts-none (ranges_of a.ctx) (context_of a.ctx) t) k.1.2),
    )

-- parts that are settled, in an equal context
pub parts-as : (a b : Descent) (t u : Term) (x : Bool) (v : Term) (n : ℕ) → HasRewritten a t b u x → QuietParts (ranges_of b.ctx) (context_of b.ctx) v n → QuietParts (ranges_of a.ctx) (context_of a.ctx) v n
parts-as a b t u x v n h q = subst (λ g. QuietParts g (context_of a.ctx) v n) h.globals (subst (λ c. QuietParts (ranges_of b.ctx) c v n) h.context q)

-- a node was rewritten, and then some of its first parts were settled
pub again-settled : (a b d : Descent) (t u v : Term) (n : ℕ) → HasRewritten a t b u true → HasSettledFirst b u d v n → HasRewritten a t d v true × QuietParts (ranges_of a.ctx) (context_of a.ctx) v n
again-settled a b d t u v n h k = (rewritten-more a b d t u v true k.0 h k.1, parts-as a b t u true v n h k.2)

-- no rule may be applied at the node where nothing was rewritten in the part
pub still-quiet : (a b d : Descent) (t u v : Term) (i : ℕ) (x y : Bool) → HasSettledParts a t i b u x → HasSettledPart b u i d v y → y ≡ false → IsQuietThere d v
still-quiet a b d t u v i x y h k e =
    let n : HasRewritten b u d v false = subst (HasRewritten b u d v) e k.0 in
    subst (IsQuietThere d) (rewritten-same b d u v n) (quiet-to b d u v y u k.0 (quiet-to a b t u x u h.0 h.1))

-- one part more, or from the first one again
pub parts-next : (a b d e : Descent) (t u v w : Term) (i next : ℕ) (x y : Bool) → i < count (parts_of u) → HasSettledParts a t i b u x → HasSettledPart b u i d v y → GoesOn i y d v e w next → HasSettledParts a t next e w (x || y)
parts-next a b d e t u v w i next x y l h k (inl g) =
    let both : HasRewritten a t d v (x || y) = rewritten-more a b d t u v x y h.0 k.0 in
    let all : HasRewritten a t e w ((x || y) || true) = rewritten-more a d e t v w (x || y) true both g.1.0 in (
      subst (HasRewritten a t e w) (again x y g.0) all,
      quiet-as a d t v (x || y) w both g.1.1,
      parts-as a d t v (x || y) w next both g.1.2,
    )
  where
    again : (x y : Bool) → y ≡ true → ((x || y) || true) ≡ (x || y)
    again true y e = refl
    again false y e = ap (λ z. z || true) e ∙ sym e
parts-next a b d e t u v w i next x y l h k (inr g) =
    let both : HasRewritten a t d v (x || y) = rewritten-more a b d t u v x y h.0 k.0 in
    let all : HasRewritten a t e w ((x || y) || false) = rewritten-more a d e t v w (x || y) false both g.1 in
    let p = part-at u i l in
    let z : put_at u (i ∷ []) k.1.0 ≡ w = sym k.1.1 ∙ rewritten-same d e v w g.1 in
    let r : QuietEverywhere (ranges_of a.ctx) (enter_facts (context_of a.ctx) u i) k.1.0 =
    subst (λ s. QuietEverywhere s (enter_facts (context_of a.ctx) u i) k.1.0) h.0.globals (subst (λ c. QuietEverywhere (ranges_of b.ctx) (enter_facts c u i) k.1.0) h.0.context k.1.2) in (
      subst (HasRewritten a t e w) (or-false (x || y)) all,
      quiet-as a d t v (x || y) w both g.2,
      subst (QuietParts (ranges_of a.ctx) (context_of a.ctx) w) (sym g.0)
          (subst (λ s. QuietParts (ranges_of a.ctx) (context_of a.ctx) s (i + 1)) z (parts-more (ranges_of a.ctx) (context_of a.ctx) u p.0 k.1.0 i p.1 h.2 r)),
    )
  where
    or-false : (x : Bool) → (x || false) ≡ x
    or-false true = refl
    or-false false = refl

-- what is left to fall, and then the parts that are left, become less
pub parts-falls : (b d e : Descent) (u v w : Term) (i next : ℕ) (y : Bool) → i < count (parts_of u) → IsTypedThere b u → HasRewritten b u d v y → GoesOn i y d v e w next →
    steps_left w * 1280002 + (1280001 - next) < steps_left u * 1280002 + (1280001 - i)
parts-falls b d e u v w i next y l ty h (inl g) =
    omega (arith, part-number b.ctx.depth u i ty.small l, rewritten-falls b d u v y ty h, rewritten-lower d e v w (rewritten-typed b d u v y ty h) g.1.0)
parts-falls b d e u v w i next y l ty h (inr g) =
    omega (arith, part-number b.ctx.depth u i ty.small l, rewritten-falls b d u v y ty h, rewritten-falls d e v w false (rewritten-typed b d u v y ty h) g.1, g.0)

-- behind the last part
pub parts-ended : (a b : Descent) (t u : Term) (n : ℕ) (x : Bool) → HasSettledParts a t n b u x → count (parts_of u) ≤ n → HasSettled a t b u x
parts-ended a b t u n x h l = (h.0, everywhere (ranges_of a.ctx) (context_of a.ctx) u n h.1 h.2 l)

-- steps behind the empty way are the same steps
behind-none : (steps : List Step) → map (behind []) steps ≡ steps
behind-none [] = refl
behind-none (s ∷ steps) = ap (λ l. s ∷ l) (behind-none steps)

-- the whole
pub root-planned : (gs : List (Option Bounds)) (a b : Descent) (t : Term) (p : Plan) (x : Bool) → IsTyped t → IsAtRoot gs a → HasSettled a t b (term_of p.term) x → p.trace ≡ b.steps.items → IsPlanOf gs t p
root-planned gs a b t p x y r h e =
    let z : p.trace ≡ h.0.steps = e ∙ h.0.recorded ∙ ap (λ w. a.steps.items ++ map (behind w) h.0.steps) r.way ∙ ap (λ s. s ++ map (behind []) h.0.steps) r.steps ∙ behind-none h.0.steps in
    planned gs t p y
    (subst (λ l. Leads (at_root gs) no_facts t l (term_of p.term)) (sym z) (subst (λ g. Leads g no_facts t h.0.steps (term_of p.term)) r.globals (subst (λ c. Leads (ranges_of a.ctx) c t h.0.steps (term_of p.term)) r.context h.0.leads)))
    (subst (λ g. QuietEverywhere g no_facts (term_of p.term)) r.globals (subst (λ c. QuietEverywhere (ranges_of a.ctx) c (term_of p.term)) r.context h.1))
