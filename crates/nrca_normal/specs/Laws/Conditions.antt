-- What is told of the ways of a rule makes that it may be applied, or that it is refused.
use Rattle.std.proofs.Common.{◌≡◌, ◌≢◌, ℕ, Bool, true, false, List, [], ◌∷◌, Option, Some, None, refl, sym, ap, subst, ◌∙◌, inl, inr}
use Rattle.std.proofs.lemmas.Option.{same_Some}
use Rattle.aql_value.specs.declared.ops.CompareOp.{CompareOp}
use Rattle.aql_value.specs.Datum.{Datum}
use Rattle.aql_value.specs.Lists.{Every}
use Rattle.aql_value.specs.Laws.Lists.{Every-join, Every-impl}
use Rattle.aql_value.specs.Partial.{◌>>=◌}
use Rattle.aql_ty.specs.Types.{Ty}
use Rattle.aql_ty.specs.ValueTypes.{HaveTypes}
use Rattle.nrca_term.specs.declared.trace.Rule.{Rule}
use Rattle.nrca_term.specs.declared.trace.Rule.TheVariants.{B1, K1, I1, I2, L1, L2, L3, P1, P2, S1, S2, S3, S4, S5, S6, S7, S8, S9, A1, A2, A3, A4, A5, A6, A7, C1, C2, C3, C4, N1, N2}
use Rattle.nrca_term.specs.Term.{Term, child_of, parts_of}
use Rattle.nrca_term.specs.Nodes.{truth_term, compare_term}
use Rattle.nrca_term.specs.Meaning.{Outcomes}
use Rattle.nrca_term.specs.Typing.{ctyped, instances, OutcomesHave}
use Rattle.nrca_term.specs.Laws.TypedForm.{well_formed-typed}
use Rattle.nrca_term.specs.Laws.TypedPlaces.{typed-place}
use Rattle.nrca_term.specs.Places.{place_of, reach}
use Rattle.nrca_term.specs.Facts as facts
use Rattle.nrca_term.specs.Facts.{Context, Fact, SomeFact, IsFact, LiterallyKnown, Literally, truth_of, enter_facts, context_at, context_below}
use Rattle.nrca_term.specs.Firm.{firm}
use Rattle.nrca_term.specs.Rules.{Way, DefinedAt, Decides, KnownAt, IsDefined, IsComparison}
use Rattle.nrca_term.specs.Normal.{is_check, FirmAt}
use Rattle.nrca_rule_laws.specs.Fitting.{RuleFits}
use Rattle.nrca_checks.specs.Knowing.{IsKnown}
use Rattle.nrca_checks.specs.Deciding.{DecidesTruth, DecidesApart}
use Rattle.nrca_ranges.specs.Bounds.{Ranges}
use Rattle.nrca_ranges.specs.Entered.{is_shaped}
use Rattle.nrca_ranges.specs.Shapes.{Tells, PlaceHolds, ranges_of}
use Rattle.nrca_ranges.specs.Transfer.{enter_ranges, ranges_at}
use Rattle.nrca_ranges.specs.Laws.Positions.{positions-at}
use Rattle.nrca_ranges.specs.Laws.Sound.{holds-from}
use Rattle.nrca_defined.specs.Defined.{IsDefinedAt}
use Rattle.nrca_normal.specs.declared.firing.Firing.{Firing}
use Rattle.nrca_normal.specs.declared.firing.Firing.TheVariants.{Plain, Decided}
use Rattle.nrca_normal.specs.declared.ways.Ways.{Ways}
use Rattle.nrca_normal.specs.Ways.{ways_in, AreWays}
use Rattle.nrca_ranges.specs.declared.context.Ctx.{Ctx}
use Rattle.nrca_ranges.specs.Context.{context_of}
use Rattle.nrca_normal.specs.Conditions.{IsDefinedAlong, TellsAt, TellsAll, TellsWays, TellsRule, TellsChecks, TellsNode, HasCondition, MayFire, IsRefused, IsUnknown, IsUndecided, IsQuietAt}
use Rattle.nrca_normal.specs.Order.{EachPlain}

-- the context and the term at the end of a way that begins with part i
context-part : (c : Context) (t : Term) (i : ℕ) (u : Term) (w : Way) → child_of (parts_of t) i ≡ Some u → context_at enter_facts c t (i ∷ w) ≡ context_at enter_facts (enter_facts c t i) u w
context-part c t i u w e = ap (λ o. context_below c o (λ r. context_at enter_facts (enter_facts c t i) r w)) e

place-part : (t : Term) (i : ℕ) (u : Term) (w : Way) → child_of (parts_of t) i ≡ Some u → place_of t (i ∷ w) ≡ place_of u w
place-part t i u w e = ap (λ o. o >>= λ r. place_of r w) e

-- at the node itself
pub tells-here : (gs : Ranges) (c : Context) (t : Term) (b : Bool) → (b ≡ true → IsDefinedAt gs c t) → (firm (is_shaped gs.positions) c t ≡ true → b ≡ true) → TellsAt gs c t [] b
unfolding TellsAt
tells-here gs c t b s f = ((λ k r e. subst (IsDefinedAt gs c) (same_Some t r e) (s k)), (λ h. f (h t refl)))

-- in a part
tells-inner : (gs : Ranges) (c : Context) (t : Term) (i : ℕ) (u : Term) (w : Way) (b : Bool) → child_of (parts_of t) i ≡ Some u → TellsAt (enter_ranges gs c t i) (enter_facts c t i) u w b → TellsAt gs c t (i ∷ w) b
unfolding TellsAt
tells-inner gs c t i u w b e k = (
  (λ q s p. subst (λ o. IsDefinedAt (context_below gs o (λ r. ranges_at (enter_ranges gs c t i) (enter_facts c t i) r w)) (context_below c o (λ r. context_at enter_facts (enter_facts c t i) r w)) s) (sym e)
      (k.0 q s (sym (place-part t i u w e) ∙ p))),
  (λ m. k.1 (λ s p. ap (λ x. firm (is_shaped gs.positions) x s) (sym (context-part c t i u w e)) ∙ m s (place-part t i u w e ∙ p))),
)

-- in a part, whose context is that of the place entered
pub tells-part : (gs hs : Ranges) (c d : Context) (t : Term) (i : ℕ) (u : Term) (w : Way) (b : Bool) → child_of (parts_of t) i ≡ Some u → d ≡ enter_facts c t i → hs ≡ enter_ranges gs c t i →
    TellsAt hs d u w b → TellsAt gs c t (i ∷ w) b
tells-part gs hs c d t i u w b e f g h = tells-inner gs c t i u w b e (subst (λ x. TellsAt x (enter_facts c t i) u w b) g (subst (λ x. TellsAt hs x u w b) f h))

-- where there is no part
pub tells-nothing : (gs : Ranges) (c : Context) (t : Term) (i : ℕ) (w : Way) → child_of (parts_of t) i ≡ None → TellsAt gs c t (i ∷ w) true
unfolding TellsAt
tells-nothing gs c t i w e = ((λ q s p. absurd (never s (sym (ap (λ o. o >>= λ r. place_of r w) e) ∙ p))), (λ f. refl))
  where
    never : (s : Term) → None ≡ Some s → ⊥
    never s q = cc

-- the same in a context that is equal
pub tells-as : (gs hs : Ranges) (c d : Context) (t : Term) (w : Way) (b : Bool) → hs ≡ gs → d ≡ c → TellsAt hs d t w b → TellsAt gs c t w b
tells-as gs hs c d t w b e f h = subst (λ x. TellsAt x c t w b) e (subst (λ x. TellsAt hs x t w b) f h)

-- of no way, of one, of several
pub tells-free : (gs : Ranges) (c : Context) (t : Term) → TellsAll gs c t [] true
unfolding TellsAll
tells-free gs c t = ((λ k. tt), (λ f. refl))

pub tells-one : (gs : Ranges) (c : Context) (t : Term) (w : Way) (b : Bool) → TellsAt gs c t w b → TellsAll gs c t (w ∷ []) b
unfolding TellsAt TellsAll
tells-one gs c t w b h = ((λ k. (h.0 k, tt)), (λ f. h.1 f.0))

pub tells-every : (gs : Ranges) (c : Context) (t : Term) (ws : List Way) → Every (IsDefinedAlong gs c t) ws → TellsAll gs c t ws true
unfolding TellsAll
tells-every gs c t ws h = ((λ k. h), (λ f. refl))

pub tells-refused : (gs : Ranges) (c : Context) (t : Term) (w : Way) (ws : List Way) → (Every (FirmAt (is_shaped gs.positions) c t) ws → FirmAt (is_shaped gs.positions) c t w) →
    TellsAt gs c t w false → TellsAll gs c t ws false
unfolding TellsAt TellsAll
tells-refused gs c t w ws k h = ((λ e. absurd (never e)), (λ f. h.1 (k f)))
  where
    never : false ≡ true → ⊥
    never e = cc

-- the term at the end of a way is sure to have a value
pub tells-true : (gs : Ranges) (c : Context) (t : Term) (w : Way) (b : Bool) → b ≡ true → TellsAt gs c t w b → IsDefinedAlong gs c t w
unfolding TellsAt
tells-true gs c t w b e h = h.0 e

-- so it has one at each list of values with which an evaluation comes there
along-way : (given : List Ty) (V : Outcomes) (gs : Ranges) (c : Context) (t : Term) (env : List Ty) (vals : List Datum) (T : Ty) →
    OutcomesHave (instances given) V → HaveTypes env vals → Tells gs.positions V → PlaceHolds V gs c vals → ctyped (instances given) env t T → (w : Way) → IsDefinedAlong gs c t w → DefinedAt V vals t w
unfolding IsDefinedAt
along-way given V gs c t env vals T g h tl st ty w d s e =
    let p = typed-place (instances given) w env t s T ty e in
    Every-join (HaveTypes p.around) (PlaceHolds V (ranges_at gs c t w) (context_at enter_facts c t w)) (λ there. IsDefined V there s)
    (λ there m k. d s e given V p.around there p.type g m (subst (λ l. Tells l V) (sym (positions-at w gs c t)) tl) k p.typed)
    (reach V vals t w) (p.values V vals g h) (holds-from V w gs c vals t tl (well_formed-typed (instances given) env t T ty) st)

-- what a rule that is no check asks beside
known-plain : (R : Rule) (c : Context) (t : Term) → is_check R ≡ false → KnownAt R c t
known-plain C1 c t e = cc
known-plain C2 c t e = cc
known-plain C3 c t e = cc
known-plain C4 c t e = cc
known-plain B1 c t e = tt
known-plain K1 c t e = tt
known-plain I1 c t e = tt
known-plain I2 c t e = tt
known-plain L1 c t e = tt
known-plain L2 c t e = tt
known-plain L3 c t e = tt
known-plain P1 c t e = tt
known-plain P2 c t e = tt
known-plain S1 c t e = tt
known-plain S2 c t e = tt
known-plain S3 c t e = tt
known-plain S4 c t e = tt
known-plain S5 c t e = tt
known-plain S6 c t e = tt
known-plain S7 c t e = tt
known-plain S8 c t e = tt
known-plain S9 c t e = tt
known-plain A1 c t e = tt
known-plain A2 c t e = tt
known-plain A3 c t e = tt
known-plain A4 c t e = tt
known-plain A5 c t e = tt
known-plain A6 c t e = tt
known-plain A7 c t e = tt
known-plain N1 c t e = tt
known-plain N2 c t e = tt

decides-fixed : (R : Rule) (V : Outcomes) (vals : List Datum) (l r : Term) → R ≢ C4 → Decides V R vals l r
decides-fixed B1 V vals l r e = tt
decides-fixed K1 V vals l r e = tt
decides-fixed I1 V vals l r e = tt
decides-fixed I2 V vals l r e = tt
decides-fixed L1 V vals l r e = tt
decides-fixed L2 V vals l r e = tt
decides-fixed L3 V vals l r e = tt
decides-fixed P1 V vals l r e = tt
decides-fixed P2 V vals l r e = tt
decides-fixed S1 V vals l r e = tt
decides-fixed S2 V vals l r e = tt
decides-fixed S3 V vals l r e = tt
decides-fixed S4 V vals l r e = tt
decides-fixed S5 V vals l r e = tt
decides-fixed S6 V vals l r e = tt
decides-fixed S7 V vals l r e = tt
decides-fixed S8 V vals l r e = tt
decides-fixed S9 V vals l r e = tt
decides-fixed A1 V vals l r e = tt
decides-fixed A2 V vals l r e = tt
decides-fixed A3 V vals l r e = tt
decides-fixed A4 V vals l r e = tt
decides-fixed A5 V vals l r e = tt
decides-fixed A6 V vals l r e = tt
decides-fixed A7 V vals l r e = tt
decides-fixed C1 V vals l r e = tt
decides-fixed C2 V vals l r e = tt
decides-fixed C3 V vals l r e = tt
decides-fixed C4 V vals l r e = absurd (e refl)
decides-fixed N1 V vals l r e = tt
decides-fixed N2 V vals l r e = tt

not-check : (R : Rule) → is_check R ≡ false → R ≢ C4
not-check R e k = never (sym (ap is_check k) ∙ e)
  where
    never : true ≡ false → ⊥
    never q = cc

-- a rule that fits may be applied where what it wants defined is
pub fires-plain : (gs : Ranges) (c : Context) (t : Term) (R : Rule) (w : Ways) → is_check R ≡ false → RuleFits R true t → AreWays R t w → TellsAll gs c t (ways_in w) true → MayFire gs c t (Plain R)
unfolding TellsAll AreWays HasCondition
fires-plain gs c t R w e f a h = record {
  applicable = (not-check R e, f);
  known = known-plain R c t e;
  condition = λ r ws x k given V env vals T g v tl st ty. (
    subst (Every (DefinedAt V vals t)) (sym (a r ws x)) (Every-impl (IsDefinedAlong gs c t) (DefinedAt V vals t) (along-way given V gs c t env vals T g v tl st ty) (ways_in w) (h.0 refl)),
    decides-fixed R V vals t r (not-check R e),
  );
}

-- a rule that does not fit is refused
pub refused-unfit : (gs : Ranges) (c : Context) (t : Term) (R : Rule) → RuleFits R false t → IsRefused gs c R t
unfolding IsRefused
refused-unfit gs c t R h = λ r ws x f. h r ws x

-- and one that wants more defined than is
pub refused-ways : (gs : Ranges) (c : Context) (t : Term) (R : Rule) (w : Ways) → AreWays R t w → TellsAll gs c t (ways_in w) false → IsRefused gs c R t
unfolding IsRefused TellsAll AreWays
refused-ways gs c t R w a h = λ r ws x f. never (h.1 (subst (Every (FirmAt (is_shaped gs.positions) c t)) (a r ws x) f))
  where
    never : false ≡ true → ⊥
    never q = cc

-- a comparison that is a fact of the place may be replaced by what it tells
pub fires-domain : (gs : Ranges) (c : Context) (t : Term) → IsComparison t → LiterallyKnown facts.domain c t → MayFire gs c t (Plain C1)
unfolding HasCondition
fires-domain gs c t k h = record {
  applicable = ((λ e. cc), (truth_term true, [], (k, refl, refl)));
  known = h;
  condition = λ r ws x m given V env vals T g v tl st ty. (subst (Every (DefinedAt V vals t)) (sym x.2) tt, tt);
}

pub fires-test : (gs : Ranges) (c : Context) (t : Term) → IsComparison t → LiterallyKnown facts.test c t → MayFire gs c t (Plain C2)
unfolding HasCondition
fires-test gs c t k h = record {
  applicable = ((λ e. cc), (truth_term true, [], (k, refl, refl)));
  known = h;
  condition = λ r ws x m given V env vals T g v tl st ty. (subst (Every (DefinedAt V vals t)) (sym x.2) tt, tt);
}

pub fires-denied : (gs : Ranges) (c : Context) (t : Term) → IsComparison t → LiterallyKnown facts.denied c t → MayFire gs c t (Plain C3)
unfolding HasCondition
fires-denied gs c t k h = record {
  applicable = ((λ e. cc), (truth_term false, [], (k, refl, refl)));
  known = h;
  condition = λ r ws x m given V env vals T g v tl st ty. (subst (Every (DefinedAt V vals t)) (sym x.2) tt, tt);
}

-- a fact of one kind or another
some-kind : (c : Context) (t : Term) (b : Bool) (F : List Fact) → SomeFact F (λ f. (truth_of f.known ≡ b) × IsFact c t f) →
    (SomeFact F (λ f. (f.known ≡ facts.domain) × IsFact c t f) → ⊥) → (SomeFact F (λ f. (f.known ≡ facts.test) × IsFact c t f) → ⊥) → (SomeFact F (λ f. (f.known ≡ facts.denied) × IsFact c t f) → ⊥) → ⊥
some-kind c t b [] h p q r = h
some-kind c t b (f ∷ F) (inl h) p q r = at f.known refl
  where
    at : (k : facts.Known) → f.known ≡ k → ⊥
    at facts.domain e = p (inl (e, h.1))
    at facts.test e = q (inl (e, h.1))
    at facts.denied e = r (inl (e, h.1))
some-kind c t b (f ∷ F) (inr h) p q r = some-kind c t b F h (λ k. p (inr k)) (λ k. q (inr k)) (λ k. r (inr k))

-- a comparison that is known in none of the three ways is no fact of any truth value
pub unknown-none : (c : Context) (t : Term) → IsKnown c t None → IsUnknown c t
unfolding IsUnknown
unknown-none c t h = λ b k l. some-kind c t b c.facts l h.0 h.1 h.2

-- what is no comparison
pub unknown-other : (c : Context) (t : Term) → (IsComparison t → ⊥) → IsUnknown c t
unfolding IsUnknown
unknown-other c t h = λ b k l. h k

pub undecided-other : (gs : Ranges) (c : Context) (t : Term) → (IsComparison t → ⊥) → IsUndecided gs c t
unfolding IsUndecided
undecided-other gs c t h = λ op a b x y e f p q l. h (op, a, b, e)

-- a comparison that spans do not decide
pub undecided-none : (gs : Ranges) (c : Context) (t : Term) → DecidesApart c t None → IsUndecided gs c t
unfolding IsUndecided
undecided-none gs c t h = λ op a b x y e f p q l. never (h op a b x y e p q l)
  where
    never : (k : Bool) × (None ≡ Some k) → ⊥
    never d = let z = d.1 in cc

-- a comparison of which a side is not firm
pub undecided-first : (gs : Ranges) (c : Context) (t : Term) → TellsAt gs c t (0 ∷ []) false → IsUndecided gs c t
unfolding IsUndecided TellsAt
undecided-first gs c t h = λ op a b x y e f p q l. never (h.1 f.0)
  where
    never : false ≡ true → ⊥
    never d = cc

pub undecided-second : (gs : Ranges) (c : Context) (t : Term) → TellsAt gs c t (1 ∷ []) false → IsUndecided gs c t
unfolding IsUndecided TellsAt
undecided-second gs c t h = λ op a b x y e f p q l. never (h.1 f.1.0)
  where
    never : false ≡ true → ⊥
    never d = cc

-- the sides of a comparison have values where they are defined at their places
sides-valued : (V : Outcomes) (vals : List Datum) (op : CompareOp) (a b : Term) → DefinedAt V vals (compare_term op a b) (0 ∷ []) → DefinedAt V vals (compare_term op a b) (1 ∷ []) → IsDefined V vals a × IsDefined V vals b
sides-valued V vals op a b h k = ((h a refl).0, (k b refl).0)

-- a comparison whose spans decide it and whose sides are defined may be replaced by its truth value
pub fires-decided : (gs : Ranges) (c : Context) (t : Term) (truth_value : Bool) → IsComparison t → DecidesTruth c t (Some truth_value) → IsDefinedAlong gs c t (0 ∷ []) → IsDefinedAlong gs c t (1 ∷ []) →
    MayFire gs c t (Decided truth_value)
unfolding HasCondition
fires-decided gs c t b k d p q = record {
  applicable = k;
  known = tt;
  condition = λ r ws x m given V env vals T g v tl st ty.
      let h = along-way given V gs c t env vals T g v tl st ty (0 ∷ []) p in
      let l = along-way given V gs c t env vals T g v tl st ty (1 ∷ []) q in (
        subst (Every (DefinedAt V vals t)) (sym x.2) (h, (l, tt)),
        λ n e.
            let s = sides-valued V vals k.0 k.1 k.2 (subst (λ z. DefinedAt V vals z (0 ∷ [])) k.3 h) (subst (λ z. DefinedAt V vals z (1 ∷ [])) k.3 l) in
            let z : b ≡ n = same b n (sym m ∙ e) in
            d V vals st.0 k.0 k.1 k.2 s.0.0 s.1.0 n k.3 (ap Some z) s.0.1 s.1.1,
      );
}
  where
    same : (b n : Bool) → truth_term b ≡ truth_term n → b ≡ n
    same b n e = cc

-- where every rule is refused and no check applies, the term is normal at its place
pub quiet-here : (gs : Ranges) (c : Context) (t : Term) → EachPlain (λ R. IsRefused gs c R t) → IsUnknown c t → IsUndecided gs c t → IsQuietAt gs c t
unfolding IsRefused IsUnknown IsUndecided EachPlain
quiet-here gs c t h k l = record {
  unfit = λ R r ws e x f. h R e r ws x f;
  unknown = λ b m n. k b m n;
  undecided = λ op a b x y e f p q m. l op a b x y e f p q m;
}

-- whether a rule that fits may be applied, by what is told of its ways
pub tells-rule : (k : Ctx) (R : Rule) (t : Term) (w : Ways) (b : Bool) → is_check R ≡ false → RuleFits R true t → AreWays R t w → TellsWays k t (ways_in w) b → TellsRule k R t b
tells-rule k R t w true e f a h = fires-plain (ranges_of k) (context_of k) t R w e f a h
tells-rule k R t w false e f a h = refused-ways (ranges_of k) (context_of k) t R w a h

-- the same of an equal context
pub rule-told : (k l : Ctx) (R : Rule) (t : Term) (b : Bool) → (ranges_of l) ≡ (ranges_of k) → context_of l ≡ context_of k → TellsRule l R t b → TellsRule k R t b
rule-told k l R t true g c h = subst (λ y. MayFire y (context_of k) t (Plain R)) g (subst (λ y. MayFire (ranges_of l) y t (Plain R)) c h)
rule-told k l R t false g c h = subst (λ y. IsRefused y (context_of k) R t) g (subst (λ y. IsRefused (ranges_of l) y R t) c h)

-- which rewriting may be done at a node at which every plain rule is refused
pub node-told : (k l : Ctx) (t : Term) (o : Option Firing) → (ranges_of l) ≡ (ranges_of k) → context_of l ≡ context_of k → EachPlain (λ R. IsRefused (ranges_of k) (context_of k) R t) → TellsChecks l t o → TellsNode k t o
node-told k l t (Some f) g c h x = subst (λ y. MayFire y (context_of k) t f) g (subst (λ y. MayFire (ranges_of l) y t f) c x)
node-told k l t None g c h x =
    quiet-here (ranges_of k) (context_of k) t h (subst (λ y. IsUnknown y t) c x.0)
    (subst (λ y. IsUndecided y (context_of k) t) g (subst (λ y. IsUndecided (ranges_of l) y t) c x.1))
