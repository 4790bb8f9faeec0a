-- A typed term's value, where it has one, has the type.
use Rattle.std.proofs.Common.{◌≡◌, ℕ, zero, suc, ◌+◌, Bool, true, false, nat_lt, nat_eq, List, [], ◌∷◌, ◌++◌, length, map, replicate, Option, Some, None, refl, sym, ap, subst, ◌∙◌, arith, if◌then◌else◌, ◌^◌, sum}
use Rattle.std.specs.List.{slice_get}
use Rattle.std.proofs.lemmas.Option.{same_Some}
use Rattle.aql_value.specs.Datum as datum
use Rattle.aql_value.specs.Datum.{Datum}
use Rattle.aql_value.specs.Indices.{indices}
use Rattle.aql_value.specs.Laws.RowMajor.{indices_lengths}
use Rattle.aql_value.specs.Lists.{Every}
use Rattle.aql_value.specs.Laws.Lists.{Every-lists}
use Rattle.aql_value.specs.Operations.{as_natural, as_set, in_range, set_of, union_all, sum_of, array_of, push_index}
use Rattle.aql_value.specs.Partial.{◌>>=◌, each, concat, or_else}
use Rattle.aql_value.specs.Laws.Partial.{then-is, each-values}
use Rattle.aql_value.specs.Strict.{strict_value}
use Rattle.aql_ty.specs.Types as types
use Rattle.aql_ty.specs.Types.{Ty, natural, truth}
use Rattle.aql_ty.specs.ValueTypes.{HasType, HaveTypes}
use Rattle.aql_ty.specs.Laws.Operation.{has-get, has-append, some-has, as-type, has-set, set-members, has-array, strict-sound}
use Rattle.nrca_term.specs.Term.{Term, Parts, node, none, part, Form}
use Rattle.nrca_term.specs.Typing.{Arg, arg, form_rule, ctyped, parts_typed, OutcomesHave}
use Rattle.nrca_term.specs.Meaning.{Outcomes, Part, worth, here, form_value, test_value, members_value, loop_values, bounds_value, at_length, cden, part_values}
use Rattle.nrca_term.specs.Laws.Entering.{bounds-length}

-- a part that gives values of its type at values of its own variables' types
abbrev pub Sound : Arg → Part → Type 0
Sound a p = (new : List Datum) (v : Datum) → HaveTypes a.own new → p new ≡ Some v → HasType a.has v

abbrev pub AllSound : List Arg → List Part → Type 0
AllSound [] [] = Unit {0}
AllSound [] (p ∷ ps) = ⊥
AllSound (a ∷ args) [] = ⊥
AllSound (a ∷ args) (p ∷ ps) = Sound a p × AllSound args ps

pub sound-get : (args : List Arg) (ps : List Part) (i : ℕ) (a : Arg) → AllSound args ps → slice_get args i ≡ Some a → Sound a (worth ps i)
sound-get [] ps i a s e = cc
sound-get (b ∷ args) [] i a s e = absurd s
sound-get (b ∷ args) (p ∷ ps) zero a s e = let z : b ≡ a = cc in subst (λ x. Sound x p) z s.0
sound-get (b ∷ args) (p ∷ ps) (suc i) a s e = sound-get args ps i a s.1 e

pub sounds : (args bs : List Arg) (ps : List Part) → args ≡ bs → AllSound args ps → AllSound bs ps
sounds args bs ps e s = subst (λ x. AllSound x ps) e s

-- parts that bind nothing have the types of their values
pub has-here : (Ts : List Ty) (ps : List Part) (vs : List Datum) → AllSound (map (arg []) Ts) ps → each here ps ≡ Some vs → HaveTypes Ts vs
has-here [] [] vs s e = let z : [] ≡ vs = cc in subst (HaveTypes []) z tt
has-here [] (p ∷ ps) vs s e = absurd s
has-here (T ∷ Ts) [] vs s e = absurd s
has-here (T ∷ Ts) (p ∷ ps) vs s e =
    let a = then-is (p []) (λ y. each here ps >>= λ ys. Some (y ∷ ys)) vs e in
    let b = then-is (each here ps) (λ ys. Some (a.0 ∷ ys)) vs a.2 in
    let z : a.0 ∷ b.0 ≡ vs = same_Some (a.0 ∷ b.0) vs b.2 in
    subst (HaveTypes (T ∷ Ts)) z (s.0 [] a.0 tt a.1, has-here Ts ps b.0 s.1 b.1)

-- the bodies of a loop
pub loop-sound : (A B : Ty) (ps : List Part) (rs : List Datum) → AllSound (arg [] (types.set_of A) ∷ arg (A ∷ []) B ∷ []) ps → loop_values ps ≡ Some rs → Every (HasType B) rs
loop-sound A B ps rs s e =
    let m = then-is (members_value ps) (each (λ m. worth ps 1 (m ∷ []))) rs e in
    let w = then-is (worth ps 0 []) as_set m.0 m.1 in
    let have = (set-members A w.0 m.0 (sound-get (arg [] (types.set_of A) ∷ arg (A ∷ []) B ∷ []) ps 0 (arg [] (types.set_of A)) s refl [] w.0 tt w.1) w.2).1 in
    each-values (λ m. worth ps 1 (m ∷ [])) (HasType A) (HasType B)
    (λ x y k l. sound-get (arg [] (types.set_of A) ∷ arg (A ∷ []) B ∷ []) ps 1 (arg (A ∷ []) B) s refl (x ∷ []) y (k, tt) l) m.0 rs have m.2

walked-have : (at : List ℕ) (n : ℕ) (l : List Datum) → HaveTypes (replicate n natural) l → HaveTypes (replicate (length at + n) natural) (push_index at l)
walked-have [] n l h = let e : n ≡ 0 + n = omega arith in subst (λ k. HaveTypes (replicate k natural) l) e h
walked-have (i ∷ at) n l h =
    let e : length at + suc n ≡ suc (length at) + n = omega arith in
    subst (λ k. HaveTypes (replicate k natural) (push_index at (datum.natural i ∷ l))) e (walked-have at (suc n) (datum.natural i ∷ l) ((i, refl), h))

-- the numbers of an index as values
pub index-have : (at : List ℕ) (rank : ℕ) → length at ≡ rank → HaveTypes (replicate rank natural) (push_index at [])
index-have at rank e = let z : length at + 0 ≡ rank = omega (arith, e) in subst (λ k. HaveTypes (replicate k natural) (push_index at [])) z (walked-have at 0 [] tt)

-- behind the bounds of a tabulation stands its body
pub body-arg : (rank : ℕ) (x a : Arg) → slice_get (replicate rank x ++ a ∷ []) rank ≡ Some a
body-arg zero x a = refl
body-arg (suc rank) x a = body-arg rank x a

pub length-tab : (rank : ℕ) (x y : Arg) → length (replicate rank x ++ y ∷ []) ≡ suc rank
length-tab zero x y = refl
length-tab (suc rank) x y = ap suc (length-tab rank x y)

pub sound-length : (args : List Arg) (ps : List Part) → AllSound args ps → length args ≡ length ps
sound-length [] [] h = refl
sound-length [] (p ∷ ps) h = absurd h
sound-length (a ∷ args) [] h = absurd h
sound-length (a ∷ args) (p ∷ ps) h = ap suc (sound-length args ps h.1)

form-sound : (G : ℕ → Ty → Type 0) (V : Outcomes) (env : List Ty) (vals : List Datum) → OutcomesHave G V → HaveTypes env vals → (f : Form) (args : List Arg) (T : Ty) (ps : List Part) (v : Datum) →
    form_rule G env f args T → AllSound args ps → form_value V vals f ps ≡ Some v → HasType T v
form-sound G V env vals g h (Form.var i) args T ps v r s e = has-get env vals i T v h r.1 e
form-sound G V env vals g h (Form.global n) args T ps v r s e = g n T v r.1 e
form-sound G V env vals g h Form.bind args T ps v r s e =
    let s = sounds args (arg [] r.0 ∷ arg (r.0 ∷ []) T ∷ []) ps r.1 s in
    let a = then-is (worth ps 0 []) (λ x. worth ps 1 (x ∷ [])) v e in
    sound-get (arg [] r.0 ∷ arg (r.0 ∷ []) T ∷ []) ps 1 (arg (r.0 ∷ []) T) s refl (a.0 ∷ []) v (sound-get (arg [] r.0 ∷ arg (r.0 ∷ []) T ∷ []) ps 0 (arg [] r.0) s refl [] a.0 tt a.1, tt) a.2
form-sound G V env vals g h Form.choose args T ps v r s e =
    let s = sounds args (arg [] truth ∷ arg [] T ∷ arg [] T ∷ []) ps r s in
    let a = then-is (test_value ps) (λ b. if b then worth ps 1 [] else worth ps 2 []) v e in
    taken a.0 (λ k. sound-get (arg [] truth ∷ arg [] T ∷ arg [] T ∷ []) ps 1 (arg [] T) s refl [] v tt k) (λ k. sound-get (arg [] truth ∷ arg [] T ∷ arg [] T ∷ []) ps 2 (arg [] T) s refl [] v tt k) a.2
  where
    taken : (b : Bool) → (worth ps 1 [] ≡ Some v → HasType T v) → (worth ps 2 [] ≡ Some v → HasType T v) → (if b then worth ps 1 [] else worth ps 2 []) ≡ Some v → HasType T v
    taken true k l m = k m
    taken false k l m = l m
form-sound G V env vals g h Form.default args T ps v r s e =
    let s = sounds args (arg [] T ∷ arg [] T ∷ []) ps r s in
    first (worth ps 0 []) (λ k. sound-get (arg [] T ∷ arg [] T ∷ []) ps 0 (arg [] T) s refl [] v tt k) (λ k. sound-get (arg [] T ∷ arg [] T ∷ []) ps 1 (arg [] T) s refl [] v tt k) e
  where
    first : (o : Option Datum) → (o ≡ Some v → HasType T v) → (worth ps 1 [] ≡ Some v → HasType T v) → or_else o (worth ps 1 []) ≡ Some v → HasType T v
    first None k l m = l m
    first (Some w) k l m = k m
form-sound G V env vals g h Form.big_union args T ps v r s e =
    let s = sounds args (arg [] (types.set_of r.0) ∷ arg (r.0 ∷ []) (types.set_of r.1) ∷ []) ps r.2 s in
    let a = then-is (loop_values ps) union_all v e in
    let b = then-is (each as_set a.0) (λ sets. Some (set_of (concat sets))) v a.2 in
    as-type (types.set_of r.1) T v r.3 (some-has (types.set_of r.1) _ v b.2 (has-set r.1 (concat b.0) (Every-lists (HasType r.1) b.0
    (each-values as_set (HasType (types.set_of r.1)) (λ ms. Every (HasType r.1) ms) (λ w ms k l. (set-members r.1 w ms k l).1) a.0 b.0 (loop-sound r.0 (types.set_of r.1) ps a.0 s a.1) b.1))))
form-sound G V env vals g h Form.sum args T ps v r s e =
    let a = then-is (loop_values ps) sum_of v e in
    let b = then-is (each as_natural a.0) (λ ns. in_range (sum ns)) v a.2 in
    as-type natural T v r.2 (ranged (sum b.0) (nat_lt (sum b.0) (2 ^ 128)) b.2)
  where
    ranged : (n : ℕ) (b : Bool) → (if b then Some (datum.natural n) else None) ≡ Some v → HasType natural v
    ranged n true k = some-has natural _ v k (n, refl)
    ranged n false k = cc
form-sound G V env vals g h (Form.tab rank) args T ps v r s e =
    let s = sounds args (replicate rank (arg [] natural) ++ arg (replicate rank natural) r.0 ∷ []) ps r.2 s in
    let a = then-is (bounds_value rank ps) (λ ds. each (λ at. worth ps rank (push_index at [])) (indices ds) >>= array_of ds) v e in
    let b = then-is (each (λ at. worth ps rank (push_index at [])) (indices a.0)) (array_of a.0) v a.2 in
    let l : length a.0 ≡ rank = bounds-length rank ps a.0 (omega (arith, sound-length _ ps s, length-tab rank (arg [] natural) (arg (replicate rank natural) r.0))) a.1 in
    as-type (types.array_of rank r.0) T v r.3 (subst (λ n. HasType (types.array_of n r.0) v) l (has-array r.0 a.0 b.0 v b.2
    (each-values (λ at. worth ps rank (push_index at [])) (λ at. length at ≡ length a.0) (HasType r.0)
    (λ at w k m. sound-get (replicate rank (arg [] natural) ++ arg (replicate rank natural) r.0 ∷ []) ps rank (arg (replicate rank natural) r.0) s (body-arg rank (arg [] natural) (arg (replicate rank natural) r.0)) (push_index at []) w (index-have at rank (k ∙ l)) m)
    (indices a.0) b.0 (indices_lengths a.0) b.1)))
form-sound G V env vals g h (Form.strict c) args T ps v r s e =
    let s = sounds args (map (arg []) r.0) ps r.1 s in
    let a = then-is (each here ps) (strict_value c) v e in strict-sound c r.0 T a.0 v r.2 (has-here r.0 ps a.0 s a.1) a.2

pub at_length-value : (k : ℕ) (f : Part) (new : List Datum) (v : Datum) → at_length k f new ≡ Some v → f new ≡ Some v
at_length-value k f new v e = at (nat_eq (length new) k) e
  where
    at : (b : Bool) → (if b then f new else None) ≡ Some v → f new ≡ Some v
    at true h = h
    at false h = cc

mutual
  pub sound : (G : ℕ → Ty → Type 0) (V : Outcomes) → OutcomesHave G V → (t : Term) (env : List Ty) (vals : List Datum) (T : Ty) (v : Datum) → HaveTypes env vals → ctyped G env t T → cden V vals t ≡ Some v → HasType T v
  sound G V g (node f ps) env vals T v h t e = form-sound G V env vals g h f t.1 T (part_values V vals ps) v t.2 (parts-sound G V g ps env vals t.1 h t.3) e

  pub parts-sound : (G : ℕ → Ty → Type 0) (V : Outcomes) → OutcomesHave G V → (ps : Parts) (env : List Ty) (vals : List Datum) (args : List Arg) → HaveTypes env vals → parts_typed G env ps args → AllSound args (part_values V vals ps)
  parts-sound G V g none env vals args h t = sounds [] args [] (sym t) tt
  parts-sound G V g (part k u ps) env vals args h t =
      sounds (t.0 ∷ t.1) args (part_values V vals (part k u ps)) (sym t.2)
      ((λ new v n e. sound G V g u (t.0.own ++ env) (new ++ vals) t.0.has v (has-append t.0.own env new vals n h) t.4 (at_length-value k (λ w. cden V (w ++ vals) u) new v e)), parts-sound G V g ps env vals t.1 h t.5)
