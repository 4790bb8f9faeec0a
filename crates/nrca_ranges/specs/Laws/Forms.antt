-- The value of a node has the shape that the shapes of its parts tell (`form-shaped`).
use Rattle.std.proofs.Common.{◌≡◌, ℕ, zero, suc, ◌-◌, ◌<◌, ◌≤◌, ◌^◌, Bool, true, false, nat_lt, sum, List, [], ◌∷◌, length, map, take, reverse, Option, Some, None, option_to_list, unwrap_or, refl, sym, subst, ◌∙◌, arith, if◌then◌else◌}
use Rattle.std.specs.List.{slice_get}
use Rattle.std.proofs.lemmas.Bool.{lt-ltb, le-ltb}
use Rattle.std.proofs.lemmas.Nat.{mul-le}
use Rattle.std.proofs.lemmas.Option.{cond_some, same_Some}
use Rattle.aql_value.specs.Canon.{canon}
use Rattle.aql_value.specs.Datum.{Datum, natural, data_of}
use Rattle.aql_value.specs.Indices.{indices}
use Rattle.aql_value.specs.Laws.Datum.{list_of-data_of}
use Rattle.aql_value.specs.Laws.Lists.{Every-impl, Every-map, Every-lists}
use Rattle.aql_value.specs.Laws.Operations.{array_of-is}
use Rattle.aql_value.specs.Laws.Partial.{then-is, each-length, each-values}
use Rattle.aql_value.specs.Laws.Set.{length_canon, Every-canon}
use Rattle.aql_value.specs.Lists.{Every}
use Rattle.aql_value.specs.Operations.{as_natural, as_set, set_of, union_all, sum_of, in_range, array_of, push_index}
use Rattle.aql_value.specs.Partial.{◌>>=◌, each, or_else, concat}
use Rattle.aql_value.specs.Strict.{strict_value}
use Rattle.nrca_term.specs.Term.{Form}
use Rattle.nrca_term.specs.Meaning.{Outcomes, at_position, Part, worth, here, form_value, test_value, members_value, loop_values, bounds_value}
use Rattle.nrca_term.specs.Places.{branch, otherwise, indices_of, entry_values}
use Rattle.nrca_term.specs.Laws.Facts.{natural-is}
use Rattle.nrca_ranges.specs.Bounds.{Bounds, number, members, row_of, IsIn, IsCount, HasShape, HaveShapes, Ranges, VariablesFit}
use Rattle.nrca_ranges.specs.Entered.{shape_there}
use Rattle.nrca_ranges.specs.Intervals.{loop_count, loop_sum}
use Rattle.nrca_ranges.specs.Shapes.{Tells}
use Rattle.nrca_ranges.specs.Transfer.{interval_of, count_of, member_of, join_bounds, entry_at, form_bounds}
use Rattle.nrca_ranges.specs.Laws.Bounds.{interval-is, joined-first, joined-second}
use Rattle.nrca_ranges.specs.Laws.Intervals.{joined-most, sum-least, sum-most}
use Rattle.nrca_ranges.specs.Laws.Strict.{set-shaped, numbers-in, strict-shaped}

-- what is known of a part's value, at each list of values with which an evaluation comes to it
abbrev pub Shaped : Form → List Part → ℕ → Bounds → Type 0
Shaped f ps i b = Every (λ new. (v : Datum) → worth ps i new ≡ Some v → HasShape b v) (entry_values f ps i)

-- of each part, by its entry of the list
abbrev pub AllShaped : Form → List Part → List Bounds → Type 0
AllShaped f ps bs = (i : ℕ) → Shaped f ps i (entry_at bs i)

-- parts that bind nothing, as a list of values
pub here-shaped : (ps : List Part) (bs : List Bounds) (vs : List Datum) → length bs ≡ length ps → ((i : ℕ) (v : Datum) → worth ps i [] ≡ Some v → HasShape (entry_at bs i) v) → each here ps ≡ Some vs → HaveShapes (row_of bs) vs
here-shaped [] [] vs l h e = let z : [] ≡ vs = cc in subst (HaveShapes (row_of [])) z tt
here-shaped [] (b ∷ bs) vs l h e = absurd (omega (arith, l))
here-shaped (p ∷ ps) [] vs l h e = absurd (omega (arith, l))
here-shaped (p ∷ ps) (b ∷ bs) vs l h e =
    let a = then-is (p []) (λ y. each here ps >>= λ ys. Some (y ∷ ys)) vs e in
    let r = then-is (each here ps) (λ ys. Some (a.0 ∷ ys)) vs a.2 in
    subst (HaveShapes (row_of (b ∷ bs))) (same_Some (a.0 ∷ r.0) vs r.2) (h 0 a.0 a.1, here-shaped ps bs r.0 (omega (arith, l)) (λ i v k. h (suc i) v k) r.1)

-- the first n of them
pub first-here : (n : ℕ) (ps : List Part) (bs : List Bounds) (vs : List Datum) → length bs ≡ length ps → ((i : ℕ) (v : Datum) → i < n → worth ps i [] ≡ Some v → HasShape (entry_at bs i) v) →
    each here (take n ps) ≡ Some vs → HaveShapes (row_of (take n bs)) vs
first-here zero ps bs vs l h e = let z : [] ≡ vs = cc in subst (HaveShapes (row_of [])) z tt
first-here (suc n) [] [] vs l h e = let z : [] ≡ vs = cc in subst (HaveShapes (row_of [])) z tt
first-here (suc n) [] (b ∷ bs) vs l h e = absurd (omega (arith, l))
first-here (suc n) (p ∷ ps) [] vs l h e = absurd (omega (arith, l))
first-here (suc n) (p ∷ ps) (b ∷ bs) vs l h e =
    let a = then-is (p []) (λ y. each here (take n ps) >>= λ ys. Some (y ∷ ys)) vs e in
    let r = then-is (each here (take n ps)) (λ ys. Some (a.0 ∷ ys)) vs a.2 in
    subst (HaveShapes (row_of (b ∷ take n bs))) (same_Some (a.0 ∷ r.0) vs r.2) (h 0 a.0 (omega arith) a.1, first-here n ps bs r.0 (omega (arith, l)) (λ i v q k. h (suc i) v (omega (arith, q)) k) r.1)

-- a position
position-shaped : (o : Option (Option Bounds)) (v : Datum) → ((b : Bounds) → o ≡ Some (Some b) → HasShape b v) → HasShape (shape_there o) v
position-shaped None v h = tt
position-shaped (Some None) v h = tt
position-shaped (Some (Some b)) v h = h b refl

-- a variable
variable-shaped : (bs : List Bounds) (vals : List Datum) (i : ℕ) (v : Datum) → HaveShapes (row_of bs) vals → slice_get vals i ≡ Some v → HasShape (entry_at bs i) v
variable-shaped [] [] i v h e = cc
variable-shaped [] (w ∷ vals) i v h e = absurd h
variable-shaped (b ∷ bs) [] i v h e = absurd h
variable-shaped (b ∷ bs) (w ∷ vals) zero v h e = subst (HasShape b) (same_Some w v e) h.0
variable-shaped (b ∷ bs) (w ∷ vals) (suc i) v h e = variable-shaped bs vals i v h.1 e

-- a loop: its members, and the bodies' values at them
pub loop-shaped : (ps : List Part) (bs : List Bounds) (rs : List Datum) → Shaped Form.sum ps 0 (entry_at bs 0) → Shaped Form.sum ps 1 (entry_at bs 1) → loop_values ps ≡ Some rs →
    (ms : List Datum) × (length rs ≡ length ms) × IsCount (count_of (entry_at bs 0)) ms × Every (HasShape (entry_at bs 1)) rs
loop-shaped ps bs rs h k e =
    let q = then-is (members_value ps) (each (λ m. worth ps 1 (m ∷ []))) rs e in
    let r = then-is (worth ps 0 []) as_set q.0 q.1 in
    let bodies : Every (λ m. (v : Datum) → worth ps 1 (m ∷ []) ≡ Some v → HasShape (entry_at bs 1) v) q.0 =
    Every-map (λ new. (v : Datum) → worth ps 1 new ≡ Some v → HasShape (entry_at bs 1) v) (λ m. m ∷ []) q.0
    (subst (λ o. Every (λ new. (v : Datum) → worth ps 1 new ≡ Some v → HasShape (entry_at bs 1) v) (map (λ m. m ∷ []) (unwrap_or o []))) q.1 k) in (
      q.0,
      each-length (λ m. worth ps 1 (m ∷ [])) q.0 rs q.2,
      (set-shaped (entry_at bs 0) r.0 q.0 (h.0 r.0 r.1) r.2).0,
      each-values (λ m. worth ps 1 (m ∷ [])) (λ m. (v : Datum) → worth ps 1 (m ∷ []) ≡ Some v → HasShape (entry_at bs 1) v) (HasShape (entry_at bs 1)) (λ m w u i. u w i) q.0 rs bodies q.2,
    )

-- the union of the bodies' sets
union-all-shaped : (a b : Bounds) (n : ℕ) (rs : List Datum) (v : Datum) → (((count_of a).high < 2 ^ 128 - 1) → n ≤ (count_of a).high) → length rs ≡ n → Every (HasShape b) rs → union_all rs ≡ Some v →
    HasShape (members (loop_count (count_of a) (count_of b)) (member_of b)) v
union-all-shaped a b n rs v u l h e =
    let s = then-is (each as_set rs) (λ sets. Some (set_of (concat sets))) v e in
    let g : Every (λ xs. IsCount (count_of b) xs × Every (HasShape (member_of b)) xs) s.0 =
    each-values as_set (HasShape b) (λ xs. IsCount (count_of b) xs × Every (HasShape (member_of b)) xs) (λ w xs p i. set-shaped b w xs p i) rs s.0 h s.1 in
    let m : length s.0 ≡ n = each-length as_set rs s.0 s.1 ∙ l in
    let z = sym (list_of-data_of (canon (concat s.0))) in (
      data_of (canon (concat s.0)),
      sym (same_Some (set_of (concat s.0)) v s.2),
      subst (IsCount (loop_count (count_of a) (count_of b))) z (
        omega arith,
        λ q. omega (
          arith,
          q,
          length_canon (canon (concat s.0)),
          length_canon (concat s.0),
          joined-most (count_of a).high (count_of b).high s.0 (omega (arith, q)) (λ p. omega (arith, m, u p)) (Every-impl (λ xs. IsCount (count_of b) xs × Every (HasShape (member_of b)) xs) (λ xs. (count_of b).high < 2 ^ 128 - 1 → length xs ≤ (count_of b).high) (λ xs p. p.0.1) s.0 g),
        ),
      ),
      subst (Every (HasShape (member_of b))) z
          (Every-canon (HasShape (member_of b)) (concat s.0)
          (Every-lists (HasShape (member_of b)) s.0 (Every-impl (λ xs. IsCount (count_of b) xs × Every (HasShape (member_of b)) xs) (λ xs. Every (HasShape (member_of b)) xs) (λ xs p. p.1) s.0 g))),
    )

-- the sum of the bodies' numbers
sum-shaped : (a b : Bounds) (ms rs : List Datum) (v : Datum) → IsCount (count_of a) ms → length rs ≡ length ms → Every (HasShape b) rs → sum_of rs ≡ Some v → HasShape (number (loop_sum (count_of a) (interval_of b))) v
sum-shaped a b ms rs v u l h e =
    let s = then-is (each as_natural rs) (λ ns. in_range (sum ns)) v e in
    let g : Every (IsIn (interval_of b)) s.0 = each-values as_natural (HasShape b) (IsIn (interval_of b)) (λ w n p i. interval-is b n (subst (HasShape b) (natural-is w n i) p)) rs s.0 h s.1 in
    let m : length s.0 ≡ length ms = each-length as_natural rs s.0 s.1 ∙ l in
    let k : v ≡ natural (sum s.0) = sym ((cond_some (nat_lt (sum s.0) (2 ^ 128)) (natural (sum s.0)) v s.2).1) in (
      sum s.0,
      k,
      (
        omega (arith, sum-least (interval_of b).low s.0 (Every-impl (IsIn (interval_of b)) (λ n. (interval_of b).low ≤ n) (λ n i. i.0) s.0 g), mul-le (count_of a).low (interval_of b).low (length s.0) (interval_of b).low (omega (arith, m, u.0, length_canon ms)) (omega arith)),
        λ q. omega (
          arith,
          q,
          sum-most (count_of a).high (interval_of b).high s.0 (omega (arith, q)) (λ p. omega (arith, m, u.1 p)) (Every-impl (IsIn (interval_of b)) (λ n. (interval_of b).high < 2 ^ 128 - 1 → n ≤ (interval_of b).high) (λ n i. i.1) s.0 g),
        ),
      ),
    )

-- The value of a node has the shape that those of its parts tell.
pub form-shaped : (V : Outcomes) (vals : List Datum) (gs : Ranges) → Tells gs.positions V → VariablesFit gs vals → (f : Form) (ps : List Part) (bs : List Bounds) → length bs ≡ length ps → AllShaped f ps bs → (v : Datum) → form_value V vals f ps ≡ Some v →
    HasShape (form_bounds gs f bs) v
form-shaped V vals gs tl vf (Form.var i) ps bs l h v e = variable-shaped (reverse gs.variables) vals i v vf e
form-shaped V vals gs tl vf (Form.global n) ps bs l h v e = position-shaped (at_position gs.positions n) v (λ b k. tl.0 n b v k e)
form-shaped V vals gs tl vf Form.bind ps bs l h v e =
    let a = then-is (worth ps 0 []) (λ w. worth ps 1 (w ∷ [])) v e in
    (subst (λ o. Every (λ new. (v : Datum) → worth ps 1 new ≡ Some v → HasShape (entry_at bs 1) v) (map (λ w. w ∷ []) (option_to_list o))) a.1 (h 1)).0 v a.2
form-shaped V vals gs tl vf Form.choose ps bs l h v e =
    let a = then-is (test_value ps) (λ b. if b then worth ps 1 [] else worth ps 2 []) v e in
    taken a.0 (subst (λ o. Every (λ new. (v : Datum) → worth ps 1 new ≡ Some v → HasShape (entry_at bs 1) v) (branch true o)) a.1 (h 1)) (subst (λ o. Every (λ new. (v : Datum) → worth ps 2 new ≡ Some v → HasShape (entry_at bs 2) v) (branch false o)) a.1 (h 2)) a.2
  where
    taken : (b : Bool) → Every (λ new. (v : Datum) → worth ps 1 new ≡ Some v → HasShape (entry_at bs 1) v) (branch true (Some b)) → Every (λ new. (v : Datum) → worth ps 2 new ≡ Some v → HasShape (entry_at bs 2) v) (branch false (Some b)) →
        (if b then worth ps 1 [] else worth ps 2 []) ≡ Some v → HasShape (join_bounds (entry_at bs 1) (entry_at bs 2)) v
    taken true x y k = joined-first (entry_at bs 1) (entry_at bs 2) v (x.0 v k)
    taken false x y k = joined-second (entry_at bs 1) (entry_at bs 2) v (y.0 v k)
form-shaped V vals gs tl vf Form.default ps bs l h v e = from (worth ps 0 []) refl (h 1) e
  where
    from : (o : Option Datum) → worth ps 0 [] ≡ o → Every (λ new. (v : Datum) → worth ps 1 new ≡ Some v → HasShape (entry_at bs 1) v) (otherwise o) → or_else o (worth ps 1 []) ≡ Some v → HasShape (join_bounds (entry_at bs 0) (entry_at bs 1)) v
    from None i y k = joined-second (entry_at bs 0) (entry_at bs 1) v (y.0 v k)
    from (Some w) i y k = joined-first (entry_at bs 0) (entry_at bs 1) v ((h 0).0 v (i ∙ k))
form-shaped V vals gs tl vf Form.big_union ps bs l h v e =
    let p = then-is (loop_values ps) union_all v e in
    let r = loop-shaped ps bs p.0 (h 0) (h 1) p.1 in
    union-all-shaped (entry_at bs 0) (entry_at bs 1) (length r.0) p.0 v r.2.1 r.1 r.3 p.2
form-shaped V vals gs tl vf Form.sum ps bs l h v e =
    let p = then-is (loop_values ps) sum_of v e in
    let r = loop-shaped ps bs p.0 (h 0) (h 1) p.1 in
    sum-shaped (entry_at bs 0) (entry_at bs 1) r.0 p.0 v r.2 r.1 r.3 p.2
form-shaped V vals gs tl vf (Form.tab rank) ps bs l h v e =
    let a = then-is (bounds_value rank ps) (λ ds. each (λ at. worth ps rank (push_index at [])) (indices ds) >>= array_of ds) v e in
    let b = then-is (each (λ at. worth ps rank (push_index at [])) (indices a.0)) (array_of a.0) v a.2 in
    let n = then-is (each here (take rank ps)) (each as_natural) a.0 a.1 in
    let r = array_of-is a.0 b.0 v b.2 in
    let m = first-here rank ps bs n.0 l (λ i w q k. (rw (lt-ltb i rank q) at (h i)).0 w k) n.1 in
    let cells : Every (λ at. (w : Datum) → worth ps rank (push_index at []) ≡ Some w → HasShape (entry_at bs rank) w) (indices a.0) =
    Every-map (λ new. (w : Datum) → worth ps rank new ≡ Some w → HasShape (entry_at bs rank) w) (λ at. push_index at []) (indices a.0)
    (subst (λ o. Every (λ new. (w : Datum) → worth ps rank new ≡ Some w → HasShape (entry_at bs rank) w) (map (λ at. push_index at []) (indices_of o))) a.1 (rw (le-ltb rank rank (omega arith)) at (h rank))) in (
      a.0,
      data_of b.0,
      r.0,
      numbers-in (take rank bs) n.0 a.0 m n.2,
      subst (Every (HasShape (entry_at bs rank))) (sym (list_of-data_of b.0))
          (each-values (λ at. worth ps rank (push_index at [])) (λ at. (w : Datum) → worth ps rank (push_index at []) ≡ Some w → HasShape (entry_at bs rank) w) (HasShape (entry_at bs rank)) (λ at w u i. u w i) (indices a.0) b.0 cells b.1),
    )
form-shaped V vals gs tl vf (Form.strict s) ps bs l h v e =
    let a = then-is (each here ps) (strict_value s) v e in
    strict-shaped s bs a.0 v (here-shaped ps bs a.0 l (λ i w k. (h i).0 w k) a.1) a.2
