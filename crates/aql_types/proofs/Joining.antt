-- Two roots made one have the same solutions as their equation.
use Rattle.std.proofs.Common.{ℕ, zero, suc, ◌≡◌, ◌+◌, ◌<◌, List, [], ◌∷◌, ◌++◌, length, set, refl, sym, ap, ◌∙◌, subst, arith, length-set, length-append, get_or-set_same, get_or-set_other, true, false, take, get_or, add-one}
use Rattle.aql_value.specs.Lists.{Every}
use Rattle.aql_ty.specs.Types.{Ty, Subst}
use Rattle.aql_types.specs.declared.node.Equation.{Equation}
use Rattle.aql_types.specs.Shapes.{Valuation, parts}
use Rattle.aql_types.specs.Forms.{Form, at}
use Rattle.aql_types.specs.Forms as form
use Rattle.aql_types.specs.Valuations.{Says, Holds, Equal, Points, IsOrdered, AreIn, Names, Named, IsRoot}
use Rattle.aql_types.specs.Steps.{potential, potential_of, is_var, alike_forms, form_parts, pair_parts, Steps}
use Rattle.aql_types.specs.Laws.Shapes.{whole_alike, alike_whole, alike_length}
use Rattle.aql_types.proofs.Keeping.{held, ordered_put, holds_put, holds_before, potential_put}

-- Equations at the end of a list.

pub equal_append : (v : Valuation) (w x : List Equation) → Equal v w → Equal v x → Equal v (w ++ x)
equal_append v [] x h k = k
equal_append v (e ∷ w) x h k = (h.0, equal_append v w x h.1 k)

pub append_equal : (v : Valuation) (w x : List Equation) → Equal v (w ++ x) → Equal v w × Equal v x
append_equal v [] x h = (tt, h)
append_equal v (e ∷ w) x h = let k = append_equal v w x h.1 in ((h.0, k.0), k.1)

pub equal_last : (v : Valuation) (w : List Equation) (e : Equation) → Equal v w → v e.left ≡ v e.right → Equal v (w ++ e ∷ [])
equal_last v w e h k = equal_append v w (e ∷ []) h (k, tt)

pub last_equal : (v : Valuation) (w : List Equation) (e : Equation) → Equal v (w ++ e ∷ []) → Equal v w × (v e.left ≡ v e.right)
last_equal v w e h = let k = append_equal v w (e ∷ []) h in (k.0, k.1.0)

pub in_append : (n : ℕ) (w x : List Equation) → AreIn n w → AreIn n x → AreIn n (w ++ x)
in_append n [] x h k = k
in_append n (e ∷ w) x h k = (h.0, h.1, in_append n w x h.2 k)

pub append_in : (n : ℕ) (w x : List Equation) → AreIn n (w ++ x) → AreIn n w × AreIn n x
append_in n [] x h = (tt, h)
append_in n (e ∷ w) x h = let k = append_in n w x h.2 in ((h.0, h.1, k.0), k.1)

pub last_in : (n : ℕ) (w : List Equation) (e : Equation) → AreIn n (w ++ e ∷ []) → AreIn n w × (e.left < n) × (e.right < n)
last_in n w e h = let k = append_in n w (e ∷ []) h in (k.0, k.1.0, k.1.1)

pub paired_in : (n : ℕ) (ps qs : List ℕ) → Every (λ p. p < n) ps → Every (λ p. p < n) qs → AreIn n (pair_parts ps qs)
paired_in n [] qs h k = tt
paired_in n (p ∷ ps) [] h k = tt
paired_in n (p ∷ ps) (q ∷ qs) h k = (h.0, k.0, paired_in n ps qs h.1 k.1)

pub paired_length : (ps qs : List ℕ) → length ps ≡ length qs → length (pair_parts ps qs) ≡ length ps
paired_length [] qs e = refl
paired_length (p ∷ ps) [] e = let bad : ⊥ = omega (arith, e) in absurd bad
paired_length (p ∷ ps) (q ∷ qs) e = omega (arith, paired_length ps qs (omega (arith, e)))

pub paired_next : (ps qs : List ℕ) (i : ℕ) → i < length ps → i < length qs → pair_parts (take (i + 1) ps) (take (i + 1) qs) ≡ pair_parts (take i ps) (take i qs) ++ record { left = get_or ps i 0; right = get_or qs i 0 } ∷ []
paired_next ps qs i h k = rw add-one (go ps qs i h k)
  where
    go : (ps qs : List ℕ) (i : ℕ) → i < length ps → i < length qs → pair_parts (take (suc i) ps) (take (suc i) qs) ≡ pair_parts (take i ps) (take i qs) ++ record { left = get_or ps i 0; right = get_or qs i 0 } ∷ []
    go [] qs i h k = let bad : ⊥ = omega (arith, h) in absurd bad
    go (p ∷ ps) [] i h k = let bad : ⊥ = omega (arith, k) in absurd bad
    go (p ∷ ps) (q ∷ qs) zero h k = refl
    go (p ∷ ps) (q ∷ qs) (suc i) h k = ap (λ w. record { left = p; right = q } ∷ w) (go ps qs i (omega (arith, h)) (omega (arith, k)))

-- The graph after two roots were made one.
abbrev pub united : List Form → ℕ → ℕ → Form → List Form
united fs low high k = set (set fs low k) high (form.link low)

united_on : (v : Valuation) (fs : List Form) (low high : ℕ) (k : Form) → low < high → high < length fs → Holds v fs → v low ≡ v high → Says v k (v low) → Holds v (united fs low high k)
united_on v fs low high k lt inn h e s =
    holds_put v (set fs low k) high (form.link low) (omega (arith, inn, length-set fs low k)) (sym e) (holds_put v fs low k (omega arith) s h)

united_says : (v : Valuation) (fs : List Form) (low high : ℕ) (k : Form) → low < high → high < length fs → Holds v (united fs low high k) → (v low ≡ v high) × Says v k (v low)
united_says v fs low high k lt inn h =
    let ne : low ≡ high → ⊥ = λ q. omega arith in
    let e : v high ≡ v low = subst (λ x. Says v x (v high)) (get_or-set_same (set fs low k) high (form.link low) (form.var 0) (omega (arith, inn, length-set fs low k))) (h high) in
    (sym e, subst (λ x. Says v x (v low)) (get_or-set_other (set fs low k) high low (form.link low) (form.var 0) ne ∙ get_or-set_same fs low k (form.var 0) (omega arith)) (h low))

united_back : (v : Valuation) (fs : List Form) (low high : ℕ) (k : Form) → low < high → high < length fs → Holds v (united fs low high k) → Says v (at fs low) (v low) → Says v (at fs high) (v high) → Holds v fs
united_back v fs low high k lt inn h s t =
    let ne : high ≡ low → ⊥ = λ q. omega arith in
    holds_before v fs low k s
    (holds_before v (set fs low k) high (form.link low) (subst (λ x. Says v x (v high)) (sym (get_or-set_other fs low high k (form.var 0) ne)) t) h)

united_names : (u : Subst) (v : Valuation) (fs : List Form) (low high : ℕ) (k : Form) → low < high → high < length fs → Named u v fs → Names u k (v low) → Named u v (united fs low high k)
united_names u v fs low high k lt inn h s =
    held (λ m x. Names u x (v m)) (set fs low k) high (form.link low) (omega (arith, inn, length-set fs low k)) tt (held (λ m x. Names u x (v m)) fs low k (omega arith) s h)

united_long : (fs : List Form) (low high : ℕ) (k : Form) → length (united fs low high k) ≡ length fs
united_long fs low high k = length-set (set fs low k) high (form.link low) ∙ length-set fs low k

united_ordered : (fs : List Form) (low high : ℕ) (k : Form) → low < high → high < length fs → Points k low (length fs) → IsOrdered fs → IsOrdered (united fs low high k)
united_ordered fs low high k lt inn p o =
    ordered_put (set fs low k) high (form.link low) (omega (arith, inn, length-set fs low k)) lt (ordered_put fs low k (omega arith) (p) o)

united_potential : (fs : List Form) (low high : ℕ) (k : Form) → low < high → high < length fs → potential (united fs low high k) + potential_of (at fs low) + potential_of (at fs high) ≡ potential fs + potential_of k
united_potential fs low high k lt inn =
    let ne : high ≡ low → ⊥ = λ e. omega arith in
    let a = potential_put fs low k (omega arith) in
    let b = potential_put (set fs low k) high (form.link low) (omega (arith, inn, length-set fs low k)) in
    let same : potential_of (at (set fs low k) high) ≡ potential_of (at fs high) = ap potential_of (get_or-set_other fs low high k (form.var 0) ne) in
    omega (arith, a, b, same)

-- What the one form and the equations x say is what both forms say of one type.
pub record Serves (f g k : Form) (x : List Equation) : Type 0 where
  pub on : (v : Valuation) (t : Ty) → Says v f t → Says v g t → Says v k t × Equal v x
  pub back : (v : Valuation) (t : Ty) → Says v k t → Equal v x → Says v f t × Says v g t
  pub names : (u : Subst) (t : Ty) → Names u f t → Names u g t → Names u k t
  pub points : (i j n : ℕ) → Points f i n → Points g j n → Points k i n × AreIn n x
  pub potential_falls : potential_of k + length x < potential_of f + potential_of g

pub joins : (fs : List Form) (e : Equation) (k : Form) (w x : List Equation) → e.left < e.right → e.right < length fs → IsOrdered fs → AreIn (length fs) w → Serves (at fs e.left) (at fs e.right) k x → Steps fs (united fs e.left e.right k) e w (w ++ x)
joins fs e k w x lt inn o i s =
    let low = e.left in let high = e.right in
    let p = s.points low high (length fs) (o low) (o high) in
    record {
      leads = record {
        long = united_long fs low high k;
        ordered = united_ordered fs low high k lt inn p.0 o;
        inside = subst (λ n. AreIn n (w ++ x)) (sym (united_long fs low high k)) (in_append (length fs) w x i p.1);
        on = λ v h q.
            let l = last_equal v w e q in
            let m = s.on v (v low) (h low) (subst (Says v (at fs high)) (sym l.1) (h high)) in
            (united_on v fs low high k lt inn h l.1 m.0, equal_append v w x l.0 m.1);
        back = λ v h q.
            let g = united_says v fs low high k lt inn h in
            let l = append_equal v w x q in
            let m = s.back v (v low) g.1 l.1 in
            (united_back v fs low high k lt inn h m.0 (subst (Says v (at fs high)) g.0 m.1), equal_last v w e l.0 g.0);
        names = λ u v h q n.
            let l = last_equal v w e q in
            united_names u v fs low high k lt inn n (s.names u (v low) (n low) (subst (Names u (at fs high)) (sym l.1) (n high)));
      };
      potential_falls = omega (arith, united_potential fs low high k lt inn, s.potential_falls, length-append w x);
    }

-- The three ways of joining.

point_anywhere : (f : Form) (i j n : ℕ) → IsRoot f → Points f i n → Points f j n
point_anywhere (form.var z) i j n r h = tt
point_anywhere (form.made s) i j n r h = h
point_anywhere (form.link k) i j n r h = absurd r

-- a variable below: the other form serves both
pub serves_high : (f g : Form) → is_var f ≡ true → IsRoot g → Serves f g g []
serves_high (form.var z) g e r = record {
  on = λ v t h k. (k, tt);
  back = λ v t h q. (tt, h);
  names = λ u t h k. k;
  points = λ i j n h k. (point_anywhere g j i n r k, tt);
  potential_falls = omega arith;
}
serves_high (form.made s) g e r = let bad : ⊥ = cc in absurd bad
serves_high (form.link j) g e r = let bad : ⊥ = cc in absurd bad

-- a variable above
pub serves_low : (f g : Form) → is_var g ≡ true → Serves f g f []
serves_low f (form.var z) e = record {
  on = λ v t h k. (h, tt);
  back = λ v t h q. (h, tt);
  names = λ u t h k. h;
  points = λ i j n h k. (h, tt);
  potential_falls = omega arith;
}
serves_low f (form.made s) e = let bad : ⊥ = cc in absurd bad
serves_low f (form.link j) e = let bad : ⊥ = cc in absurd bad

-- two types of one form: their parts are to be equal
pub serves_alike : (f g : Form) → alike_forms f g ≡ true → Serves f g f (pair_parts (form_parts f) (form_parts g))
serves_alike (form.made s) (form.made t) e =
    let n = alike_length s t e in
    record {
      on = λ v a h k. (h, (whole_alike v s t (sym h ∙ k)).1);
      back = λ v a h q. (h, h ∙ alike_whole v s t e q);
      names = λ u a h k. tt;
      points = λ i j m h k. (h, paired_in m (parts s) (parts t) h k);
      potential_falls = omega (arith, paired_length (parts s) (parts t) n, n);
    }
serves_alike f g e = let bad : ⊥ = cc in absurd bad

-- two types of different forms
pub differs : (f g : Form) → is_var f ≡ false → is_var g ≡ false → IsRoot f → IsRoot g → alike_forms f g ≡ false → (v : Valuation) (t : Ty) → Says v f t → Says v g t → ⊥
differs (form.made s) (form.made t) a b r q e v x h k = let m = whole_alike v s t (sym h ∙ k) in let bad : true ≡ false = sym m.0 ∙ e in cc
differs (form.var z) g a b r q e v x h k = cc
differs (form.link j) g a b r q e v x h k = r
differs (form.made s) (form.var z) a b r q e v x h k = cc
differs (form.made s) (form.link j) a b r q e v x h k = q
