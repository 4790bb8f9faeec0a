-- An equation taken at the roots of its sides.
use Rattle.std.proofs.Common.{ℕ, ◌≡◌, List, [], ◌∷◌, ◌++◌, length, refl, sym, ◌∙◌, subst, arith, inl, inr, Result, Ok, Err, Vec}
use Rattle.std.specs.Global.{Global}
use Rattle.aql_types.specs.declared.fault.UnifyFault.{UnifyFault}
use Rattle.aql_types.specs.declared.fault.UnifyFault.TheVariants as faults
use Rattle.aql_types.specs.declared.node.Equation.{Equation}
use Rattle.aql_types.specs.Shapes.{Valuation}
use Rattle.aql_types.specs.Forms.{Form}
use Rattle.aql_types.specs.Valuations.{Holds, Equal, AreIn, IsOrdered}
use Rattle.aql_types.specs.Steps.{Keeps, Sides, Leads, Steps, Stepped, Taken}
use Rattle.aql_types.proofs.Joining.{equal_last, last_equal}

-- What holds of both nodes holds of both sides.
pub sides_all : (P : ℕ → Type 0) (e : Equation) (a b : ℕ) → Sides e a b → P a → P b → P e.left × P e.right
sides_all P e a b (inl q) h k = subst (λ x. P x.left × P x.right) (sym q) (h, k)
sides_all P e a b (inr q) h k = subst (λ x. P x.left × P x.right) (sym q) (k, h)

-- The same types solve both equations.
abbrev Same : List Form → Equation → Equation → Type 0
Same fs e f = (v : Valuation) → Holds v fs → (v e.left ≡ v e.right → v f.left ≡ v f.right) × (v f.left ≡ v f.right → v e.left ≡ v e.right)

same_sides : (v : Valuation) (f : Equation) (a b : ℕ) → Sides f a b → (v a ≡ v b → v f.left ≡ v f.right) × (v f.left ≡ v f.right → v a ≡ v b)
same_sides v f a b (inl q) = subst (λ x. (v a ≡ v b → v x.left ≡ v x.right) × (v x.left ≡ v x.right → v a ≡ v b)) (sym q) (λ h. h, λ h. h)
same_sides v f a b (inr q) = subst (λ x. (v a ≡ v b → v x.left ≡ v x.right) × (v x.left ≡ v x.right → v a ≡ v b)) (sym q) (λ h. sym h, λ h. sym h)

-- two nodes of the types of an equation's sides
pub same_roots : (fs : List Form) (e f : Equation) (a b : ℕ) → ((v : Valuation) → Holds v fs → (v e.left ≡ v a) × (v e.right ≡ v b)) → Sides f a b → Same fs e f
same_roots fs e f a b h s v k =
    let t = h v k in let m = same_sides v f a b s in
    (λ q. m.0 (sym t.0 ∙ q ∙ t.1), λ q. t.0 ∙ m.1 q ∙ sym t.1)

pub stepped : (r : Result (Vec Equation Global) UnifyFault) (a b c : List Form) (e f : Equation) (w : List Equation) → Keeps a b → Same b e f → Stepped r b c f w → Stepped r a c e w
stepped (Ok x) a b c e f w k s h =
    let l = h.leads in
    record {
      leads = record {
        long = l.long ∙ k.long;
        ordered = l.ordered;
        inside = l.inside;
        on = λ v p q. let m = last_equal v w e q in let n = k.on v p in l.on v n (equal_last v w f m.0 ((s v n).0 m.1));
        back = λ v p q. let m = l.back v p q in let n = last_equal v w f m.1 in (k.back v m.0, equal_last v w e n.0 ((s v m.0).1 n.1));
        names = λ u v p q z. let m = last_equal v w e q in let n = k.on v p in
            l.names u v n (equal_last v w f m.0 ((s v n).0 m.1)) (k.names u v p z);
      };
      potential_falls = omega (arith, h.potential_falls, k.potential_kept);
    }
stepped (Err faults.Clash) a b c e f w k s h = λ v p q. let n = k.on v p in h v n ((s v n).0 q)
stepped (Err faults.Memory) a b c e f w k s h = tt

-- One root: nothing is left of the equation.
pub met_already : (a b : List Form) (e : Equation) (i : ℕ) (w : List Equation) → IsOrdered a → Keeps a b → ((v : Valuation) → Holds v b → (v e.left ≡ v i) × (v e.right ≡ v i)) → AreIn (length a) w → Steps a b e w w
met_already a b e i w d k s o = record {
  leads = record {
    long = k.long;
    ordered = k.ordered d;
    inside = subst (λ n. AreIn n w) (sym k.long) o;
    on = λ v p q. let m = last_equal v w e q in (k.on v p, m.0);
    back = λ v p q. let t = s v p in (k.back v p, equal_last v w e q (t.0 ∙ sym t.1));
    names = λ u v p q z. k.names u v p z;
  };
  potential_falls = omega (arith, k.potential_kept);
}

pub failed : (f : UnifyFault) (a b c d : List Form) (e : Equation) (w x y : List Equation) → Leads a b w y → y ≡ x ++ e ∷ [] → Stepped (Err f) b c e x → Taken (Err f) a d w
failed faults.Clash a b c d e w x y l s h = λ v p q. let m = l.on v p q in let n = last_equal v x e (subst (Equal v) s m.1) in h v m.0 n.1
failed faults.Memory a b c d e w x y l s h = tt

pub leads_on : {a b c : List Form} {e : Equation} {w x y z : List Equation} → Leads a b w y → y ≡ x ++ e ∷ [] → Steps b c e x z → Leads a c w z
leads_on {a} {b} {c} {e} {w} {x} {y} {z} l s h =
    let g = h.leads in
    record {
      long = g.long ∙ l.long;
      ordered = g.ordered;
      inside = g.inside;
      on = λ v p q. let m = l.on v p q in g.on v m.0 (subst (Equal v) s m.1);
      back = λ v p q. let m = g.back v p q in l.back v m.0 (subst (Equal v) (sym s) m.1);
      names = λ u v p q z. let m = l.on v p q in g.names u v m.0 (subst (Equal v) s m.1) (l.names u v p q z);
    }

pub leads_none : (a : List Form) (w : List Equation) → IsOrdered a → AreIn (length a) w → Leads a a w w
leads_none a w o i = record { long = refl; ordered = o; inside = i; on = λ v p q. (p, q); back = λ v p q. (p, q); names = λ u v p q z. z }
