-- A term keeps its value where a part at a place is replaced by one with the same value at each list of values that comes there.
use Rattle.std.proofs.Common.{◌≡◌, ℕ, zero, suc, false, nat_eq, List, [], ◌∷◌, ◌++◌, length, map, Option, Some, None, refl, sym, ap, ◌∙◌, subst, arith, if◌then◌else◌, inl, inr}
use Rattle.std.proofs.lemmas.Bool.{cases_Bool, eqb-true}
use Rattle.aql_value.specs.Datum.{Datum}
use Rattle.aql_value.specs.Lists.{Every}
use Rattle.aql_value.specs.Laws.Lists.{Every-all, Every-impl, Every-concat}
use Rattle.aql_value.specs.Partial.{◌>>=◌, concat}
use Rattle.nrca_term.specs.Term.{Term, Parts, node, none, part, child_of}
use Rattle.nrca_term.specs.Meaning.{Outcomes, worth, cden, part_values}
use Rattle.nrca_term.specs.Places.{entry_values, place_of, reach, reach_each, on_child, put_at}
use Rattle.nrca_term.specs.Laws.Agreeing.{form_value-agree}

pub length-on_child : (V : Outcomes) (around : List Datum) (ps : Parts) (i : ℕ) (g : Term → Term) → length (part_values V around ps) ≡ length (part_values V around (on_child ps i g))
length-on_child V around none i g = refl
length-on_child V around (part k t ps) zero g = refl
length-on_child V around (part k t ps) (suc i) g = ap suc (length-on_child V around ps i g)

pub other_part : (V : Outcomes) (around : List Datum) (ps : Parts) (i j : ℕ) (g : Term → Term) → nat_eq j i ≡ false → (new : List Datum) →
    worth (part_values V around ps) j new ≡ worth (part_values V around (on_child ps i g)) j new
other_part V around none i j g e new = refl
other_part V around (part k t ps) zero zero g e new = cc
other_part V around (part k t ps) zero (suc j) g e new = refl
other_part V around (part k t ps) (suc i) zero g e new = refl
other_part V around (part k t ps) (suc i) (suc j) g e new = other_part V around ps i j g (grind arith) new

pub this_part : (V : Outcomes) (around : List Datum) (ps : Parts) (i : ℕ) (g : Term → Term) (new : List Datum) →
    ((u : Term) → child_of ps i ≡ Some u → cden V (new ++ around) u ≡ cden V (new ++ around) (g u)) →
    worth (part_values V around ps) i new ≡ worth (part_values V around (on_child ps i g)) i new
this_part V around none i g new h = refl
this_part V around (part k t ps) zero g new h = ap (λ o. if nat_eq (length new) k then o else None) (h t refl)
this_part V around (part k t ps) (suc i) g new h = this_part V around ps i g new h

-- a term whose subterm at a path is replaced
pub cden-put_at : (V : Outcomes) (path : List ℕ) (around : List Datum) (t s u : Term) → place_of t path ≡ Some s →
    Every (λ vals. cden V vals s ≡ cden V vals u) (reach V around t path) → cden V around t ≡ cden V around (put_at t path u)
cden-put_at V [] around t s u e h = let same : t ≡ s = cc in ap (cden V around) same ∙ h.0
cden-put_at V (i ∷ path) around (node f ps) s u e h =
    form_value-agree V around f (part_values V around ps) (part_values V around (on_child ps i (λ r. put_at r path u)))
    (length-on_child V around ps i (λ r. put_at r path u))
    (λ j. elim (cases_Bool (nat_eq j i)) [
      | inl same ↦ subst (λ n. Every (λ new. worth (part_values V around ps) n new ≡ worth (part_values V around (on_child ps i (λ r. put_at r path u))) n new) (entry_values f (part_values V around ps) n))
          (sym (eqb-true j i same)) (entering (λ a r. cden-put_at V path a r s u) (child_of ps i) refl e h)
      | inr other ↦ Every-all _ (other_part V around ps i j (λ r. put_at r path u) other) (entry_values f (part_values V around ps) j)
    ])
  where
    entering : ((a : List Datum) (r : Term) → place_of r path ≡ Some s → Every (λ vals. cden V vals s ≡ cden V vals u) (reach V a r path) → cden V a r ≡ cden V a (put_at r path u)) →
        (o : Option Term) → child_of ps i ≡ o → (o >>= λ r. place_of r path) ≡ Some s →
        Every (λ vals. cden V vals s ≡ cden V vals u) (reach_each o (λ r. concat (map (λ new. reach V (new ++ around) r path) (entry_values f (part_values V around ps) i)))) →
        Every (λ new. worth (part_values V around ps) i new ≡ worth (part_values V around (on_child ps i (λ r. put_at r path u))) i new) (entry_values f (part_values V around ps) i)
    entering ih None is at k = cc
    entering ih (Some r) is at k =
        Every-impl _ _
        (λ new here. this_part V around ps i (λ q. put_at q path u) new
        (λ q found. let same : q ≡ r = cc in subst (λ x. cden V (new ++ around) x ≡ cden V (new ++ around) (put_at x path u)) (sym same) (ih (new ++ around) r at here)))
        (entry_values f (part_values V around ps) i)
        (Every-concat (λ vals. cden V vals s ≡ cden V vals u) (λ new. reach V (new ++ around) r path) (entry_values f (part_values V around ps) i) k)
