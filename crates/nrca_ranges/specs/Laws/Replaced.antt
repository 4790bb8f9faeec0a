-- What is known inside of part i of a node does not depend on that part, nor on those behind it (`ranges-put`).
use Rattle.std.proofs.Common.{◌≡◌, ℕ, zero, suc, ◌+◌, ◌≤◌, List, [], ◌∷◌, ◌++◌, take, refl, ap, ◌∙◌, arith}
use Rattle.nrca_term.specs.Term.{Term, Parts, node, none, part, Form}
use Rattle.nrca_term.specs.Places.{put_at, on_child}
use Rattle.nrca_term.specs.Facts.{Context, enter_facts}
use Rattle.nrca_rule_laws.specs.Laws.Search.{enter-on}
use Rattle.nrca_ranges.specs.Bounds.{Bounds, Ranges}
use Rattle.nrca_ranges.specs.Transfer.{inside, bounds, all_bounds, enter_ranges}

-- the shapes of the parts before the one of that number, in nodes that give them the same contexts
before-on : (gs : Ranges) (c : Context) (f : Form) (ps qs rs : Parts) (n i k : ℕ) (bs : List Bounds) (g : Term → Term) → ((m : ℕ) → m ≤ n + k → enter_facts c (node f ps) m ≡ enter_facts c (node f qs) m) → i ≤ k →
    take i (all_bounds gs c (node f ps) n bs (on_child rs k g)) ≡ take i (all_bounds gs c (node f qs) n bs rs)
before-on gs c f ps qs none n i k bs g h l = refl
before-on gs c f ps qs (part w u rs) n zero k bs g h l = refl
before-on gs c f ps qs (part w u rs) n (suc i) zero bs g h l = absurd (omega (arith, l))
before-on gs c f ps qs (part w u rs) n (suc i) (suc k) bs g h l =
    let e : enter_facts c (node f ps) n ≡ enter_facts c (node f qs) n = h n (omega arith) in
    ap (λ x. bounds (inside gs f n bs) x u ∷ take i (all_bounds gs c (node f ps) (suc n) (bs ++ bounds (inside gs f n bs) x u ∷ []) (on_child rs k g))) e
    ∙ ap (λ l. bounds (inside gs f n bs) (enter_facts c (node f qs) n) u ∷ l)
    (before-on gs c f ps qs rs (suc n) i k (bs ++ bounds (inside gs f n bs) (enter_facts c (node f qs) n) u ∷ []) g (λ m q. h m (omega (arith, q))) (omega (arith, l)))

pub ranges-on : (gs : Ranges) (c : Context) (f : Form) (ps : Parts) (i : ℕ) (g : Term → Term) → enter_ranges gs c (node f (on_child ps i g)) i ≡ enter_ranges gs c (node f ps) i
ranges-on gs c f ps i g = ap (inside gs f i) (before-on gs c f (on_child ps i g) ps ps 0 i i [] g (λ m q. enter-on c f ps m i g (omega (arith, q))) (omega arith))

pub ranges-put : (gs : Ranges) (c : Context) (t : Term) (i : ℕ) (q : Term) → enter_ranges gs c (put_at t (i ∷ []) q) i ≡ enter_ranges gs c t i
ranges-put gs c (node f ps) i q = ranges-on gs c f ps i (λ s. q)
