-- What holds after each step of the walk: for every substitution that solves what is asked, and for some extension of a given one.
use Rattle.std.proofs.Common.{ℕ, ◌≡◌, ◌+◌, ◌-◌, ◌<◌, ◌≤◌, Bool, true, false, Option, Some, None, refl, sym, ◌∙◌, arith, subst, if◌then◌else◌}
use Rattle.std.proofs.Math.Dec.{ltb}
use Rattle.std.proofs.lemmas.Bool.{lt-ltb, le-ltb}
use Rattle.aql_ty.specs.Types.{Ty, Tys, no_type, type, Subst, apply, append, IsWithin}
use Rattle.aql_types.specs.Unifiers.{AllUnify, AllWithin, SidesWithin}
use Rattle.aql_infer_steps.specs.Constraints.{State, Made, Making, pure, after, raise_variables, fresh_variables, fresh, equate, within, guard}

-- u solves the equations of a state, and the types used are within the limits
pub record Meets (u : Subst) (s : State) : Type 0 where
  pub unify : AllUnify u s.eqs
  pub within : AllWithin u s.uses

-- and so are both sides of each equation
pub record Alive (u : Subst) (s : State) : Type 0 where
  pub unify : AllUnify u s.eqs
  pub within : AllWithin u s.uses
  pub sides : SidesWithin u s.eqs

-- one type used more
pub more_within : (u : Subst) (ts : Tys) (t : Ty) → AllWithin u ts → IsWithin (apply u t) → AllWithin u (append ts (type t no_type))
more_within u no_type t h k = (k, tt)
more_within u (type s ts) t h k = (h.0, more_within u ts t h.1 k)

pub less_within : (u : Subst) (ts : Tys) (t : Ty) → AllWithin u (append ts (type t no_type)) → AllWithin u ts × IsWithin (apply u t)
less_within u no_type t h = (tt, h.0)
less_within u (type s ts) t h = let k = less_within u ts t h.1 in ((h.0, k.0), k.1)

-- Whoever does what is asked after a step did what was asked before it.

abbrev pub SoundIn : {A : Type 0} → State → Subst → (A → Type 0) → Option (Made A) → Type 0
SoundIn s u P None = Unit {0}
SoundIn s u P (Some m) = Meets u m.state → Meets u s × P m.result

pub record Sound {A : Type 0} (s : State) (u : Subst) (P : A → Type 0) (o : Option (Made A)) : Type 0 where
  pub holds : SoundIn s u P o

pub sound_after : {A B : Type 0} {s : State} {u : Subst} {P : A → Type 0} {Q : B → Type 0} {o : Option (Made A)} {f : A → Making B} →
    Sound s u P o → ((a : A) (r : State) → Sound r u (λ b. P a → Q b) (f a r)) → Sound s u Q (after o f)
unfolding after
sound_after {A} {B} {s} {u} {P} {Q} {o} {f} h t = record { holds = go o h.holds }
  where
    both : (m : Made A) (r : Option (Made B)) → SoundIn m.state u (λ b. P m.result → Q b) r → SoundIn s u P (Some m) → SoundIn s u Q r
    both m None h k = tt
    both m (Some b) h k = λ e. let later = h e in let first = k later.0 in (first.0, later.1 first.1)

    go : (o : Option (Made A)) → SoundIn s u P o → SoundIn s u Q (after o f)
    go None h = tt
    go (Some m) h = both m (f m.result m.state) (t m.result m.state).holds h

pub sound_made : {A : Type 0} {u : Subst} {P : A → Type 0} {a : A} {s : State} → P a → Sound s u P (pure a s)
sound_made p = record { holds = λ e. (e, p) }

pub sound_none : {A : Type 0} {u : Subst} {P : A → Type 0} {s : State} → Sound s u P None
sound_none = record { holds = tt }

pub weaker : {A : Type 0} {s : State} {u : Subst} {P Q : A → Type 0} {o : Option (Made A)} → Sound s u P o → ((a : A) → P a → Q a) → Sound s u Q o
weaker {A} {s} {u} {P} {Q} {o} h f = record { holds = go o h.holds }
  where
    go : (o : Option (Made A)) → SoundIn s u P o → SoundIn s u Q o
    go None h = tt
    go (Some m) h = λ e. let k = h e in (k.0, f m.result k.1)

pub sound_fresh : (u : Subst) (s : State) → Sound s u (λ t. Unit {0}) (fresh s)
unfolding fresh
sound_fresh u s = record { holds = λ e. (record { unify = e.unify; within = e.within }, tt) }

pub sound_opened : (u : Subst) (k : ℕ) (s : State) → Sound s u (λ w. Unit {0}) (fresh_variables k s)
unfolding fresh_variables
sound_opened u k s = record { holds = λ e. (record { unify = e.unify; within = e.within }, tt) }

pub sound_equate : (u : Subst) (a b : Ty) (s : State) → Sound s u (λ _. apply u a ≡ apply u b) (equate a b s)
unfolding equate
sound_equate u a b s = record { holds = λ e. (record { unify = e.unify.1; within = e.within }, e.unify.0) }

pub sound_within : (u : Subst) (t : Ty) (s : State) → Sound s u (λ _. IsWithin (apply u t)) (within t s)
unfolding within
sound_within u t s = record { holds = λ e. let h = less_within u s.uses t e.within in (record { unify = e.unify; within = h.0 }, h.1) }

pub sound_guard : (u : Subst) (b : Bool) (s : State) → Sound s u (λ _. b ≡ true) (guard b s)
unfolding guard
sound_guard u true s = record { holds = λ e. (e, refl) }
sound_guard u false s = record { holds = tt }

-- Some extension of a substitution, and all that agree with it.

abbrev pub Below : ℕ → Subst → Subst → Type 0
Below n u v = (x : ℕ) → x < n → v x ≡ u x

abbrev pub Agrees : State → Subst → Subst → Type 0
Agrees s u v = Below s.next u v

pub record Later (n : State) (u : Subst) (k : State) (v : Subst) : Type 0 where
  pub le : n.next ≤ k.next
  pub agrees : Agrees n u v

pub later_later : {n k l : State} {u v w : Subst} → Later n u k v → Later k v l w → Later n u l w
later_later {n} {k} {l} a b = record {
  le = omega (arith, a.le, b.le);
  agrees = λ x lt. b.agrees x (omega (arith, lt, a.le)) ∙ a.agrees x lt;
}

-- it holds for all that agree
pub record Stays {A : Type 0} (n : State) (u : Subst) (P : Subst → A → Type 0) (a : A) : Type 0 where
  pub holds : (v : Subst) → Agrees n u v → P v a

pub on : {A : Type 0} {n k : State} {u v : Subst} {P : Subst → A → Type 0} {a : A} → Later n u k v → Stays n u P a → Stays k v P a
on {A} {n} {k} {u} {v} l s = record { holds = λ w g. s.holds w (λ x lt. g x (omega (arith, lt, l.le)) ∙ l.agrees x lt) }

pub record Extended {A : Type 0} (n : State) (u : Subst) (P : Subst → A → Type 0) (m : Made A) : Type 0 where
  pub grow : Subst
  pub later : Later n u m.state grow
  pub holds : (v : Subst) → Agrees m.state grow v → (Alive v n → Alive v m.state) × P v m.result

abbrev pub FoundIn : {A : Type 0} → State → Subst → (Subst → A → Type 0) → Option (Made A) → Type 0
FoundIn n u P None = ⊥
FoundIn n u P (Some m) = Extended n u P m

pub record Found {A : Type 0} (n : State) (u : Subst) (P : Subst → A → Type 0) (o : Option (Made A)) : Type 0 where
  pub found : FoundIn n u P o

pub found_after : {A B : Type 0} {n : State} {u : Subst} {P : Subst → A → Type 0} {Q : Subst → B → Type 0} {o : Option (Made A)} {f : A → Making B} →
    Found n u P o → ((a : A) (k : State) (v : Subst) → Later n u k v → Stays k v P a → Found k v Q (f a k)) →
    Found n u Q (after o f)
unfolding after
found_after {A} {B} {n} {u} {P} {Q} {o} {f} s t = record { found = go o s.found }
  where
    both : (m : Made A) (k : Extended n u P m) (r : Option (Made B)) → FoundIn m.state k.grow Q r → FoundIn n u Q r
    both m k None h = h
    both m k (Some b) h = record {
      grow = h.grow;
      later = later_later k.later h.later;
      holds = λ v a.
          let first = k.holds v (λ x lt. a x (omega (arith, lt, h.later.le)) ∙ h.later.agrees x lt) in
          let second = h.holds v a in ((λ e. second.0 (first.0 e)), second.1);
    }

    go : (o : Option (Made A)) → FoundIn n u P o → FoundIn n u Q (after o f)
    go None h = absurd h
    go (Some m) h =
        both m h (f m.result m.state) (t m.result m.state h.grow h.later (record { holds = λ v a. (h.holds v a).1 })).found

now : (n : State) (u : Subst) → Later n u n u
now n u = record { le = omega arith; agrees = λ x lt. refl }

pub found_made : {A : Type 0} {n : State} {u : Subst} {P : Subst → A → Type 0} {a : A} → ((v : Subst) → Agrees n u v → P v a) → Found n u P (pure a n)
found_made {A} {n} {u} p = record { found = record { grow = u; later = now n u; holds = λ v a. ((λ e. e), p v a) } }

pub found_equate : {n : State} {u : Subst} (a b : Ty) → ((v : Subst) → Agrees n u v → apply v a ≡ apply v b) →
    ((v : Subst) → Agrees n u v → IsWithin (apply v b)) → Found n u (λ v (_ : Unit {0}). Unit {0}) (equate a b n)
unfolding equate
found_equate {n} {u} a b p w = record {
  found = record {
    grow = u;
    later = record { le = omega arith; agrees = λ x lt. refl };
    holds = λ v g. (
      (λ e. record {
        unify = (p v g, e.unify);
        within = e.within;
        sides = (subst IsWithin (sym (p v g)) (w v g), w v g, e.sides);
      }),
      tt,
    );
  };
}

pub found_within : {n : State} {u : Subst} (t : Ty) → ((v : Subst) → Agrees n u v → IsWithin (apply v t)) →
    Found n u (λ v (_ : Unit {0}). Unit {0}) (within t n)
unfolding within
found_within {n} {u} t p = record {
  found = record {
    grow = u;
    later = record { le = omega arith; agrees = λ x lt. refl };
    holds = λ v g. ((λ e. record { unify = e.unify; within = more_within v n.uses t e.within (p v g); sides = e.sides }), tt);
  };
}

pub found_guard : {n : State} {u : Subst} (b : Bool) → b ≡ true → Found n u (λ v (_ : Unit {0}). Unit {0}) (guard b n)
unfolding guard
found_guard {n} {u} true e = record { found = record { grow = u; later = record { le = omega arith; agrees = λ x lt. refl }; holds = λ v g. ((λ e. e), tt) } }
found_guard {n} {u} false e = cc

-- below n as u, from n on as w from 0 on
abbrev pub splice : ℕ → Subst → Subst → Subst
splice n u w x = if ltb x n then u x else w (x - n)

spliced_below : (n : ℕ) (u w : Subst) → Below n u (splice n u w)
spliced_below n u w x lt = rw (lt-ltb x n lt) refl

spliced_from : (n : ℕ) (u w : Subst) (i : ℕ) → splice n u w (n + i) ≡ w i
spliced_from n u w i =
    let no : ltb (n + i) n ≡ false = le-ltb (n + i) n (omega arith) in
    let same : n + i - n ≡ i = omega arith in
    rw (no, same) refl

pub found_fresh : {n : State} {u : Subst} (t : Ty) → Found n u (λ v a. apply v a ≡ t) (fresh n)
unfolding fresh
found_fresh {n} {u} t = record {
  found = record {
    grow = splice n.next u (λ _. t);
    later = record { le = omega arith; agrees = spliced_below n.next u (λ _. t) };
    holds = λ v g. ((λ e. record { unify = e.unify; within = e.within; sides = e.sides }), g n.next (omega arith) ∙ at_n);
  };
}
  where
    at_n : splice n.next u (λ _. t) n.next ≡ t
    at_n = let no : ltb n.next n.next ≡ false = le-ltb n.next n.next (omega arith) in rw no refl

pub found_opened : {n : State} {u : Subst} (w : Subst) (k : ℕ) →
    Found n u (λ v s. (i : ℕ) → i < k → apply v (s i) ≡ w i) (fresh_variables k n)
unfolding fresh_variables raise_variables
found_opened {n} {u} w k = record {
  found = record {
    grow = splice n.next u w;
    later = record { le = omega arith; agrees = spliced_below n.next u w };
    holds = λ v g. (
      (λ e. record { unify = e.unify; within = e.within; sides = e.sides }),
      (λ i lt. g (n.next + i) (omega (arith, lt)) ∙ spliced_from n.next u w i),
    );
  };
}
