-- The types of operations: by what is asked of their parts, and as the table has them.
use Rattle.std.proofs.Common.{ℕ, zero, suc, ◌≡◌, true, List, [], ◌∷◌, ◌++◌, length, refl, sym, ap, ◌∙◌, arith, subst}
use Rattle.std.specs.Prelude.{replicate, nat_le}
use Rattle.std.specs.Cmp.{first_so, second_so}
use Rattle.std.specs.Cmp.Derive.{both_true}
use Rattle.std.proofs.Math.Dec.{leb}
use Rattle.std.proofs.lemmas.Bool.{leb-true, le-leb}
use Rattle.aql_value.specs.Strict.{Strict}
use Rattle.aql_ty.specs.Types as types
use Rattle.aql_ty.specs.Types.{Ty, natural, no_type, type, Subst, apply, apply_all, IsRank, IsWithin, tys_of}
use Rattle.aql_ty.specs.OperationTypes.{strict_rule}
use Rattle.aql_ty.specs.Laws.Types.{natural_within, cell_within, index_type-apply}
use Rattle.aql_syntax.specs.Typing.{OperandWithin, FirstWithin}
use Rattle.aql_infer_steps.specs.Constraints.{State, Making, pure, fresh, is_rank, equate_each, with_none, with_one, with_two, with_first, literal_parts, pair_type, made_arith, made_compare, made_empty, made_single, made_union, made_gen, made_get, made_sub, made_dim, made_index, make_op}
use Rattle.aql_infer_steps.specs.Laws.Steps.{Sound, sound_after, sound_made, sound_none, weaker, sound_fresh, sound_equate, sound_within, sound_guard, Agrees, later_later, Stays, on, Found, found_after, found_made, found_equate, found_within, found_guard, found_fresh}
use Rattle.aql_infer_steps.specs.Describes.{apply_each}
use Rattle.aql_syntax.specs.Written.{IsWrittenForm}

-- Ranks, indices and lists.

pub rank_true : (k : ℕ) → is_rank k ≡ true → IsRank k
rank_true k e = (leb-true _ _ (first_so (leb 1 k) (leb k 8) e), leb-true _ _ (second_so (leb 1 k) (leb k 8) e))

pub true_rank : (k : ℕ) → IsRank k → is_rank k ≡ true
true_rank k h = both_true (le-leb _ _ h.0) (le-leb _ _ h.1)

pub pair_apply : (u : Subst) (k : ℕ) (s : Ty) → apply u (pair_type k s) ≡ pair_type k (apply u s)
pair_apply u k s = ap (λ (i : Ty). types.product (type i (type (apply u s) no_type))) (index_type-apply u k)

pub tys_apply : (u : Subst) (ts : List Ty) → apply_all u (tys_of ts) ≡ tys_of (apply_each u ts)
tys_apply u [] = refl
tys_apply u (t ∷ ts) = ap (type (apply u t)) (tys_apply u ts)

length-apply_each : (u : Subst) (ts : List Ty) → length (apply_each u ts) ≡ length ts
length-apply_each u [] = refl
length-apply_each u (t ∷ ts) = ap suc (length-apply_each u ts)

conses : {a b : Ty} {p q : List Ty} → a ≡ b → p ≡ q → ◌≡◌ {A = List Ty} (a ∷ p) (b ∷ q)
conses e f = cc

sets : {a b : Ty} → a ≡ b → types.set_of a ≡ types.set_of b
sets e = ap types.set_of e

arrays : (k : ℕ) {a b : Ty} → a ≡ b → types.array_of k a ≡ types.array_of k b
arrays k e = ap (types.array_of k) e

-- Sound.

abbrev pub OpHas : Strict → List Ty → Ty → Type 0
OpHas o ts t = strict_rule o ts t × OperandWithin o ts

none_sound : (u : Subst) (n : State) (Q : List Ty → Ty → Type 0) (ts : List Ty) (f : Making Ty) →
    Sound n u (λ t. Q [] (apply u t)) (f n) → Sound n u (λ t. Q (apply_each u ts) (apply u t)) (with_none ts f n)
none_sound u n Q [] f h = h
none_sound u n Q (a ∷ ts) f h = sound_none

one_sound : (u : Subst) (n : State) (Q : List Ty → Ty → Type 0) (ts : List Ty) (f : Ty → Making Ty) →
    ((a : Ty) → Sound n u (λ t. Q (apply u a ∷ []) (apply u t)) (f a n)) → Sound n u (λ t. Q (apply_each u ts) (apply u t)) (with_one ts f n)
one_sound u n Q [] f h = sound_none
one_sound u n Q (a ∷ []) f h = h a
one_sound u n Q (a ∷ b ∷ ts) f h = sound_none

two_sound : (u : Subst) (n : State) (Q : List Ty → Ty → Type 0) (ts : List Ty) (f : Ty → Ty → Making Ty) →
    ((a b : Ty) → Sound n u (λ t. Q (apply u a ∷ apply u b ∷ []) (apply u t)) (f a b n)) → Sound n u (λ t. Q (apply_each u ts) (apply u t)) (with_two ts f n)
two_sound u n Q [] f h = sound_none
two_sound u n Q (a ∷ []) f h = sound_none
two_sound u n Q (a ∷ b ∷ []) f h = h a b
two_sound u n Q (a ∷ b ∷ c ∷ ts) f h = sound_none

first_sound : (u : Subst) (n : State) (Q : List Ty → Ty → Type 0) (ts : List Ty) (f : Ty → List Ty → Making Ty) →
    ((a : Ty) (at : List Ty) → Sound n u (λ t. Q (apply u a ∷ apply_each u at) (apply u t)) (f a at n)) → Sound n u (λ t. Q (apply_each u ts) (apply u t)) (with_first ts f n)
first_sound u n Q [] f h = sound_none
first_sound u n Q (a ∷ at) f h = h a at

pub each_equated : (u : Subst) (ts : List Ty) (s : Ty) (n : State) →
    Sound n u (λ _. apply_each u ts ≡ replicate (length ts) (apply u s)) (equate_each ts s n)
each_equated u [] s n = sound_made refl
each_equated u (t ∷ ts) s n = sound_after (sound_equate u t s n) (λ _ n. weaker (each_equated u ts s n) (λ _ f e. conses e f))

abbrev LiteralParts : ℕ → List Ty → Ty → Type 0
LiteralParts k ts s = (m : ℕ) × (ts ≡ replicate k natural ++ replicate m s)

literal_sound : (u : Subst) (k : ℕ) (s : Ty) (ts : List Ty) (n : State) →
    Sound n u (λ _. LiteralParts k (apply_each u ts) (apply u s)) (literal_parts k s ts n)
literal_sound u zero s ts n = weaker (each_equated u ts s n) (λ _ e. (length ts, e))
literal_sound u (suc k) s [] n = sound_none
literal_sound u (suc k) s (t ∷ ts) n =
    sound_after (sound_equate u t natural n) (λ _ n. weaker (literal_sound u k s ts n) (λ _ f e. (f.0, conses e f.1)))

pub op_sound : (o : Strict) (u : Subst) (ts : List Ty) (n : State) → Sound n u (λ t. OpHas o (apply_each u ts) (apply u t)) (make_op o ts n)
op_sound (Strict.nat k) u ts n = none_sound u n (OpHas (Strict.nat k)) ts (pure natural) (sound_made ((refl, refl), tt))
op_sound (Strict.bool b) u ts n = none_sound u n (OpHas (Strict.bool b)) ts (pure types.truth) (sound_made ((refl, refl), tt))
op_sound (Strict.text s) u ts n = none_sound u n (OpHas (Strict.text s)) ts (pure types.text) (sound_made ((refl, refl), tt))
op_sound Strict.bottom u ts n = none_sound u n (OpHas Strict.bottom) ts fresh (weaker (sound_fresh u n) (λ t _. (refl, tt)))
op_sound Strict.tuple u ts n =
    sound_after (sound_guard u (nat_le 2 (length ts)) n) (λ _ n. sound_made (λ g.
    ((omega (arith, leb-true _ _ g, length-apply_each u ts), ap types.product (tys_apply u ts)), tt)))
op_sound (Strict.proj at of) u ts n = sound_none
op_sound (Strict.arith o) u ts n =
    two_sound u n (OpHas (Strict.arith o)) ts made_arith (λ a b.
    sound_after (sound_equate u a natural n) (λ _ n. sound_after (sound_equate u b natural n) (λ _ n.
    sound_made (λ f e. ((conses e (conses f refl), refl), tt)))))
op_sound (Strict.compare o) u ts n =
    two_sound u n (OpHas (Strict.compare o)) ts made_compare (λ a b.
    sound_after (sound_equate u b a n) (λ _ n. sound_after (sound_within u a n) (λ _ n.
    sound_made (λ w e. ((apply u a, conses refl (conses e refl), refl), w)))))
op_sound Strict.empty u ts n =
    none_sound u n (OpHas Strict.empty) ts made_empty (sound_after (sound_fresh u n) (λ s n. sound_made (λ _. ((apply u s, refl, refl), tt))))
op_sound Strict.single u ts n = one_sound u n (OpHas Strict.single) ts made_single (λ a. sound_made ((apply u a, refl, refl), tt))
op_sound Strict.union u ts n =
    two_sound u n (OpHas Strict.union) ts made_union (λ a b.
    sound_after (sound_fresh u n) (λ s n. sound_after (sound_equate u a (types.set_of s) n) (λ _ n.
    sound_after (sound_equate u b (types.set_of s) n) (λ _ n.
    sound_made (λ f e _. ((apply u s, conses e (conses f refl), refl), tt))))))
op_sound Strict.gen u ts n =
    one_sound u n (OpHas Strict.gen) ts made_gen (λ a. sound_after (sound_equate u a natural n) (λ _ n. sound_made (λ e. ((conses e refl, refl), tt))))
op_sound Strict.get u ts n =
    one_sound u n (OpHas Strict.get) ts made_get (λ a.
    sound_after (sound_fresh u n) (λ s n. sound_after (sound_equate u a (types.set_of s) n) (λ _ n.
    sound_after (sound_within u (types.set_of s) n) (λ _ n.
    sound_made (λ w e _. (conses e refl, subst IsWithin (sym e) w))))))
op_sound Strict.sub u ts n =
    first_sound u n (OpHas Strict.sub) ts made_sub (λ a at.
    sound_after (sound_fresh u n) (λ s n. sound_after (sound_equate u a (types.array_of (length at) s) n) (λ _ n.
    sound_after (sound_within u (types.array_of (length at) s) n) (λ _ n.
    sound_after (each_equated u at natural n) (λ _ n.
    sound_made (λ f w e _. ((length at, w.2.0, conses e f), subst IsWithin (sym e) w)))))))
op_sound (Strict.dim k) u ts n =
    one_sound u n (OpHas (Strict.dim k)) ts (made_dim k) (λ a.
    sound_after (sound_guard u (is_rank k) n) (λ _ n. sound_after (sound_fresh u n) (λ s n.
    sound_after (sound_equate u a (types.array_of k s) n) (λ _ n.
    sound_after (sound_within u (types.array_of k s) n) (λ _ n.
    sound_made (λ w e _ g. ((apply u s, rank_true k g, conses e refl, index_type-apply u k), subst IsWithin (sym e) w)))))))
op_sound (Strict.index k) u ts n =
    one_sound u n (OpHas (Strict.index k)) ts (made_index k) (λ a.
    sound_after (sound_guard u (is_rank k) n) (λ _ n. sound_after (sound_fresh u n) (λ s n.
    sound_after (sound_equate u a (types.set_of (pair_type k s)) n) (λ _ n.
    sound_after (sound_within u (types.set_of (pair_type k s)) n) (λ _ n.
    sound_made (λ w e _ g. ((apply u s, rank_true k g, conses (e ∙ sets (pair_apply u k s)) refl, refl), subst IsWithin (sym e) w)))))))
op_sound (Strict.literal k) u ts n =
    sound_after (sound_guard u (is_rank k) n) (λ _ n. sound_after (sound_fresh u n) (λ s n.
    sound_after (literal_sound u k s ts n) (λ _ n.
    sound_made (λ f _ g. ((apply u s, f.0, rank_true k g, f.1, refl), tt)))))

-- Complete.

abbrev pub IsTy : Ty → Subst → Ty → Type 0
IsTy t v a = apply v a ≡ t

abbrev pub IsEach : List Ty → Subst → List Ty → Type 0
IsEach ts v bs = apply_each v bs ≡ ts

itself : (n : State) (u : Subst) → Agrees n u u
itself n u x lt = refl

cons_nil : {a : Ty} {p : List Ty} → ◌≡◌ {A = List Ty} (a ∷ p) [] → ⊥
cons_nil e = cc

nil_cons : {a : Ty} {p : List Ty} → ◌≡◌ {A = List Ty} [] (a ∷ p) → ⊥
nil_cons e = cc

head_is : {a b : Ty} {p q : List Ty} → ◌≡◌ {A = List Ty} (a ∷ p) (b ∷ q) → a ≡ b
head_is e = cc

tail_is : {a b : Ty} {p q : List Ty} → ◌≡◌ {A = List Ty} (a ∷ p) (b ∷ q) → p ≡ q
tail_is e = cc

each_at : {n : State} {u : Subst} {ts ss bs : List Ty} → ts ≡ ss → Stays n u (IsEach ts) bs → Stays n u (IsEach ss) bs
each_at e st = record { holds = λ v g. st.holds v g ∙ e }

head_stays : {n : State} {u : Subst} {t a : Ty} {ts bs : List Ty} → Stays n u (IsEach (t ∷ ts)) (a ∷ bs) → Stays n u (IsTy t) a
head_stays st = record { holds = λ v g. head_is (st.holds v g) }

tail_stays : {n : State} {u : Subst} {t a : Ty} {ts bs : List Ty} → Stays n u (IsEach (t ∷ ts)) (a ∷ bs) → Stays n u (IsEach ts) bs
tail_stays st = record { holds = λ v g. tail_is (st.holds v g) }

none_found : {n : State} {u : Subst} {P : Subst → Ty → Type 0} (bs : List Ty) (f : Making Ty) →
    Stays n u (IsEach []) bs → Found n u P (f n) → Found n u P (with_none bs f n)
none_found {n} {u} {P} [] f st h = h
none_found {n} {u} {P} (a ∷ bs) f st h = absurd (cons_nil (st.holds u (itself n u)))

one_found : {n : State} {u : Subst} {P : Subst → Ty → Type 0} (s : Ty) (bs : List Ty) (f : Ty → Making Ty) →
    Stays n u (IsEach (s ∷ [])) bs → ((a : Ty) → Stays n u (IsTy s) a → Found n u P (f a n)) → Found n u P (with_one bs f n)
one_found {n} {u} {P} s [] f st h = absurd (nil_cons (st.holds u (itself n u)))
one_found {n} {u} {P} s (a ∷ []) f st h = h a (head_stays st)
one_found {n} {u} {P} s (a ∷ b ∷ bs) f st h = absurd (cons_nil (tail_is (st.holds u (itself n u))))

two_found : {n : State} {u : Subst} {P : Subst → Ty → Type 0} (s t : Ty) (bs : List Ty) (f : Ty → Ty → Making Ty) →
    Stays n u (IsEach (s ∷ t ∷ [])) bs → ((a b : Ty) → Stays n u (IsTy s) a → Stays n u (IsTy t) b → Found n u P (f a b n)) →
    Found n u P (with_two bs f n)
two_found {n} {u} {P} s t [] f st h = absurd (nil_cons (st.holds u (itself n u)))
two_found {n} {u} {P} s t (a ∷ []) f st h = absurd (nil_cons (tail_is (st.holds u (itself n u))))
two_found {n} {u} {P} s t (a ∷ b ∷ []) f st h = h a b (head_stays st) (head_stays (tail_stays st))
two_found {n} {u} {P} s t (a ∷ b ∷ c ∷ bs) f st h = absurd (cons_nil (tail_is (tail_is (st.holds u (itself n u)))))

first_found : {n : State} {u : Subst} {P : Subst → Ty → Type 0} (s : Ty) (ss bs : List Ty) (f : Ty → List Ty → Making Ty) →
    Stays n u (IsEach (s ∷ ss)) bs → ((a : Ty) (at : List Ty) → Stays n u (IsTy s) a → Stays n u (IsEach ss) at → Found n u P (f a at n)) →
    Found n u P (with_first bs f n)
first_found {n} {u} {P} s ss [] f st h = absurd (nil_cons (st.holds u (itself n u)))
first_found {n} {u} {P} s ss (a ∷ at) f st h = h a at (head_stays st) (tail_stays st)

-- each of a list becomes that type
each_found : {n : State} {u : Subst} (k : ℕ) (s : Ty) (bs : List Ty) (a : Ty) → IsWithin s → Stays n u (IsEach (replicate k s)) bs → Stays n u (IsTy s) a →
    Found n u (λ v (_ : Unit {0}). Unit {0}) (equate_each bs a n)
each_found k s [] a w st sa = found_made (λ v g. tt)
each_found {n} {u} zero s (b ∷ bs) a w st sa = absurd (cons_nil (st.holds u (itself n u)))
each_found (suc k) s (b ∷ bs) a w st sa =
    found_after (found_equate b a (λ v g. (head_stays st).holds v g ∙ sym (sa.holds v g)) (λ v g. subst IsWithin (sym (sa.holds v g)) w)) (λ _ n u l _.
    each_found k s bs a w (on l (tail_stays st)) (on l sa))

literal_found : {n : State} {u : Subst} (k m : ℕ) (s : Ty) (bs : List Ty) (a : Ty) → IsWithin s →
    Stays n u (IsEach (replicate k natural ++ replicate m s)) bs → Stays n u (IsTy s) a →
    Found n u (λ v (_ : Unit {0}). Unit {0}) (literal_parts k a bs n)
literal_found zero m s bs a w st sa = each_found m s bs a w st sa
literal_found {n} {u} (suc k) m s [] a w st sa = absurd (nil_cons (st.holds u (itself n u)))
literal_found (suc k) m s (b ∷ bs) a w st sa =
    found_after (found_equate b natural (head_stays st).holds (λ v g. natural_within)) (λ _ n u l _.
    literal_found k m s bs a w (on l (tail_stays st)) (on l sa))

naturally : {n : State} {u : Subst} → Stays n u (IsTy natural) natural
naturally = record { holds = λ v g. refl }

same_length : {n : State} {u : Subst} (ts bs : List Ty) → Stays n u (IsEach ts) bs → length bs ≡ length ts
same_length {n} {u} ts bs st = sym (length-apply_each u bs) ∙ ap length (st.holds u (itself n u))

length_replicate : (k : ℕ) → length (replicate k natural) ≡ k
length_replicate zero = refl
length_replicate (suc k) = ap suc (length_replicate k)

sub_found : {n : State} {u : Subst} (k : ℕ) (t a : Ty) (at : List Ty) → k ≡ length at → IsWithin (types.array_of k t) → Stays n u (IsTy (types.array_of k t)) a →
    Stays n u (IsEach (replicate k natural)) at → Found n u (IsTy t) (made_sub a at n)
sub_found k t a at e w sa st =
    let w' = subst (λ (k : ℕ). IsWithin (types.array_of k t)) e w in
    found_after (found_fresh t) (λ s n u l ss.
    found_after (found_equate a (types.array_of (length at) s)
    (λ v g. (on l sa).holds v g ∙ ap (λ (k : ℕ). types.array_of k t) e ∙ sym (arrays (length at) (ss.holds v g)))
    (λ v g. subst IsWithin (sym (arrays (length at) (ss.holds v g))) w')) (λ _ n u m _.
    found_after (found_within (types.array_of (length at) s) (λ v g. subst IsWithin (sym (arrays (length at) ((on m ss).holds v g))) w')) (λ _ n u m' _.
    found_after (each_found k natural at natural natural_within (on (later_later l (later_later m m')) st) naturally) (λ _ n u m'' _.
    found_made (λ v g. (on (later_later m (later_later m' m'')) ss).holds v g)))))

pub op_found : (o : Strict) → IsWrittenForm o → (ts : List Ty) (t : Ty) → IsWithin t → strict_rule o ts t → OperandWithin o ts → (bs : List Ty) → {n : State} {u : Subst} →
    Stays n u (IsEach ts) bs → Found n u (IsTy t) (make_op o bs n)
op_found (Strict.nat k) f ts t w h q bs st = none_found bs (pure natural) (each_at h.0 st) (found_made (λ v g. sym h.1))
op_found (Strict.bool b) f ts t w h q bs st = none_found bs (pure types.truth) (each_at h.0 st) (found_made (λ v g. sym h.1))
op_found (Strict.text s) f ts t w h q bs st = none_found bs (pure types.text) (each_at h.0 st) (found_made (λ v g. sym h.1))
op_found Strict.bottom f ts t w h q bs st = none_found bs fresh (each_at h st) (found_fresh t)
op_found Strict.tuple f ts t w h q bs st =
    found_after (found_guard (nat_le 2 (length bs)) (le-leb _ _ (omega (arith, h.0, same_length ts bs st)))) (λ _ n u l _.
    found_made (λ v g. ap types.product (tys_apply v bs) ∙ ap (λ (ss : List Ty). types.product (tys_of ss)) ((on l st).holds v g) ∙ sym h.1))
op_found (Strict.proj at of) f ts t w h q bs st = absurd f
op_found (Strict.arith o) f ts t w h q bs st =
    two_found natural natural bs made_arith (each_at h.0 st) (λ a b sa sb.
    found_after (found_equate a natural sa.holds (λ v g. natural_within)) (λ _ n u l _.
    found_after (found_equate b natural (on l sb).holds (λ v g. natural_within)) (λ _ n u m _.
    found_made (λ v g. sym h.1))))
op_found (Strict.compare o) f ts t w h q bs st =
    let ws = subst FirstWithin h.1 q in
    two_found h.0 h.0 bs made_compare (each_at h.1 st) (λ a b sa sb.
    found_after (found_equate b a (λ v g. sb.holds v g ∙ sym (sa.holds v g)) (λ v g. subst IsWithin (sym (sa.holds v g)) ws)) (λ _ n u l _.
    found_after (found_within a (λ v g. subst IsWithin (sym ((on l sa).holds v g)) ws)) (λ _ n u m _.
    found_made (λ v g. sym h.2))))
op_found Strict.empty f ts t w h q bs st =
    none_found bs made_empty (each_at h.1 st) (found_after (found_fresh h.0) (λ s n u l ss. found_made (λ v g. sets (ss.holds v g) ∙ sym h.2)))
op_found Strict.single f ts t w h q bs st =
    one_found h.0 bs made_single (each_at h.1 st) (λ a sa. found_made (λ v g. sets (sa.holds v g) ∙ sym h.2))
op_found Strict.union f ts t w h q bs st =
    let ws = subst IsWithin h.2 w in
    two_found (types.set_of h.0) (types.set_of h.0) bs made_union (each_at h.1 st) (λ a b sa sb.
    found_after (found_fresh h.0) (λ s n u l ss.
    found_after (found_equate a (types.set_of s) (λ v g. (on l sa).holds v g ∙ sym (sets (ss.holds v g))) (λ v g. subst IsWithin (sym (sets (ss.holds v g))) ws)) (λ _ n u m _.
    found_after (found_equate b (types.set_of s) (λ v g. (on (later_later l m) sb).holds v g ∙ sym (sets ((on m ss).holds v g)))
    (λ v g. subst IsWithin (sym (sets ((on m ss).holds v g))) ws)) (λ _ n u m' _.
    found_made (λ v g. sets ((on (later_later m m') ss).holds v g) ∙ sym h.2)))))
op_found Strict.gen f ts t w h q bs st =
    one_found natural bs made_gen (each_at h.0 st) (λ a sa.
    found_after (found_equate a natural sa.holds (λ v g. natural_within)) (λ _ n u l _. found_made (λ v g. sym h.1)))
op_found Strict.get f ts t w h q bs st =
    let ws = subst FirstWithin h q in
    one_found (types.set_of t) bs made_get (each_at h st) (λ a sa.
    found_after (found_fresh t) (λ s n u l ss.
    found_after (found_equate a (types.set_of s) (λ v g. (on l sa).holds v g ∙ sym (sets (ss.holds v g))) (λ v g. subst IsWithin (sym (sets (ss.holds v g))) ws)) (λ _ n u m _.
    found_after (found_within (types.set_of s) (λ v g. subst IsWithin (sym (sets ((on m ss).holds v g))) ws)) (λ _ n u m' _.
    found_made (λ v g. (on (later_later m m') ss).holds v g)))))
op_found Strict.sub f ts t w h q bs st =
    let ws = subst FirstWithin h.2 q in
    first_found (types.array_of h.0 t) (replicate h.0 natural) bs made_sub (each_at h.2 st) (λ a at sa sat.
    sub_found h.0 t a at (sym (same_length (replicate h.0 natural) at sat ∙ length_replicate h.0)) ws sa sat)
op_found (Strict.dim k) f ts t w h q bs st =
    let ws = subst FirstWithin h.2 q in
    one_found (types.array_of k h.0) bs (made_dim k) (each_at h.2 st) (λ a sa.
    found_after (found_guard (is_rank k) (true_rank k h.1)) (λ _ n u l _.
    found_after (found_fresh h.0) (λ s n u m ss.
    found_after (found_equate a (types.array_of k s) (λ v g. (on (later_later l m) sa).holds v g ∙ sym (arrays k (ss.holds v g))) (λ v g. subst IsWithin (sym (arrays k (ss.holds v g))) ws)) (λ _ n u m' _.
    found_after (found_within (types.array_of k s) (λ v g. subst IsWithin (sym (arrays k ((on m' ss).holds v g))) ws)) (λ _ n u m'' _.
    found_made (λ v g. index_type-apply v k ∙ sym h.3))))))
op_found (Strict.index k) f ts t w h q bs st =
    let ws = subst FirstWithin h.2 q in
    one_found (types.set_of (pair_type k h.0)) bs (made_index k) (each_at h.2 st) (λ a sa.
    found_after (found_guard (is_rank k) (true_rank k h.1)) (λ _ n u l _.
    found_after (found_fresh h.0) (λ s n u m ss.
    let pairs : (v : Subst) → Agrees n u v → apply v (types.set_of (pair_type k s)) ≡ types.set_of (pair_type k h.0) =
    λ v g. sets (pair_apply v k s ∙ ap (pair_type k) (ss.holds v g)) in
    found_after (found_equate a (types.set_of (pair_type k s)) (λ v g. (on (later_later l m) sa).holds v g ∙ sym (pairs v g)) (λ v g. subst IsWithin (sym (pairs v g)) ws)) (λ _ n u m' _.
    found_after (found_within (types.set_of (pair_type k s)) (λ v g. subst IsWithin (sym (sets (pair_apply v k s ∙ ap (pair_type k) ((on m' ss).holds v g)))) ws)) (λ _ n u m'' _.
    found_made (λ v g. arrays k (sets ((on (later_later m' m'') ss).holds v g)) ∙ sym h.3))))))
op_found (Strict.literal k) f ts t w h q bs st =
    let ws = cell_within k h.0 (subst IsWithin h.4 w) in
    found_after (found_guard (is_rank k) (true_rank k h.2)) (λ _ n u l _.
    found_after (found_fresh h.0) (λ s n u m ss.
    found_after (literal_found k h.1 h.0 bs s ws (each_at h.3 (on (later_later l m) st)) ss) (λ _ n u m' _.
    found_made (λ v g. arrays k ((on m' ss).holds v g) ∙ sym h.4))))
