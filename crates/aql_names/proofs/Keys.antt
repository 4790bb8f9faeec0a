-- The map from names to positions after a name has one position more.
use Rattle.std.proofs.Common.{◌≡◌, ◌+◌, ◌<◌, ℕ, zero, suc, Bool, true, false, List, [], ◌∷◌, ◌++◌, length, get_or, slice_get, position, Option, Some, None, cond, refl, sym, ap, ◌∙◌, subst, if◌then◌else◌, arith, true≢false, is_some, length-append, Result, Ok, Err, IfOk, IsOkAnd}
use Rattle.std.specs.Global.{Vec}
use Rattle.std.specs.Map.{keys_of, lookup}
use Rattle.std.specs.Str.{bytes_eq}
use Rattle.std.proofs.lemmas.List.Quantifiers.{position-Some}
use Rattle.std.proofs.lemmas.Slice.Eq.{bytes_eq-Decides}
use Rattle.indexmap.specs.IndexMap.{insert_entry, set_value_at, with_value_at, keys, values, get_by}
use Rattle.indexmap.proofs.CallerLemmas.{insert_entry-new, keys-with_value_at}
use Rattle.aql_names.specs.Index.{NameIndex, positions_in, has_key, key_at, GainsPosition, SamePositions}
use Rattle.aql_names.specs.Named.{Name}

equal_true : (x y : Name) → bytes_eq x y ≡ true → x ≡ y
equal_true x y e = (bytes_eq-Decides x y).0 e

-- what was made is as its maker says
pub made : {A E : Type 0} (P : A → Type 0) (x : A) (r : Result A E) → IfOk r P → IsOkAnd r (λ v. v ≡ x) → P x
made P x (Ok v) h e = subst P e h
made P x (Err d) h e = absurd e

abbrev Entries : Type 0
Entries = List (Vec ℕ × Vec ℕ)

abbrev at : Name → Entries → Option (Vec ℕ)
at x es = lookup (λ q. bytes_eq x q.items) es

-- A name and an entry of it: what another name has, when the entry gets another list.
module _ (x name : Name) (w : Vec ℕ) where
  same_key : (k v : Vec ℕ) (o : Option (Vec ℕ)) → bytes_eq name k.items ≡ true → cond (bytes_eq x k.items) (Some w) o ≡ (if bytes_eq x name then Some w else cond (bytes_eq x k.items) (Some v) o)
  same_key k v o h =
      subst (λ l. cond (bytes_eq x l) (Some w) o ≡ (if bytes_eq x name then Some w else cond (bytes_eq x l) (Some v) o)) (equal_true name k.items h)
      (go (bytes_eq x name))
    where
      go : (b : Bool) → cond b (Some w) o ≡ (if b then Some w else cond b (Some v) o)
      go true = refl
      go false = refl

  other_key : (k v : Vec ℕ) (o : Option (Vec ℕ)) → bytes_eq name k.items ≡ false →
      cond (bytes_eq x k.items) (Some v) (if bytes_eq x name then Some w else o) ≡ (if bytes_eq x name then Some w else cond (bytes_eq x k.items) (Some v) o)
  other_key k v o h =
      go (bytes_eq x name) (bytes_eq x k.items) (λ a b.
      let c : bytes_eq name k.items ≡ true = subst (λ l. bytes_eq l k.items ≡ true) (equal_true x name a) b in
      true≢false (sym c ∙ h))
    where
      go : (a b : Bool) → (a ≡ true → b ≡ true → ⊥) → cond b (Some v) (if a then Some w else o) ≡ (if a then Some w else cond b (Some v) o)
      go true true h = absurd (h refl refl)
      go true false h = refl
      go false b h = refl

  -- the list that is written at the first entry of the name
  at_set : (es : Entries) (i : ℕ) (d : Vec ℕ) → i < length (keys_of es) → bytes_eq name (get_or (keys_of es) i d).items ≡ true →
      ((k : ℕ) → k < i → bytes_eq name (get_or (keys_of es) k d).items ≡ false) → at x (set_value_at es i w) ≡ (if bytes_eq x name then Some w else at x es)
  at_set [] i d lt h before = absurd (omega (arith, lt))
  at_set (e ∷ es) zero d lt h before = same_key e.0 e.1 (at x es) h
  at_set (e ∷ es) (suc i) d lt h before =
      ap (λ o. cond (bytes_eq x e.0.items) (Some e.1) o) (at_set es i d (omega (arith, lt)) h (λ k l. before (suc k) (omega (arith, l))))
      ∙ other_key e.0 e.1 (at x es) (before 0 (omega arith))

  -- an entry of a new name
  at_new : (es : Entries) (key : Vec ℕ) → key.items ≡ name → at name es ≡ None → at x (es ++ (key, w) ∷ []) ≡ (if bytes_eq x name then Some w else at x es)
  at_new [] key e h = ap (λ l. cond (bytes_eq x l) (Some w) None) e ∙ go (bytes_eq x name)
    where
      go : (b : Bool) → cond b (Some w) None ≡ (if b then Some w else None)
      go true = refl
      go false = refl
  at_new (f ∷ es) key e h = by (bytes_eq name f.0.items) refl (at_new es key e)
    where
      by : (b : Bool) → bytes_eq name f.0.items ≡ b → (at name es ≡ None → at x (es ++ (key, w) ∷ []) ≡ (if bytes_eq x name then Some w else at x es)) →
          cond (bytes_eq x f.0.items) (Some f.1) (at x (es ++ (key, w) ∷ [])) ≡ (if bytes_eq x name then Some w else cond (bytes_eq x f.0.items) (Some f.1) (at x es))
      by true q rest =
          let bad : Some f.1 ≡ None = sym (ap (λ b. cond b (Some f.1) (at name es)) q) ∙ h in
          cc
      by false q rest =
          ap (λ o. cond (bytes_eq x f.0.items) (Some f.1) o) (rest (sym (ap (λ b. cond b (Some f.1) (at name es)) q) ∙ h))
          ∙ other_key f.0 f.1 (at x es) q

-- the name has the list, and each other name what it had
positions_after : (x name : Name) (w : Vec ℕ) (n : ℕ) (es : Entries) → w.items ≡ positions_in (at name es) ++ n ∷ [] →
    positions_in (if bytes_eq x name then Some w else at x es) ≡ (if bytes_eq x name then positions_in (at x es) ++ n ∷ [] else positions_in (at x es))
positions_after x name w n es e = by (bytes_eq x name) refl
  where
    by : (b : Bool) → bytes_eq x name ≡ b → positions_in (if b then Some w else at x es) ≡ (if b then positions_in (at x es) ++ n ∷ [] else positions_in (at x es))
    by true q = subst (λ y. w.items ≡ positions_in (at y es) ++ n ∷ []) (sym (equal_true x name q)) e
    by false q = refl

key_at-get : (ks : List (Vec ℕ)) (i : ℕ) (d : Vec ℕ) → i < length ks → key_at ks i ≡ (get_or ks i d).items
key_at-get [] i d lt = absurd (omega (arith, lt))
key_at-get (k ∷ ks) zero d lt = refl
key_at-get (k ∷ ks) (suc i) d lt = key_at-get ks i d (omega (arith, lt))

key_at-before : (ks ls : List (Vec ℕ)) (i : ℕ) → i < length ks → key_at (ks ++ ls) i ≡ key_at ks i
key_at-before [] ls i lt = absurd (omega (arith, lt))
key_at-before (k ∷ ks) ls zero lt = refl
key_at-before (k ∷ ks) ls (suc i) lt = key_at-before ks ls i (omega (arith, lt))

key_at-last : (ks : List (Vec ℕ)) (k : Vec ℕ) → key_at (ks ++ k ∷ []) (length ks) ≡ k.items
key_at-last [] k = refl
key_at-last (l ∷ ks) k = key_at-last ks k

keys_of-last : (es : Entries) (e : Vec ℕ × Vec ℕ) → keys_of (es ++ e ∷ []) ≡ keys_of es ++ e.0 ∷ []
keys_of-last [] e = refl
keys_of-last (f ∷ es) e = ap (λ l. f.0 ∷ l) (keys_of-last es e)

length-keys_of : (es : Entries) → length (keys_of es) ≡ length es
length-keys_of [] = refl
length-keys_of (e ∷ es) = ap suc (length-keys_of es)

module _ {S : Type 0} (m : NameIndex S) where
  -- one position more at a key
  pub gains-known : (name bytes : Name) (d v w : Vec ℕ) (n k : ℕ) → bytes ≡ name → Some k ≡ position (λ q. bytes_eq bytes q.items) (keys m) →
      slice_get (values m) k ≡ get_by (λ q. bytes_eq bytes q.items) m → slice_get (values m) k ≡ Some v → w.items ≡ v.items ++ n ∷ [] → GainsPosition m (with_value_at m k w) name n k
  gains-known name bytes d v w n k e at_k value there more =
      subst (λ x. GainsPosition m (with_value_at m k w) x n k) e
      (let p = position-Some (λ q. bytes_eq bytes q.items) (keys m) k d (sym at_k) in
      let same : keys (with_value_at m k w) ≡ keys m = keys-with_value_at m k w in
      let has : at bytes m.entries ≡ Some v = sym value ∙ there in
      record {
        positions = λ x. ap positions_in (at_set x bytes w m.entries k d p.0 p.1 p.2)
            ∙ positions_after x bytes w n m.entries (more ∙ ap (λ o. positions_in o ++ n ∷ []) (sym has));
        kept = λ i lt. ap (λ ks. key_at ks i) same;
        longer = let z : length (keys (with_value_at m k w)) ≡ length (keys m) = ap length same in omega (arith, z);
        inside = subst (λ ks. k < length ks) (sym same) p.0;
        named = ap (λ ks. key_at ks k) same ∙ key_at-get (keys m) k d p.0 ∙ sym (equal_true bytes _ p.1);
      })

  -- a list that is as it was
  pub same-known : (bytes : Name) (d v w : Vec ℕ) (k : ℕ) → Some k ≡ position (λ q. bytes_eq bytes q.items) (keys m) →
      slice_get (values m) k ≡ get_by (λ q. bytes_eq bytes q.items) m → slice_get (values m) k ≡ Some v → w.items ≡ v.items → SamePositions m (with_value_at m k w)
  same-known bytes d v w k at_k value there same =
      let p = position-Some (λ q. bytes_eq bytes q.items) (keys m) k d (sym at_k) in
      record {
        positions = λ x. ap positions_in (at_set x bytes w m.entries k d p.0 p.1 p.2) ∙ by x (bytes_eq x bytes) refl;
        keys = keys-with_value_at m k w;
      }
    where
      by : (x : Name) (b : Bool) → bytes_eq x bytes ≡ b → positions_in (if b then Some w else at x m.entries) ≡ positions_in (at x m.entries)
      by x true q = same ∙ sym (ap positions_in (subst (λ y. at y m.entries ≡ Some v) (sym (equal_true x bytes q)) (sym value ∙ there)))
      by x false q = refl

  -- a position for a new key
  pub gains-new : (new : NameIndex S) (name : Name) (key list : Vec ℕ) (n : ℕ) → key.items ≡ name → list.items ≡ n ∷ [] → has_key m name ≡ false →
      new.entries ≡ insert_entry (λ a b. bytes_eq a.items b.items) m.entries key list → GainsPosition m new name n (length m.entries)
  gains-new new name key list n e f none inserted =
      let absent : at name m.entries ≡ None = no_list (at name m.entries) none in
      let es : new.entries ≡ m.entries ++ (key, list) ∷ [] =
      inserted ∙ insert_entry-new (λ a b. bytes_eq a.items b.items) m key list (subst (λ l. at l m.entries ≡ None) (sym e) absent) in
      let ks : keys new ≡ keys m ++ key ∷ [] = ap keys_of es ∙ keys_of-last m.entries (key, list) in
      let count : length (keys m) ≡ length m.entries = length-keys_of m.entries in
      let counted : length (keys new) ≡ length (keys m) + 1 = ap length ks ∙ length-append (keys m) (key ∷ []) in
      record {
        positions = λ x. ap (λ es. positions_in (at x es)) es ∙ ap positions_in (at_new x name list m.entries key e absent)
            ∙ positions_after x name list n m.entries (f ∙ ap (λ o. positions_in o ++ n ∷ []) (sym absent));
        kept = λ i lt. ap (λ l. key_at l i) ks ∙ key_at-before (keys m) (key ∷ []) i lt;
        longer = omega (arith, counted);
        inside = omega (arith, counted, count);
        named = ap (λ l. key_at l (length m.entries)) ks ∙ ap (λ i. key_at (keys m ++ key ∷ []) i) (sym count) ∙ key_at-last (keys m) key ∙ e;
      }
    where
      no_list : (o : Option (Vec ℕ)) → is_some o ≡ false → o ≡ None
      no_list None h = refl
      no_list (Some v) h = absurd (true≢false h)
