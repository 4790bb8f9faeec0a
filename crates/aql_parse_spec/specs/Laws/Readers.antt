-- A reader's name says which reader it is, and no other.
use Rattle.std.specs.Prelude.{ℕ, ◌≡◌, ◌<◌, ◌≤◌, ◌+◌, ◌-◌, ◌==◌, List, [], ◌∷◌, ◌++◌, Option, Some, None, Bool, true, false, nat_lt, length, map, if◌then◌else◌}
use Rattle.std.proofs.Common.{refl, sym, ap, subst, ◌∙◌, arith, lit<}
use Rattle.std.proofs.lemmas.Bool.{eqb-true}
use Rattle.aql_syntax.specs.declared.ast.Kind.{Kind}
use Rattle.aql_syntax.specs.declared.ast.Kind.TheVariants as field_kinds
use Rattle.aql_syntax.specs.Tree.{Name, Reader, plain, signed, strided, records}
use Rattle.aql_syntax.specs.Grammar.{netcdf, csv, kind_letter, reader_name, IsReader}
use Rattle.aql_value.specs.Partial.{◌>>=◌}
use Rattle.aql_syntax.specs.Lexis.{behind}
use Rattle.aql_syntax.specs.Laws.Lexis.{behind_is}
use Rattle.aql_parse_spec.specs.Parsing.{short, rank_of, kind_of_letter, kinds_of, records_of, netcdf_reader, csv_reader, reader_named}
use Rattle.aql_parse_spec.specs.Laws.Steps.{went, short_is}
use Rattle.aql_parse_spec.specs.Laws.StopsLaws.{short_list}

pub record IsNamed (x : Name) (reader : Reader) : Type 0 where
  pub name : x ≡ reader_name reader
  pub valid : IsReader reader

-- a rank's digit
pub record IsDigit (s : List ℕ) (k : ℕ) : Type 0 where
  pub digit : s ≡ (48 + k) ∷ []
  pub least : 1 ≤ k
  pub most : k ≤ 8

rank_is : (s : List ℕ) (k : ℕ) → rank_of s ≡ Some k → IsDigit s k
rank_is [] k e = cc
rank_is (d ∷ c ∷ s) k e = cc
rank_is (d ∷ []) k e = go (nat_lt 48 d) (nat_lt d 57) refl refl
  where
    go : (a b : Bool) → nat_lt 48 d ≡ a → nat_lt d 57 ≡ b → IsDigit (d ∷ []) k
    go false b low high = let e' = rw low at e in cc
    go true false low high = let e' = rw (low, high) at e in cc
    go true true low high =
        let e' = rw (low, high) at e in
        let f : d - 48 ≡ k = cc in
        let l : 48 < d = grind arith in
        let m : d < 57 = grind arith in
        let g : d ≡ 48 + k = omega arith in
        record { digit = ap (λ z. z ∷ []) g; least = omega arith; most = omega arith }

rank_self : (k : ℕ) → 1 ≤ k → k ≤ 8 → rank_of ((48 + k) ∷ []) ≡ Some k
rank_self k l m =
    let a : nat_lt 48 (48 + k) ≡ true = grind arith in
    let b : nat_lt (48 + k) 57 ≡ true = grind arith in
    let c : 48 + k - 48 ≡ k = omega arith in
    rw (a, b, c) refl

kind_is : (b : ℕ) (k : Kind) → kind_of_letter b ≡ Some k → b ≡ kind_letter k
kind_is b k e = go (b == 78) (b == 83) refl refl
  where
    go : (s t : Bool) → (b == 78) ≡ s → (b == 83) ≡ t → b ≡ kind_letter k
    go true t n m = let e' = rw n at e in let f : field_kinds.Number ≡ k = cc in eqb-true b 78 n ∙ ap kind_letter f
    go false true n m = let e' = rw (n, m) at e in let f : field_kinds.Bytes ≡ k = cc in eqb-true b 83 m ∙ ap kind_letter f
    go false false n m = let e' = rw (n, m) at e in cc

kinds_are : (s : List ℕ) (ks : List Kind) → kinds_of s ≡ Some ks → s ≡ map kind_letter ks
kinds_are [] ks e = let f : [] ≡ ks = cc in ap (map kind_letter) f
kinds_are (b ∷ s) ks e =
    let w = went (kind_of_letter b) _ ks e in
    let v = went (kinds_of s) _ ks w.second in
    let f : w.value ∷ v.value ≡ ks = cc (v.second) in
    let g = kind_is b w.value w.first in
    let h = kinds_are s v.value v.first in
    (ap (λ z. z ∷ s) g ∙ ap (λ z. kind_letter w.value ∷ z) h) ∙ ap (map kind_letter) f

kinds_self : (ks : List Kind) → kinds_of (map kind_letter ks) ≡ Some ks
kinds_self [] = refl
kinds_self (field_kinds.Number ∷ ks) = rw (kinds_self ks) refl
kinds_self (field_kinds.Bytes ∷ ks) = rw (kinds_self ks) refl

pub record AreRecords (header : Bool) (s : List ℕ) (reader : Reader) : Type 0 where
  pub kinds : List Kind
  pub letters : s ≡ map kind_letter kinds
  pub least : 1 ≤ length kinds
  pub most : length kinds ≤ 8
  pub same : reader ≡ records header kinds

records_are : (header : Bool) (s : List ℕ) (reader : Reader) → records_of header s ≡ Some reader → AreRecords header s reader
records_are header s reader e =
    let w = went (kinds_of s) _ reader e in go w.value (kinds_are s w.value w.first) w.second (nat_lt 0 (length w.value)) refl
  where
    go : (ks : List Kind) → s ≡ map kind_letter ks →
        (if nat_lt 0 (length ks) then (short (length ks) ks >>= λ ls. Some (records header ls)) else None) ≡ Some reader →
        (t : Bool) → nat_lt 0 (length ks) ≡ t → AreRecords header s reader
    go ks is e false few = let e' = rw few at e in cc
    go ks is e true some =
        let e' = rw some at e in
        let v = went (short (length ks) ks) (λ ls. Some (records header ls)) reader e' in
        let f = short_is (length ks) ks v.value v.first in
        let g : records header v.value ≡ reader = cc (v.second) in
        record { kinds = ks; letters = is; least = grind arith; most = f.least; same = sym (ap (records header) f.same ∙ g) }

records_self : (header : Bool) (ks : List Kind) → 1 ≤ length ks → length ks ≤ 8 → records_of header (map kind_letter ks) ≡ Some (records header ks)
records_self header ks l m =
    let a : nat_lt 0 (length ks) ≡ true = grind arith in
    rw (kinds_self ks, a, short_list (length ks) ks m) refl

netcdf_is : (s : List ℕ) (reader : Reader) → netcdf_reader s ≡ Some reader → IsNamed (netcdf ++ s) reader
netcdf_is [] reader e = cc
netcdf_is (b ∷ s) reader e = go (b == 90) (b == 83) refl refl
  where
    go : (u v : Bool) → (b == 90) ≡ u → (b == 83) ≡ v → IsNamed (netcdf ++ (b ∷ s)) reader
    go true v n m =
        let e' = rw n at e in
        let w = went (rank_of s) (λ k. Some (signed k)) reader e' in
        let d = rank_is s w.value w.first in
        let f : signed w.value ≡ reader = cc (w.second) in
        let x : b ∷ s ≡ 90 ∷ (48 + w.value) ∷ [] = ap (λ z. z ∷ s) (eqb-true b 90 n) ∙ ap (λ z. 90 ∷ z) d.digit in
        subst (IsNamed (netcdf ++ (b ∷ s))) f (record { name = ap (λ z. netcdf ++ z) x; valid = (d.least, d.most) })
    go false true n m =
        let e' = rw (n, m) at e in
        let w = went (rank_of s) (λ k. Some (strided k)) reader e' in
        let d = rank_is s w.value w.first in
        let f : strided w.value ≡ reader = cc (w.second) in
        let x : b ∷ s ≡ 83 ∷ (48 + w.value) ∷ [] = ap (λ z. z ∷ s) (eqb-true b 83 m) ∙ ap (λ z. 83 ∷ z) d.digit in
        subst (IsNamed (netcdf ++ (b ∷ s))) f (record { name = ap (λ z. netcdf ++ z) x; valid = (d.least, d.most) })
    go false false n m =
        let e' = rw (n, m) at e in
        let w = went (rank_of (b ∷ s)) (λ k. Some (plain k)) reader e' in
        let d = rank_is (b ∷ s) w.value w.first in
        let f : plain w.value ≡ reader = cc (w.second) in
        subst (IsNamed (netcdf ++ (b ∷ s))) f (record { name = ap (λ z. netcdf ++ z) d.digit; valid = (d.least, d.most) })

csv_is : (s : List ℕ) (reader : Reader) → csv_reader s ≡ Some reader → IsNamed (csv ++ s) reader
csv_is [] reader e = cc
csv_is (b ∷ s) reader e = go (b == 72) refl
  where
    go : (u : Bool) → (b == 72) ≡ u → IsNamed (csv ++ (b ∷ s)) reader
    go true n =
        let e' = rw n at e in
        let r = records_are true s reader e' in
        let x : b ∷ s ≡ 72 ∷ map kind_letter r.kinds = ap (λ z. z ∷ s) (eqb-true b 72 n) ∙ ap (λ z. 72 ∷ z) r.letters in
        subst (IsNamed (csv ++ (b ∷ s))) (sym r.same) (record { name = ap (λ z. csv ++ z) x; valid = (r.least, r.most) })
    go false n =
        let e' = rw n at e in
        let r = records_are false (b ∷ s) reader e' in
        subst (IsNamed (csv ++ (b ∷ s))) (sym r.same) (record { name = ap (λ z. csv ++ z) r.letters; valid = (r.least, r.most) })

pub reader_is : (x : Name) (reader : Reader) → reader_named x ≡ Some reader → IsNamed x reader
unfolding reader_named
reader_is x reader e = go (behind netcdf x) refl
  where
    go : (o : Option (List ℕ)) → behind netcdf x ≡ o → IsNamed x reader
    go (Some s) is = let e' = rw is at e in subst (λ z. IsNamed z reader) (sym (behind_is netcdf x s is)) (netcdf_is s reader e')
    go None is =
        let e' = rw is at e in
        let w = went (behind csv x) (λ s. csv_reader s) reader e' in
        subst (λ z. IsNamed z reader) (sym (behind_is csv x w.value w.first)) (csv_is w.value reader w.second)

not_letter : (k n : ℕ) → k ≤ 8 → 57 < n → (48 + k == n) ≡ false
not_letter k n l m = go (48 + k == n) refl
  where
    go : (t : Bool) → (48 + k == n) ≡ t → t ≡ false
    go false e = refl
    go true e = absurd (omega (arith, eqb-true (48 + k) n e))

netcdf_plain : (k : ℕ) → 1 ≤ k → k ≤ 8 → netcdf_reader ((48 + k) ∷ []) ≡ Some (plain k)
netcdf_plain k l m = rw (not_letter k 90 m (lit< tt), not_letter k 83 m (lit< tt), rank_self k l m) refl

netcdf_signed : (k : ℕ) → 1 ≤ k → k ≤ 8 → netcdf_reader (90 ∷ (48 + k) ∷ []) ≡ Some (signed k)
netcdf_signed k l m = rw (rank_self k l m) refl

netcdf_strided : (k : ℕ) → 1 ≤ k → k ≤ 8 → netcdf_reader (83 ∷ (48 + k) ∷ []) ≡ Some (strided k)
netcdf_strided k l m = rw (rank_self k l m) refl

pub reader_self : (reader : Reader) → IsReader reader → reader_named (reader_name reader) ≡ Some reader
unfolding reader_named
reader_self (plain k) v = netcdf_plain k v.0 v.1
reader_self (signed k) v = netcdf_signed k v.0 v.1
reader_self (strided k) v = netcdf_strided k v.0 v.1
reader_self (records true ks) v = records_self true ks v.0 v.1
reader_self (records false []) v = absurd (omega (arith, v.0))
reader_self (records false (field_kinds.Number ∷ ks)) v = records_self false (field_kinds.Number ∷ ks) v.0 v.1
reader_self (records false (field_kinds.Bytes ∷ ks)) v = records_self false (field_kinds.Bytes ∷ ks) v.0 v.1
