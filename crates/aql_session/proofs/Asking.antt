-- What the argument of a reader asks for: step by step, and where the argument has its type.
use Rattle.std.proofs.Common.{◌≡◌, ℕ, zero, suc, ◌≤◌, Bool, true, false, List, [], ◌∷◌, ◌++◌, length, map, replicate, Option, Some, None, refl, sym, ap, ◌∙◌, arith, nat_eq, eq-eqb, if◌then◌else◌}
use Rattle.std.specs.Prelude.{option_map}
use Rattle.std.proofs.lemmas.List.{map-append, length-replicate}
use Rattle.aql_value.specs.Datum as datum
use Rattle.aql_value.specs.Datum.{Datum, data_of, list_of}
use Rattle.aql_value.specs.Laws.Datum.{list_of-data_of}
use Rattle.aql_value.specs.Meaning as meaning
use Rattle.aql_value.specs.Operations.{as_natural, as_text, as_tuple, index_numbers}
use Rattle.aql_value.specs.Partial.{◌>>=◌, each}
use Rattle.aql_value.specs.declared.value.Value.{Value}
use Rattle.aql_ty.specs.Types as types
use Rattle.aql_ty.specs.Types.{IsRank, IsType, IsWithin, index_type, tys_of}
use Rattle.aql_ty.specs.ValueTypes.{HasType, AllHaveTypes}
use Rattle.aql_syntax.specs.Tree as tree
use Rattle.aql_syntax.specs.Tree.{Reader}
use Rattle.aql_syntax.specs.Typing.{reader_type, argument_type, record_type}
use Rattle.aql_syntax.specs.declared.ast.Kind.{Kind}
use Rattle.aql_session.specs.Asked.{Hyperslab, Asked, hyperslab, table, hyperslab_from, asked_of, without_strides, with_strides}
use Rattle.nrca_loops.specs.Parts.{numbers_with}
use Rattle.nrca_loops.specs.Laws.Run.{each-more}
use Rattle.aql_session.specs.Executions.{HasRank, IsProper, asked_type, cell_type}

-- the numbers of one value more
pub numbers_push : (vs : List Value) (v : Value) → each as_natural (map meaning.datum (vs ++ v ∷ [])) ≡ numbers_with (each as_natural (map meaning.datum vs)) (meaning.datum v)
numbers_push vs v =
    ap (each as_natural) (map-append meaning.datum vs (v ∷ [])) ∙ each-more as_natural (map meaning.datum vs) (meaning.datum v)

naturals-typed : (k : ℕ) (vs : List Datum) → AllHaveTypes (tys_of (replicate k types.natural)) vs → (ns : List ℕ) × (each as_natural vs ≡ Some ns) × (length ns ≡ k)
naturals-typed zero [] h = ([], refl, refl)
naturals-typed zero (v ∷ vs) h = absurd h
naturals-typed (suc k) [] h = absurd h
naturals-typed (suc k) (v ∷ vs) h =
    let r = naturals-typed k vs h.1 in
    (h.0.0 ∷ r.0, ap (λ w. as_natural w >>= λ y. each as_natural vs >>= λ ys. Some (y ∷ ys)) h.0.1 ∙ ap (λ o. o >>= λ ys. Some (h.0.0 ∷ ys)) r.1, omega (arith, r.2))

-- an index that has its type
pub record IsIndex (k : ℕ) (v : Datum) : Type 0 where
  pub numbers : List ℕ
  pub is : index_numbers k v ≡ Some numbers
  pub many : length numbers ≡ k

pub index-typed : (k : ℕ) (v : Datum) → 1 ≤ k → HasType (index_type k) v → IsIndex k v
index-typed zero v l h = absurd (omega (arith, l))
index-typed (suc zero) v l h = record { numbers = h.0 ∷ []; is = ap (index_numbers 1) h.1; many = refl }
index-typed (suc (suc k)) v l h =
    let r = naturals-typed (suc (suc k)) h.0 h.2 in
    record {
      numbers = r.0;
      is =
          ap (index_numbers (suc (suc k))) h.1
          ∙ ap (λ vs. each as_natural vs >>= λ at. if nat_eq (length at) (suc (suc k)) then Some at else None) (list_of-data_of h.0)
          ∙ ap (λ o. o >>= λ at. if nat_eq (length at) (suc (suc k)) then Some at else None) r.1
          ∙ ap (λ b. if b then Some r.0 else None) (eq-eqb (length r.0) (suc (suc k)) r.2);
      many = r.2;
    }

-- what an argument that has its type asks for
pub record AsksFor (r : Reader) (v : Datum) : Type 0 where
  pub asked : Asked
  pub is : asked_of r v ≡ Some asked
  pub proper : IsProper asked
  pub type : reader_type r ≡ asked_type asked

same-parts : (k : ℕ) (sign : Bool) (f x s c : Datum) (stride : Option (List ℕ)) (file variable starts counts strides : List ℕ) → f ≡ datum.text file → x ≡ datum.text variable →
    index_numbers k s ≡ Some starts → index_numbers k c ≡ Some counts → stride ≡ Some strides →
    hyperslab_from k sign f x s c stride ≡ Some (record { file = file; variable = variable; start = starts; count = counts; stride = strides; signed = sign })
same-parts k sign f x s c stride file variable starts counts strides e g h i j = rw (e, g, h, i, j) refl

without : (k : ℕ) (sign : Bool) (v : Datum) → IsRank k → HasType (types.product (tys_of (types.text ∷ types.text ∷ index_type k ∷ index_type k ∷ []))) v →
    (a : Hyperslab) × ((as_tuple v >>= without_strides k sign) ≡ Some a) × HasRank a × (length a.count ≡ k) × (a.signed ≡ sign)
without k sign v rank ([], e, h) = absurd h
without k sign v rank (f ∷ [], e, h) = absurd h.1
without k sign v rank (f ∷ x ∷ [], e, h) = absurd h.1.1
without k sign v rank (f ∷ x ∷ s ∷ [], e, h) = absurd h.1.1.1
without k sign v rank (f ∷ x ∷ s ∷ c ∷ y ∷ vs, e, h) = absurd h.1.1.1.1
without k sign v rank (f ∷ x ∷ s ∷ c ∷ [], e, h) =
    let i = index-typed k s rank.0 h.1.1.0 in
    let j = index-typed k c rank.0 h.1.1.1.0 in
    let a : Hyperslab = record { file = h.0.0; variable = h.1.0.0; start = i.numbers; count = j.numbers; stride = replicate k 1; signed = sign } in (
      a,
      ap (λ w. as_tuple w >>= without_strides k sign) e ∙ same-parts k sign f x s c (Some (replicate k 1)) h.0.0 h.1.0.0 i.numbers j.numbers (replicate k 1) h.0.1 h.1.0.1 i.is j.is refl,
      record {
        some = omega (arith, i.many, rank.0);
        few = omega (arith, i.many, rank.1);
        counts = omega (arith, i.many, j.many);
        strides = omega (arith, i.many, length-replicate {A = ℕ} k 1);
      },
      j.many,
      refl,
    )

with : (k : ℕ) (v : Datum) → IsRank k → HasType (types.product (tys_of (types.text ∷ types.text ∷ index_type k ∷ index_type k ∷ index_type k ∷ []))) v →
    (a : Hyperslab) × ((as_tuple v >>= with_strides k) ≡ Some a) × HasRank a × (length a.count ≡ k) × (a.signed ≡ false)
with k v rank ([], e, h) = absurd h
with k v rank (f ∷ [], e, h) = absurd h.1
with k v rank (f ∷ x ∷ [], e, h) = absurd h.1.1
with k v rank (f ∷ x ∷ s ∷ [], e, h) = absurd h.1.1.1
with k v rank (f ∷ x ∷ s ∷ c ∷ [], e, h) = absurd h.1.1.1.1
with k v rank (f ∷ x ∷ s ∷ c ∷ t ∷ y ∷ vs, e, h) = absurd h.1.1.1.1.1
with k v rank (f ∷ x ∷ s ∷ c ∷ t ∷ [], e, h) =
    let i = index-typed k s rank.0 h.1.1.0 in
    let j = index-typed k c rank.0 h.1.1.1.0 in
    let l = index-typed k t rank.0 h.1.1.1.1.0 in
    let a : Hyperslab = record { file = h.0.0; variable = h.1.0.0; start = i.numbers; count = j.numbers; stride = l.numbers; signed = false } in (
      a,
      ap (λ w. as_tuple w >>= with_strides k) e ∙ same-parts k false f x s c (index_numbers k t) h.0.0 h.1.0.0 i.numbers j.numbers l.numbers h.0.1 h.1.0.1 i.is j.is l.is,
      record {
        some = omega (arith, i.many, rank.0);
        few = omega (arith, i.many, rank.1);
        counts = omega (arith, i.many, j.many);
        strides = omega (arith, i.many, l.many);
      },
      j.many,
      refl,
    )

-- a record has a field, since its type is one of the language
some-kind : (ks : List Kind) → IsType (record_type ks) → 1 ≤ length ks
some-kind [] h = absurd (omega (arith, h.0))
some-kind (k ∷ ks) h = omega arith

-- the rank of a reader's arrays is 1 to 8, since its type is one of the language
pub asks-typed : (r : Reader) (v : Datum) → IsWithin (reader_type r) → HasType (argument_type r) v → AsksFor r v
asks-typed (tree.plain k) v w h =
    let r = without k false v w.2.0 h in
    record {
      asked = hyperslab r.0;
      is = ap (option_map hyperslab) r.1;
      proper = r.2;
      type = ap (λ n. types.array_of n types.natural) (sym r.3) ∙ ap (λ b. types.array_of (length r.0.count) (cell_type b)) (sym r.4);
    }
asks-typed (tree.signed k) v w h =
    let r = without k true v w.2.0 h in
    record {
      asked = hyperslab r.0;
      is = ap (option_map hyperslab) r.1;
      proper = r.2;
      type = ap (λ n. types.array_of n (cell_type true)) (sym r.3) ∙ ap (λ b. types.array_of (length r.0.count) (cell_type b)) (sym r.4);
    }
asks-typed (tree.strided k) v w h =
    let r = with k v w.2.0 h in
    record {
      asked = hyperslab r.0;
      is = ap (option_map hyperslab) r.1;
      proper = r.2;
      type = ap (λ n. types.array_of n types.natural) (sym r.3) ∙ ap (λ b. types.array_of (length r.0.count) (cell_type b)) (sym r.4);
    }
asks-typed (tree.records header ks) v w h =
    record {
      asked = table h.0 header ks;
      is = ap (λ d. option_map (λ file. table file header ks) (as_text d)) h.1;
      proper = some-kind ks w.2;
      type = refl;
    }
