-- What was read by a reader's argument.
use Rattle.std.proofs.Common.{◌≡◌, ℕ, ◌-◌, ◌^◌, ◌≤◌, min, Bool, true, false, List, [], ◌∷◌, length, Option, Some, None, refl, sym, ap, ◌∙◌, subst, arith, if◌then◌else◌}
use Rattle.aql_outside.specs.Contents.{Content}
use Rattle.aql_value.specs.Datum as datum
use Rattle.aql_value.specs.Datum.{Datum, Table, data_of}
use Rattle.aql_value.specs.Indices.{product}
use Rattle.aql_value.specs.Laws.Lists.{Every-impl}
use Rattle.aql_value.specs.Valid.{IsValue}
use Rattle.aql_ty.specs.Types as types
use Rattle.aql_ty.specs.Types.{Ty, IsWithin}
use Rattle.aql_ty.specs.ValueTypes.{HasType}
use Rattle.aql_syntax.specs.Tree.{Reader}
use Rattle.aql_syntax.specs.Typing.{reader_type, argument_type}
use Rattle.cdf_slab.specs.Numbers.{IsCell}
use Rattle.cdf_slab.specs.Slab.{IsShaped}
use Rattle.nrca_array.specs.Held.{table_datum}
use Rattle.nrca_loops.specs.Values.{held_value}
use Rattle.aql_value.specs.Limits.{most_budget}
use Rattle.aql_session.specs.Asked.{Hyperslab, Asked, hyperslab, asked_of, cells}
use Rattle.aql_session.specs.Executions.{IsProper, IsReadBy, IsReadOf, IsRequestOf, IsSlabOf, asked_type, cell_type, request_asked}
use Rattle.aql_session.specs.Step.{IsCountOf, IsReadable}
use Rattle.aql_session.specs.declared.readings.Read.{Read}
use Rattle.aql_session.specs.declared.readings.Request.{Request}
use Rattle.aql_session.proofs.Asking.{asks-typed}

cell-typed : (sign : Bool) (v : Datum) → IsCell sign v → HasType (cell_type sign) v
cell-typed true v (n, e) =
    let z : datum.tuple (data_of (datum.truth n.0 ∷ datum.natural n.1 ∷ [])) ≡ v = cc in
    (datum.truth n.0 ∷ datum.natural n.1 ∷ [], sym z, ((n.0, refl), ((n.1, refl), tt)))
cell-typed false v (n, e) = go n.0 e
  where
    go : (b : Bool) → (if b then None else Some (datum.natural n.1)) ≡ Some v → HasType types.natural v
    go true q = cc
    go false q = let z : datum.natural n.1 ≡ v = cc in (n.1, sym z)

-- an array that was read has the reader's type
pub shaped-typed : (T : Ty) (count : List ℕ) (sign : Bool) (t : Table) → T ≡ types.array_of (length count) (cell_type sign) → IsShaped count sign t → HasType T (table_datum t)
shaped-typed T count sign t e s =
    subst (λ X. HasType X (table_datum t)) (sym e) (
      t.dims,
      t.cells,
      refl,
      ap length s.dims,
      ap product s.dims ∙ s.full,
      Every-impl (IsCell sign) (HasType (cell_type sign)) (cell-typed sign) t.cells s.kinds,
    )

-- a hyperslab that was read
pub slab-of : (a : Hyperslab) (budget : ℕ) (holds : Option Content) (x : Read) (t : Table) (p : ℕ) → budget ≤ most_budget → cells a ≤ budget → IsSlabOf a holds t →
    held_value x.value ≡ Some (table_datum t) → x.turns ≡ p → p ≡ min (cells a) (2 ^ 128 - 1) → IsValue (table_datum t) → IsReadOf (hyperslab a) budget holds x
slab-of a budget holds x t p b within h e q is valid =
    let count : x.turns ≡ cells a = omega (arith, q, is, within, b) in
    record {
      value = table_datum t;
      is = e;
      counts = count;
      few = omega (arith, count, within);
      readable = record { within = within; named = h.named; strides = h.strides; file = λ files l. (h.told files l).0 };
      typed = shaped-typed (asked_type (hyperslab a)) a.count a.signed t refl h.shaped;
      form = (t.cells, ap (λ ds. datum.array ds (data_of t.cells)) h.shaped.dims);
      told = λ files l. (h.told files l).1;
      valid = valid;
    }

-- a request that an argument asks for, where it has its type
pub request-typed : (r : Reader) (v : Datum) (request : Request) → IsWithin (reader_type r) → HasType (argument_type r) v → Some (request_asked request) ≡ asked_of r v → IsRequestOf r v request
request-typed r v request w h e =
    let a = asks-typed r v w h in
    let z : a.asked ≡ request_asked request = (let y = sym a.is ∙ sym e in cc) in
    record { is = sym e; proper = subst IsProper z a.proper; type = a.type ∙ ap asked_type z }

-- an argument that has its type asks for something
pub asks-some : (r : Reader) (v : Datum) → IsWithin (reader_type r) → HasType (argument_type r) v → None ≡ asked_of r v → ⊥
asks-some r v w h e = let a = asks-typed r v w h in (let y = e ∙ a.is in cc)

module _ (r : Reader) (v : Datum) (request : Request) (asked : IsRequestOf r v request) (budget : ℕ) (holds : Option Content) where
  asked-is : (a : Asked) → asked_of r v ≡ Some a → request_asked request ≡ a
  asked-is a e = let y = sym asked.is ∙ e in cc

  pub read-by : (x : Read) → IsReadOf (request_asked request) budget holds x → IsReadBy r (Some v) budget holds x
  read-by x h = record {
    counts = subst (λ o. IsCountOf budget holds o (held_value x.value) x.turns) (sym asked.is) (h.value, h.is, h.counts);
    few = h.few;
    readable = λ a q. subst (IsReadable budget holds) (asked-is a q) h.readable;
    outcome = (
      request_asked request,
      h.value,
      asked.is,
      h.is,
      record { typed = subst (λ T. HasType T h.value) (sym asked.type) h.typed; form = h.form; told = h.told },
    );
    valid = λ w e. subst IsValue (let z : h.value ≡ w = (let y = sym h.is ∙ e in cc) in z) h.valid;
  }
