-- A format says, by the contents of the fields so far, which field must come next.
use Rattle.std.specs.Prelude.{◌≡◌, ℕ, zero, suc, ◌+◌, ◌*◌, ◌/◌, ◌≤◌, Bool, false, cond, nat_lt, nat_eq, List, [], ◌∷◌, ◌++◌, length, take, drop, Option, Some, None, Result, Ok, Err, is_some}
use Rattle.byteorder.specs.Endian.{big_number}
use Rattle.cdf_header.specs.declared.fault.FieldFault.{FieldFault}
use Rattle.cdf_header.specs.declared.fault.FieldFault.TheVariants.{Short, Malformed, TooMany}
use Rattle.cdf_header.specs.declared.test.Test.{Test}
use Rattle.cdf_header.specs.declared.test.Test.TheVariants.{Any, Tag, Count, Extent, Id, NcType}
use Rattle.cdf_header.specs.Header.{Var, Head}
use Rattle.cdf_header.specs.Limits.{most_dimensions, most_attributes, most_variables, most_rank}

-- a number of so many bytes, or so many bytes and padding to a multiple of four
pub data Kind : Type 0 where
  number : ℕ → Test → Kind
  text : ℕ → Kind

-- the fields that must come, one after the other, and the header that they say
pub data Format : Type 0 where
  done : Head → Format
  ask : Kind → (List ℕ → Format) → Format

-- so many bytes with padding to a multiple of four
abbrev pub padded_size : ℕ → ℕ
padded_size n = (n + 3) / 4 * 4

-- the bytes of a field's content
abbrev pub own : Kind → ℕ
own (number w t) = w
own (text n) = n

-- those that it takes
abbrev pub room : Kind → ℕ
room (number w t) = w
room (text n) = padded_size n

-- the content of a field of a kind that stands at k
abbrev pub content : Kind → List ℕ → ℕ → List ℕ
content kind bytes k = take (own kind) (drop k bytes)

-- whether this is the number of the dimension that there is
abbrev pub is_at : Option ℕ → ℕ → Bool
is_at None n = false
is_at (Some i) n = nat_eq n i

-- the greatest number of a type
abbrev pub most_type : ℕ → ℕ
most_type version = cond (nat_eq version 5) 11 6

-- why a number is no good
abbrev pub flaw : Test → ℕ → ℕ → Option FieldFault
flaw Any k n = None
flaw (Tag own) k n = cond (nat_eq n 0) None (cond (nat_eq n own) None (Some (Malformed k)))
flaw (Count before list most) k n = cond (nat_lt most n) (Some (TooMany list)) (cond (nat_eq before 0) (cond (nat_eq n 0) None (Some (Malformed k))) None)
flaw (Extent has) k n = cond has (cond (nat_eq n 0) (Some (Malformed k)) None) None
flaw (Id dims unlimited first) k n = cond (nat_lt n dims) (cond first None (cond (is_at unlimited n) (Some (Malformed k)) None)) (Some (Malformed k))
flaw (NcType version) k n = cond (nat_eq n 0) (Some (Malformed k)) (cond (nat_lt (most_type version) n) (Some (Malformed k)) None)

-- why the content of a field at k is no good
abbrev pub flaw_of : Kind → ℕ → List ℕ → Option FieldFault
flaw_of (number w test) k bytes = flaw test k (big_number w bytes)
flaw_of (text n) k bytes = None

-- why no good field of a kind stands at k
abbrev pub fault_at : Kind → List ℕ → ℕ → Option FieldFault
fault_at kind bytes k = cond (nat_lt (length bytes) (k + room kind)) (Some (Short k)) (flaw_of kind k (content kind bytes k))

-- a fault, or where there is none what is read behind it
abbrev pub unless : Option FieldFault → Result Head FieldFault → Result Head FieldFault
unless None r = r
unless (Some f) r = Err f

-- reading the fields from k on in order, up to the first that fails
abbrev pub parse : Format → List ℕ → ℕ → Result Head FieldFault
parse (done h) bytes k = Ok h
parse (ask kind next) bytes k = unless (fault_at kind bytes k) (parse (next (content kind bytes k)) bytes (k + room kind))

-- ---- the relation

-- a field: its kind, where it stands, and the bytes of its content
pub record Field : Type 0 where
  pub kind : Kind
  pub at : ℕ
  pub content : List ℕ

-- the field stands in the bytes, within them, and nothing is wrong with it
pub record IsGood (bytes : List ℕ) (x : Field) : Type 0 where
  pub within : x.at + room x.kind ≤ length bytes
  pub spelled : x.content ≡ content x.kind bytes x.at
  pub right : flaw_of x.kind x.at x.content ≡ None

-- good fields of the kinds that the format asks for, one behind the other from k on, spell a header
abbrev pub Spells : Format → List ℕ → ℕ → List Field → Head → Type 0
Spells (done h) bytes k [] found = h ≡ found
Spells (done h) bytes k (x ∷ xs) found = ⊥
Spells (ask kind next) bytes k [] found = ⊥
Spells (ask kind next) bytes k (x ∷ xs) found =
    (x.kind ≡ kind) × (x.at ≡ k) × IsGood bytes x × Spells (next x.content) bytes (k + room kind) xs found

-- good fields spell the bytes before `at`, a field of a kind must come next, and none that is good stands there
abbrev pub Fails : Format → List ℕ → ℕ → List Field → ℕ → Kind → Type 0
Fails (done h) bytes k xs at kind = ⊥
Fails (ask asked next) bytes k [] at kind = (k ≡ at) × (asked ≡ kind) × ((x : Field) → x.kind ≡ kind → x.at ≡ at → IsGood bytes x → ⊥)
Fails (ask asked next) bytes k (x ∷ xs) at kind =
    (x.kind ≡ asked) × (x.at ≡ k) × IsGood bytes x × Fails (next x.content) bytes (k + room asked) xs at kind

-- ---- the header

-- a part of a format: what must come, before whatever comes after it
abbrev pub PartFormat : Type 0 → Type 0
PartFormat X = (X → Format) → Format

-- a part, and then one that depends on what it gave
infixl 10 ◌>>=◌
-- a part, and then what comes by its contents
abbrev pub ◌>>=◌ : {X Y : Type 0} → PartFormat X → (X → PartFormat Y) → PartFormat Y
(part >>= f) next = part (λ x. f x next)

-- a value for which no field must come
abbrev pub give : {X : Type 0} → X → PartFormat X
give x next = next x

-- a number of so many bytes that passes a test
unfoldable pub num : ℕ → Test → PartFormat ℕ
num w test next = ask (number w test) (λ bytes. next (big_number w bytes))

-- so many bytes, padded to a multiple of four
unfoldable pub str : ℕ → PartFormat (List ℕ)
str n next = ask (text n) next

-- so many bytes whose content is of no matter, padded to a multiple of four
unfoldable pub skip : ℕ → PartFormat (Unit {0})
skip n next = ask (text n) (λ bytes. next tt)

-- the bytes of a number that counts
abbrev pub wide : ℕ → ℕ
wide version = cond (nat_eq version 5) 8 4

-- the bytes of an offset
abbrev pub far : ℕ → ℕ
far version = cond (nat_eq version 1) 4 8

-- a name: how many bytes, and they
unfoldable pub name : ℕ → PartFormat (List ℕ)
name v = do
  n ← num (wide v) Any
  str n

-- the count of a list, which may be absent
unfoldable pub list : ℕ → ℕ → ℕ → ℕ → PartFormat ℕ
list v own which most = do
  t ← num 4 (Tag own)
  num (wide v) (Count t which most)

-- the number of the first dimension of length 0, counted from i
abbrev pub record_from : ℕ → List ℕ → Option ℕ
record_from i [] = None
record_from i (d ∷ ds) = cond (nat_eq d 0) (Some i) (record_from (i + 1) ds)

-- the number of the record dimension, where there is one
abbrev pub record_of : (lengths : List ℕ) → Option ℕ
record_of ds = record_from 0 ds

-- so many items, each of a format that may depend on those before it
unfoldable pub many : {X : Type 0} → (List X → PartFormat X) → ℕ → List X → PartFormat (List X)
many item zero xs = give xs
many item (suc n) xs = do
  x ← item xs
  many item n (xs ++ x ∷ [])

-- so many items whose values are of no matter
unfoldable pub times : PartFormat (Unit {0}) → ℕ → PartFormat (Unit {0})
times item zero = give tt
times item (suc n) = do
  x ← item
  times item n

-- a dimension behind others: its name, and its length, which is 0 for one of them at most
unfoldable pub dimension : ℕ → (before : List ℕ) → PartFormat ℕ
dimension v before = do
  n ← num (wide v) Any
  s ← skip n
  num (wide v) (Extent (is_some (record_of before)))

-- the list of the dimensions
unfoldable pub dims : ℕ → PartFormat (List ℕ)
dims v = do
  n ← list v 10 1 most_dimensions
  many (dimension v) n []

-- the bytes of a value of a type
abbrev pub type_size : ℕ → ℕ
type_size kind =
    cond (nat_lt kind 3) 1 (cond (nat_eq kind 3) 2 (cond (nat_lt kind 6) 4 (cond (nat_eq kind 6) 8
    (cond (nat_eq kind 7) 1 (cond (nat_eq kind 8) 2 (cond (nat_eq kind 9) 4 8))))))

-- an attribute: its name, the number of its type, how many values, and they
unfoldable pub attribute : ℕ → PartFormat (Unit {0})
attribute v = do
  n ← num (wide v) Any
  s ← skip n
  kind ← num 4 (NcType v)
  m ← num (wide v) Any
  skip (m * type_size kind)

-- a list of attributes
unfoldable pub attributes : ℕ → PartFormat (Unit {0})
attributes v = do
  n ← list v 12 2 most_attributes
  times (attribute v) n

-- the number of a dimension of a variable, behind those of others; the record dimension stands first
unfoldable pub id : ℕ → (dims before : List ℕ) → PartFormat ℕ
id v ds is = num (wide v) (Id (length ds) (record_of ds) (nat_eq (length is) 0))

-- the numbers of the dimensions of a variable
unfoldable pub ids : ℕ → (dims : List ℕ) → PartFormat (List ℕ)
ids v ds = do
  rank ← num (wide v) (Count 1 4 most_rank)
  many (id v ds) rank []

-- a variable: its name, its dimensions, its attributes, its type, a size that is of no matter, and where it begins
unfoldable pub variable : ℕ → (dims : List ℕ) → (before : List Var) → PartFormat Var
variable v ds before = do
  s ← name v
  shape ← ids v ds
  kept ← attributes v
  kind ← num 4 (NcType v)
  size ← num (wide v) Any
  begin ← num (far v) Any
  give (record { name = s; ids = shape; kind = kind; begin = begin })

-- the list of the variables
unfoldable pub vars : ℕ → (dims : List ℕ) → PartFormat (List Var)
vars v ds = do
  n ← list v 11 3 most_variables
  many (variable v ds) n []

-- the fields behind the first four bytes, in a file of so many bytes
unfoldable pub header : ℕ → ℕ → PartFormat Head
header size v = do
  n ← num (wide v) Any
  ds ← dims v
  kept ← attributes v
  vs ← vars v ds
  give (record { bytes = size; version = v; numrecs = n; dims = ds; vars = vs })
