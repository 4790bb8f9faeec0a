-- A header that is read has the file's size.
use Rattle.std.proofs.Common.{◌≡◌, ℕ, zero, suc, List, [], ◌∷◌, ◌++◌, refl, subst}
use Rattle.cdf_header.specs.declared.test.Test.{Test}
use Rattle.cdf_header.specs.declared.test.Test.TheVariants.{Any}
use Rattle.cdf_header.specs.Format.{Format, done, ask, PartFormat, ◌>>=◌, num, str, skip, name, list, many, times, dimension, dims, attribute, attributes, id, ids, variable, vars, header, wide, Field, Spells}
use Rattle.cdf_header.specs.Header.{Head, Var}
use Rattle.cdf_header.specs.Limits.{most_dimensions, most_attributes, most_variables}

-- P of each header that a format ends with
abbrev pub Ends : (Head → Type 0) → Format → Type 0
Ends P (done h) = P h
Ends P (ask kind next) = (bytes : List ℕ) → Ends P (next bytes)

pub ends-spelled : (P : Head → Type 0) (f : Format) (bytes : List ℕ) (k : ℕ) (fs : List Field) (h : Head) → Ends P f → Spells f bytes k fs h → P h
ends-spelled P (done found) bytes k [] h e s = subst P s e
ends-spelled P (done found) bytes k (x ∷ xs) h e s = absurd s
ends-spelled P (ask kind next) bytes k [] h e s = absurd s
ends-spelled P (ask kind next) bytes k (x ∷ xs) h e s = ends-spelled P (next x.content) bytes _ xs h (e x.content) s.3

module _ (P : Head → Type 0) where
  -- a part ends so where what comes after it does
  abbrev Keeps : {X : Type 0} → PartFormat X → Type 0
  Keeps {X} part = (next : X → Format) → ((x : X) → Ends P (next x)) → Ends P (part next)

  keeps-num : (w : ℕ) (t : Test) → Keeps (num w t)
  unfolding num
  keeps-num w t next h = λ bytes. h _

  keeps-str : (n : ℕ) → Keeps (str n)
  unfolding str
  keeps-str n next h = h

  keeps-skip : (n : ℕ) → Keeps (skip n)
  unfolding skip
  keeps-skip n next h = λ bytes. h tt

  keeps-then : {X Y : Type 0} (part : PartFormat X) (f : X → PartFormat Y) → Keeps part → ((x : X) → Keeps (f x)) → Keeps (part >>= f)
  keeps-then part f k l next h = k (λ x. f x next) (λ x. l x next h)

  keeps-name : (v : ℕ) → Keeps (name v)
  unfolding name
  keeps-name v = keeps-then (num (wide v) Any) str (keeps-num (wide v) Any) keeps-str

  keeps-list : (v own which most : ℕ) → Keeps (list v own which most)
  unfolding list
  keeps-list v own which most = keeps-then _ _ (keeps-num 4 _) (λ t. keeps-num (wide v) _)

  keeps-many : {X : Type 0} (item : List X → PartFormat X) → ((xs : List X) → Keeps (item xs)) → (n : ℕ) (xs : List X) → Keeps (many item n xs)
  unfolding many
  keeps-many item k zero xs = λ next h. h xs
  keeps-many item k (suc n) xs = keeps-then (item xs) (λ x. many item n (xs ++ x ∷ [])) (k xs) (λ x. keeps-many item k n (xs ++ x ∷ []))

  keeps-times : (item : PartFormat (Unit {0})) → Keeps item → (n : ℕ) → Keeps (times item n)
  unfolding times
  keeps-times item k zero = λ next h. h tt
  keeps-times item k (suc n) = keeps-then item (λ x. times item n) k (λ x. keeps-times item k n)

  keeps-dimension : (v : ℕ) (ds : List ℕ) → Keeps (dimension v ds)
  unfolding dimension
  keeps-dimension v ds = λ next h. keeps-num (wide v) Any _ (λ n. keeps-skip n _ (λ s. keeps-num (wide v) _ next h))

  keeps-dims : (v : ℕ) → Keeps (dims v)
  unfolding dims
  keeps-dims v = λ next h. keeps-list v 10 1 most_dimensions _ (λ n. keeps-many (dimension v) (keeps-dimension v) n [] next h)

  keeps-attribute : (v : ℕ) → Keeps (attribute v)
  unfolding attribute
  keeps-attribute v = λ next h. keeps-num (wide v) Any _ (λ n. keeps-skip n _ (λ s. keeps-num 4 _ _ (λ kind. keeps-num (wide v) Any _ (λ m. keeps-skip _ next h))))

  keeps-attributes : (v : ℕ) → Keeps (attributes v)
  unfolding attributes
  keeps-attributes v = λ next h. keeps-list v 12 2 most_attributes _ (λ n. keeps-times (attribute v) (keeps-attribute v) n next h)

  keeps-ids : (v : ℕ) (ds : List ℕ) → Keeps (ids v ds)
  unfolding ids id
  keeps-ids v ds = λ next h. keeps-num (wide v) _ _ (λ rank. keeps-many (id v ds) (λ is. keeps-num (wide v) _) rank [] next h)

  keeps-variable : (v : ℕ) (ds : List ℕ) (vs : List Var) → Keeps (variable v ds vs)
  unfolding variable
  keeps-variable v ds vs = λ next h.
      keeps-name v _ (λ s. keeps-ids v ds _ (λ shape. keeps-attributes v _ (λ kept. keeps-num 4 _ _ (λ kind. keeps-num (wide v) Any _ (λ size. keeps-num _ Any _ (λ begin.
      h (record { name = s; ids = shape; kind = kind; begin = begin })))))))

  keeps-vars : (v : ℕ) (ds : List ℕ) → Keeps (vars v ds)
  unfolding vars
  keeps-vars v ds = λ next h. keeps-list v 11 3 most_variables _ (λ n. keeps-many (variable v ds) (keeps-variable v ds) n [] next h)

header-ends : (size v : ℕ) → Ends (λ h. h.bytes ≡ size) (header size v done)
unfolding header
header-ends size v =
    let P : Head → Type 0 = λ h. h.bytes ≡ size in
    keeps-num P (wide v) Any _ (λ n. keeps-dims P v _ (λ ds. keeps-attributes P v _ (λ kept. keeps-vars P v ds _ (λ vs. refl))))

-- a header that fields spell has the size of the file
pub header-bytes : (size v : ℕ) (bytes : List ℕ) (k : ℕ) (fs : List Field) (h : Head) → Spells (header size v done) bytes k fs h → h.bytes ≡ size
header-bytes size v bytes k fs h s = ends-spelled (λ x. x.bytes ≡ size) (header size v done) bytes k fs h (header-ends size v) s
