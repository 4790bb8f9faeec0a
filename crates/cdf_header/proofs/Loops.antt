-- Reading the items of a list one after the other.
use Rattle.std.proofs.Common.{◌≡◌, ℕ, suc, ◌+◌, ◌-◌, ◌<◌, ◌≤◌, List, [], ◌∷◌, ◌++◌, length, ap, ◌∙◌, arith}
use Rattle.cdf_header.specs.declared.fault.ReadError.{ReadError}
use Rattle.cdf_header.specs.declared.fault.ReadError.TheVariants as errors
use Rattle.cdf_header.specs.Format.{Format, PartFormat, parse, many, times}
use Rattle.cdf_header.specs.Gives.{ParsesTo, FailsAt}

-- reading the whole from its place is reading the rest from k
abbrev pub SoFar : {X : Type 0} → PartFormat X → ℕ → PartFormat X → List ℕ → ℕ → Type 0
SoFar {X = X} whole start rest bytes k = (next : X → Format) → parse (whole next) bytes start ≡ parse (rest next) bytes k

pub many_goes : {X : Type 0} (item : List X → PartFormat X) (whole : PartFormat (List X)) (start count i : ℕ) (xs : List X) (bytes : List ℕ) (k : ℕ) (x : X) (after : ℕ)
    → i < count → ParsesTo (item xs) bytes k x after
    → SoFar whole start (many item (count - i) xs) bytes k → SoFar whole start (many item (count - (i + 1)) (xs ++ x ∷ [])) bytes after
unfolding many
many_goes item whole start count i xs bytes k x after lt step so_far next =
    let n : count - i ≡ suc (count - (i + 1)) = omega arith in
    so_far next ∙ ap (λ m. parse (many item m xs next) bytes k) n ∙ step.goes (λ y. many item (count - (i + 1)) (xs ++ y ∷ []) next)

pub many_stops : {X : Type 0} (item : List X → PartFormat X) (whole : PartFormat (List X)) (start count i : ℕ) (xs : List X) (bytes : List ℕ) (k : ℕ) (e : ReadError)
    → i < count → FailsAt (item xs) bytes k e
    → SoFar whole start (many item (count - i) xs) bytes k → FailsAt whole bytes start e
unfolding many
many_stops item whole start count i xs bytes k errors.Memory lt step so_far = tt
many_stops item whole start count i xs bytes k (errors.Fault f) lt step so_far = λ next.
    let n : count - i ≡ suc (count - (i + 1)) = omega arith in
    so_far next ∙ ap (λ m. parse (many item m xs next) bytes k) n ∙ step (λ y. many item (count - (i + 1)) (xs ++ y ∷ []) next)

pub many_done : {X : Type 0} (item : List X → PartFormat X) (whole : PartFormat (List X)) (start count i : ℕ) (xs : List X) (bytes : List ℕ) (k : ℕ)
    → count ≤ i → k ≤ length bytes → SoFar whole start (many item (count - i) xs) bytes k → ParsesTo whole bytes start xs k
unfolding many
many_done item whole start count i xs bytes k le within so_far = record {
  within = within;
  goes = λ next. let n : count - i ≡ 0 = omega arith in so_far next ∙ ap (λ m. parse (many item m xs next) bytes k) n;
}

pub times_goes : (item : PartFormat (Unit {0})) (whole : PartFormat (Unit {0})) (start count i : ℕ) (bytes : List ℕ) (k : ℕ) (after : ℕ)
    → i < count → ParsesTo item bytes k tt after
    → SoFar whole start (times item (count - i)) bytes k → SoFar whole start (times item (count - (i + 1))) bytes after
unfolding times
times_goes item whole start count i bytes k after lt step so_far next =
    let n : count - i ≡ suc (count - (i + 1)) = omega arith in
    so_far next ∙ ap (λ m. parse (times item m next) bytes k) n ∙ step.goes (λ y. times item (count - (i + 1)) next)

pub times_stops : (item : PartFormat (Unit {0})) (whole : PartFormat (Unit {0})) (start count i : ℕ) (bytes : List ℕ) (k : ℕ) (e : ReadError)
    → i < count → FailsAt item bytes k e
    → SoFar whole start (times item (count - i)) bytes k → FailsAt whole bytes start e
unfolding times
times_stops item whole start count i bytes k errors.Memory lt step so_far = tt
times_stops item whole start count i bytes k (errors.Fault f) lt step so_far = λ next.
    let n : count - i ≡ suc (count - (i + 1)) = omega arith in
    so_far next ∙ ap (λ m. parse (times item m next) bytes k) n ∙ step (λ y. times item (count - (i + 1)) next)

pub times_done : (item : PartFormat (Unit {0})) (whole : PartFormat (Unit {0})) (start count i : ℕ) (bytes : List ℕ) (k : ℕ)
    → count ≤ i → k ≤ length bytes → SoFar whole start (times item (count - i)) bytes k → ParsesTo whole bytes start tt k
unfolding times
times_done item whole start count i bytes k le within so_far = record {
  within = within;
  goes = λ next. let n : count - i ≡ 0 = omega arith in so_far next ∙ ap (λ m. parse (times item m next) bytes k) n;
}
