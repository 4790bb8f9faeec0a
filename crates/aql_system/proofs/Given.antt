-- What is told of the bytes of a file, from what is told of those under its name, of those that it has left and of where it stands.
use Rattle.std.proofs.Common.{subst, sym, ap, ◌∙◌, ◌+◌, ◌≤◌, ◌++◌, length, take, drop, length-take-le}
use Rattle.std.proofs.lemmas.List.{drop-drop}
use Rattle.std.proofs.Math.Seq.{drop-append_seam}
use Rattle.std.specs.Io.KnownBytes.{Consumes}
use Rattle.std.specs.Option.{SomeIff}
use Rattle.std.specs.Prelude.{ℕ, Option, Some, None, List, Ok, IfSome, ◌≡◌}
use Rattle.aql_outside.specs.Contents.{Content, GivesAt}
use Rattle.aql_system.specs.Filling.{GivesFrom, StandsAt, StandsWhere}
use Rattle.aql_system.specs.Looking.{told_under}

-- what is given from the bytes under a name is given of the files
pub given_at : (E F : Type 0) (holds : Option Content) (name : List ℕ) (at n : ℕ) (piece : List ℕ) →
    GivesFrom {E = E} (told_under holds name) at (Ok n) piece → GivesAt {E = F} holds name at (Ok n) piece
given_at E F None name at n piece h = h
given_at E F (Some files) name at n piece h = h

-- what holds of the value of an option
pub held : {O : Type 0} (P : O → Type 0) (latest : Option O) (o : O) → latest ≡ Some o → IfSome latest P → P o
held P latest o is h = subst (λ l. IfSome l P) is h

-- what is left once the first bytes are consumed
left_after : (new : Option (List ℕ)) (xs bs : List ℕ) → Consumes (Some xs) new bs → new ≡ Some (drop (length bs) xs)
left_after None xs bs h = absurd h
left_after (Some ys) xs bs h = ap (λ l. Some l) (sym (ap (λ l. drop (length bs) l) h ∙ drop-append_seam bs ys))

-- after a read a file stands behind what was read
pub stands_behind : (bytes old new : Option (List ℕ)) (at count : ℕ) (piece : List ℕ) → count ≤ length piece
    → StandsAt bytes at old → Consumes old new (take count piece) → StandsAt bytes (at + count) new
stands_behind bytes old new at count piece fits there consumed all told =
    let from : Consumes (Some (drop at all)) new (take count piece) = subst (λ o. Consumes o new (take count piece)) (there all told) consumed in
    left_after new (drop at all) (take count piece) from
    ∙ ap (λ l. Some l) (ap (λ n. drop n (drop at all)) (length-take-le count piece fits) ∙ drop-drop count at all)

-- the same where the sum of the offset and the count is known
pub stands_where : (bytes old new : Option (List ℕ)) (at count : ℕ) (piece : List ℕ) (known : Option ℕ) (P : Type 0) → count ≤ length piece
    → StandsAt bytes at old → Consumes old new (take count piece) → SomeIff known P (at + count) → StandsWhere bytes known new
stands_where bytes old new at count piece known P fits there consumed sum place is =
    let e : SomeIff (Some place) P (at + count) = subst (λ k. SomeIff k P (at + count)) is sum in
    subst (λ n. StandsAt bytes n new) (sym e.1) (stands_behind bytes old new at count piece fits there consumed)
