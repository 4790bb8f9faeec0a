-- What a call that appends a text leaves, also where it runs out of memory.
use Rattle.std.specs.Prelude.{◌≡◌, ℕ, List, ◌++◌, take}

-- new is the old bytes and then the first bytes of the text
pub record AppendsPrefix (old new text : List ℕ) : Type 0 where
  pub count : ℕ
  pub is : new ≡ old ++ take count text
