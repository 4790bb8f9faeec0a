-- What files hold, and what is answered of it.
use Rattle.std.specs.Global.{Vec}
use Rattle.std.specs.BTreeMap.{get_by_text, BTreeMap}
use Rattle.std.specs.Prelude.{◌≡◌, ℕ, String, ◌-◌, min, Option, Some, None, option_map, Result, IfOk, List, [], length, take, drop}

-- the bytes under each name, None where no file has the name
abbrev pub Content : Type 0
Content = List ℕ → Option (List ℕ)

-- the bytes under each name in a map
abbrev pub content_of : {Y : Type 0} → BTreeMap (String Y) (Vec ℕ) → Content
content_of m name = option_map (λ bytes. bytes.items) (get_by_text m name)

-- the bytes under a name, where they are told and a file has the name
abbrev pub bytes_in : Option Content → List ℕ → Option (List ℕ)
bytes_in None name = None
bytes_in (Some files) name = files name

-- what holds of the bytes under a name, where the files tell them and a file has the name
abbrev pub WhereTold : Option Content → (name : List ℕ) → (List ℕ → Type 0) → Type 0
WhereTold holds name P = (bytes : List ℕ) → bytes_in holds name ≡ Some bytes → P bytes

-- it is told that no file has the name
abbrev pub IsAbsent : Option Content → List ℕ → Type 0
IsAbsent None name = ⊥
IsAbsent (Some files) name = files name ≡ None

-- the bytes, none where no file has the name
abbrev pub or_none : Option (List ℕ) → List ℕ
or_none None = []
or_none (Some bytes) = bytes

-- the bytes under a name in a map, none where the map lacks it
abbrev pub bytes_under : {Y : Type 0} → BTreeMap (String Y) (Vec ℕ) → List ℕ → List ℕ
bytes_under m name = or_none (content_of m name)

-- where the files are told, a size is the length of the file, and None exactly where no file has the name
abbrev pub TellsSize : {E : Type 0} → Option Content → List ℕ → Result (Option ℕ) E → Type 0
TellsSize None name result = Unit {0}
TellsSize (Some files) name result = IfOk result (λ size. size ≡ option_map length (files name))

-- where the files are told, a read gives the bytes from a place on, as many as the smaller of the room and the rest
abbrev pub GivesAt : {E : Type 0} → Option Content → List ℕ → ℕ → Result ℕ E → List ℕ → Type 0
GivesAt None name at result piece = Unit {0}
GivesAt (Some files) name at result piece = IfOk result (λ n.
    (n ≡ min (length piece) (length (or_none (files name)) - at)) × (take n piece ≡ take n (drop at (or_none (files name)))))
