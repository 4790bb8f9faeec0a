-- What one read of the reader over bytes in memory does.
use Rattle.std.proofs.Common.{Bor, ◌≡◌, ◌≤◌, ◌<◌, ℕ, List, [], ◌∷◌, length, Option, Some, None, Bool, true, false, refl, sym, ap, ◌∙◌, arith, if◌then◌else◌}
use Rattle.aql_outside.specs.Contents.{or_none}
use Rattle.csv.specs.Machine.{Read, next_record}
use Rattle.csv.specs.Reading.{ExplainsRead, NextIs, ReadRecord, ReadsNext, default_config, pending_of, source_of, strip_bom}
use Rattle.csv.specs.declared.reader.Reader.{Reader}
use Rattle.csv.specs.declared.parser.State.{State}
use Rattle.csv.specs.declared.error.ErrorKind.{ErrorKind}
use Rattle.csv.specs.declared.error.ErrorKind.TheVariants as kind
use Rattle.csv.proofs.ReadFacts.{rows-end}
use Rattle.aql_csv.specs.Records.{IsReadError}
use Rattle.aql_csv.proofs.Behind.{behind, behind_none, behind_some, left, next_falls}

-- the bytes that a slice has still to give
abbrev pub rest_of : Bor (List ℕ) → Option (List ℕ)
rest_of s = Some s.now

-- the bytes that a reader has still to read
abbrev pub unread : Reader (Bor (List ℕ)) → List ℕ
unread r = or_none (source_of rest_of r)

-- a read that found a record took it off the front of those that were left
pub record FoundRecord (a b : Reader (Bor (List ℕ))) (f : List (List ℕ)) : Type 0 where
  pub source : source_of rest_of b ≡ Some (unread b)
  pub one_more : behind a.state (unread a) ≡ f ∷ behind b.state (unread b)
  pub falls : left b.state (unread b) < left a.state (unread a)

-- the next record is the one that was found
next_is : (o : Option Read) (f : List (List ℕ)) (s : State) (z : List ℕ) → NextIs o true f s z → o ≡ Some (f, s, z)
next_is None f s z n = cc n
next_is (Some p) f s z n = rw (n.1, n.2, n.3) refl

-- the same, with the bytes that are left
found_go : (s t : State) (y : List ℕ) (f : List (List ℕ)) (k : Option (List ℕ)) → ReadsNext default_config s (Some y) k true f t
    → (z : List ℕ) × (k ≡ Some z) × (next_record default_config s [] [] y ≡ Some (f, t, z))
found_go s t y f None r = absurd r
found_go s t y f (Some z) r = (z, refl, next_is _ f t z r)

-- what a read says that found a record
pub found : (a b : Reader (Bor (List ℕ))) (f : List (List ℕ)) → a.config ≡ default_config → source_of rest_of a ≡ Some (unread a) → ReadRecord rest_of a b true f → FoundRecord a b f
found a b f config source r =
    let g = found_go a.state b.state (unread a) f (pending_of (rest_of b.rdr) b) (rw (config, source) at r.0) in
    let here : source_of rest_of b ≡ Some g.0 = rw r.1 g.1 in
    let same : unread b ≡ g.0 = ap or_none here in
    let next : next_record default_config a.state [] [] (unread a) ≡ Some (f, b.state, unread b) = rw same g.2 in
    record {
      source = rw same here;
      one_more = behind_some a.state (unread a) (f, b.state, unread b) next;
      falls = next_falls default_config a.state [] [] (unread a) (f, b.state, unread b) next;
    }

-- what a read says that found none: none were left
pub found_none : (a b : Reader (Bor (List ℕ))) (f : List (List ℕ)) → a.config ≡ default_config → source_of rest_of a ≡ Some (unread a) → ReadRecord rest_of a b false f → behind a.state (unread a) ≡ []
found_none a b f config source r = behind_none a.state (unread a) (rows-end rest_of a b f default_config (unread a) config source r)

-- taking off a byte order mark makes no text longer
pub strip_shortens : (xs : List ℕ) → length (strip_bom xs) ≤ length xs
unfolding strip_bom
strip_shortens [] = omega arith
strip_shortens (a ∷ []) = omega arith
strip_shortens (a ∷ b ∷ []) = omega arith
strip_shortens (a ∷ b ∷ c ∷ rest) = go _
  where
    go : (t : Bool) → length (if t then rest else a ∷ b ∷ c ∷ rest) ≤ length (a ∷ b ∷ c ∷ rest)
    go true = omega arith
    go false = omega arith

-- a read of records of any length fails for the bytes underneath or for memory alone
pub explained : (a b : Reader (Bor (List ℕ))) (k : ErrorKind) → a.flexible ≡ true → ExplainsRead rest_of a b false k → IsReadError k
explained a b (kind.Io e) f h = tt
explained a b kind.OutOfMemory f h = tt
explained a b (kind.UnequalLengths pos expected len) f h = let no : true ≡ false = sym f ∙ h.0 in cc
explained a b (kind.Utf8 pos err) f h = let no : false ≡ true = h.0 in cc
explained a b (kind.Serialize w) f h = absurd h
explained a b (kind.Deserialize pos err) f h = absurd h
