-- The records behind a place of a text are one record and those behind it, and each record takes some of the text.
use Rattle.std.proofs.Common.{◌≡◌, ◌≤◌, ◌<◌, ◌+◌, ℕ, zero, suc, List, [], ◌∷◌, ◌++◌, length, Option, Some, None, Bool, true, false, cond, refl, sym, ap, arith, if◌then◌else◌, add-one}
use Rattle.std.specs.Prelude.{◌==◌, ◌&&◌}
use Rattle.csv.specs.Machine.{Read, after_end, ends_at_end, ends_with, field_after, fields_after, in_field, is_byte, is_end, next_record, start_field, start_record, step}
use Rattle.csv.specs.Reading.{records_from, records_next, default_config}
use Rattle.csv.specs.declared.parser.Config.{Config}
use Rattle.csv.specs.declared.parser.Terminator.{Terminator}
use Rattle.csv.specs.declared.parser.Terminator.TheVariants as term
use Rattle.csv.specs.declared.parser.State.{State}
use Rattle.csv.specs.declared.parser.State.TheVariants as st
use Rattle.csv.specs.declared.parser.Action.{Action}
use Rattle.csv.specs.declared.parser.Action.TheVariants as act

-- in the state after a terminator no record is open, that the end of the text would end
end_behind : (t : Terminator) (c : ℕ) → ends_at_end (after_end t c) ≡ false
end_behind term.CRLF c = go (c == 13)
  where
    go : (b : Bool) → ends_at_end (if b then st.AfterCr else st.StartRecord) ≡ false
    go true = refl
    go false = refl
end_behind (term.Any t) c = refl

-- where a step ends a record, no record is open after it
abbrev RestsAt : State × Action → Type 0
RestsAt p = is_end p.1 ≡ true → ends_at_end p.0 ≡ false

-- so it is of a step inside an unquoted field
field_rests : (cfg : Config) (c : ℕ) → RestsAt (in_field cfg c)
field_rests cfg c = go (c == cfg.delimiter) (ends_with cfg.terminator c)
  where
    go : (a b : Bool) → RestsAt (if a then (st.StartField, act.EndField) else if b then (after_end cfg.terminator c, act.EndRecord) else (st.InField, act.Copy))
    go true b = λ e. cc e
    go false true = λ e. end_behind cfg.terminator c
    go false false = λ e. cc e

-- of a step at the start of a field
start_rests : (cfg : Config) (c : ℕ) → RestsAt (start_field cfg c)
start_rests cfg c = go (cfg.quoting && (c == cfg.quote))
  where
    go : (a : Bool) → RestsAt (if a then (st.InQuoted, act.Skip) else in_field cfg c)
    go true = λ e. cc e
    go false = field_rests cfg c

-- of a step at the start of a record
record_rests : (cfg : Config) (c : ℕ) → RestsAt (start_record cfg c)
record_rests cfg c = go (ends_with cfg.terminator c) (is_byte cfg.comment c)
  where
    go : (a b : Bool) → RestsAt (if a then (st.StartRecord, act.Skip) else if b then (st.InComment, act.Skip) else start_field cfg c)
    go true b = λ e. cc e
    go false true = λ e. cc e
    go false false = start_rests cfg c

-- of every step
step_rests : (cfg : Config) (s : State) (c : ℕ) → RestsAt (step cfg s c)
step_rests cfg st.StartRecord c = record_rests cfg c
step_rests cfg st.StartField c = start_rests cfg c
step_rests cfg st.InField c = field_rests cfg c
step_rests cfg st.InQuoted c = go (cfg.quoting && (c == cfg.quote)) (cfg.quoting && is_byte cfg.escape c)
  where
    go : (a b : Bool) → RestsAt (if a then (st.AfterQuote, act.Skip) else if b then (st.InEscape, act.Skip) else (st.InQuoted, act.Copy))
    go true b = λ e. cc e
    go false true = λ e. cc e
    go false false = λ e. cc e
step_rests cfg st.InEscape c = λ e. cc e
step_rests cfg st.AfterQuote c = go (cfg.quoting && cfg.double_quote && (c == cfg.quote))
  where
    go : (a : Bool) → RestsAt (if a then (st.InQuoted, act.Copy) else in_field cfg c)
    go true = λ e. cc e
    go false = field_rests cfg c
step_rests cfg st.InComment c = go (c == 10)
  where
    go : (a : Bool) → RestsAt (if a then (st.StartRecord, act.Skip) else (st.InComment, act.Skip))
    go true = λ e. cc e
    go false = λ e. cc e
step_rests cfg st.AfterCr c = go (c == 10)
  where
    go : (a : Bool) → RestsAt (if a then (st.StartRecord, act.Skip) else start_record cfg c)
    go true = λ e. cc e
    go false = record_rests cfg c

-- the bytes left, and one more where the end of the text ends a record
abbrev pub left : State → List ℕ → ℕ
left s xs = length xs + cond (ends_at_end s) 1 0

-- the end of the text counts for one at most
at_most : (b : Bool) → cond b 1 0 ≤ 1
at_most true = omega arith
at_most false = omega arith

-- a record takes some of what is left
pub next_falls : (cfg : Config) (s : State) (fields : List (List ℕ)) (field xs : List ℕ) (p : Read) → next_record cfg s fields field xs ≡ Some p → left p.1 p.2 < left s xs
unfolding next_record
next_falls cfg s fields field [] p e = go (ends_at_end s) refl e
  where
    go : (b : Bool) → ends_at_end s ≡ b → (if b then Some (fields ++ (field ∷ []), st.StartRecord, []) else None) ≡ Some p → left p.1 p.2 < left s []
    go true t h = let k : p ≡ (fields ++ (field ∷ []), st.StartRecord, []) = cc h in rw (k, t) (omega arith)
    go false t h = cc h
next_falls cfg s fields field (c ∷ rest) p e = go (is_end (step cfg s c).1) refl e (λ h. next_falls cfg (step cfg s c).0 (fields_after (step cfg s c).1 fields field) (field_after (step cfg s c).1 c field) rest p h)
  where
    go : (b : Bool) → is_end (step cfg s c).1 ≡ b
        → (if b then Some (fields_after (step cfg s c).1 fields field, (step cfg s c).0, rest)
        else next_record cfg (step cfg s c).0 (fields_after (step cfg s c).1 fields field) (field_after (step cfg s c).1 c field) rest) ≡ Some p
        → (next_record cfg (step cfg s c).0 (fields_after (step cfg s c).1 fields field) (field_after (step cfg s c).1 c field) rest ≡ Some p → left p.1 p.2 < left (step cfg s c).0 rest)
        → left p.1 p.2 < left s (c ∷ rest)
    go true t h falls =
        let k : p ≡ (fields_after (step cfg s c).1 fields field, (step cfg s c).0, rest) = cc h in
        rw (k, step_rests cfg s c t) (omega arith)
    go false t h falls =
        let k = falls h in
        let one : cond (ends_at_end (step cfg s c).0) 1 0 ≤ 1 = at_most (ends_at_end (step cfg s c).0) in
        omega arith

-- where nothing is left there is no record
none_left : (cfg : Config) (s : State) (xs : List ℕ) (more : State → List ℕ → List (List (List ℕ))) → left s xs ≤ 0 → [] ≡ records_next more (next_record cfg s [] [] xs)
none_left cfg s xs more none = go (next_record cfg s [] [] xs) refl
  where
    go : (o : Option Read) → next_record cfg s [] [] xs ≡ o → [] ≡ records_next more o
    go None e = refl
    go (Some p) e = let k = next_falls cfg s [] [] xs p e in absurd (omega arith)

-- how many records are asked for makes no difference, where they are as many as what is left
pub enough : (cfg : Config) (n m : ℕ) (s : State) (xs : List ℕ) → left s xs ≤ n → left s xs ≤ m → records_from cfg n s xs ≡ records_from cfg m s xs
unfolding records_from
enough cfg zero zero s xs a b = refl
enough cfg zero (suc m) s xs a b = none_left cfg s xs _ a
enough cfg (suc n) zero s xs a b = sym (none_left cfg s xs _ b)
enough cfg (suc n) (suc m) s xs a b = go (next_record cfg s [] [] xs) refl (λ t ys c d. enough cfg n m t ys c d)
  where
    go : (o : Option Read) → next_record cfg s [] [] xs ≡ o
        → ((t : State) (ys : List ℕ) → left t ys ≤ n → left t ys ≤ m → records_from cfg n t ys ≡ records_from cfg m t ys)
        → records_next (records_from cfg n) o ≡ records_next (records_from cfg m) o
    go None e same = refl
    go (Some p) e same =
        let k = next_falls cfg s [] [] xs p e in
        ap (λ (rs : List (List (List ℕ))). p.0 ∷ rs) (same p.1 p.2 (omega arith) (omega arith))

-- all records of the rest of a text, in a state
abbrev pub behind : State → List ℕ → List (List (List ℕ))
behind s xs = records_from default_config (length xs + 1) s xs

-- where there is a next record, they are it and those of the rest behind it
pub behind_some : (s : State) (xs : List ℕ) (p : Read) → next_record default_config s [] [] xs ≡ Some p → behind s xs ≡ p.0 ∷ behind p.1 p.2
unfolding records_from
behind_some s xs p e =
    let k = next_falls default_config s [] [] xs p e in
    let one : cond (ends_at_end s) 1 0 ≤ 1 = at_most (ends_at_end s) in
    let also : cond (ends_at_end p.1) 1 0 ≤ 1 = at_most (ends_at_end p.1) in
    rw (add-one) (rw e (ap (λ (rs : List (List (List ℕ))). p.0 ∷ rs) (enough default_config (length xs) (length p.2 + 1) p.1 p.2 (omega arith) (omega arith))))

-- where there is no next record they are none
pub behind_none : (s : State) (xs : List ℕ) → next_record default_config s [] [] xs ≡ None → behind s xs ≡ []
unfolding records_from
behind_none s xs e = rw (add-one) (rw e refl)
