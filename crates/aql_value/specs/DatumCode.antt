-- A `Datum` as a list of tokens in postfix form, by which a ghost variable stores it.
use Rattle.std.specs.Prelude.{◌≡◌, ℕ, Bool, true, false, List, [], ◌∷◌, ◌⊎◌, refl}
use Rattle.std.proofs.Common.{inl, inr, ◌∙◌}
use Rattle.std.specs.Coded.{Coded, code_by, coded×, coded⊎, coded_list, coded_ℕ, coded_bool}
use Rattle.aql_value.specs.Datum.{Datum, natural, truth, text, tuple, set, array, Data, nil, cons, Table}

-- a number, a truth value, a text, an array over the last list, or one of: tuple, set; nil, cons
abbrev pub Token : Type 0
Token = ℕ ⊎ (Bool ⊎ (List ℕ ⊎ (List ℕ ⊎ (Bool ⊎ Bool))))

-- the tokens of a value, before others
abbrev mutual
  -- a value written out before others, each list behind its end
  pub spell : Datum → List Token → List Token
  spell (natural n) rest = inl n ∷ rest
  spell (truth b) rest = inr (inl b) ∷ rest
  spell (text s) rest = inr (inr (inl s)) ∷ rest
  spell (array ds xs) rest = spell_all xs (inr (inr (inr (inl ds))) ∷ rest)
  spell (tuple xs) rest = spell_all xs (inr (inr (inr (inr (inl true)))) ∷ rest)
  spell (set xs) rest = spell_all xs (inr (inr (inr (inr (inl false)))) ∷ rest)

  -- the same of the values of a list
  pub spell_all : Data → List Token → List Token
  spell_all nil rest = inr (inr (inr (inr (inr true)))) ∷ rest
  spell_all (cons x xs) rest = spell x (spell_all xs (inr (inr (inr (inr (inr false)))) ∷ rest))

-- the list on top of the stack
abbrev pub pop : List Data → Data
pop [] = nil
pop (xs ∷ rest) = xs

-- the stack without it
abbrev pub beneath : List Data → List Data
beneath [] = []
beneath (xs ∷ rest) = rest

-- the value on top of the stack
abbrev pub top : List Datum → Datum
top [] = natural 0
top (x ∷ rest) = x

-- the stack without it
abbrev pub under : List Datum → List Datum
under [] = []
under (x ∷ rest) = rest

-- runs the tokens over a stack of data and a stack of lists
abbrev pub decode : List Token → List Datum → List Data → Datum
decode [] one all = top one
decode (inl n ∷ ts) one all = decode ts (natural n ∷ one) all
decode (inr (inl b) ∷ ts) one all = decode ts (truth b ∷ one) all
decode (inr (inr (inl s)) ∷ ts) one all = decode ts (text s ∷ one) all
decode (inr (inr (inr (inl ds))) ∷ ts) one all = decode ts (array ds (pop all) ∷ one) (beneath all)
decode (inr (inr (inr (inr (inl true)))) ∷ ts) one all = decode ts (tuple (pop all) ∷ one) (beneath all)
decode (inr (inr (inr (inr (inl false)))) ∷ ts) one all = decode ts (set (pop all) ∷ one) (beneath all)
decode (inr (inr (inr (inr (inr true)))) ∷ ts) one all = decode ts one (nil ∷ all)
decode (inr (inr (inr (inr (inr false)))) ∷ ts) one all = decode ts (under one) (cons (top one) (pop all) ∷ beneath all)

-- the tokens of a value put it on the stack
mutual
  -- what is written out reads back
  pub decode-spell : (x : Datum) (ts : List Token) (one : List Datum) (all : List Data) → decode (spell x ts) one all ≡ decode ts (x ∷ one) all
  decode-spell (natural n) ts one all = refl
  decode-spell (truth b) ts one all = refl
  decode-spell (text s) ts one all = refl
  decode-spell (array ds xs) ts one all = decode-spell_all xs (inr (inr (inr (inl ds))) ∷ ts) one all
  decode-spell (tuple xs) ts one all = decode-spell_all xs (inr (inr (inr (inr (inl true)))) ∷ ts) one all
  decode-spell (set xs) ts one all = decode-spell_all xs (inr (inr (inr (inr (inl false)))) ∷ ts) one all

  -- the same of the values of a list
  pub decode-spell_all : (xs : Data) (ts : List Token) (one : List Datum) (all : List Data) → decode (spell_all xs ts) one all ≡ decode ts one (xs ∷ all)
  decode-spell_all nil ts one all = refl
  decode-spell_all (cons x xs) ts one all =
      decode-spell x (spell_all xs (inr (inr (inr (inr (inr false)))) ∷ ts)) one all
      ∙ decode-spell_all xs (inr (inr (inr (inr (inr false)))) ∷ ts) (x ∷ one) all

-- how a token is stored
abbrev pub coded_token : Coded Token
coded_token = coded⊎ coded_ℕ (coded⊎ coded_bool (coded⊎ (coded_list coded_ℕ) (coded⊎ (coded_list coded_ℕ) (coded⊎ coded_bool coded_bool))))

-- how a value is stored
abbrev pub coded_datum : Coded Datum
coded_datum = code_by (List Token) (coded_list coded_token) (λ x. spell x []) (λ ts. decode ts [] []) (λ x. decode-spell x [] [] [])

-- how a list of values is stored
abbrev pub coded_data : Coded (List Datum)
coded_data = coded_list coded_datum

-- how a table is stored
abbrev pub coded_table : Coded Table
coded_table = code_by (List ℕ × List Datum) (coded× (coded_list coded_ℕ) coded_data) (λ t. (t.dims, t.cells)) (λ p. record { dims = p.0; cells = p.1 }) (λ _. refl)
