-- What a typed getter reads of an option.
use Rattle.std.proofs.Common.{◌≡◌, ◌≤◌, ℕ, false, List, refl, ap, arith, inl, inr}
use Rattle.std.specs.Prelude.{Option, Some, None, Result, Ok, Err, option_and_then, IfSome, unwrap_or, nat_le, ◌&&◌, codes}
use Rattle.std.proofs.lemmas.Bool.{cases_Bool, and_parts, leb-true}
use Rattle.std.specs.Str.Parse.{ParsesUnsigned}
use Rattle.clap.specs.Matches.{ReadsOne}
use Rattle.clap.specs.Values.{IsUnsignedIn}
use Rattle.clap.specs.ValueTests.{accepts}
use Rattle.clap.specs.Words.{Row, Text, one_of}
use Rattle.clap.specs.declared.builder.value_parser.ValueParser.TheVariants as parsers
use Rattle.clap.proofs.ValueTestLemmas.{accepts-Accepts, Accepts-accepts}
use Rattle.aql_value.specs.Limits.{most_budget, most_workers}
use Rattle.aql_options.specs.Words.{AreInRange, number_at, number_of, options_in, up_to, most_sample}

module _ {E : Type 0} (G : List ℕ → Result ℕ E → Type 0) (only : (t : List ℕ) (x : Result ℕ E) → G t x → ParsesUnsigned 64 10 t x) where
  -- a text that is read as a number of 64 bits
  number_read : (t : Text) (r : Option ℕ) → ReadsOne G t r → r ≡ number_of t
  number_read t (Some v) h =
      let p = only t (Ok v) h in
      let fits : IsUnsignedIn 0 18446744073709551615 t = (p.0.0, p.0.1, omega arith, omega (arith, p.0.1)) in
      rw (Accepts-accepts false (parsers.Unsigned 0 18446744073709551615) t fits) (ap Some p.1)
  number_read t None h = elim (cases_Bool (accepts false (parsers.Unsigned 0 18446744073709551615) t)) [
    | inl fits ↦
        let read = accepts-Accepts false (parsers.Unsigned 0 18446744073709551615) t fits in
        absurd (only t (Err h.0) h.1 (read.0, read.1))
    | inr refused ↦ rw refused refl
  ]

  pub read_option : (o : Option Text) (r : Option ℕ) → (o ≡ None → r ≡ None) → ((t : Text) → o ≡ Some t → ReadsOne G t r) → r ≡ option_and_then number_of o
  read_option None r none some = none refl
  read_option (Some t) r none some = number_read t r (some t refl)

-- the numbers of the options lie in their ranges

up_to_range : (most : ℕ) (o : Option ℕ) → IfSome (up_to most o) (λ n. (1 ≤ n) × (n ≤ most))
up_to_range most None = tt
up_to_range most (Some n) = elim (cases_Bool (nat_le 1 n && nat_le n most)) [
  | inl within ↦ let parts = and_parts (nat_le 1 n) (nat_le n most) within in rw within (leb-true 1 n parts.0, leb-true n most parts.1)
  | inr out ↦ rw out tt
]

default_range : (most d : ℕ) (o : Option ℕ) → 1 ≤ d → d ≤ most → IfSome o (λ n. (1 ≤ n) × (n ≤ most)) → (1 ≤ unwrap_or o d) × (unwrap_or o d ≤ most)
default_range most d None low high h = (low, high)
default_range most d (Some n) low high h = h

pub in_range : (rows : List Row) → AreInRange (options_in rows)
in_range rows = record {
  workers = default_range most_workers 1 (number_at most_workers (codes "workers") rows) (omega arith) (omega arith) (up_to_range most_workers (option_and_then number_of (one_of (codes "workers") rows)));
  budget = default_range most_budget 10000000 (number_at most_budget (codes "budget") rows) (omega arith) (omega arith) (up_to_range most_budget (option_and_then number_of (one_of (codes "budget") rows)));
  sample = up_to_range most_sample (option_and_then number_of (one_of (codes "sample") rows));
}
