-- A header as lists of numbers.
use Rattle.std.specs.Prelude.{ℕ, List, refl}
use Rattle.std.specs.Coded.{Coded, code_by, coded×, coded_list, coded_ℕ}
use Rattle.cdf_header.specs.Header.{Var, Head}

-- a variable
abbrev pub coded_var : Coded Var
coded_var = code_by ((List ℕ × List ℕ) × (ℕ × ℕ)) (coded× (coded× (coded_list coded_ℕ) (coded_list coded_ℕ)) (coded× coded_ℕ coded_ℕ))
    (λ v. ((v.name, v.ids), (v.kind, v.begin))) (λ p. record { name = p.0.0; ids = p.0.1; kind = p.1.0; begin = p.1.1 }) (λ _. refl)

-- a header
abbrev pub coded_head : Coded Head
coded_head = code_by ((ℕ × (ℕ × ℕ)) × (List ℕ × List Var)) (coded× (coded× coded_ℕ (coded× coded_ℕ coded_ℕ)) (coded× (coded_list coded_ℕ) (coded_list coded_var)))
    (λ h. ((h.bytes, (h.version, h.numrecs)), (h.dims, h.vars))) (λ p. record { bytes = p.0.0; version = p.0.1.0; numrecs = p.0.1.1; dims = p.1.0; vars = p.1.1 }) (λ _. refl)
