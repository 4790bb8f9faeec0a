-- What is asked for of a variable, and its faults.
use Rattle.std.specs.Prelude.{ℕ, Option}
use Rattle.cdf_header.specs.declared.fault.CdfFault.{CdfFault}
use Rattle.cdf_header.specs.Header.{Head}
use Rattle.cdf_header.specs.Places.{variable_at}
use Rattle.cdf_slab.specs.Slab.{early_fault, cut_fault, IsOfRequest}
use Rattle.cdf_slab.specs.declared.request.Request.{Request}

-- the first fault that the header tells of the variable with this number
abbrev pub early_of : Head → (v : ℕ) → Request → Option CdfFault
early_of h v asked = early_fault h (variable_at h v) asked.start.now asked.count.now asked.stride.now

-- the first of its cells whose bytes pass the end of the file
abbrev pub cut_of : Head → (v : ℕ) → Request → Option CdfFault
cut_of h v asked = cut_fault h (variable_at h v) asked.start.now asked.count.now asked.stride.now

-- what a fault says of what is asked for, whatever the files tell
abbrev pub IsOfAsked : Request → CdfFault → Type 0
IsOfAsked asked = IsOfRequest asked.start.now asked.count.now asked.stride.now asked.signed
