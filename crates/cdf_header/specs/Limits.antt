-- The limits of a header that is read.
use Rattle.std.specs.Prelude.{ℕ}

-- the most bytes of a file in which its header is sought
abbrev pub most_header_bytes : ℕ
most_header_bytes = 16777216

-- the most dimensions
abbrev pub most_dimensions : ℕ
most_dimensions = 1024

-- the most attributes of the file, and of a variable
abbrev pub most_attributes : ℕ
most_attributes = 8192

-- the most variables
abbrev pub most_variables : ℕ
most_variables = 8192

-- the most dimensions of a variable
abbrev pub most_rank : ℕ
most_rank = 1024
