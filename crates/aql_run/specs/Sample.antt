-- The built-in script that stands for the input.
use Rattle.std.specs.Prelude.{ℕ, List, ◌++◌, codes, decimal}

-- a tabulation of n cells and a comprehension over it, a sum over n numbers, and an array made of n pairs
abbrev pub sample_text : ℕ → List ℕ
sample_text n =
    codes "let val \\A = [[i*i%97 | \\i<" ++ (decimal n ++ (codes "]] in {x | [_:\\x] <- A, x<5} end;\nsummap(fn \\x => x)!(gen!"
    ++ (decimal n ++ (codes ");\nlen!(index_1!({(i%10,i) | \\i <- gen!" ++ (decimal n ++ codes "}));\n")))))
