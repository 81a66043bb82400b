-- The lines behind a decoded value, and the line of bytes that are refused.
use Rattle.std.specs.Prelude.{ℕ, List, ◌++◌, codes}
use Rattle.std.specs.Fmt.{decimal}

-- how many bytes are left behind the value
abbrev pub rest_line : ℕ → List ℕ
rest_line n = codes "rest " ++ (decimal n ++ codes "\n")

-- where the first field stands that can't, and why
abbrev pub place_line : ℕ → List ℕ → List ℕ
place_line place fault = codes "place " ++ (decimal place ++ (codes ": " ++ (fault ++ codes "\n")))
