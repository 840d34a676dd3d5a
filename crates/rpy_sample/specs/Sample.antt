-- The text of the sample program.
use Rattle.std.specs.Prelude.{ℕ, zero, suc, List, [], ◌++◌, codes}
use Rattle.std.specs.Fmt.{decimal}

-- function i
abbrev pub function : ℕ → List ℕ
function i = codes "def f" ++ decimal i ++ codes "(x):\n" ++ codes "    while x > 1000:\n        x = x // 2\n" ++ codes "    return x * 3 + " ++ decimal i ++ codes "\n"

abbrev pub call : ℕ → List ℕ
call i = codes "    x = f" ++ decimal i ++ codes "(x)\n"

-- the first k functions, in order
abbrev pub functions : ℕ → List ℕ
functions zero = []
functions (suc k) = functions k ++ function k

abbrev pub calls : ℕ → List ℕ
calls zero = []
calls (suc k) = calls k ++ call k

abbrev pub sample : ℕ → List ℕ
sample k = functions k ++ codes "def entry_point(argv):\n    x = 1\n" ++ calls k ++ codes "    print x\n    return x\n"
