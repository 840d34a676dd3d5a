-- How a line is read where the lines of a text have come so far.
use Rattle.std.specs.Prelude.{ℕ, ◌+◌, ◌==◌, ◌&&◌, cond, List, codes, length}
use Rattle.csub_tree.specs.declared.tree.CStmt.{CStmt}
use Rattle.csub_tree.specs.Checked.{ends_block}
use Rattle.csub_text.specs.Read.{Got, after, stripped, begins, literal, name, ended, mapped, before_name}
use Rattle.csub_text.specs.ReadFile.{numbered_name, sees_base_line, sees_field_line, field_line, sees_prototype, prototype, static_text, name_line, head, local_line, statement_line}
use Rattle.csub_text.specs.declared.places.Place.{Place}
use Rattle.csub_text.specs.declared.places.Place.TheVariants.{Start, Include, Structs, Fields, Items, Prototypes, Statics, Functions, Named, Headed, Locals, Statements, Blocks}

unfoldable pub at_function : ℕ → List ℕ → Got Place
at_function n i = mapped (λ called. Named n) (name_line i)

unfoldable pub at_static : ℕ → List ℕ → Got Place
at_static n i = cond (begins (codes "static ") i) (mapped (λ g. Statics (n + 1)) (static_text n i)) (at_function 0 i)

unfoldable pub at_prototype : ℕ → List ℕ → Got Place
at_prototype n i = cond (sees_prototype i) (mapped (λ p. Prototypes (n + 1)) (prototype n i)) (at_static 0 i)

unfoldable pub struct_start : ℕ → List ℕ → Got Place
struct_start n i = numbered_name (codes "struct s") n i (λ j. literal (codes " {\n") (Fields n 0) j)

unfoldable pub at_struct : ℕ → List ℕ → Got Place
at_struct n i = cond (begins (codes "struct ") i) (struct_start n i) (at_prototype 0 i)

unfoldable pub items_line : ℕ → List ℕ → Got Place
items_line n i = after (stripped (codes "    ") i) (λ j. mapped (λ t. Items n) (ended (before_name j) (codes "items[];\n")))

unfoldable pub items_or_end : ℕ → List ℕ → Got Place
items_or_end n i = cond (begins (codes "    ") i) (items_line n i) (literal (codes "};\n") (Structs (n + 1)) i)

unfoldable pub no_base : ℕ → ℕ → List ℕ → Got Place
no_base n k i = cond (sees_field_line i) (mapped (λ t. Fields n (k + 1)) (field_line k i)) (items_or_end n i)

unfoldable pub base_line : ℕ → List ℕ → Got Place
base_line n i = mapped (λ m. Fields n 1) (ended (name (codes "    struct s") i) (codes " a0;\n"))

unfoldable pub at_field : ℕ → ℕ → List ℕ → Got Place
at_field n k i = cond (k == 0 && sees_base_line i) (base_line n i) (no_base n k i)

unfoldable pub block_start : ℕ → ℕ → List ℕ → Got Place
block_start n b i = numbered_name (codes "b") b i (λ j. literal (codes ":\n") (Statements n b) j)

unfoldable pub at_head : ℕ → List ℕ → Got Place
at_head n i = mapped (λ p. Headed n (length p.params)) (ended (head n i) (codes "\n"))

unfoldable pub at_local : ℕ → ℕ → List ℕ → Got Place
at_local n k i = cond (begins (codes "    ") i) (mapped (λ t. Locals n (k + 1)) (local_line k i)) (block_start n 0 i)

abbrev pub after_statement : ℕ → ℕ → CStmt → Place
after_statement n b s = cond (ends_block s) (Blocks n (b + 1)) (Statements n b)

unfoldable pub at_statement : ℕ → ℕ → List ℕ → Got Place
at_statement n b i = mapped (after_statement n b) (statement_line i)

unfoldable pub at_block : ℕ → ℕ → List ℕ → Got Place
at_block n b i = cond (begins (codes "b") i) (block_start n b i) (literal (codes "}\n") (Functions (n + 1)) i)

abbrev pub read_line : Place → List ℕ → Got Place
read_line Start i = literal (codes "/* C-sub 1 */\n") Include i
read_line Include i = literal (codes "#include \"rpy_prim.h\"\n") (Structs 0) i
read_line (Structs n) i = at_struct n i
read_line (Fields n k) i = at_field n k i
read_line (Items n) i = literal (codes "};\n") (Structs (n + 1)) i
read_line (Prototypes n) i = at_prototype n i
read_line (Statics n) i = at_static n i
read_line (Functions n) i = at_function n i
read_line (Named n) i = at_head n i
read_line (Headed n k) i = literal (codes "{\n") (Locals n k) i
read_line (Locals n k) i = at_local n k i
read_line (Statements n b) i = at_statement n b i
read_line (Blocks n b) i = at_block n b i
