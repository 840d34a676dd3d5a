-- Which line may come where the lines of a text have come so far, and where they are with it. A place between two declarations is
-- also one before the first declaration of each later kind.
use Rattle.std.specs.Prelude.{◌≡◌, ℕ, suc, ◌+◌, ◌++◌, ◌==◌, ◌^◌, ◌<◌, true, false, cond, List, [], ◌∷◌, Option, Some, codes, length}
use Rattle.std.specs.List.{concat}
use Rattle.csub_tree.specs.declared.tree.CType.{CType}
use Rattle.csub_tree.specs.declared.tree.CPrototype.{CPrototype}
use Rattle.csub_tree.specs.declared.tree.CStatic.{CStatic}
use Rattle.csub_tree.specs.declared.tree.CStmt.{CStmt}
use Rattle.csub_tree.specs.Checked.{ends_block, is_name}
use Rattle.csub_tree.specs.Spelling.{line, struct_name, block_name, base_line, field_line, items_line, prototype_text, static_text, head as head_text, local_line, statement_line}
use Rattle.csub_text.specs.Written.{All, IsType, IsTypeIfAny, IsPrototype, IsStatic, IsStatement}
use Rattle.csub_text.specs.declared.places.Place.{Place}
use Rattle.csub_text.specs.declared.places.Place.TheVariants.{Start, Include, Structs, Fields, Items, Prototypes, Statics, Functions, Named, Headed, Locals, Statements, Blocks}

abbrev pub struct_line : ℕ → List ℕ
struct_line n = line (codes "struct " ++ struct_name n ++ codes " {")

abbrev pub name_line : List ℕ → List ℕ
name_line called = line (codes "/* " ++ called ++ codes " */")

abbrev pub block_line : ℕ → List ℕ
block_line b = line (block_name b ++ codes ":")

pub data Fits : Place → List ℕ → Place → Type 0 where
  start : Fits Start (codes "/* C-sub 1 */\n") Include
  include : Fits Include (codes "#include \"rpy_prim.h\"\n") (Structs 0)
  struct : (n : ℕ) → Fits (Structs n) (struct_line n) (Fields n 0)
  base : (n m : ℕ) → m < 2 ^ 64 → Fits (Fields n 0) (base_line (Some m)) (Fields n 1)
  field : (n k : ℕ) (t : CType) → IsType t → Fits (Fields n k) (field_line k t) (Fields n (k + 1))
  items : (n k : ℕ) (t : CType) → IsType t → Fits (Fields n k) (items_line (Some t)) (Items n)
  fields_end : (n k : ℕ) → Fits (Fields n k) (codes "};\n") (Structs (n + 1))
  items_end : (n : ℕ) → Fits (Items n) (codes "};\n") (Structs (n + 1))
  no_struct : (n : ℕ) (l : List ℕ) (q : Place) → Fits (Prototypes 0) l q → Fits (Structs n) l q
  prototype : (n : ℕ) (p : CPrototype) → IsPrototype p → Fits (Prototypes n) (prototype_text n p) (Prototypes (n + 1))
  no_prototype : (n : ℕ) (l : List ℕ) (q : Place) → Fits (Statics 0) l q → Fits (Prototypes n) l q
  static : (n : ℕ) (g : CStatic) → IsStatic g → Fits (Statics n) (static_text n g) (Statics (n + 1))
  no_static : (n : ℕ) (l : List ℕ) (q : Place) → Fits (Functions 0) l q → Fits (Statics n) l q
  name : (n : ℕ) (called : List ℕ) → is_name called ≡ true → Fits (Functions n) (name_line called) (Named n)
  head : (n : ℕ) (result : Option CType) (params : List CType) → IsTypeIfAny result → All IsType params → Fits (Named n) (line (head_text n result params)) (Headed n (length params))
  brace : (n k : ℕ) → Fits (Headed n k) (codes "{\n") (Locals n k)
  local : (n k : ℕ) (t : CType) → IsType t → Fits (Locals n k) (local_line k t) (Locals n (k + 1))
  first_block : (n k : ℕ) → Fits (Locals n k) (block_line 0) (Statements n 0)
  statement : (n b : ℕ) (s : CStmt) → IsStatement s → ends_block s ≡ false → Fits (Statements n b) (statement_line s) (Statements n b)
  last : (n b : ℕ) (s : CStmt) → IsStatement s → ends_block s ≡ true → Fits (Statements n b) (statement_line s) (Blocks n (b + 1))
  block : (n b : ℕ) → Fits (Blocks n b) (block_line b) (Statements n b)
  function_end : (n b : ℕ) → Fits (Blocks n b) (codes "}\n") (Functions (n + 1))

-- lines that may come one after the other, from one place to another
abbrev pub Leads : Place → List (List ℕ) → Place → Type 0
Leads p [] r = p ≡ r
Leads p (l ∷ ls) r = (q : Place) × Fits p l q × Leads q ls r

-- k lines before these bytes of a text lead from its start to this place
abbrev pub LeadsTo : List ℕ → List ℕ → Place → ℕ → Type 0
LeadsTo text rest p k = (ls : List (List ℕ)) × (text ≡ concat ls ++ rest) × Leads Start ls p × (k ≡ length ls)

-- how long the first line is, with its newline
unfoldable pub line_len : List ℕ → ℕ
line_len [] = 0
line_len (b ∷ bs) = cond (b == 10) 1 (suc (line_len bs))
