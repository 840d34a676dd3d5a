-- A line that may come is read as such, to its end, so that there is one place after it.
use Rattle.std.proofs.Common.{◌≡◌, ℕ, ◌+◌, ◌++◌, ◌^◌, ◌<◌, ◌==◌, ◌&&◌, Bool, true, false, cond, List, [], Option, Some, None, refl, ap, ◌∙◌, sym, codes, length}
use Rattle.std.specs.Fmt.{decimal}
use Rattle.std.proofs.lemmas.List.{append-nil}
use Rattle.csub_tree.specs.declared.tree.CType.{CType}
use Rattle.csub_tree.specs.declared.tree.CPrototype.{CPrototype}
use Rattle.csub_tree.specs.declared.tree.CStatic.{CStatic}
use Rattle.csub_tree.specs.declared.tree.CStmt.{CStmt}
use Rattle.csub_tree.specs.Checked.{ends_block, is_name}
use Rattle.csub_tree.specs.Spelling as spell
use Rattle.csub_text.specs.Written.{All, IsType, IsTypeIfAny, IsPrototype, IsStatic, IsStatement}
use Rattle.csub_text.specs.Read.{Got, begins}
use Rattle.csub_text.specs.ReadFile as of
use Rattle.csub_text.specs.ReadLine.{at_function, at_static, at_prototype, struct_start, at_struct, items_line, items_or_end, no_base, base_line, at_field, block_start, at_head, at_local, at_statement, at_block, read_line}
use Rattle.csub_text.specs.declared.places.Place.{Place}
use Rattle.csub_text.specs.declared.places.Place.TheVariants.{Structs, Fields, Items, Prototypes, Statics, Functions, Named, Headed, Locals, Statements, Blocks}
use Rattle.csub_text.specs.Lines as fits
use Rattle.csub_text.specs.Lines.{Fits}
use Rattle.csub_text.proofs.Numbers.{stripped_own, number_own}
use Rattle.csub_text.proofs.Names.{before_name_own}
use Rattle.csub_text.proofs.Statements.{two}
use Rattle.csub_text.proofs.Declarations.{seven_of, items_of, base_pieces, field_own, sees_field, no_base_type, head_own}
use Rattle.csub_text.proofs.Functions.{statement_line_own, name_line_own, local_own}
use Rattle.csub_text.proofs.Files.{prototypes_counted, static_own, is_static}

-- a line is read with nothing after it
alone : {A : Type 0} (read : List ℕ → A) (l : List ℕ) (x : A) → read (l ++ []) ≡ x → read l ≡ x
alone read l x e = ap read (sym (append-nil l)) ∙ e

and_false : (b : Bool) → (b && false) ≡ false
and_false true = refl
and_false false = refl

-- ---- structs

struct_read : (n : ℕ) → read_line (Structs n) (fits.struct_line n) ≡ Some (Fields n 0, [])
unfolding at_struct struct_start
struct_read n = ap (λ i. at_struct n (codes "struct s" ++ i)) (two (decimal n) (codes " {") (codes "\n")) ∙ rw (stripped_own (decimal n) (codes " {\n")) refl

base_read : (n m : ℕ) → m < 2 ^ 64 → read_line (Fields n 0) (spell.base_line (Some m)) ≡ Some (Fields n 1, [])
unfolding at_field base_line
base_read n m ok =
    alone (at_field n 0) (spell.base_line (Some m)) (Some (Fields n 1, []))
    (ap (at_field n 0) (base_pieces (codes "    ") (codes "struct s") (decimal m) (codes " a0;") (codes "\n") []) ∙ rw (number_own (2 ^ 64) m (codes " a0;\n") ok ok refl) refl)

field_no_base : (k : ℕ) (t : CType) → IsType t → of.sees_base_line (spell.field_line k t) ≡ false
field_no_base k t ok =
    alone of.sees_base_line (spell.field_line k t) false
    (ap of.sees_base_line (seven_of (codes "    ") (spell.before_name t) (codes "a") (decimal k) (codes ";") (codes "\n") []) ∙ no_base_type t (codes "a" ++ (decimal k ++ codes ";\n")) ok)

field_read : (n k : ℕ) (t : CType) → IsType t → read_line (Fields n k) (spell.field_line k t) ≡ Some (Fields n (k + 1), [])
unfolding at_field no_base
field_read n k t ok =
    rw (field_no_base k t ok, and_false, alone of.sees_field_line (spell.field_line k t) true (sees_field k t [] ok), alone (of.field_line k) (spell.field_line k t) (Some (t, [])) (field_own k t [] ok)) refl

items_pieces : (t : CType) → spell.items_line (Some t) ≡ codes "    " ++ (spell.before_name t ++ codes "items[];\n")
items_pieces t = sym (append-nil (spell.items_line (Some t))) ∙ items_of (codes "    ") (spell.before_name t) (codes "items[];") (codes "\n") []

items_no_base : (t : CType) → IsType t → of.sees_base_line (spell.items_line (Some t)) ≡ false
items_no_base t ok = ap of.sees_base_line (items_pieces t) ∙ no_base_type t (codes "items[];\n") ok

items_no_field : (t : CType) → IsType t → of.sees_field_line (spell.items_line (Some t)) ≡ false
items_no_field t ok = ap of.sees_field_line (items_pieces t) ∙ rw (before_name_own t (codes "items[];\n") ok) refl

items_read : (n k : ℕ) (t : CType) → IsType t → read_line (Fields n k) (spell.items_line (Some t)) ≡ Some (Items n, [])
unfolding at_field no_base items_or_end items_line
items_read n k t ok =
    rw (items_no_base t ok, and_false, items_no_field t ok) (ap (items_or_end n) (items_pieces t) ∙ rw (before_name_own t (codes "items[];\n") ok) refl)

fields_end_read : (n k : ℕ) → read_line (Fields n k) (codes "};\n") ≡ Some (Structs (n + 1), [])
unfolding at_field no_base items_or_end
fields_end_read n k = rw (and_false (k == 0)) refl

-- ---- prototypes and statics

-- where a prototype may come, a line does not begin as a struct does
function_no_struct : (n : ℕ) (l : List ℕ) (q : Place) → Fits (Functions n) l q → begins (codes "struct ") l ≡ false
function_no_struct n l q (fits.name k called h) = refl

static_no_struct : (n : ℕ) (l : List ℕ) (q : Place) → Fits (Statics n) l q → begins (codes "struct ") l ≡ false
static_no_struct n l q (fits.static k g h) = refl
static_no_struct n l q (fits.no_static k a b f) = function_no_struct 0 a b f

prototype_no_struct : (n : ℕ) (l : List ℕ) (q : Place) → Fits (Prototypes n) l q → begins (codes "struct ") l ≡ false
prototype_no_struct n l q (fits.prototype k p h) = refl
prototype_no_struct n l q (fits.no_prototype k a b f) = static_no_struct 0 a b f

-- where a static may come, a line does not begin as a prototype does
function_no_prototype : (n : ℕ) (l : List ℕ) (q : Place) → Fits (Functions n) l q → of.sees_prototype l ≡ false
function_no_prototype n l q (fits.name k called h) = refl

static_no_prototype : (n : ℕ) (l : List ℕ) (q : Place) → Fits (Statics n) l q → of.sees_prototype l ≡ false
static_no_prototype n l q (fits.static k g h) = rw (alone of.sees_static (spell.static_text k g) true (is_static k g [] h)) refl
static_no_prototype n l q (fits.no_static k a b f) = function_no_prototype 0 a b f

function_no_static : (n : ℕ) (l : List ℕ) (q : Place) → Fits (Functions n) l q → begins (codes "static ") l ≡ false
function_no_static n l q (fits.name k called h) = refl

prototype_read : (n : ℕ) (p : CPrototype) → IsPrototype p → read_line (Prototypes n) (spell.prototype_text n p) ≡ Some (Prototypes (n + 1), [])
unfolding at_prototype
prototype_read n p ok =
    let l : List ℕ = spell.prototype_text n p in
    rw (alone of.sees_prototype l true (prototypes_counted.sees n p [] ok refl), alone (of.prototype n) l (Some (p, [])) (prototypes_counted.one n p [] ok refl)) refl

static_read : (n : ℕ) (g : CStatic) → IsStatic g → read_line (Statics n) (spell.static_text n g) ≡ Some (Statics (n + 1), [])
unfolding at_static
static_read n g ok = rw (alone (of.static_text n) (spell.static_text n g) (Some (g, [])) (static_own n g [] ok)) refl

-- ---- functions

name_read : (n : ℕ) (called : List ℕ) → is_name called ≡ true → read_line (Functions n) (fits.name_line called) ≡ Some (Named n, [])
unfolding at_function
name_read n called ok = rw (alone of.name_line (fits.name_line called) (Some (called, [])) (name_line_own called [] ok)) refl

head_read : (n : ℕ) (result : Option CType) (params : List CType) → IsTypeIfAny result → All IsType params → read_line (Named n) (spell.line (spell.head n result params)) ≡ Some (Headed n (length params), [])
unfolding at_head
head_read n result params ok all = rw (head_own n result params (codes "\n") ok all) refl

local_read : (n k : ℕ) (t : CType) → IsType t → read_line (Locals n k) (spell.local_line k t) ≡ Some (Locals n (k + 1), [])
unfolding at_local
local_read n k t ok = rw (alone (of.local_line k) (spell.local_line k t) (Some (t, [])) (local_own k t [] ok)) refl

block_start_read : (n b : ℕ) → block_start n b (fits.block_line b) ≡ Some (Statements n b, [])
unfolding block_start
block_start_read n b = ap (λ i. block_start n b (codes "b" ++ i)) (two (decimal b) (codes ":") (codes "\n")) ∙ rw (stripped_own (decimal b) (codes ":\n")) refl

first_block_read : (n k : ℕ) → read_line (Locals n k) (fits.block_line 0) ≡ Some (Statements n 0, [])
unfolding at_local
first_block_read n k = block_start_read n 0

block_read : (n b : ℕ) → read_line (Blocks n b) (fits.block_line b) ≡ Some (Statements n b, [])
unfolding at_block
block_read n b = block_start_read n b

statement_read : (n b : ℕ) (s : CStmt) → IsStatement s → (d : Bool) → ends_block s ≡ d → read_line (Statements n b) (spell.statement_line s) ≡ Some (cond d (Blocks n (b + 1)) (Statements n b), [])
unfolding at_statement
statement_read n b s ok d e = rw (alone of.statement_line (spell.statement_line s) (Some (s, [])) (statement_line_own s [] ok), e) refl

-- ---- lines

pub line_read : (p : Place) (l : List ℕ) (q : Place) → Fits p l q → read_line p l ≡ Some (q, [])
unfolding at_struct at_prototype at_static at_block
line_read p l q fits.start = refl
line_read p l q fits.include = refl
line_read p l q (fits.struct n) = struct_read n
line_read p l q (fits.base n m h) = base_read n m h
line_read p l q (fits.field n k t h) = field_read n k t h
line_read p l q (fits.items n k t h) = items_read n k t h
line_read p l q (fits.fields_end n k) = fields_end_read n k
line_read p l q (fits.items_end n) = refl
line_read p l q (fits.no_struct n a b f) = rw (prototype_no_struct 0 a b f) (line_read (Prototypes 0) a b f)
line_read p l q (fits.prototype n g h) = prototype_read n g h
line_read p l q (fits.no_prototype n a b f) = rw (static_no_prototype 0 a b f) (line_read (Statics 0) a b f)
line_read p l q (fits.static n g h) = static_read n g h
line_read p l q (fits.no_static n a b f) = rw (function_no_static 0 a b f) (line_read (Functions 0) a b f)
line_read p l q (fits.name n called h) = name_read n called h
line_read p l q (fits.head n result params h g) = head_read n result params h g
line_read p l q (fits.brace n k) = refl
line_read p l q (fits.local n k t h) = local_read n k t h
line_read p l q (fits.first_block n k) = first_block_read n k
line_read p l q (fits.statement n b s h e) = statement_read n b s h false e
line_read p l q (fits.last n b s h e) = statement_read n b s h true e
line_read p l q (fits.block n b) = block_read n b
line_read p l q (fits.function_end n b) = refl

abbrev place_in : Place → Got Place → Place
place_in p None = p
place_in p (Some x) = x.0

-- one place comes after a line
pub one_place : (p : Place) (l : List ℕ) (q r : Place) → Fits p l q → Fits p l r → q ≡ r
one_place p l q r f g = ap (place_in p) (sym (line_read p l q f) ∙ line_read p l r g)
