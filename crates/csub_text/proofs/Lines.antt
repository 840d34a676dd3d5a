-- Each line that may come is a line: its one newline is its last byte.
use Rattle.std.proofs.Common.{◌≡◌, ℕ, zero, suc, pos, negsuc, ◌+◌, ◌/◌, ◌%◌, nat_lt, subst, ◌==◌, ◌&&◌, Bool, true, false, cond, List, [], ◌∷◌, ◌++◌, Option, Some, None, refl, ap, ◌∙◌, arith, append_assoc, codes, map}
use Rattle.std.specs.List.{flat_map}
use Rattle.std.specs.Fmt.{decimal, signed_decimal, digits, digits_onto, digit_glyph}
use Rattle.std.proofs.lemmas.Grind.{common_steps}
use Rattle.csub_tree.specs.declared.tree.CType.{CType}
use Rattle.csub_tree.specs.declared.tree.CType.TheVariants as type
use Rattle.csub_tree.specs.declared.tree.CConst.{CConst}
use Rattle.csub_tree.specs.declared.tree.CConst.TheVariants as const
use Rattle.csub_tree.specs.declared.tree.COperand.{COperand}
use Rattle.csub_tree.specs.declared.tree.COperand.TheVariants as oper
use Rattle.csub_tree.specs.declared.tree.CUnary.{CUnary}
use Rattle.csub_tree.specs.declared.tree.CUnary.TheVariants as unary_op
use Rattle.csub_tree.specs.declared.tree.CBinary.{CBinary}
use Rattle.csub_tree.specs.declared.tree.CBinary.TheVariants as binary_op
use Rattle.csub_tree.specs.declared.tree.CStmt.{CStmt}
use Rattle.csub_tree.specs.declared.tree.CStmt.TheVariants as stmt
use Rattle.csub_tree.specs.Spelling as spell
use Rattle.csub_tree.specs.declared.tree.CCell.{CCell, roll-CCell, map-CCell}
use Rattle.csub_tree.specs.declared.tree.CCell.TheOpen.{CCell-F}
use Rattle.csub_tree.specs.declared.tree.CCell.TheFolds.{fold-roll-CCell, ind-CCell}
use Rattle.csub_tree.specs.Checked.{is_name_byte, is_name}
use Rattle.csub_text.specs.declared.places.Place.{Place}
use Rattle.csub_text.specs.declared.places.Place.TheVariants.{Prototypes, Statics, Functions}
use Rattle.csub_text.specs.Lines as fits
use Rattle.csub_text.specs.Lines.{Fits}
use Rattle.csub_text.proofs.Cells.{first_true, second_true}

-- no newline is among the bytes
abbrev pub plain : List ℕ → Bool
plain [] = true
plain (b ∷ bs) = cond (b == 10) false (plain bs)

plain_at : (d : Bool) (p q r : Bool) → p ≡ (q && r) → cond d false p ≡ (cond d false q && r)
plain_at true p q r e = refl
plain_at false p q r e = e

pub plain_append : (a b : List ℕ) → plain (a ++ b) ≡ (plain a && plain b)
plain_append [] b = refl
plain_append (c ∷ a) b = plain_at (c == 10) (plain (a ++ b)) (plain a) (plain b) (plain_append a b)

-- ---- numbers

glyph_at : (d : Bool) (n : ℕ) → (cond d (48 + n) (87 + n) == 10) ≡ false
glyph_at true n = grind (arith, common_steps)
glyph_at false n = grind (arith, common_steps)

plain_cons : (d : Bool) (bs : List ℕ) → d ≡ false → plain bs ≡ true → cond d false (plain bs) ≡ true
plain_cons true bs e p = absurd (cc)
plain_cons false bs e p = p

plain_choice : (d : Bool) (a b : List ℕ) → plain a ≡ true → plain b ≡ true → plain (cond d a b) ≡ true
plain_choice true a b p q = p
plain_choice false a b p q = q

plain_onto : (k n : ℕ) (acc : List ℕ) → plain acc ≡ true → plain (digits_onto k 10 false n acc) ≡ true
plain_onto zero n acc p = p
plain_onto (suc k) n acc p =
    let g : List ℕ = digit_glyph false (n % 10) ∷ acc in
    let more : plain g ≡ true = plain_cons (digit_glyph false (n % 10) == 10) acc (glyph_at (nat_lt (n % 10) 10) (n % 10)) p in
    plain_choice (n / 10 == 0) g (digits_onto k 10 false (n / 10) g) more (plain_onto k (n / 10) g more)

plain_decimal : (n : ℕ) → plain (decimal n) ≡ true
unfolding digits
plain_decimal n = plain_onto 64 n [] refl

-- ---- types, constants and operands

plain_before_name : (t : CType) → plain (spell.before_name t) ≡ true
plain_before_name (type.Ptr n) = simp (plain_append, plain_decimal) refl
plain_before_name other = refl

plain_type_alone : (t : CType) → plain (spell.type_alone t) ≡ true
plain_type_alone (type.Ptr n) = simp (plain_append, plain_decimal) refl
plain_type_alone other = refl

plain_result_before_name : (t : Option CType) → plain (spell.result_before_name t) ≡ true
plain_result_before_name None = refl
plain_result_before_name (Some t) = plain_before_name t

plain_result_alone : (t : Option CType) → plain (spell.result_alone t) ≡ true
plain_result_alone None = refl
plain_result_alone (Some t) = plain_type_alone t

plain_minus : (smallest : Bool) (n : ℕ) → plain (cond smallest (codes "RPY_MIN") (signed_decimal (negsuc n) ++ codes "L")) ≡ true
plain_minus true n = refl
plain_minus false n = simp (plain_append, plain_decimal) refl

plain_constant : (c : CConst) → plain (spell.constant_text c) ≡ true
plain_constant (const.Word (pos n)) = simp (plain_append, plain_decimal) refl
plain_constant (const.Word (negsuc n)) = plain_minus (n == 9223372036854775807) n
plain_constant (const.Char n) = simp (plain_append, plain_decimal) refl
plain_constant (const.Bool true) = refl
plain_constant (const.Bool false) = refl
plain_constant const.Null = refl
plain_constant (const.Static s g) = simp (plain_append, plain_decimal) refl
plain_constant (const.Fun f) = simp (plain_append, plain_decimal) refl

plain_operand : (x : COperand) → plain (spell.operand_text x) ≡ true
plain_operand (oper.Var v) = simp (plain_append, plain_decimal) refl
plain_operand (oper.Const c) = plain_constant c

-- ---- lists

plain_more : {A : Type 0} (f : A → List ℕ) → ((x : A) → plain (f x) ≡ true) → (xs : List A) → plain (flat_map (spell.more f) xs) ≡ true
plain_more f h [] = refl
plain_more f h (x ∷ xs) = simp (plain_append, h x, plain_more f h xs) refl

plain_operands : (xs : List COperand) → plain (spell.listed spell.operand_text xs) ≡ true
plain_operands [] = refl
plain_operands (x ∷ xs) = simp (plain_append, plain_operand x, plain_more spell.operand_text plain_operand xs) refl

plain_types : (ts : List CType) → plain (spell.listed_or_void spell.type_alone ts) ≡ true
plain_types [] = refl
plain_types (t ∷ ts) = simp (plain_append, plain_type_alone t, plain_more spell.type_alone plain_type_alone ts) refl

plain_numbered : {A : Type 0} (f : ℕ → A → List ℕ) → ((k : ℕ) (x : A) → plain (f k x) ≡ true) → (k : ℕ) (xs : List A) → plain (spell.numbered f k xs) ≡ true
plain_numbered f h k [] = refl
plain_numbered f h k (x ∷ xs) = simp (plain_append, h k x, plain_numbered f h (k + 1) xs) refl

-- ---- statements

plain_unary : (op : CUnary) → plain (spell.unary_name op) ≡ true
plain_unary unary_op.Neg = refl
plain_unary other = refl

plain_binary : (op : CBinary) → plain (spell.binary_name op) ≡ true
plain_binary binary_op.Add = refl
plain_binary other = refl

plain_target_if_any : (a : Option ℕ) → plain (spell.target_if_any a) ≡ true
plain_target_if_any None = refl
plain_target_if_any (Some a) = simp (plain_append, plain_decimal) refl

plain_return : (x : Option COperand) → plain (spell.return_text x) ≡ true
plain_return None = refl
plain_return (Some x) = simp (plain_append, plain_operand) refl

plain_arguments : (xs : List COperand) → plain (spell.arguments xs) ≡ true
plain_arguments xs = simp (plain_append, plain_operands) refl

plain_callee : (result : Option CType) (types : List CType) (v : ℕ) → plain (spell.callee result types v) ≡ true
plain_callee result types v = simp (plain_append, plain_result_alone, plain_types, plain_decimal) refl

plain_statement : (s : CStmt) → plain (spell.statement_text s) ≡ true
plain_statement (stmt.Set a x) = simp (plain_append, plain_decimal, plain_operand) refl
plain_statement (stmt.Unary a op x) = simp (plain_append, plain_decimal, plain_operand, plain_unary) refl
plain_statement (stmt.Binary a op x y) = simp (plain_append, plain_decimal, plain_operand, plain_binary) refl
plain_statement (stmt.GetField a s b k) = simp (plain_append, plain_decimal) refl
plain_statement (stmt.SetField s b k x) = simp (plain_append, plain_decimal, plain_operand) refl
plain_statement (stmt.GetItem a s b i) = simp (plain_append, plain_decimal, plain_operand) refl
plain_statement (stmt.SetItem s b i x) = simp (plain_append, plain_decimal, plain_operand) refl
plain_statement (stmt.New a m s) = simp (plain_append, plain_decimal) refl
plain_statement (stmt.NewArray a m s x) = simp (plain_append, plain_decimal, plain_operand) refl
plain_statement (stmt.Free a) = simp (plain_append, plain_decimal) refl
plain_statement (stmt.Step x) = simp (plain_append, plain_operand) refl
plain_statement (stmt.Call a f xs) = simp (plain_append, plain_target_if_any, plain_decimal, plain_operands) refl
plain_statement (stmt.CallFn a result types b xs) = simp (plain_append, plain_target_if_any, plain_result_alone, plain_types, plain_decimal, plain_operands) refl
plain_statement (stmt.ExcType a s) = simp (plain_append, plain_decimal) refl
plain_statement (stmt.ExcValue a s) = simp (plain_append, plain_decimal) refl
plain_statement (stmt.ExcSet a b) = simp (plain_append, plain_decimal) refl
plain_statement stmt.ExcClear = refl
plain_statement (stmt.Argc a) = simp (plain_append, plain_decimal) refl
plain_statement (stmt.ArgLen a x) = simp (plain_append, plain_decimal, plain_operand) refl
plain_statement (stmt.Arg a x y) = simp (plain_append, plain_decimal, plain_operand) refl
plain_statement (stmt.Put x) = simp (plain_append, plain_operand) refl
plain_statement (stmt.Goto b) = simp (plain_append, plain_decimal) refl
plain_statement (stmt.If a b c) = simp (plain_append, plain_decimal) refl
plain_statement (stmt.Return x) = plain_return x
plain_statement (stmt.Fail n) = simp (plain_append, plain_decimal) refl
plain_statement (stmt.Raised a) = simp (plain_append, plain_decimal) refl

-- ---- cells

abbrev All : {A : Type 0} → (A → Type 0) → List A → Type 0
All P [] = Unit {0}
All P (x ∷ xs) = P x × All P xs

abbrev PlainCell : CCell → Type 0
PlainCell c = plain (spell.cell_text c) ≡ true

plain_const : (c : CConst) → PlainCell (roll-CCell (CCell-F.Const c))
plain_const c = ap plain (fold-roll-CCell (List ℕ) spell.cell_step (CCell-F.Const c)) ∙ plain_constant c

plain_rest : (cs : List CCell) → All PlainCell cs → plain (flat_map (spell.more (λ text. text)) (map spell.cell_text cs)) ≡ true
plain_rest [] all = refl
plain_rest (c ∷ cs) all = simp (plain_append, all.0, plain_rest cs all.1) refl

plain_cells : (cs : List CCell) → All PlainCell cs → plain (spell.cells_text (map spell.cell_text cs)) ≡ true
plain_cells [] all = refl
plain_cells (c ∷ cs) all = simp (plain_append, all.0, plain_rest cs all.1) refl

plain_braces : (cs : List CCell) → All PlainCell cs → PlainCell (roll-CCell (CCell-F.Braces cs))
plain_braces cs all = ap plain (fold-roll-CCell (List ℕ) spell.cell_step (CCell-F.Braces cs)) ∙ plain_cells cs all

all_plain : (ys : List ((c : CCell) × PlainCell c)) → All PlainCell (map (λ p. p.0) ys)
all_plain [] = tt
all_plain (y ∷ ys) = (y.1, all_plain ys)

plain_cell : (c : CCell) → PlainCell c
plain_cell = ind-CCell PlainCell (λ x y is. (elim y as (λ z. map-CCell _ CCell (λ e. e.0) z ≡ x → PlainCell (roll-CCell x)) [ CCell-F.Const c ↦ λ e. subst (λ z. PlainCell (roll-CCell z)) e (plain_const c) | CCell-F.Braces ys ↦ λ e. subst (λ z. PlainCell (roll-CCell z)) e (plain_braces (map (λ p. p.0) ys) (all_plain ys)) ]) is)

every_plain : (cs : List CCell) → All PlainCell cs
every_plain [] = tt
every_plain (c ∷ cs) = (plain_cell c, every_plain cs)

-- ---- names

name_byte : (b : ℕ) → is_name_byte b ≡ true → (b == 10) ≡ false
name_byte b e = grind (arith, common_steps)

plain_name_at : (b : ℕ) (bs : List ℕ) → (is_name_byte b && is_name bs) ≡ true → (is_name bs ≡ true → plain bs ≡ true) → cond (b == 10) false (plain bs) ≡ true
plain_name_at b bs e more = plain_cons (b == 10) bs (name_byte b (first_true (is_name_byte b) (is_name bs) e)) (more (second_true (is_name_byte b) (is_name bs) e))

plain_name : (bs : List ℕ) → is_name bs ≡ true → plain bs ≡ true
plain_name [] e = refl
plain_name (b ∷ bs) e = plain_name_at b bs e (plain_name bs)

-- ---- lines

pub record IsLine (l : List ℕ) : Type 0 where
  pub start : List ℕ
  pub plain : plain start ≡ true
  pub is : l ≡ start ++ 10 ∷ []

line_of : (start : List ℕ) → plain start ≡ true → IsLine (spell.line start)
line_of start p = record { start = start; plain = p; is = refl }

inner_line_of : (start : List ℕ) → plain start ≡ true → IsLine (spell.inner_line start)
inner_line_of start p = record { start = codes "    " ++ start; plain = simp plain_append p; is = refl }

plain_parameter : (k : ℕ) (t : CType) → plain (spell.parameter k t) ≡ true
plain_parameter k t = simp (plain_append, plain_before_name, plain_decimal) refl

plain_more_parameter : (k : ℕ) (t : CType) → plain (spell.more_parameter k t) ≡ true
plain_more_parameter k t = plain_parameter k t

plain_parameters : (ts : List CType) → plain (spell.parameters ts) ≡ true
plain_parameters [] = refl
plain_parameters (t ∷ ts) = simp (plain_append, plain_before_name, plain_decimal, plain_numbered spell.more_parameter plain_more_parameter 1 ts) refl

plain_head : (n : ℕ) (result : Option CType) (params : List CType) → plain (spell.head n result params) ≡ true
plain_head n result params = simp (plain_append, plain_result_before_name, plain_decimal, plain_parameters) refl

static_line : (n : ℕ) (kind : ℕ) (cells : List CCell) → IsLine (spell.static_text n (record { kind = kind; cells = cells }))
static_line n kind cells = record {
  start = codes "static struct s" ++ (decimal kind ++ codes " g" ++ decimal n ++ codes " = ") ++ (spell.cells_text (map spell.cell_text cells) ++ codes ";");
  plain = simp (plain_append, plain_decimal, plain_cells cells (every_plain cells)) refl;
  is = simp append_assoc;
}

pub is_line : (p : Place) (l : List ℕ) (q : Place) → Fits p l q → IsLine l
is_line p l q fits.start = line_of (codes "/* C-sub 1 */") refl
is_line p l q fits.include = line_of (codes "#include \"rpy_prim.h\"") refl
is_line p l q (fits.struct n) = line_of (codes "struct " ++ spell.struct_name n ++ codes " {") (simp (plain_append, plain_decimal) refl)
is_line p l q (fits.base n m h) = inner_line_of (codes "struct " ++ spell.struct_name m ++ codes " a0;") (simp (plain_append, plain_decimal) refl)
is_line p l q (fits.field n k t h) = inner_line_of (spell.before_name t ++ spell.field_name k ++ codes ";") (simp (plain_append, plain_before_name, plain_decimal) refl)
is_line p l q (fits.items n k t h) = inner_line_of (spell.before_name t ++ codes "items[];") (simp (plain_append, plain_before_name) refl)
is_line p l q (fits.fields_end n k) = line_of (codes "};") refl
is_line p l q (fits.items_end n) = line_of (codes "};") refl
is_line p l q (fits.no_struct n a b f) = is_line (Prototypes 0) a b f
is_line p l q (fits.prototype n g h) = line_of (spell.head n g.result g.params ++ codes ";") (simp (plain_append, plain_head) refl)
is_line p l q (fits.no_prototype n a b f) = is_line (Statics 0) a b f
is_line p l q (fits.static n g h) = static_line n g.kind g.cells
is_line p l q (fits.no_static n a b f) = is_line (Functions 0) a b f
is_line p l q (fits.name n called h) = line_of (codes "/* " ++ called ++ codes " */") (simp (plain_append, plain_name called h) refl)
is_line p l q (fits.head n result params h g) = line_of (spell.head n result params) (plain_head n result params)
is_line p l q (fits.brace n k) = line_of (codes "{") refl
is_line p l q (fits.local n k t h) = inner_line_of (spell.parameter k t ++ codes ";") (simp (plain_append, plain_before_name, plain_decimal) refl)
is_line p l q (fits.first_block n k) = line_of (spell.block_name 0 ++ codes ":") (simp (plain_append, plain_decimal) refl)
is_line p l q (fits.statement n b s h e) = inner_line_of (spell.statement_text s) (plain_statement s)
is_line p l q (fits.last n b s h e) = inner_line_of (spell.statement_text s) (plain_statement s)
is_line p l q (fits.block n b) = line_of (spell.block_name b ++ codes ":") (simp (plain_append, plain_decimal) refl)
is_line p l q (fits.function_end n b) = line_of (codes "}") refl
