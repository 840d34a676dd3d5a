-- From each place that lines lead to, some lines lead to the end of a text.
use Rattle.std.proofs.Common.{◌≡◌, ℕ, ◌+◌, ◌++◌, ◌^◌, ◌<◌, true, false, List, [], ◌∷◌, Option, Some, None, refl, ap, ◌∙◌, arith, sym, subst, append_assoc, codes, length, length-append}
use Rattle.std.specs.List.{flat_map, concat}
use Rattle.std.proofs.lemmas.List.{append-nil}
use Rattle.csub_tree.specs.declared.tree.CFile.{CFile}
use Rattle.csub_tree.specs.declared.tree.CStruct.{CStruct}
use Rattle.csub_tree.specs.declared.tree.CType.{CType}
use Rattle.csub_tree.specs.declared.tree.CFunction.{CFunction}
use Rattle.csub_tree.specs.declared.tree.CStmt.{CStmt}
use Rattle.csub_tree.specs.declared.tree.CStmt.TheVariants as stmt
use Rattle.csub_tree.specs.Checked.{ends_block, is_name}
use Rattle.csub_tree.specs.Spelling as spell
use Rattle.csub_text.specs.Written.{All, IsNumberIfAny, IsType, IsTypeIfAny, IsStatement, IsClosed, IsBlock, IsSomeBlocks, IsStruct, IsPrototype, IsStatic, IsFunction, IsSome}
use Rattle.csub_text.specs.Text.{Begins}
use Rattle.csub_text.specs.declared.places.Place.{Place}
use Rattle.csub_text.specs.declared.places.Place.TheVariants.{Start, Include, Structs, Fields, Items, Prototypes, Statics, Functions, Named, Headed, Locals, Statements, Blocks}
use Rattle.csub_text.specs.Lines as fits
use Rattle.csub_text.specs.Lines.{Fits, Leads}

-- ---- parts in order

all_snoc : {A : Type 0} (P : A → Type 0) (xs : List A) (x : A) → All P xs → P x → All P (xs ++ x ∷ [])
all_snoc P [] x all p = (p, tt)
all_snoc P (y ∷ ys) x all p = (all.0, all_snoc P ys x all.1 p)

numbered_snoc : {A : Type 0} (text : ℕ → A → List ℕ) (k : ℕ) (xs : List A) (x : A) → spell.numbered text k (xs ++ x ∷ []) ≡ spell.numbered text k xs ++ text (k + length xs) x
numbered_snoc text k [] x = append-nil (text k x) ∙ ap (λ n. text n x) (omega arith)
numbered_snoc text k (y ∷ ys) x =
    let e : (k + 1) + length ys ≡ k + length (y ∷ ys) = omega arith in
    ap (λ t. text k y ++ t) (numbered_snoc text (k + 1) ys x ∙ ap (λ n. spell.numbered text (k + 1) ys ++ text n x) e) ∙ sym (append_assoc (text k y) (spell.numbered text (k + 1) ys) (text (k + length (y ∷ ys)) x))

-- after these bytes come parts that are numbered from k, and n is the next number
record Listed {A : Type 0} (text : ℕ → A → List ℕ) (ok : A → Type 0) (k n : ℕ) (before bytes : List ℕ) : Type 0 where
  parts : List A
  all : All ok parts
  next : n ≡ k + length parts
  is : bytes ≡ before ++ spell.numbered text k parts

none_listed : {A : Type 0} (text : ℕ → A → List ℕ) (ok : A → Type 0) (k : ℕ) (bytes : List ℕ) → Listed text ok k k bytes bytes
none_listed text ok k bytes = record { parts = []; all = tt; next = omega arith; is = sym (append-nil bytes) }

listed_on : {A : Type 0} (text : ℕ → A → List ℕ) (ok : A → Type 0) (k n : ℕ) (before bytes : List ℕ) (x : A) → Listed text ok k n before bytes → ok x → Listed text ok k (n + 1) before (bytes ++ text n x)
listed_on text ok k n before bytes x h p =
    let l : length (h.parts ++ x ∷ []) ≡ length h.parts + length (x ∷ []) = length-append h.parts (x ∷ []) in
    let more : n + 1 ≡ k + length (h.parts ++ x ∷ []) = omega (arith, l, h.next) in
    record {
      parts = h.parts ++ x ∷ [];
      all = all_snoc ok h.parts x h.all p;
      next = more;
      is = ap (λ t. t ++ text n x) h.is ∙ append_assoc before (spell.numbered text k h.parts) (text n x)
          ∙ ap (λ m. before ++ (spell.numbered text k h.parts ++ text m x)) h.next ∙ ap (λ t. before ++ t) (sym (numbered_snoc text k h.parts x));
    }

-- ---- what was written where lines have come to a place

abbrev AtStructs : ℕ → List ℕ → Type 0
AtStructs n bytes = Listed spell.struct_text IsStruct 0 n spell.file_head bytes

abbrev AtPrototypes : ℕ → List ℕ → Type 0
AtPrototypes n bytes = (before : List ℕ) × (m : ℕ) × AtStructs m before × Listed spell.prototype_text IsPrototype 0 n before bytes

abbrev AtStatics : ℕ → List ℕ → Type 0
AtStatics n bytes = (before : List ℕ) × (m : ℕ) × AtPrototypes m before × Listed spell.static_text IsStatic 0 n before bytes

abbrev AtFunctions : ℕ → List ℕ → Type 0
AtFunctions n bytes = (before : List ℕ) × (m : ℕ) × AtStatics m before × Listed spell.function_text IsFunction 0 n before bytes

-- within a struct
record AtFields (n k : ℕ) (bytes : List ℕ) : Type 0 where
  before : List ℕ
  whole : AtStructs n before
  base : Option ℕ
  based : IsNumberIfAny base
  fields : Listed spell.field_line IsType (spell.first_field base) k (before ++ fits.struct_line n ++ spell.base_line base) bytes

record AtItems (n : ℕ) (bytes : List ℕ) : Type 0 where
  before : List ℕ
  k : ℕ
  fields : AtFields n k before
  kind : CType
  ok : IsType kind
  is : bytes ≡ before ++ spell.items_line (Some kind)

-- within a function
record AtNamed (n : ℕ) (bytes : List ℕ) : Type 0 where
  before : List ℕ
  whole : AtFunctions n before
  called : List ℕ
  ok : is_name called ≡ true
  is : bytes ≡ before ++ fits.name_line called

record AtHeaded (n k : ℕ) (bytes : List ℕ) : Type 0 where
  before : List ℕ
  named : AtNamed n before
  result : Option CType
  params : List CType
  ok_result : IsTypeIfAny result
  ok_params : All IsType params
  count : k ≡ length params
  is : bytes ≡ before ++ spell.line (spell.head n result params)

record AtLocals (n k : ℕ) (bytes : List ℕ) : Type 0 where
  before : List ℕ
  first : ℕ
  headed : AtHeaded n first before
  locals : Listed spell.local_line IsType first k (before ++ codes "{\n") bytes

-- b blocks were written after the locals
record AtBlocks (n b : ℕ) (bytes : List ℕ) : Type 0 where
  before : List ℕ
  k : ℕ
  inside : AtLocals n k before
  blocks : Listed spell.block_text IsBlock 0 b before bytes

-- statements none of which ends a block
abbrev IsInner : CStmt → Type 0
IsInner s = IsStatement s × (ends_block s ≡ false)

record AtStatements (n b : ℕ) (bytes : List ℕ) : Type 0 where
  before : List ℕ
  blocks : AtBlocks n b before
  stmts : List CStmt
  all : All IsInner stmts
  is : bytes ≡ before ++ (fits.block_line b ++ flat_map spell.statement_line stmts)

abbrev At : Place → List ℕ → Type 0
At Start bytes = bytes ≡ []
At Include bytes = bytes ≡ codes "/* C-sub 1 */\n"
At (Structs n) bytes = AtStructs n bytes
At (Fields n k) bytes = AtFields n k bytes
At (Items n) bytes = AtItems n bytes
At (Prototypes n) bytes = AtPrototypes n bytes
At (Statics n) bytes = AtStatics n bytes
At (Functions n) bytes = AtFunctions n bytes
At (Named n) bytes = AtNamed n bytes
At (Headed n k) bytes = AtHeaded n k bytes
At (Locals n k) bytes = AtLocals n k bytes
At (Statements n b) bytes = AtStatements n b bytes
At (Blocks n b) bytes = AtBlocks n b bytes × (0 < b)

-- ---- a line on

base_first : (base : Option ℕ) → 0 ≡ spell.first_field base → base ≡ None
base_first None e = refl
base_first (Some m) e = absurd (omega arith)

no_parts : {A : Type 0} (xs : List A) → length xs ≡ 0 → xs ≡ []
no_parts [] e = refl
no_parts (x ∷ xs) e = absurd (omega arith)

base_on : (n m : ℕ) (bytes : List ℕ) → m < 2 ^ 64 → AtFields n 0 bytes → AtFields n 1 (bytes ++ spell.base_line (Some m))
base_on n m bytes ok h =
    let none : h.base ≡ None = base_first h.base (omega (arith, h.fields.next)) in
    let nothing : h.fields.parts ≡ [] = no_parts h.fields.parts (omega (arith, h.fields.next)) in
    let e : bytes ≡ h.before ++ fits.struct_line n =
    h.fields.is ∙ ap (λ t. (h.before ++ fits.struct_line n ++ spell.base_line h.base) ++ spell.numbered spell.field_line (spell.first_field h.base) t) nothing ∙ append-nil (h.before ++ fits.struct_line n ++ spell.base_line h.base)
    ∙ ap (λ t. h.before ++ fits.struct_line n ++ spell.base_line t) none ∙ append-nil (h.before ++ fits.struct_line n) in
    record {
      before = h.before;
      whole = h.whole;
      base = Some m;
      based = ok;
      fields = subst (λ t. Listed spell.field_line IsType 1 1 t (bytes ++ spell.base_line (Some m))) (ap (λ t. t ++ spell.base_line (Some m)) e) (none_listed spell.field_line IsType 1 (bytes ++ spell.base_line (Some m)));
    }

struct_whole : (p l b f i e : List ℕ) → (((p ++ l ++ b) ++ f) ++ i) ++ e ≡ p ++ (l ++ b ++ f ++ i ++ e)
struct_whole p l b f i e = simp append_assoc

struct_on : (n k : ℕ) (bytes : List ℕ) (items : Option CType) → IsTypeIfAny items → AtFields n k bytes → AtStructs (n + 1) ((bytes ++ spell.items_line items) ++ codes "};\n")
struct_on n k bytes items ok h =
    let s : CStruct = record { base = h.base; fields = h.fields.parts; items = items } in
    let e : (bytes ++ spell.items_line items) ++ codes "};\n" ≡ h.before ++ spell.struct_text n s =
    ap (λ t. (t ++ spell.items_line items) ++ codes "};\n") h.fields.is
    ∙ struct_whole h.before (fits.struct_line n) (spell.base_line h.base) (spell.numbered spell.field_line (spell.first_field h.base) h.fields.parts) (spell.items_line items) (codes "};\n") in
    subst (AtStructs (n + 1)) (sym e) (listed_on spell.struct_text IsStruct 0 n spell.file_head h.before s h.whole (h.based, h.fields.all, ok))

fields_end_on : (n k : ℕ) (bytes : List ℕ) → AtFields n k bytes → AtStructs (n + 1) (bytes ++ codes "};\n")
fields_end_on n k bytes h = subst (λ t. AtStructs (n + 1) (t ++ codes "};\n")) (append-nil bytes) (struct_on n k bytes None tt h)

items_end_on : (n : ℕ) (bytes : List ℕ) → AtItems n bytes → AtStructs (n + 1) (bytes ++ codes "};\n")
items_end_on n bytes h = subst (λ t. AtStructs (n + 1) (t ++ codes "};\n")) (sym h.is) (struct_on n h.k h.before (Some h.kind) h.ok h.fields)

first_block_on : (n k : ℕ) (bytes : List ℕ) → AtLocals n k bytes → AtBlocks n 0 bytes
first_block_on n k bytes h = record { before = bytes; k = k; inside = h; blocks = none_listed spell.block_text IsBlock 0 bytes }

block_on : (n b : ℕ) (bytes : List ℕ) → AtBlocks n b bytes → AtStatements n b (bytes ++ fits.block_line b)
block_on n b bytes h = record { before = bytes; blocks = h; stmts = []; all = tt; is = ap (λ t. bytes ++ t) (sym (append-nil (fits.block_line b))) }

lines_snoc : (ss : List CStmt) (s : CStmt) → flat_map spell.statement_line (ss ++ s ∷ []) ≡ flat_map spell.statement_line ss ++ spell.statement_line s
lines_snoc [] s = append-nil (spell.statement_line s)
lines_snoc (t ∷ ss) s = ap (λ r. spell.statement_line t ++ r) (lines_snoc ss s) ∙ sym (append_assoc (spell.statement_line t) (flat_map spell.statement_line ss) (spell.statement_line s))

more_written : (n b : ℕ) (bytes : List ℕ) (s : CStmt) → (h : AtStatements n b bytes) → bytes ++ spell.statement_line s ≡ h.before ++ spell.block_text b (h.stmts ++ s ∷ [])
more_written n b bytes s h =
    let block : List ℕ = fits.block_line b in
    let inner : List ℕ = flat_map spell.statement_line h.stmts in
    ap (λ t. t ++ spell.statement_line s) h.is ∙ append_assoc h.before (block ++ inner) (spell.statement_line s)
    ∙ ap (λ t. h.before ++ t) (append_assoc block inner (spell.statement_line s) ∙ ap (λ t. block ++ t) (sym (lines_snoc h.stmts s)))

statement_on : (n b : ℕ) (bytes : List ℕ) (s : CStmt) → IsStatement s → ends_block s ≡ false → AtStatements n b bytes → AtStatements n b (bytes ++ spell.statement_line s)
statement_on n b bytes s ok inner h = record { before = h.before; blocks = h.blocks; stmts = h.stmts ++ s ∷ []; all = all_snoc IsInner h.stmts s h.all (ok, inner); is = more_written n b bytes s h }

all_statements : (ss : List CStmt) (s : CStmt) → All IsInner ss → IsStatement s → All IsStatement (ss ++ s ∷ [])
all_statements [] s all ok = (ok, tt)
all_statements (t ∷ ss) s all ok = (all.0.0, all_statements ss s all.1 ok)

closed : (ss : List CStmt) (s : CStmt) → All IsInner ss → ends_block s ≡ true → IsClosed (ss ++ s ∷ [])
closed [] s all ok = ok
closed (t ∷ []) s all ok = (all.0.1, ok)
closed (t ∷ u ∷ ss) s all ok = (all.0.1, closed (u ∷ ss) s all.1 ok)

last_on : (n b : ℕ) (bytes : List ℕ) (s : CStmt) → IsStatement s → ends_block s ≡ true → AtStatements n b bytes → AtBlocks n (b + 1) (bytes ++ spell.statement_line s)
last_on n b bytes s ok last h =
    let stmts : List CStmt = h.stmts ++ s ∷ [] in
    let blocks : Listed spell.block_text IsBlock 0 (b + 1) h.blocks.before (h.before ++ spell.block_text b stmts) =
    listed_on spell.block_text IsBlock 0 b h.blocks.before h.before stmts h.blocks.blocks (all_statements h.stmts s h.all ok, closed h.stmts s h.all last) in
    record { before = h.blocks.before; k = h.blocks.k; inside = h.blocks.inside; blocks = subst (λ t. Listed spell.block_text IsBlock 0 (b + 1) h.blocks.before t) (sym (more_written n b bytes s h)) blocks }

function_whole : (p a h b l s e : List ℕ) → (((((p ++ a) ++ h) ++ b) ++ l) ++ s) ++ e ≡ p ++ ((a ++ h ++ b) ++ (l ++ s) ++ e)
function_whole p a h b l s e = simp append_assoc

some_blocks : (bs : List (List CStmt)) (b : ℕ) → b ≡ 0 + length bs → 0 < b → All IsBlock bs → IsSomeBlocks bs
some_blocks [] b e some all = absurd (omega arith)
some_blocks (ss ∷ bs) b e some all = all

function_on : (n b : ℕ) (bytes : List ℕ) → AtBlocks n b bytes → 0 < b → AtFunctions (n + 1) (bytes ++ codes "}\n")
function_on n b bytes h some =
    let ls : AtLocals n h.k h.before = h.inside in
    let hd : AtHeaded n ls.first ls.before = ls.headed in
    let nm : AtNamed n hd.before = hd.named in
    let f : CFunction = record { name = nm.called; result = hd.result; params = hd.params; locals = ls.locals.parts; blocks = h.blocks.parts } in
    let locals : List ℕ = spell.numbered spell.local_line (length hd.params) ls.locals.parts in
    let blocks : List ℕ = spell.numbered spell.block_text 0 h.blocks.parts in
    let head : List ℕ = spell.line (spell.head n hd.result hd.params) in
    let e1 : ls.before ≡ (nm.before ++ fits.name_line nm.called) ++ head = hd.is ∙ ap (λ t. t ++ head) nm.is in
    let e2 : h.before ≡ (((nm.before ++ fits.name_line nm.called) ++ head) ++ codes "{\n") ++ locals =
    ls.locals.is ∙ ap (λ t. (t ++ codes "{\n") ++ spell.numbered spell.local_line ls.first ls.locals.parts) e1 ∙ ap (λ m. (((nm.before ++ fits.name_line nm.called) ++ head) ++ codes "{\n") ++ spell.numbered spell.local_line m ls.locals.parts) hd.count in
    let e3 : bytes ++ codes "}\n" ≡ nm.before ++ spell.function_text n f =
    ap (λ t. t ++ codes "}\n") (h.blocks.is ∙ ap (λ t. t ++ blocks) e2) ∙ function_whole nm.before (fits.name_line nm.called) head (codes "{\n") locals blocks (codes "}\n") in
    let fs : AtFunctions n nm.before = nm.whole in
    (fs.0, fs.1, fs.2, subst (λ t. Listed spell.function_text IsFunction 0 (n + 1) fs.0 t) (sym e3) (listed_on spell.function_text IsFunction 0 n fs.0 nm.before f fs.3 (nm.ok, hd.ok_result, hd.ok_params, ls.locals.all, some_blocks h.blocks.parts b h.blocks.next some h.blocks.all)))

no_struct_on : (n : ℕ) (bytes : List ℕ) → AtStructs n bytes → AtPrototypes 0 bytes
no_struct_on n bytes h = (bytes, n, h, none_listed spell.prototype_text IsPrototype 0 bytes)

no_prototype_on : (n : ℕ) (bytes : List ℕ) → AtPrototypes n bytes → AtStatics 0 bytes
no_prototype_on n bytes h = (bytes, n, h, none_listed spell.static_text IsStatic 0 bytes)

no_static_on : (n : ℕ) (bytes : List ℕ) → AtStatics n bytes → AtFunctions 0 bytes
no_static_on n bytes h = (bytes, n, h, none_listed spell.function_text IsFunction 0 bytes)

line_on : (p : Place) (l : List ℕ) (q : Place) → Fits p l q → (bytes : List ℕ) → At p bytes → At q (bytes ++ l)
line_on p l q fits.start bytes h = ap (λ t. t ++ codes "/* C-sub 1 */\n") h
line_on p l q fits.include bytes h =
    subst (λ t. AtStructs 0 (t ++ codes "#include \"rpy_prim.h\"\n")) (sym h) (none_listed spell.struct_text IsStruct 0 spell.file_head)
line_on p l q (fits.struct n) bytes h = record { before = bytes; whole = h; base = None; based = tt; fields = subst (λ t. Listed spell.field_line IsType 0 0 t (bytes ++ fits.struct_line n)) (sym (append-nil (bytes ++ fits.struct_line n))) (none_listed spell.field_line IsType 0 (bytes ++ fits.struct_line n)) }
line_on p l q (fits.base n m ok) bytes h = base_on n m bytes ok h
line_on p l q (fits.field n k t ok) bytes h = record { before = h.before; whole = h.whole; base = h.base; based = h.based; fields = listed_on spell.field_line IsType (spell.first_field h.base) k (h.before ++ fits.struct_line n ++ spell.base_line h.base) bytes t h.fields ok }
line_on p l q (fits.items n k t ok) bytes h = record { before = bytes; k = k; fields = h; kind = t; ok = ok; is = refl }
line_on p l q (fits.fields_end n k) bytes h = fields_end_on n k bytes h
line_on p l q (fits.items_end n) bytes h = items_end_on n bytes h
line_on p l q (fits.no_struct n a b f) bytes h = line_on (Prototypes 0) a b f bytes (no_struct_on n bytes h)
line_on p l q (fits.prototype n g ok) bytes h = (h.0, h.1, h.2, listed_on spell.prototype_text IsPrototype 0 n h.0 bytes g h.3 ok)
line_on p l q (fits.no_prototype n a b f) bytes h = line_on (Statics 0) a b f bytes (no_prototype_on n bytes h)
line_on p l q (fits.static n g ok) bytes h = (h.0, h.1, h.2, listed_on spell.static_text IsStatic 0 n h.0 bytes g h.3 ok)
line_on p l q (fits.no_static n a b f) bytes h = line_on (Functions 0) a b f bytes (no_static_on n bytes h)
line_on p l q (fits.name n called ok) bytes h = record { before = bytes; whole = h; called = called; ok = ok; is = refl }
line_on p l q (fits.head n result params ok all) bytes h = record { before = bytes; named = h; result = result; params = params; ok_result = ok; ok_params = all; count = refl; is = refl }
line_on p l q (fits.brace n k) bytes h = record { before = bytes; first = k; headed = h; locals = none_listed spell.local_line IsType k (bytes ++ codes "{\n") }
line_on p l q (fits.local n k t ok) bytes h = record { before = h.before; first = h.first; headed = h.headed; locals = listed_on spell.local_line IsType h.first k (h.before ++ codes "{\n") bytes t h.locals ok }
line_on p l q (fits.first_block n k) bytes h = block_on n 0 bytes (first_block_on n k bytes h)
line_on p l q (fits.statement n b s ok e) bytes h = statement_on n b bytes s ok e h
line_on p l q (fits.last n b s ok e) bytes h = (last_on n b bytes s ok e h, omega arith)
line_on p l q (fits.block n b) bytes h = block_on n b bytes h.0
line_on p l q (fits.function_end n b) bytes h = function_on n b bytes h.0 h.1

lines_on : (p q : Place) (ls : List (List ℕ)) → Leads p ls q → (bytes : List ℕ) → At p bytes → At q (bytes ++ concat ls)
lines_on p q [] lead bytes h = subst (λ t. At q t) (sym (append-nil bytes)) (subst (λ t. At t bytes) lead h)
lines_on p q (l ∷ ls) lead bytes h = subst (λ t. At q t) (append_assoc bytes l (concat ls)) (lines_on lead.0 q ls lead.2 (bytes ++ l) (line_on p l lead.0 lead.1 bytes h))

-- ---- to the end

begins_less : (a b : List ℕ) → Begins (a ++ b) → Begins a
begins_less a b h = (b ++ h.0, h.1, (sym (append_assoc a b h.0) ∙ h.2.0, h.2.1))

some_functions : (fs : List CFunction) (n : ℕ) → n + 1 ≡ 0 + length fs → IsSome fs
some_functions [] n e = absurd (omega arith)
some_functions (f ∷ fs) n e = tt

-- one function is whole
ended : (n : ℕ) (bytes : List ℕ) → AtFunctions (n + 1) bytes → Begins bytes
ended n bytes h =
    let fs = h.3 in
    let g : AtStatics h.1 h.0 = h.2 in
    let p : AtPrototypes g.1 g.0 = g.2 in
    let s : AtStructs p.1 p.0 = p.2 in
    let c : CFile = record { structs = s.parts; prototypes = p.3.parts; statics = g.3.parts; functions = fs.parts } in
    let e : bytes ≡ spell.file_text c =
    fs.is ∙ ap (λ t. t ++ spell.numbered spell.function_text 0 fs.parts) (g.3.is ∙ ap (λ t. t ++ spell.numbered spell.static_text 0 g.3.parts) (p.3.is ∙ ap (λ t. t ++ spell.numbered spell.prototype_text 0 p.3.parts) s.is)) in
    ([], c, (append-nil bytes ∙ e, (s.all, p.3.all, g.3.all, fs.all, some_functions fs.parts n fs.next)))

abbrev Ends : Place → Type 0
Ends p = (bytes : List ℕ) → At p bytes → Begins bytes

by_line : (p : Place) (l : List ℕ) (q : Place) → Fits p l q → Ends q → Ends p
by_line p l q f more bytes h = begins_less bytes l (more (bytes ++ l) (line_on p l q f bytes h))

blocks_end : (n b : ℕ) → Ends (Blocks n b)
blocks_end n b = by_line (Blocks n b) (codes "}\n") (Functions (n + 1)) (fits.function_end n b) (ended n)

statements_end : (n b : ℕ) → Ends (Statements n b)
statements_end n b = by_line (Statements n b) (spell.statement_line (stmt.Return None)) (Blocks n (b + 1)) (fits.last n b (stmt.Return None) tt refl) (blocks_end n (b + 1))

locals_end : (n k : ℕ) → Ends (Locals n k)
locals_end n k = by_line (Locals n k) (fits.block_line 0) (Statements n 0) (fits.first_block n k) (statements_end n 0)

headed_end : (n k : ℕ) → Ends (Headed n k)
headed_end n k = by_line (Headed n k) (codes "{\n") (Locals n k) (fits.brace n k) (locals_end n k)

named_end : (n : ℕ) → Ends (Named n)
named_end n = by_line (Named n) (spell.line (spell.head n None [])) (Headed n 0) (fits.head n None [] tt tt) (headed_end n 0)

functions_end : (n : ℕ) → Ends (Functions n)
functions_end n = by_line (Functions n) (fits.name_line []) (Named n) (fits.name n [] refl) (named_end n)

statics_end : (n : ℕ) → Ends (Statics n)
statics_end n bytes h = functions_end 0 bytes (no_static_on n bytes h)

prototypes_end : (n : ℕ) → Ends (Prototypes n)
prototypes_end n bytes h = statics_end 0 bytes (no_prototype_on n bytes h)

structs_end : (n : ℕ) → Ends (Structs n)
structs_end n bytes h = prototypes_end 0 bytes (no_struct_on n bytes h)

include_end : Ends Include
include_end = by_line Include (codes "#include \"rpy_prim.h\"\n") (Structs 0) fits.include (structs_end 0)

place_ends : (p : Place) → Ends p
place_ends Start = by_line Start (codes "/* C-sub 1 */\n") Include fits.start include_end
place_ends Include = include_end
place_ends (Structs n) = structs_end n
place_ends (Fields n k) = by_line (Fields n k) (codes "};\n") (Structs (n + 1)) (fits.fields_end n k) (structs_end (n + 1))
place_ends (Items n) = by_line (Items n) (codes "};\n") (Structs (n + 1)) (fits.items_end n) (structs_end (n + 1))
place_ends (Prototypes n) = prototypes_end n
place_ends (Statics n) = statics_end n
place_ends (Functions n) = functions_end n
place_ends (Named n) = named_end n
place_ends (Headed n k) = headed_end n k
place_ends (Locals n k) = locals_end n k
place_ends (Statements n b) = statements_end n b
place_ends (Blocks n b) = blocks_end n b

-- some text begins with lines that lead from the start
pub lines_begin : (ls : List (List ℕ)) (q : Place) → Leads Start ls q → Begins (concat ls)
lines_begin ls q lead = place_ends q (concat ls) (lines_on Start q ls lead [] refl)
