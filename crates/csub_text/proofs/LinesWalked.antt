-- The lines of a text lead from its start, and what leads further from the same lines is found by the next line alone.
use Rattle.std.proofs.Common.{◌≡◌, ℕ, ◌+◌, ◌++◌, ◌==◌, Bool, true, false, cond, List, [], ◌∷◌, Option, Some, None, refl, ap, ◌∙◌, sym, subst, append_assoc, codes, length}
use Rattle.std.specs.List.{flat_map, concat}
use Rattle.std.proofs.lemmas.List.{append-nil}
use Rattle.csub_tree.specs.declared.tree.CFile.{CFile}
use Rattle.csub_tree.specs.declared.tree.CStruct.{CStruct}
use Rattle.csub_tree.specs.declared.tree.CType.{CType}
use Rattle.csub_tree.specs.declared.tree.CPrototype.{CPrototype}
use Rattle.csub_tree.specs.declared.tree.CStatic.{CStatic}
use Rattle.csub_tree.specs.declared.tree.CFunction.{CFunction}
use Rattle.csub_tree.specs.declared.tree.CStmt.{CStmt}
use Rattle.csub_tree.specs.Spelling as spell
use Rattle.csub_text.specs.Written.{All, IsNumberIfAny, IsType, IsTypeIfAny, IsStatement, IsClosed, IsBlock, IsSomeBlocks, IsStruct, IsPrototype, IsStatic, IsFunction, IsWritten}
use Rattle.csub_text.specs.Text.{first_line}
use Rattle.csub_text.specs.declared.places.Place.{Place}
use Rattle.csub_text.specs.declared.places.Place.TheVariants.{Start, Include, Structs, Fields, Items, Prototypes, Statics, Functions, Named, Headed, Locals, Statements, Blocks}
use Rattle.csub_text.specs.Lines as fits
use Rattle.csub_text.specs.Lines.{Fits, Leads}
use Rattle.csub_text.proofs.Lines.{IsLine, is_line, plain}
use Rattle.csub_text.proofs.LinesRead.{one_place}

-- ---- the first line of bytes

first_at : (d : Bool) (b : ℕ) (s x : List ℕ) → cond d false (plain s) ≡ true → (plain s ≡ true → first_line (s ++ 10 ∷ x) ≡ s ++ 10 ∷ []) → cond d (b ∷ []) (b ∷ first_line (s ++ 10 ∷ x)) ≡ b ∷ (s ++ 10 ∷ [])
first_at true b s x p h = absurd (cc)
first_at false b s x p h = ap (λ t. b ∷ t) (h p)

first_start : (s x : List ℕ) → plain s ≡ true → first_line (s ++ 10 ∷ x) ≡ s ++ 10 ∷ []
first_start [] x p = refl
first_start (b ∷ s) x p = first_at (b == 10) b s x p (first_start s x)

pub first_of_line : (l x : List ℕ) → IsLine l → first_line (l ++ x) ≡ l
first_of_line l x h =
    ap (λ t. first_line (t ++ x)) h.is ∙ ap first_line (append_assoc h.start (10 ∷ []) x) ∙ first_start h.start x h.plain ∙ sym h.is

same_rest : (l x y : List ℕ) → l ++ x ≡ l ++ y → x ≡ y
same_rest [] x y e = e
same_rest (b ∷ l) x y e = same_rest l x y (cc)

abbrev SameLine : List ℕ → List ℕ → List ℕ → List ℕ → Type 0
SameLine l m x y = (l ≡ m) × (x ≡ y)

same_line : (l m x y : List ℕ) → IsLine l → IsLine m → l ++ x ≡ m ++ y → SameLine l m x y
same_line l m x y h g e =
    let f : l ≡ m = sym (first_of_line l x h) ∙ ap first_line e ∙ first_of_line m y g in
    (f, same_rest l x y (e ∙ ap (λ t. t ++ y) (sym f)))

no_line : (l x : List ℕ) → IsLine l → [] ≡ l ++ x → ⊥
no_line l x h e = nothing h.start x (e ∙ ap (λ t. t ++ x) h.is ∙ append_assoc h.start (10 ∷ []) x)
  where
    nothing : (s x : List ℕ) → [] ≡ s ++ 10 ∷ x → ⊥
    nothing [] x e = cc
    nothing (b ∷ s) x e = cc

-- ---- bytes whose lines lead from one place to another

pub record Walk (p : Place) (bytes : List ℕ) (q : Place) : Type 0 where
  pub lines : List (List ℕ)
  pub leads : Leads p lines q
  pub are : bytes ≡ concat lines

pub none_walked : (p : Place) → Walk p [] p
none_walked p = record { lines = []; leads = refl; are = refl }

pub one_walked : (p : Place) (l : List ℕ) (q : Place) → Fits p l q → Walk p l q
one_walked p l q f = record { lines = l ∷ []; leads = (q, f, refl); are = sym (append-nil l) }

leads_on : (p q r : Place) (ls ms : List (List ℕ)) → Leads p ls q → Leads q ms r → Leads p (ls ++ ms) r
leads_on p q r [] ms a b = subst (λ t. Leads t ms r) (sym a) b
leads_on p q r (l ∷ ls) ms a b = (a.0, a.1, leads_on a.0 q r ls ms a.2 b)

concat_on : (ls ms : List (List ℕ)) → concat (ls ++ ms) ≡ concat ls ++ concat ms
concat_on [] ms = refl
concat_on (l ∷ ls) ms = ap (λ t. l ++ t) (concat_on ls ms) ∙ sym (append_assoc l (concat ls) (concat ms))

pub walked_on : {p q r : Place} {a b : List ℕ} → Walk p a q → Walk q b r → Walk p (a ++ b) r
walked_on {p} {q} {r} {a} {b} v w = record {
  lines = v.lines ++ w.lines;
  leads = leads_on p q r v.lines w.lines v.leads w.leads;
  are = ap (λ t. t ++ b) v.are ∙ ap (λ t. concat v.lines ++ t) w.are ∙ sym (concat_on v.lines w.lines);
}

pub walked_as : {p q : Place} {a b : List ℕ} → Walk p a q → b ≡ a → Walk p b q
walked_as {p} {q} {a} {b} w e = subst (λ t. Walk p t q) (sym e) w

-- ---- the same lines lead to the same place, and from there a line that fits

none_more : (p q : Place) (ms : List (List ℕ)) (l x : List ℕ) → IsLine l → Leads p ms q → concat ms ≡ l ++ x → (r : Place) × Fits p l r
none_more p q [] l x h lead e = absurd (no_line l x h e)
none_more p q (m ∷ ms) l x h lead e =
    let s : SameLine m l (concat ms) x = same_line m l (concat ms) x (is_line p m lead.0 lead.1) h e in
    (lead.0, subst (λ t. Fits p t lead.0) s.0 lead.1)

next_fits : (p q r : Place) (ls ms : List (List ℕ)) (l x : List ℕ) → IsLine l → Leads p ls q → Leads p ms r → concat ms ≡ concat ls ++ (l ++ x) → (t : Place) × Fits q l t
next_fits p q r [] ms l x h a b e = none_more q r ms l x h (subst (λ t. Leads t ms r) a b) e
next_fits p q r (k ∷ ls) [] l x h a b e = absurd (no_line k (concat ls ++ (l ++ x)) (is_line p k a.0 a.1) (e ∙ append_assoc k (concat ls) (l ++ x)))
next_fits p q r (k ∷ ls) (m ∷ ms) l x h a b e =
    let s : SameLine m k (concat ms) (concat ls ++ (l ++ x)) = same_line m k (concat ms) (concat ls ++ (l ++ x)) (is_line p m b.0 b.1) (is_line p k a.0 a.1) (e ∙ append_assoc k (concat ls) (l ++ x)) in
    let same : b.0 ≡ a.0 = one_place p k b.0 a.0 (subst (λ t. Fits p t b.0) s.0 b.1) a.1 in
    next_fits a.0 q r ls ms l x h a.2 (subst (λ t. Leads t ms r) same b.2) s.1

pub walked_fits : (p q r : Place) (a l x : List ℕ) → IsLine l → Walk p a q → Walk p (a ++ (l ++ x)) r → (t : Place) × Fits q l t
walked_fits p q r a l x h v w = next_fits p q r v.lines w.lines l x h v.leads w.leads (sym w.are ∙ ap (λ t. t ++ (l ++ x)) v.are)

-- ---- structs

fields_walked : (n k : ℕ) (ts : List CType) → All IsType ts → (j : ℕ) × Walk (Fields n k) (spell.numbered spell.field_line k ts) (Fields n j)
fields_walked n k [] all = (k, none_walked (Fields n k))
fields_walked n k (t ∷ ts) all =
    let w = fields_walked n (k + 1) ts all.1 in
    (w.0, walked_on (one_walked (Fields n k) (spell.field_line k t) (Fields n (k + 1)) (fits.field n k t all.0)) w.1)

base_walked : (n : ℕ) (base : Option ℕ) → IsNumberIfAny base → Walk (Fields n 0) (spell.base_line base) (Fields n (spell.first_field base))
base_walked n None ok = none_walked (Fields n 0)
base_walked n (Some m) ok = one_walked (Fields n 0) (spell.base_line (Some m)) (Fields n 1) (fits.base n m ok)

close_walked : (n k : ℕ) (items : Option CType) → IsTypeIfAny items → Walk (Fields n k) (spell.items_line items ++ codes "};\n") (Structs (n + 1))
close_walked n k None ok = one_walked (Fields n k) (codes "};\n") (Structs (n + 1)) (fits.fields_end n k)
close_walked n k (Some t) ok =
    walked_on (one_walked (Fields n k) (spell.items_line (Some t)) (Items n) (fits.items n k t ok)) (one_walked (Items n) (codes "};\n") (Structs (n + 1)) (fits.items_end n))

struct_pieces : (l b f i e : List ℕ) → l ++ b ++ f ++ i ++ e ≡ l ++ (b ++ (f ++ (i ++ e)))
struct_pieces l b f i e = simp append_assoc

struct_walked : (n : ℕ) (s : CStruct) → IsStruct s → Walk (Structs n) (spell.struct_text n s) (Structs (n + 1))
struct_walked n s ok =
    let w = fields_walked n (spell.first_field s.base) s.fields ok.1 in
    walked_as
    (walked_on (one_walked (Structs n) (fits.struct_line n) (Fields n 0) (fits.struct n)) (walked_on (base_walked n s.base ok.0) (walked_on w.1 (close_walked n w.0 s.items ok.2))))
    (struct_pieces (fits.struct_line n) (spell.base_line s.base) (spell.numbered spell.field_line (spell.first_field s.base) s.fields) (spell.items_line s.items) (codes "};\n"))

structs_walked : (n : ℕ) (ss : List CStruct) → All IsStruct ss → (m : ℕ) × Walk (Structs n) (spell.numbered spell.struct_text n ss) (Structs m)
structs_walked n [] all = (n, none_walked (Structs n))
structs_walked n (s ∷ ss) all =
    let w = structs_walked (n + 1) ss all.1 in
    (w.0, walked_on (struct_walked n s all.0) w.1)

-- ---- prototypes and statics

-- what fits at the one place fits at the other
abbrev Opens : Place → Place → Type 0
Opens later p = (l : List ℕ) (q : Place) → Fits later l q → Fits p l q

-- to a place where what fits at the later one fits
abbrev WalkOpen : Place → List ℕ → Place → Type 0
WalkOpen p bytes later = (q : Place) × Walk p bytes q × Opens later q

prototypes_walked : (p : Place) (n : ℕ) (ps : List CPrototype) → All IsPrototype ps → Opens (Prototypes n) p → WalkOpen p (spell.numbered spell.prototype_text n ps) (Statics 0)
prototypes_walked p n [] all opens = (p, none_walked p, λ l q f. opens l q (fits.no_prototype n l q f))
prototypes_walked p n (x ∷ ps) all opens =
    let w : WalkOpen (Prototypes (n + 1)) (spell.numbered spell.prototype_text (n + 1) ps) (Statics 0) = prototypes_walked (Prototypes (n + 1)) (n + 1) ps all.1 (λ l q f. f) in
    (w.0, walked_on (one_walked p (spell.prototype_text n x) (Prototypes (n + 1)) (opens (spell.prototype_text n x) (Prototypes (n + 1)) (fits.prototype n x all.0))) w.1, w.2)

statics_walked : (p : Place) (n : ℕ) (gs : List CStatic) → All IsStatic gs → Opens (Statics n) p → WalkOpen p (spell.numbered spell.static_text n gs) (Functions 0)
statics_walked p n [] all opens = (p, none_walked p, λ l q f. opens l q (fits.no_static n l q f))
statics_walked p n (x ∷ gs) all opens =
    let w : WalkOpen (Statics (n + 1)) (spell.numbered spell.static_text (n + 1) gs) (Functions 0) = statics_walked (Statics (n + 1)) (n + 1) gs all.1 (λ l q f. f) in
    (w.0, walked_on (one_walked p (spell.static_text n x) (Statics (n + 1)) (opens (spell.static_text n x) (Statics (n + 1)) (fits.static n x all.0))) w.1, w.2)

-- ---- functions

locals_walked : (n k : ℕ) (ts : List CType) → All IsType ts → (j : ℕ) × Walk (Locals n k) (spell.numbered spell.local_line k ts) (Locals n j)
locals_walked n k [] all = (k, none_walked (Locals n k))
locals_walked n k (t ∷ ts) all =
    let w = locals_walked n (k + 1) ts all.1 in
    (w.0, walked_on (one_walked (Locals n k) (spell.local_line k t) (Locals n (k + 1)) (fits.local n k t all.0)) w.1)

statements_walked : (n b : ℕ) (ss : List CStmt) → All IsStatement ss → IsClosed ss → Walk (Statements n b) (flat_map spell.statement_line ss) (Blocks n (b + 1))
statements_walked n b [] all closed = absurd closed
statements_walked n b (s ∷ []) all closed = walked_on (one_walked (Statements n b) (spell.statement_line s) (Blocks n (b + 1)) (fits.last n b s all.0 closed)) (none_walked (Blocks n (b + 1)))
statements_walked n b (s ∷ t ∷ ss) all closed =
    walked_on (one_walked (Statements n b) (spell.statement_line s) (Statements n b) (fits.statement n b s all.0 closed.0)) (statements_walked n b (t ∷ ss) all.1 closed.1)

block_walked : (p : Place) (n b : ℕ) (ss : List CStmt) → IsBlock ss → Fits p (fits.block_line b) (Statements n b) → Walk p (spell.block_text b ss) (Blocks n (b + 1))
block_walked p n b ss ok f = walked_on (one_walked p (fits.block_line b) (Statements n b) f) (statements_walked n b ss ok.0 ok.1)

blocks_walked : (n b : ℕ) (bs : List (List CStmt)) → All IsBlock bs → (j : ℕ) × Walk (Blocks n b) (spell.numbered spell.block_text b bs) (Blocks n j)
blocks_walked n b [] all = (b, none_walked (Blocks n b))
blocks_walked n b (ss ∷ bs) all =
    let w = blocks_walked n (b + 1) bs all.1 in
    (w.0, walked_on (block_walked (Blocks n b) n b ss all.0 (fits.block n b)) w.1)

some_blocks_walked : (n k : ℕ) (bs : List (List CStmt)) → IsSomeBlocks bs → (j : ℕ) × Walk (Locals n k) (spell.numbered spell.block_text 0 bs) (Blocks n j)
some_blocks_walked n k [] all = absurd all
some_blocks_walked n k (ss ∷ bs) all =
    let w = blocks_walked n 1 bs all.1 in
    (w.0, walked_on (block_walked (Locals n k) n 0 ss all.0 (fits.first_block n k)) w.1)

function_pieces : (a h b l s e : List ℕ) → (a ++ h ++ b) ++ (l ++ s) ++ e ≡ (a ++ (h ++ b)) ++ ((l ++ s) ++ e)
function_pieces a h b l s e = simp append_assoc

function_walked : (p : Place) (n : ℕ) (f : CFunction) → IsFunction f → Opens (Functions n) p → Walk p (spell.function_text n f) (Functions (n + 1))
function_walked p n f ok opens =
    let l = locals_walked n (length f.params) f.locals ok.3 in
    let b = some_blocks_walked n l.0 f.blocks ok.4 in
    walked_as
    (walked_on
    (walked_on (one_walked p (fits.name_line f.name) (Named n) (opens (fits.name_line f.name) (Named n) (fits.name n f.name ok.0)))
    (walked_on (one_walked (Named n) (spell.line (spell.head n f.result f.params)) (Headed n (length f.params)) (fits.head n f.result f.params ok.1 ok.2))
    (one_walked (Headed n (length f.params)) (codes "{\n") (Locals n (length f.params)) (fits.brace n (length f.params)))))
    (walked_on (walked_on l.1 b.1) (one_walked (Blocks n b.0) (codes "}\n") (Functions (n + 1)) (fits.function_end n b.0))))
    (function_pieces (fits.name_line f.name) (spell.line (spell.head n f.result f.params)) (codes "{\n") (spell.numbered spell.local_line (length f.params) f.locals) (spell.numbered spell.block_text 0 f.blocks) (codes "}\n"))

functions_walked : (p : Place) (n : ℕ) (fs : List CFunction) → All IsFunction fs → Opens (Functions n) p → (q : Place) × Walk p (spell.numbered spell.function_text n fs) q
functions_walked p n [] all opens = (p, none_walked p)
functions_walked p n (f ∷ fs) all opens =
    let w = functions_walked (Functions (n + 1)) (n + 1) fs all.1 (λ l q h. h) in
    (w.0, walked_on (function_walked p n f all.0 opens) w.1)

head_walked : Walk Start spell.file_head (Structs 0)
head_walked = walked_on (one_walked Start (codes "/* C-sub 1 */\n") Include fits.start) (one_walked Include (codes "#include \"rpy_prim.h\"\n") (Structs 0) fits.include)

file_pieces : (h s p g f : List ℕ) → h ++ s ++ p ++ g ++ f ≡ h ++ (s ++ (p ++ (g ++ f)))
file_pieces h s p g f = simp append_assoc

pub file_walked : (c : CFile) → IsWritten c → (q : Place) × Walk Start (spell.file_text c) q
file_walked c ok =
    let s = structs_walked 0 c.structs ok.0 in
    let p : WalkOpen (Structs s.0) (spell.numbered spell.prototype_text 0 c.prototypes) (Statics 0) = prototypes_walked (Structs s.0) 0 c.prototypes ok.1 (λ l q f. fits.no_struct s.0 l q f) in
    let g : WalkOpen p.0 (spell.numbered spell.static_text 0 c.statics) (Functions 0) = statics_walked p.0 0 c.statics ok.2 p.2 in
    let f = functions_walked g.0 0 c.functions ok.3 g.2 in (
      f.0,
      walked_as (walked_on head_walked (walked_on s.1 (walked_on p.1 (walked_on g.1 f.1))))
          (file_pieces spell.file_head (spell.numbered spell.struct_text 0 c.structs) (spell.numbered spell.prototype_text 0 c.prototypes) (spell.numbered spell.static_text 0 c.statics) (spell.numbered spell.function_text 0 c.functions)),
    )
