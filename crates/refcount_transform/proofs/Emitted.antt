-- What is pushed before the rest of a block.
use Rattle.std.proofs.Common.{◌≡◌, ℕ, suc, ◌||◌, Bool, true, false, List, [], ◌∷◌, ◌++◌, Option, Some, None, refl, sym, ap, ◌∙◌, append_assoc}
use Rattle.csub_tree.specs.declared.tree.COperand.{COperand}
use Rattle.csub_tree.specs.declared.tree.COperand.TheVariants.{Var, Const}
use Rattle.csub_tree.specs.declared.tree.CConst.TheVariants as constant
use Rattle.ll_code.specs.declared.program.LlOp.{LlOp}
use Rattle.ll_code.specs.declared.program.LlOp.TheVariants as op
use Rattle.ll_code.specs.declared.program.LlExit.{LlExit}
use Rattle.ll_live.specs.Live.{among, live}
use Rattle.refcount_transform.specs.declared.plan.Held.{Held}
use Rattle.refcount_transform.specs.declared.slots.Slots.{Slots}
use Rattle.refcount_transform.specs.Plan.{Plan, root_of, counts_at, shifted, is_counted, items_referred, held_of, own_some}
use Rattle.refcount_transform.specs.Made.{null, word, gets, kind_read, value_read, slot_drop}
use Rattle.refcount_transform.specs.Changes.{Around, up, up_by, operand_referred, down, down_by, var_referred, ups, nulls, header, header_by, cleared, cleared_by, emptied, emptied_by, changed, dead, down_unless, up_if, is_given_later, given, touched, ops_of}

-- a piece before another, where each stands before the rest
two_pieces : (f g : List LlOp → List LlOp) → ((rest : List LlOp) → f rest ≡ f [] ++ rest) → ((rest : List LlOp) → g rest ≡ g [] ++ rest) → (rest : List LlOp) → f (g rest) ≡ f (g []) ++ rest
two_pieces f g hf hg rest = hf (g rest) ∙ ap (λ l. f [] ++ l) (hg rest) ∙ sym (append_assoc (f []) (g []) rest) ∙ ap (λ l. l ++ rest) (sym (hf (g [])))

-- a piece is pushed, and then the rest
pub joined : (f : List LlOp → List LlOp) (l m k rest : List LlOp) → ((r : List LlOp) → f r ≡ f [] ++ r) → m ≡ l ++ f [] → k ≡ m ++ rest → k ≡ l ++ f rest
joined f l m k rest h a b = b ∙ ap (λ x. x ++ rest) a ∙ append_assoc l (f []) rest ∙ ap (λ x. l ++ x) (sym (h rest))

-- ---- references

up_by_first : (around : Around) (x : COperand) (o : Option ℕ) (rest : List LlOp) → up_by around x o rest ≡ up_by around x o [] ++ rest
up_by_first around x None rest = refl
up_by_first around x (Some n) rest = refl

pub up_first : (around : Around) (x : COperand) (rest : List LlOp) → up around x rest ≡ up around x [] ++ rest
up_first around x rest = up_by_first around x (operand_referred around x) rest

down_by_first : (around : Around) (v : ℕ) (o : Option ℕ) (rest : List LlOp) → down_by around v o rest ≡ down_by around v o [] ++ rest
down_by_first around v None rest = refl
down_by_first around v (Some n) rest = refl

pub down_first : (around : Around) (v : ℕ) (rest : List LlOp) → down around v rest ≡ down around v [] ++ rest
down_first around v rest = down_by_first around v (var_referred around v) rest

pub ups_first : (around : Around) (xs : List COperand) (rest : List LlOp) → ups around xs rest ≡ ups around xs [] ++ rest
ups_first around [] rest = refl
ups_first around (x ∷ xs) rest = two_pieces (up around x) (ups around xs) (up_first around x) (ups_first around xs) rest

-- ---- new blocks

pub nulls_first : (v : ℕ) (held : List Held) (rest : List LlOp) → nulls v held rest ≡ nulls v held [] ++ rest
nulls_first v [] rest = refl
nulls_first v (h ∷ held) rest = ap (λ l. op.SetField h.owner v h.number null ∷ l) (nulls_first v held rest)

abbrev header_start : Plan → ℕ → ℕ → List LlOp → List LlOp
header_start plan v n rest = op.SetField (root_of plan n) v 0 (word 1) ∷ op.SetField (root_of plan n) v 1 (Const (constant.Fun (counts_at plan n).release)) ∷ rest

header_by_first : (plan : Plan) (v n : ℕ) (b : Bool) (rest : List LlOp) → header_by plan v n b rest ≡ header_by plan v n b [] ++ rest
header_by_first plan v n false rest = refl
header_by_first plan v n true rest = ap (header_start plan v n) (nulls_first v (held_of plan n) rest)

pub header_first : (plan : Plan) (v n : ℕ) (rest : List LlOp) → header plan v n rest ≡ header plan v n [] ++ rest
header_first plan v n rest = header_by_first plan v n (is_counted plan n) rest

cleared_by_first : (plan : Plan) (v n : ℕ) (x : COperand) (o : Option ℕ) (rest : List LlOp) → cleared_by plan v n x o rest ≡ cleared_by plan v n x o [] ++ rest
cleared_by_first plan v n x None rest = refl
cleared_by_first plan v n x (Some m) rest = refl

pub cleared_first : (plan : Plan) (v n : ℕ) (x : COperand) (rest : List LlOp) → cleared plan v n x rest ≡ cleared plan v n x [] ++ rest
cleared_first plan v n x rest = cleared_by_first plan v n x (items_referred plan n) rest

-- ---- exception slots

emptied_by_first : (slots : Slots) (b : Bool) (rest : List LlOp) → emptied_by slots b rest ≡ emptied_by slots b [] ++ rest
emptied_by_first slots true rest = refl
emptied_by_first slots false rest = refl

pub emptied_first : (slots : Slots) (rest : List LlOp) → emptied slots rest ≡ emptied slots [] ++ rest
emptied_first slots rest = emptied_by_first slots (own_some slots) rest

-- ---- one operation

pub changed_first : (around : Around) (o : LlOp) (rest : List LlOp) → changed around o rest ≡ changed around o [] ++ rest
changed_first around (op.Set a x) rest = two_pieces (up around x) (λ l. op.Set a x ∷ l) (up_first around x) (λ l. refl) rest
changed_first around (op.Unary a o x) rest = refl
changed_first around (op.Binary a o x y) rest = refl
changed_first around (op.GetField a n b k) rest = ap (λ l. op.GetField a n b (shifted around.plan n k) ∷ l) (up_first around (Var a) rest)
changed_first around (op.SetField n b k x) rest = refl
changed_first around (op.GetItem a n b i) rest = ap (λ l. op.GetItem a n b i ∷ l) (up_first around (Var a) rest)
changed_first around (op.SetItem n b i x) rest = refl
changed_first around (op.New a m n) rest = ap (λ l. op.New a m n ∷ l) (header_first around.plan a n rest)
changed_first around (op.NewArray a m n x) rest =
    ap (λ l. op.NewArray a m n x ∷ l) (two_pieces (header around.plan a n) (cleared around.plan a n x) (header_first around.plan a n) (cleared_first around.plan a n x) rest)
changed_first around (op.Free a) rest = refl
changed_first around (op.Step x) rest = refl
changed_first around (op.Call into f xs) rest = two_pieces (ups around xs) (λ l. op.Call into f xs ∷ l) (ups_first around xs) (λ l. refl) rest
changed_first around (op.CallFn into result params b xs) rest = two_pieces (ups around xs) (λ l. op.CallFn into result params b xs ∷ l) (ups_first around xs) (λ l. refl) rest
changed_first around (op.ExcType a n) rest = ap (λ l. op.ExcType a n ∷ l) (up_first around (Var a) rest)
changed_first around (op.ExcValue a n) rest = ap (λ l. op.ExcValue a n ∷ l) (up_first around (Var a) rest)
changed_first around (op.ExcSet a b) rest =
    two_pieces (up around (Var a)) (λ l. up around (Var b) (emptied around.plan.slots (op.ExcSet a b ∷ l))) (up_first around (Var a))
    (λ l. two_pieces (up around (Var b)) (λ m. emptied around.plan.slots (op.ExcSet a b ∷ m)) (up_first around (Var b))
    (λ m. two_pieces (emptied around.plan.slots) (λ k. op.ExcSet a b ∷ k) (emptied_first around.plan.slots) (λ k. refl) m) l) rest
changed_first around op.ExcClear rest = refl
changed_first around (op.Argc a) rest = refl
changed_first around (op.ArgLen a x) rest = refl
changed_first around (op.Arg a x y) rest = refl
changed_first around (op.Put x) rest = refl
changed_first around (op.Raise a) rest = refl

-- ---- what is dropped

unless_first : (b : Bool) (around : Around) (v : ℕ) (rest : List LlOp) → down_unless b around v rest ≡ down_unless b around v [] ++ rest
unless_first true around v rest = refl
unless_first false around v rest = down_first around v rest

pub dead_first : (around : Around) (variables : List ℕ) (ops : List LlOp) (e : LlExit) (rest : List LlOp) → dead around variables ops e rest ≡ dead around variables ops e [] ++ rest
dead_first around [] ops e rest = refl
dead_first around (v ∷ variables) ops e rest =
    two_pieces (down_unless (among v variables || live ops e v) around v) (dead around variables ops e) (unless_first (among v variables || live ops e v) around v) (dead_first around variables ops e) rest

-- one operation is pushed, and what is dropped behind it
pub op_joined : (around : Around) (o : LlOp) (ops : List LlOp) (e : LlExit) (variables : List ℕ) (l m k : List LlOp)
    → m ≡ l ++ changed around o [] → variables ≡ touched o → k ≡ m ++ dead around variables ops e [] → k ++ ops_of around ops e ≡ l ++ ops_of around (o ∷ ops) e
op_joined around o ops e variables l m k a v b =
    let rest : List LlOp = ops_of around ops e in
    let d : k ≡ l ++ changed around o (dead around (touched o) ops e []) =
    joined (changed around o) l m k (dead around (touched o) ops e []) (changed_first around o) a (b ∙ ap (λ vs. m ++ dead around vs ops e []) v) in
    ap (λ x. x ++ rest) d ∙ append_assoc l (changed around o (dead around (touched o) ops e [])) rest
    ∙ ap (λ x. l ++ x) (sym (two_pieces (changed around o) (dead around (touched o) ops e) (changed_first around o) (dead_first around (touched o) ops e) rest))

-- ---- what an exit gives on

if_first : (b : Bool) (around : Around) (x : COperand) (rest : List LlOp) → up_if b around x rest ≡ up_if b around x [] ++ rest
if_first true around x rest = up_first around x rest
if_first false around x rest = refl

pub given_first : (around : Around) (xs : List COperand) (rest : List LlOp) → given around xs rest ≡ given around xs [] ++ rest
given_first around [] rest = refl
given_first around (x ∷ xs) rest = two_pieces (up_if (is_given_later x xs) around x) (given around xs) (if_first (is_given_later x xs) around x) (given_first around xs) rest

-- ---- graphs that are made

pub gets_first : (v : ℕ) (held : List Held) (rest : List LlOp) → gets v held rest ≡ gets v held [] ++ rest
gets_first v [] rest = refl
gets_first v (h ∷ held) rest = ap (λ l. op.GetField v h.owner 0 h.number ∷ l) (gets_first (suc v) held rest)

pub kind_first : (o : Option ℕ) (rest : List LlOp) → kind_read o rest ≡ kind_read o [] ++ rest
kind_first None rest = refl
kind_first (Some n) rest = refl

pub value_first : (o : Option ℕ) (rest : List LlOp) → value_read o rest ≡ value_read o [] ++ rest
value_first None rest = refl
value_first (Some n) rest = refl

pub drop_first : (plan : Plan) (v : ℕ) (o : Option ℕ) (rest : List LlOp) → slot_drop plan v o rest ≡ slot_drop plan v o [] ++ rest
drop_first plan v None rest = refl
drop_first plan v (Some n) rest = refl
