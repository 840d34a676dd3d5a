-- Items of a list are read as strings.
use Rattle.std.proofs.Common.{◌≡◌, ◌<◌, ◌≤◌, ℕ, zero, suc, ◌+◌, Bool, true, false, List, [], ◌∷◌, ◌++◌, length, Option, Some, None, pos, refl, sym, ◌∙◌, subst, arith}
use Rattle.std.specs.Prelude.{slice_get}
use Rattle.csub_tree.specs.State.{Value, Unset, Word, Byte, Static, Block, Core}
use Rattle.csub_tree.specs.Layout.{shape_at, shape_over}
use Rattle.csub_tree.specs.Statement.{read}
use Rattle.csub_tree.specs.declared.tree.COperand.TheVariants.{Var}
use Rattle.ll_code.specs.State.{Frame, At}
use Rattle.ll_code.specs.Machine.{shapes_of}
use Rattle.ll_code.specs.declared.program.LlOp.{LlOp}
use Rattle.ll_code.specs.declared.program.LlOp.TheVariants as op
use Rattle.ll_code.specs.declared.program.LlExit.{LlExit}
use Rattle.ll_code.specs.declared.program.LlProgram.{LlProgram}
use Rattle.ll_build.specs.declared.needs.Helper.TheVariants.{StrOfChar}
use Rattle.ll_build.specs.declared.needs.Numbers.{Numbers}
use Rattle.ll_leads.specs.Path.{Leads}
use Rattle.ll_leads.proofs.Ways.{on, call}
use Rattle.ll_strings.specs.Laws.{HasHelper}
use Rattle.ll_texts.specs.Texts.{HasStatics, IsText, found}
use Rattle.ll_texts.proofs.Reading.{is_set}
use Rattle.object_laws.proofs.Blocks.{reads_item}
use Rattle.conversion_laws.proofs.Turned.{byte_comes}

-- ---- the operations

-- an item, and where it is a byte the string of that
abbrev pub item_reads : Bool → ℕ → ℕ → ℕ → List LlOp
item_reads false v letter a = op.GetItem v a 2 (Var 5) ∷ []
item_reads true v letter a = op.GetItem v a 2 (Var 5) ∷ op.Call (Some (v + 1)) letter (Var v ∷ []) ∷ []

-- the variable of the string
abbrev pub text_in : Bool → ℕ → ℕ
text_in false v = v
text_in true v = v + 1

-- where the second use of an item begins
abbrev pub second_at : Bool → ℕ
second_at false = 15
second_at true = 16

-- ---- variables

abbrev pub Four : Type 0
Four = Value × Value × Value × Value

abbrev pub rest_of : Bool → Four → List Value
rest_of false r = r.0 ∷ r.1 ∷ []
rest_of true r = r.0 ∷ r.1 ∷ r.2 ∷ r.3 ∷ []

-- what stands in the other variables
pub record Others : Type 0 where
  pub v1 : Value
  pub v7 : Value
  pub v10 : Value
  pub v11 : Value
  pub v12 : Value
  pub rest : Four

-- ---- items

-- a value in the list is this string, or the one byte of it
abbrev pub IsItem : Bool → List (Option Block) → List Block → Value → List ℕ → Type 0
IsItem false blocks statics z t = IsText blocks statics z t
IsItem true blocks statics z t = (c : ℕ) × (z ≡ Byte c) × (t ≡ c ∷ []) × (c < 256)

abbrev pub AreItems : Bool → List (Option Block) → List Block → List Value → List (List ℕ) → Type 0
AreItems bytes blocks statics [] [] = Unit {0}
AreItems bytes blocks statics (z ∷ zs) (t ∷ texts) = IsItem bytes blocks statics z t × AreItems bytes blocks statics zs texts
AreItems bytes blocks statics zs texts = ⊥

pub record ItemAt (bytes : Bool) (blocks : List (Option Block)) (statics : List Block) (items : List Value) (i : ℕ) (t : List ℕ) : Type 0 where
  pub z : Value
  pub at : read items i ≡ z
  pub inside : i < length items
  pub is : IsItem bytes blocks statics z t

pub item_at : (bytes : Bool) (blocks : List (Option Block)) (statics : List Block) (zs spare : List Value) (texts : List (List ℕ)) (i : ℕ) (t : List ℕ) → AreItems bytes blocks statics zs texts → slice_get texts i ≡ Some t → ItemAt bytes blocks statics (zs ++ spare) i t
item_at bytes blocks statics [] spare [] i t are h = absurd (cc)
item_at bytes blocks statics [] spare (u ∷ texts) i t are h = absurd are
item_at bytes blocks statics (z ∷ zs) spare [] i t are h = absurd are
item_at bytes blocks statics (z ∷ zs) spare (u ∷ texts) zero t are h = (let q : u ≡ t = same u t h in record { z = z; at = refl; inside = omega arith; is = subst (IsItem bytes blocks statics z) q are.0 })
  where
    same : (a b : List ℕ) → Some a ≡ Some b → a ≡ b
    same a b e = cc
item_at bytes blocks statics (z ∷ zs) spare (u ∷ texts) (suc i) t are h = (let it = item_at bytes blocks statics zs spare texts i t are.1 h in record { z = it.z; at = it.at; inside = (let q = it.inside in omega (arith, q)); is = it.is })

pub helper_then : (p : LlProgram) (numbers : Numbers) (f : ℕ) (core mid : Core) → mid.statics ≡ core.statics → mid.steps ≤ core.steps → HasHelper p numbers StrOfChar f core → HasHelper p numbers StrOfChar f mid
helper_then p numbers f core mid statics less has = record {
  graph = has.graph;
  shared = has.shared;
  text = has.text;
  statics = λ named. subst (λ s. HasStatics p numbers.table s) (sym statics) (has.statics named);
  small = (let s = has.small in omega (arith, s, less));
}

module _ (p : LlProgram) (args : List (List ℕ)) (numbers : Numbers) (core : Core) (f a k m : ℕ) (x array : Value) (block : Block) (arrays : shape_at (shapes_of p.structs) a ≡ shape_over a 1 None) (kind : block.kind ≡ a) where
  abbrev pub vars : Bool → ℕ → ℕ → Value → Value → Others → List Value
  vars bytes i sum w8 w9 r = x ∷ r.v1 ∷ array ∷ Word (pos k) ∷ Word (pos m) ∷ Word (pos i) ∷ Word (pos sum) ∷ r.v7 ∷ w8 ∷ w9 ∷ r.v10 ∷ r.v11 ∷ r.v12 ∷ Unset ∷ rest_of bytes r.rest

  abbrev pub over : Bool → ℕ → ℕ → ℕ → ℕ → Value → Value → Others → List (Option Block) → ℕ → Core
  over bytes b at i sum w8 w9 r blocks steps = record core { function = f; block = b; at = at; vars = vars bytes i sum w8 w9 r; blocks = blocks; steps = steps }

  -- the string of an item is in its variable
  pub record Read (bytes : Bool) (v letter : ℕ) (b i sum : ℕ) (w8 w9 : Value) (r : Others) (blocks : List (Option Block)) (steps : ℕ) (t : List ℕ) (ops : List LlOp) (e : LlExit) (waits : List Frame) : Type 0 where
    pub rest : Four
    pub at : ℕ
    pub y : Value
    pub way : Leads p args 0 (At (item_reads bytes v letter a ++ ops) e waits (over bytes b 0 i sum w8 w9 r blocks steps)) [] (At ops e waits (over bytes b at i sum w8 w9 (record r { rest = rest }) blocks steps))
    pub is : (j s : ℕ) (u8 u9 : Value) (q : Others) → read (vars bytes j s u8 u9 (record q { rest = rest })) (text_in bytes v) ≡ y
    pub text : IsText core.blocks core.statics y t

  module _ (b i sum : ℕ) (w8 w9 : Value) (r : Others) (blocks : List (Option Block)) (there : found blocks core.statics array ≡ Some block) (steps : ℕ) (less : steps ≤ core.steps) (t : List ℕ) (ops : List LlOp) (e : LlExit) (waits : List Frame) where
    -- a byte is its static
    letter_text : (letter c : ℕ) → HasHelper p numbers StrOfChar letter core → c < 256 → IsText core.blocks core.statics (Static (c + 1)) (c ∷ [])
    letter_text letter c has small = (let s = has.statics refl in record { is = s.singles c small; short = omega arith; small = (small, tt) })

    pub reads_first : (bytes : Bool) (letter : ℕ) → (bytes ≡ true → HasHelper p numbers StrOfChar letter core) → ItemAt bytes core.blocks core.statics block.items i t → Read bytes 14 letter b i sum w8 w9 r blocks steps t ops e waits
    reads_first false letter has it = record {
      rest = (it.z, r.rest.1, r.rest.2, r.rest.3);
      at = 1;
      y = it.z;
      way = reads_item 1 block it.z arrays there kind (is_set it.is) i refl it.inside it.at;
      is = λ j s u8 u9 q. refl;
      text = it.is;
    }
    reads_first true letter has it =
        let c : ℕ = it.is.0 in
        let mid : Core = over true b 1 i sum w8 w9 (record r { rest = (Byte c, r.rest.1, r.rest.2, r.rest.3) }) blocks steps in
        record {
          rest = (Byte c, Static (c + 1), r.rest.2, r.rest.3);
          at = 2;
          y = Static (c + 1);
          way = on (reads_item 1 block (Byte c) arrays there kind refl i refl it.inside (it.at ∙ it.is.1)) (call {core = mid} refl (λ waits. byte_comes (helper_then p numbers letter core mid refl less (has refl)) c it.is.3 waits));
          is = λ j s u8 u9 q. refl;
          text = subst (IsText core.blocks core.statics (Static (c + 1))) (sym it.is.2) (letter_text letter c (has refl) it.is.3);
        }

    pub reads_second : (bytes : Bool) (letter : ℕ) → (bytes ≡ true → HasHelper p numbers StrOfChar letter core) → ItemAt bytes core.blocks core.statics block.items i t → Read bytes (second_at bytes) letter b i sum w8 w9 r blocks steps t ops e waits
    reads_second false letter has it = record {
      rest = (r.rest.0, it.z, r.rest.2, r.rest.3);
      at = 1;
      y = it.z;
      way = reads_item 1 block it.z arrays there kind (is_set it.is) i refl it.inside it.at;
      is = λ j s u8 u9 q. refl;
      text = it.is;
    }
    reads_second true letter has it =
        let c : ℕ = it.is.0 in
        let mid : Core = over true b 1 i sum w8 w9 (record r { rest = (r.rest.0, r.rest.1, Byte c, r.rest.3) }) blocks steps in
        record {
          rest = (r.rest.0, r.rest.1, Byte c, Static (c + 1));
          at = 2;
          y = Static (c + 1);
          way = on (reads_item 1 block (Byte c) arrays there kind refl i refl it.inside (it.at ∙ it.is.1)) (call {core = mid} refl (λ waits. byte_comes (helper_then p numbers letter core mid refl less (has refl)) c it.is.3 waits));
          is = λ j s u8 u9 q. refl;
          text = subst (IsText core.blocks core.statics (Static (c + 1))) (sym it.is.2) (letter_text letter c (has refl) it.is.3);
        }
