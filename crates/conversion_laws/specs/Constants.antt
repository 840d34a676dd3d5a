-- What a program writes as a constant gives its value, and nothing else is done. Constants that are lists or dicts are not told of here.
use Rattle.std.specs.Prelude.{◌≡◌, ◌<◌, ◌^◌, ℕ, ℤ, Bool, true, List, [], ◌∷◌, ◌++◌, length, slice_get, Option, Some}
use Rattle.rpy_base.specs.Word.{Fits}
use Rattle.ann_element.specs.declared.element.Element.{Element}
use Rattle.ann_element.specs.declared.element.Element.TheVariants as element
use Rattle.csub_tree.specs.Layout.{static_block}
use Rattle.csub_tree.specs.State.{Value, Core}
use Rattle.csub_tree.specs.declared.tree.CConst.TheVariants as constant
use Rattle.csub_tree.specs.declared.tree.CStatic.{CStatic}
use Rattle.ll_code.specs.Machine.{shapes_of}
use Rattle.ll_code.specs.State.{Frame, At}
use Rattle.ll_code.specs.declared.program.LlExit.{LlExit}
use Rattle.ll_code.specs.declared.program.LlOp.{LlOp}
use Rattle.ll_code.specs.declared.program.LlProgram.{LlProgram}
use Rattle.ll_texts.specs.Texts.{AreBytes}
use Rattle.rpy_tree.specs.declared.program.Const.{Const}
use Rattle.rpy_tree.specs.declared.program.Const.TheVariants as const
use Rattle.rpy_meaning.specs.declared.row.Covers.{Covers}
use Rattle.rpy_meaning.specs.declared.row.RowOp.{RowOp}
use Rattle.rpy_meaning.specs.declared.row.RowOp.TheVariants as row
use Rattle.rpy_meaning.specs.Operations.{op}
use Rattle.rpy_meaning.specs.World.{World}
use Rattle.rtyper_layout.specs.declared.kind.Kind.TheVariants as kind
use Rattle.rtyper_layout.specs.declared.layout.Layout.{Layout}
use Rattle.rtyper_layout.specs.Kinds.{kind_seen}
use Rattle.rtyper_layout.specs.Types.{type_seen}
use Rattle.rtyper_data.specs.declared.found.Found.{Found}
use Rattle.rtyper_data.specs.Converting.{default_constant}
use Rattle.rtyper_data.specs.Seen.{Around, Place, Writing}
use Rattle.rtyper_op.specs.Lowering.{lower_op}
use Rattle.object_laws.specs.Done.{HasLayout, Follows, references}
use Rattle.object_laws.specs.Ghost.{Ghost}
use Rattle.object_laws.specs.Known.{Known}
use Rattle.object_laws.specs.Represents.{Represents, is_settled}
use Rattle.object_laws.specs.Values.{is_one_of}
use Rattle.conversion_laws.specs.Going.{IsTuple, takes_none, takes_text}

-- strings and tuples that are asked for as statics are known to stay
abbrev pub AreKept : LlProgram → Layout → Known → Found → Type 0
AreKept p layout known found = (s : ℕ) (static : CStatic) → slice_get found.statics s ≡ Some static → is_settled layout static.kind ≡ true → known.static s ≡ Some (static_block (shapes_of p.structs) static)

module _ (around : Around) (known : Known) where
  mutual
    -- The constant is a value of which this is known: a word, a truth value, a byte, a string, `None`, also where something else could be,
    -- a function, which has its graph, or a tuple, whose parts are its items.
    pub data IsValue : Option Element → Const → Type 0 where
      word : {seen : Option Element} (z : ℤ) → kind_seen seen ≡ kind.Word → Fits z → IsValue seen (const.Word z)
      flag : {seen : Option Element} (b : Bool) → kind_seen seen ≡ kind.Flag → IsValue seen (const.Bool b)
      byte : {seen : Option Element} (b : ℕ) → kind_seen seen ≡ kind.Byte → b < 256 → IsValue seen (const.Str (b ∷ []))
      text : {seen : Option Element} (bytes : List ℕ) → takes_text (kind_seen seen) ≡ true → length bytes < 2 ^ 63 → AreBytes bytes → IsValue seen (const.Str bytes)
      nothing : {seen : Option Element} → kind_seen seen ≡ kind.Nothing → IsValue seen const.None
      missing : {seen : Option Element} → takes_none (kind_seen seen) ≡ true → default_constant (type_seen around.layout seen) ≡ constant.Null → IsValue seen const.None
      function : {seen : Option Element} (functions : List ℕ) (r : Bool) (f n : ℕ) → seen ≡ Some (element.Func functions r) → is_one_of functions f ≡ true → known.graph f ≡ Some n → slice_get around.numbers f ≡ Some n → IsValue seen (const.Function f)
      items : {seen : Option Element} (n : ℕ) (parts : List Element) (cs : List Const) → IsTuple around.layout seen n parts → AllValues parts cs → IsValue seen (const.Tuple cs)

    -- one for each
    pub data AllValues : List Element → List Const → Type 0 where
      End : AllValues [] []
      Next : {part : Element} {parts : List Element} {c : Const} {cs : List Const} → IsValue (Some part) c → AllValues parts cs → AllValues (part ∷ parts) (c ∷ cs)

-- What is written behind what was there, with no variable more, gives the value of the constant, and does nothing else, in every program
-- where the statics that are asked for stay.
pub record IsGiven (known : Known) (around : Around) (o : RowOp) (covers : Covers) (place : Place) (w : Writing) : Type 0 where
  pub ops : List LlOp
  pub written : (lower_op around o place [] w).body.ops ≡ w.body.ops ++ ops
  pub types : (lower_op around o place [] w).body.types ≡ w.body.types
  pub follows : (p : LlProgram) (raised : ℕ → Value) (arguments : List (List ℕ)) (rest : List LlOp) (e : LlExit) (frames : List Frame) (core : Core) (g : Ghost) (world : World)
      → HasLayout p around.layout → AreKept p around.layout known (lower_op around o place [] w).found → Represents around.layout known g world.heap world.left core.blocks core.statics → world.left ≡ core.steps → place.variable < length core.vars
      → Follows 0 known around place p arguments (At (ops ++ rest) e frames core) rest e frames core g raised (references world.heap []) (length w.body.types) world (op known.program covers o [] world)

-- constants of classes and modules
abbrev pub ConstantsAreGiven : Type 0
ConstantsAreGiven = (known : Known) (around : Around) (place : Place) (w : Writing) (covers : Covers) (c : Const) → IsValue around known place.element c → IsGiven known around (row.Constant c) covers place w

-- words, truth values, strings and `None` in the text of a function
abbrev pub WordsAreGiven : Type 0
WordsAreGiven = (known : Known) (around : Around) (place : Place) (w : Writing) (covers : Covers) (z : ℤ) → kind_seen place.element ≡ kind.Word → Fits z → IsGiven known around (row.Word z) covers place w

abbrev pub FlagsAreGiven : Type 0
FlagsAreGiven = (known : Known) (around : Around) (place : Place) (w : Writing) (covers : Covers) (b : Bool) → kind_seen place.element ≡ kind.Flag → IsGiven known around (row.Bool b) covers place w

abbrev pub StringsAreGiven : Type 0
StringsAreGiven = (known : Known) (around : Around) (place : Place) (w : Writing) (covers : Covers) (bytes : List ℕ) → IsValue around known place.element (const.Str bytes) → IsGiven known around (row.Str bytes) covers place w

abbrev pub NoneIsGiven : Type 0
NoneIsGiven = (known : Known) (around : Around) (place : Place) (w : Writing) (covers : Covers) → IsValue around known place.element const.None → IsGiven known around row.None covers place w
