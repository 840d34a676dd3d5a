-- What values of programs are at low level, by what is known of them: `None` alone is a truth value, and a tuple is one block.
use Rattle.std.specs.Prelude.{◌≡◌, ◌<◌, ℕ, Bool, true, false, List, [], ◌∷◌, Option, Some}
use Rattle.ann_element.specs.declared.element.Element.{Element}
use Rattle.ann_element.specs.declared.element.Element.TheVariants as element
use Rattle.csub_tree.specs.State.{Value, Flag, Block, Core}
use Rattle.csub_tree.specs.Statement.{operand}
use Rattle.csub_tree.specs.declared.tree.COperand.{COperand}
use Rattle.csub_tree.specs.declared.tree.COperand.TheVariants.{Var, Const}
use Rattle.ll_code.specs.declared.program.LlType.TheVariants as type
use Rattle.ll_texts.specs.Stands.{Stands}
use Rattle.ll_texts.specs.Texts.{found}
use Rattle.rpy_tree.specs.Value.{Value as Meant, Nothing}
use Rattle.rpy_meaning.specs.Sequences.{tuple}
use Rattle.rtyper_layout.specs.declared.kind.Kind.{Kind}
use Rattle.rtyper_layout.specs.declared.kind.Kind.TheVariants as kind
use Rattle.rtyper_layout.specs.declared.layout.Layout.{Layout}
use Rattle.rtyper_layout.specs.Kinds.{kind_seen}
use Rattle.rtyper_layout.specs.Types.{type_seen}
use Rattle.rtyper_data.specs.Seen.{Around, Operand}

-- words, truth values, bytes and strings, which may be missing
abbrev pub is_plain : Kind → Bool
is_plain kind.Word = true
is_plain kind.Flag = true
is_plain kind.Byte = true
is_plain kind.Text = true
is_plain kind.MaybeText = true
is_plain _ = false

-- these, and `None`
abbrev pub is_simple : Kind → Bool
is_simple kind.Nothing = true
is_simple k = is_plain k

module _ (layout : Layout) (blocks : List (Option Block)) (statics : List Block) where
  mutual
    -- The first value is the second, where this is known of it. What is never anything but `None` is false; the items of a tuple are the
    -- fields of its block.
    pub data Holds : Option Element → Value → Meant → Type 0 where
      Plain : {seen : Option Element} {x : Value} {v : Meant} → is_plain (kind_seen seen) ≡ true → Stands blocks statics (type_seen layout seen) x v → Holds seen x v
      Alone : {seen : Option Element} {x : Value} {v : Meant} → kind_seen seen ≡ kind.Nothing → x ≡ Flag false → v ≡ Nothing → Holds seen x v
      Items : {seen : Option Element} {x : Value} {v : Meant} (parts : List Element) (n : ℕ) (xs : List Value) (vs : List Meant) → seen ≡ Some (element.Tuple parts) → v ≡ tuple vs → type_seen layout seen ≡ type.Ptr n
          → found blocks statics x ≡ Some (record { kind = n; fields = xs; items = [] }) → AllHold parts xs vs → Holds seen x v

    -- one for each
    pub data AllHold : List Element → List Value → List Meant → Type 0 where
      End : AllHold [] [] []
      Next : {part : Element} {parts : List Element} {x : Value} {xs : List Value} {v : Meant} {vs : List Meant} → Holds (Some part) x v → AllHold parts xs vs → AllHold (part ∷ parts) (x ∷ xs) (v ∷ vs)

-- the operands are these values, one for each
abbrev pub Given : Around → Core → List Operand → List Meant → Type 0
Given around core [] [] = Unit {0}
Given around core (a ∷ args) (v ∷ vs) = Holds around.layout core.blocks core.statics a.element (operand core.vars a.x) v × Given around core args vs
Given around core args vs = ⊥

-- it is a constant, or one of the first so many variables
abbrev pub IsBelow : ℕ → COperand → Type 0
IsBelow n (Var v) = v < n
IsBelow n (Const c) = Unit {0}

abbrev pub AllBelow : ℕ → List Operand → Type 0
AllBelow n [] = Unit {0}
AllBelow n (a ∷ args) = IsBelow n a.x × AllBelow n args
