-- The statics of classes, of which the laws of instances take it that they stay.
use Rattle.std.specs.Prelude.{◌≡◌, ◌<◌, ◌^◌, ◌⊎◌, ℕ, ◌+◌, pos, Bool, true, false, List, [], ◌∷◌, ◌++◌, length, map, slice_get, Some}
use Rattle.ann_element.specs.declared.annotation.Annotation.{Annotation}
use Rattle.ann_element.specs.declared.element.Element.{Element}
use Rattle.csub_tree.specs.State.{Word, Fun, Static, Block}
use Rattle.csub_tree.specs.Statement.{read}
use Rattle.csub_tree.specs.Layout.{constant, shape_at, static_block}
use Rattle.csub_tree.specs.declared.tree.CStatic.{CStatic}
use Rattle.ll_code.specs.Machine.{shapes_of}
use Rattle.ll_code.specs.declared.program.LlProgram.{LlProgram}
use Rattle.ll_code.specs.declared.program.LlStruct.{LlStruct}
use Rattle.ll_texts.specs.Texts.{found}
use Rattle.rpy_meaning.specs.Operations.{builtin_classes}
use Rattle.rpy_resolved.specs.declared.tree.Resolved.{Resolved}
use Rattle.class_desc.specs.Line.{is_below, method}
use Rattle.rtyper_layout.specs.declared.classes.Laid.{Laid}
use Rattle.rtyper_layout.specs.Types.{word}
use Rattle.rtyper_class.specs.Seen.{World, laid}
use Rattle.rtyper_class.specs.Calls.{slot_from}
use Rattle.rtyper_class.specs.Vtables.{vtables, exceptions, vtable_at, names_of}
use Rattle.object_laws.specs.Known.{vtable_block}
use Rattle.object_laws.specs.Represents.{shapes}
use Rattle.layout_laws.specs.Knowing.{vtable_known}
use Rattle.layout_laws.specs.Layouts.{IsWorldOf, IsNumbered}

-- what the statics of a program hold at first
abbrev pub statics_of : LlProgram → List Block
statics_of p = map (static_block (shapes_of p.structs)) p.statics

-- The program begins with the structs of the layout, and has the vtables and behind them the builtin exceptions where the lowering looks
-- for them.
pub record HasStatics (world : World) (program : Resolved) (reached : List Bool) (p : LlProgram) : Type 0 where
  pub more : List LlStruct
  pub structs : p.structs ≡ world.around.layout.structs ++ more
  pub before : List CStatic
  pub rest : List CStatic
  pub statics : p.statics ≡ before ++ (vtables world program reached ++ (exceptions world ++ rest))
  pub first : length before ≡ world.first_vtable
  pub next : world.first_exception ≡ word (world.first_vtable + length world.around.layout.order)
  pub few : length p.statics < 2 ^ 64

-- the vtable of a class has its number, its methods and its name
abbrev pub VtablesStand : Type 0
VtablesStand = (program : Resolved) (annotation : Annotation) (raises : Bool) (world : World) (reached : List Bool) (p : LlProgram)
    → IsWorldOf program annotation raises world → IsNumbered world → HasStatics world program reached p → (class : ℕ) (l : Laid) → laid world class ≡ Some l
    → found [] (statics_of p) (vtable_known world program reached class).at ≡ Some (vtable_block l.vtable (vtable_known world program reached class))

-- the name is one of these
abbrev pub IsNamed : List (List ℕ) → List ℕ → Type 0
IsNamed [] name = ⊥
IsNamed (each ∷ names) name = (each ≡ name) ⊎ IsNamed names name

-- a method of the class that is reached stands in what is known of the vtable, where the lowering looks for it
abbrev pub MethodsStand : Type 0
MethodsStand = (world : World) (program : Resolved) (reached : List Bool) (class f number : ℕ) (l : Laid) (name : List ℕ) → laid world class ≡ Some l → IsNamed (names_of world l.vtable) name → length (names_of world l.vtable) < 2 ^ 63
    → method world.classes.classes class name ≡ Some f → slice_get reached f ≡ Some true → slice_get world.around.numbers f ≡ Some number
    → read (Word (pos (vtable_known world program reached class).number) ∷ (vtable_known world program reached class).methods) (slot_from 1 (names_of world l.vtable) name) ≡ Fun number

-- neither the class nor what is above it has attributes
abbrev pub IsBare : World → ℕ → Type 0
IsBare world class = (i home : ℕ) (name : List ℕ) (e : Element) → slice_get world.attributes i ≡ Some (home, name, e) → is_below world.classes.classes class home ≡ false

-- the one instance of a builtin exception class has its vtable and nothing else, where `Exception` has structs
abbrev pub ExceptionsStand : Type 0
ExceptionsStand = (program : Resolved) (annotation : Annotation) (raises : Bool) (world : World) (reached : List Bool) (p : LlProgram)
    → IsWorldOf program annotation raises world → IsNumbered world → HasStatics world program reached p → (class : ℕ) (l top : Laid) → class < builtin_classes → laid world class ≡ Some l → laid world 0 ≡ Some top → IsBare world class
    → ((shape_at (shapes world.around.layout) l.own).size ≡ 1)
    × (found [] (statics_of p) (Static (word (world.first_exception + class))) ≡ Some (record { kind = l.own; fields = constant (vtable_at world l) ∷ []; items = [] }))
