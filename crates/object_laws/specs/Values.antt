-- What values of programs are at low level, by what is known of them: an object is its first block or static, and one that is missing is NULL.
use Rattle.std.specs.Prelude.{◌≡◌, ◌<◌, ◌^◌, ◌==◌, ℕ, ℤ, Bool, true, false, List, [], ◌∷◌, length, Option, Some, slice_get}
use Rattle.std.specs.List.{list_any}
use Rattle.rpy_base.specs.Word.{Fits}
use Rattle.ann_element.specs.declared.element.Element.{Element}
use Rattle.ann_element.specs.declared.element.Element.TheVariants as element
use Rattle.csub_tree.specs.State.{Value, Word, Byte, Flag, Fun, Null, Core}
use Rattle.csub_tree.specs.Statement.{operand}
use Rattle.ll_code.specs.declared.program.LlType.{LlType}
use Rattle.ll_code.specs.declared.program.LlType.TheVariants as type
use Rattle.ll_held.specs.Held.{is_reference}
use Rattle.ll_texts.specs.Texts.{text_block, AreBytes}
use Rattle.rpy_tree.specs.Value.{Value as Meant, Word as MeantWord, Flag as MeantFlag, Fun as MeantFun, Text, Nothing, Ref}
use Rattle.rpy_meaning.specs.Classes.{is_below}
use Rattle.rpy_meaning.specs.Sequences.{tuple}
use Rattle.rtyper_layout.specs.declared.kind.Kind.{Kind}
use Rattle.rtyper_layout.specs.declared.kind.Kind.TheVariants as kind
use Rattle.rtyper_layout.specs.declared.layout.Layout.{Layout}
use Rattle.rtyper_layout.specs.Kinds.{kind_seen}
use Rattle.rtyper_layout.specs.declared.dicts.Mapping.{Mapping}
use Rattle.rtyper_layout.specs.Layout.{is_list, mapping_at}
use Rattle.rtyper_layout.specs.Types.{type_seen}
use Rattle.rtyper_data.specs.Seen.{Around, Operand}
use Rattle.rtyper_list.specs.Operands.{of_list}
use Rattle.lower_laws.specs.Values.{is_plain}
use Rattle.object_laws.specs.Ghost.{Ghost, use_of, Stays, ListOf, InstanceOf, DictOf}
use Rattle.object_laws.specs.Known.{Known}

-- a string is a block or a static that stays its bytes, whose count is a word
pub record IsText (g : Ghost) (x : Value) (bytes : List ℕ) : Type 0 where
  pub is : use_of g x ≡ Some (Stays (text_block bytes))
  pub short : length bytes < 2 ^ 63
  pub small : AreBytes bytes

-- the first value is the second, as one of this type; a missing string is NULL
pub data Stands (g : Ghost) : LlType → Value → Meant → Type 0 where
  word : (z : ℤ) → Fits z → Stands g type.Signed (Word z) (MeantWord z)
  flag : (b : Bool) → Stands g type.Bool (Flag b) (MeantFlag b)
  byte : (b : ℕ) → b < 256 → Stands g type.Char (Byte b) (Text (b ∷ []))
  text : (x : Value) (bytes : List ℕ) → IsText g x bytes → Stands g (type.Ptr 0) x (Text bytes)
  missing : Stands g (type.Ptr 0) Null Nothing

-- an object or a function that may be missing
abbrev pub may_be_missing : Kind → Bool
may_be_missing kind.MaybeList = true
may_be_missing kind.MaybeDict = true
may_be_missing kind.MaybeInstance = true
may_be_missing kind.MaybeFunction = true
may_be_missing _ = false

abbrev pub of_instance : Kind → Bool
of_instance kind.Instance = true
of_instance kind.MaybeInstance = true
of_instance _ = false

abbrev pub of_dict : Kind → Bool
of_dict kind.Dict = true
of_dict kind.MaybeDict = true
of_dict _ = false

-- the function is one of these
abbrev pub is_one_of : List ℕ → ℕ → Bool
is_one_of functions f = list_any (λ h. h == f) functions

module _ (layout : Layout) (known : Known) (g : Ghost) where
  mutual
    -- The first value is the second, where this is known of it: a word, a truth value, a byte or a string, `None`, a tuple, whose items are
    -- the fields of its block, a list, a dict or an instance of the class or of one below it, which stand where their objects do, or
    -- a function, which is its graph.
    pub data Holds : Option Element → Value → Meant → Type 0 where
      Plain : {seen : Option Element} {x : Value} {v : Meant} → is_plain (kind_seen seen) ≡ true → Stands g (type_seen layout seen) x v → Holds seen x v
      Alone : {seen : Option Element} {x : Value} {v : Meant} → kind_seen seen ≡ kind.Nothing → x ≡ Flag false → v ≡ Nothing → Holds seen x v
      Items : {seen : Option Element} {x : Value} {v : Meant} (parts : List Element) (n : ℕ) (xs : List Value) (vs : List Meant) → seen ≡ Some (element.Tuple parts) → v ≡ tuple vs → type_seen layout seen ≡ type.Ptr n
          → use_of g x ≡ Some (Stays (record { kind = n; fields = xs; items = [] })) → AllHold parts xs vs → Holds seen x v
      Listed : {seen : Option Element} {x : Value} {v : Meant} (n i : ℕ) → of_list (kind_seen seen) ≡ true → v ≡ Ref i → type_seen layout seen ≡ type.Ptr n → is_list layout n ≡ true
          → slice_get g.homes i ≡ Some (record { sort = ListOf n; head = x }) → Holds seen x v
      Mapped : {seen : Option Element} {x : Value} {v : Meant} (n i : ℕ) (m : Mapping) → of_dict (kind_seen seen) ≡ true → v ≡ Ref i → type_seen layout seen ≡ type.Ptr n → mapping_at layout.mappings n ≡ Some m
          → slice_get g.homes i ≡ Some (record { sort = DictOf n; head = x }) → Holds seen x v
      Made : {seen : Option Element} {x : Value} {v : Meant} (class : ℕ) (or_none : Bool) (c i : ℕ) → seen ≡ Some (element.Instance class or_none) → v ≡ Ref i → is_below known.program.classes c class ≡ true
          → slice_get g.homes i ≡ Some (record { sort = InstanceOf c; head = x }) → Holds seen x v
      Function : {seen : Option Element} {x : Value} {v : Meant} (functions : List ℕ) (or_none : Bool) (f n : ℕ) → seen ≡ Some (element.Func functions or_none) → v ≡ MeantFun f → is_one_of functions f ≡ true
          → known.graph f ≡ Some n → x ≡ Fun n → Holds seen x v
      Missing : {seen : Option Element} {x : Value} {v : Meant} → may_be_missing (kind_seen seen) ≡ true → x ≡ Null → v ≡ Nothing → Holds seen x v

    -- the parts of a tuple, one for each
    pub data AllHold : List Element → List Value → List Meant → Type 0 where
      End : AllHold [] [] []
      Next : {part : Element} {parts : List Element} {x : Value} {xs : List Value} {v : Meant} {vs : List Meant} → Holds (Some part) x v → AllHold parts xs vs → AllHold (part ∷ parts) (x ∷ xs) (v ∷ vs)

  -- values of which the same is known, one for each
  pub data EachHolds (seen : Option Element) : List Value → List Meant → Type 0 where
    Empty : EachHolds seen [] []
    More : {x : Value} {xs : List Value} {v : Meant} {vs : List Meant} → Holds seen x v → EachHolds seen xs vs → EachHolds seen (x ∷ xs) (v ∷ vs)

-- they refer to no block
abbrev pub AreEmpty : List Value → Type 0
AreEmpty [] = Unit {0}
AreEmpty (x ∷ xs) = (is_reference x ≡ false) × AreEmpty xs

-- the operands are these values, one for each
abbrev pub Given : Known → Around → Ghost → Core → List Operand → List Meant → Type 0
Given known around g core [] [] = Unit {0}
Given known around g core (a ∷ args) (v ∷ vs) = Holds around.layout known g a.element (operand core.vars a.x) v × Given known around g core args vs
Given known around g core args vs = ⊥
