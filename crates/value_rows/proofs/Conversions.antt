-- What conversions and comparisons ask for stands, so what is of an element is converted to those above it.
use Rattle.std.proofs.Common.{◌≡◌, ◌==◌, ◌&&◌, Bool, true, false, List, [], ◌∷◌, Some, refl, sym, subst}
use Rattle.std.specs.Prelude.{if◌then◌else◌}
use Rattle.ll_code.specs.declared.program.LlType.{LlType}
use Rattle.ll_code.specs.declared.program.LlType.TheVariants as type
use Rattle.rtyper_data.specs.declared.small.Small.TheVariants as small
use Rattle.rtyper_data.specs.Finding.{same_type}
use Rattle.rtyper_layout.specs.declared.layout.Layout.{Layout}
use Rattle.rtyper_layout.specs.Layout.{is_tuple}
use Rattle.ll_build.specs.declared.needs.Helper.TheVariants as helper
use Rattle.csub_tree.specs.State.{Core}
use Rattle.rpy_tree.specs.Value.{Heap}
use Rattle.object_laws.specs.Done.{AllAsked}
use Rattle.object_laws.specs.Ghost.{Ghost}
use Rattle.object_laws.specs.Represents.{Represents}
use Rattle.lower_laws.specs.Asked.{Ask, Help, Make}
use Rattle.conversion_laws.specs.Asked.{Has, asked_by, asks_for, equal_asks}
use Rattle.rtyper_layout.specs.Types.{type_of}
use Rattle.rtyped_laws.specs.Having.{raised_in}
use Rattle.rtyped_laws.proofs.Programs.{asked_is_had}
use Rattle.rtyped_conversions.specs.Having.{AllOfValues, StringsStand}
use Rattle.rtyped_conversions.proofs.Having.{conversions_have_theirs}
use Rattle.block_laws.proofs.Converting.{elements_are_converted}
use Rattle.typed_rows.specs.Programs.{Typed, IsTyped, first, last, layout, numbers, setting, world}
use Rattle.typed_rows.proofs.Going.{elements_pass}
use Rattle.value_rows.specs.Conversions.{ConversionsStand, ElementsConvert}
use Rattle.value_rows.proofs.Asking.{helper_stands}

-- ---- which these are

if_of : (c : Bool) (xs ys : List Ask) → AllOfValues xs → AllOfValues ys → AllOfValues (if c then xs else ys)
if_of true xs ys h k = h
if_of false xs ys h k = k

asked_of : (layout : Layout) (s t : LlType) → AllOfValues (asked_by layout s t)
asked_of l type.Char (type.Ptr n) = if_of (n == 0) (Help helper.StrOfChar ∷ []) [] (tt, tt) tt
asked_of l (type.Ptr m) (type.Ptr n) = if_of (is_tuple l m && is_tuple l n) (Make (small.Cast m n) ∷ []) [] (tt, tt) tt
asked_of l _ _ = tt

pub asks_for_of : (layout : Layout) (s t : LlType) → AllOfValues (asks_for layout s t)
asks_for_of layout s t = if_of (same_type s t) [] (asked_by layout s t) tt (asked_of layout s t)

pub equal_of : (layout : Layout) (s t : LlType) → AllOfValues (equal_asks layout s t)
equal_of l type.Char (type.Ptr n) = if_of (n == 0) (Help helper.StrOfChar ∷ Help helper.StrEqual ∷ []) [] (tt, (tt, tt)) tt
equal_of l (type.Ptr m) type.Char = if_of (m == 0) (Help helper.StrOfChar ∷ Help helper.StrEqual ∷ []) [] (tt, (tt, tt)) tt
equal_of l (type.Ptr m) (type.Ptr n) =
    if_of ((m == 0) && (n == 0)) (Help helper.StrEqual ∷ []) (if is_tuple l m && is_tuple l n then Make (small.Equal m n) ∷ [] else []) (tt, tt)
    (if_of (is_tuple l m && is_tuple l n) (Make (small.Equal m n) ∷ []) [] (tt, tt) tt)
equal_of l _ _ = tt

-- ---- that it stands

-- the exceptions that are known are those of the lowering
pub exceptions_are : (t : Typed) → IsTyped t → raised_in (world t) ≡ t.seen.exception
exceptions_are t typed = λ i class. sym (typed.classes.is_of.exception class) i

module _ (t : Typed) (typed : IsTyped t) (core : Core) (g : Ghost) (heap : Heap) (memory : Represents (layout t) t.seen g heap core.steps core.blocks core.statics) where
  letters : StringsStand t.p (world t) (numbers t) core (last t) (Help helper.StrOfChar)
  letters found late = helper_stands t.known t.classes t.p t.made t.seen typed.small.graphs typed.small.structs typed.small.texts helper.StrOfChar found refl refl late g heap core memory

  equals : StringsStand t.p (world t) (numbers t) core (last t) (Help helper.StrEqual)
  equals found late = helper_stands t.known t.classes t.p t.made t.seen typed.small.graphs typed.small.structs typed.small.texts helper.StrEqual found refl refl late g heap core memory

pub conversions_stand : ConversionsStand
conversions_stand t typed asks found good late core g heap left memory same =
    let memory : Represents (layout t) t.seen g heap core.steps core.blocks core.statics = subst (λ k. Represents (layout t) t.seen g heap k core.blocks core.statics) same memory in
    subst (λ raised. AllAsked (Has t.p (layout t) (numbers t) raised core) asks found) (exceptions_are t typed)
    (conversions_have_theirs t.p t.known (world t) (numbers t) (first t) (last t) (asked_is_had t.known t.classes (layout t) t.p t.made) typed.small.graphs core (letters t typed core g heap memory) (equals t typed core g heap memory) asks found good late)

pub elements_convert : ElementsConvert
elements_convert t typed a b x w one two below late =
    elements_are_converted (setting t) (numbers t) (Some a) (Some b) x w typed.small.no_tuple (elements_pass t typed a b one two below)
    (conversions_stand t typed (asks_for (layout t) (type_of (layout t) a) (type_of (layout t) b)) w.found (asks_for_of (layout t) (type_of (layout t) a) (type_of (layout t) b)) late)
